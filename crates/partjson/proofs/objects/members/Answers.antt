use Rattle.std.proofs.Common.{◌≡◌, ◌-◌, length, None, Some, refl, ◌∙◌, arith}
use Rattle.json.specs.Json.{read_key, value}
use Rattle.json.proofs.Grammar.{read_key-shorter}
use Rattle.serde_json.specs.Data.{no_members, put}
use Rattle.jsonstream.specs.Stream.{next, rest_of_object}
use Rattle.jsonstream.proofs.Streams.{member_read, member_refused, key_refused, members_over}
use Rattle.jsonstream.proofs.Entries.{next_shorter, still_refused}
use Rattle.partjson.proofs.Held.{held_on}
use Rattle.partjson.proofs.objects.members.Goals as goal

pub members-init : goal.members-init
members-init g c = (length c.args.reader.now, no_members, omega arith, refl, (refl, c.requires, refl))

pub returns-in_err-key : goal.returns-in_err-key
returns-in_err-key g c =
    let l = c.members in
    let refused : read_key l.reader ≡ None = grind arith in
    let none = l.invariant.3 ∙ key_refused (value c.args.depth) l.invariant.1 l.invariant.0 l.reader refused in
    grind (arith, none)

pub members-smaller : goal.members-smaller
members-smaller g c =
    let l = c.members in
    let s = c.next_key.new.reader in
    let k = c.in-Some.key.now in
    let named : read_key l.reader ≡ Some (Some k, s) = grind arith in
    let less = read_key-shorter l.reader (Some k) s named in
    let lesser = next_shorter c.args.depth s c.in_ok-taken.ensures.0 c.take_or_skip.new.reader c.in_ok-taken.ensures.1 in
    omega (arith, less, lesser)

pub members-preserved : goal.members-preserved
members-preserved g c =
    let d = c.args.depth in
    let l = c.members in
    let n = l.invariant.0 in
    let s = c.next_key.new.reader in
    let r = c.take_or_skip.new.reader in
    let k = c.in-Some.key.now in
    let came = c.in_ok-taken.ensures.0 in
    let named : read_key l.reader ≡ Some (Some k, s) = grind arith in
    let less = read_key-shorter l.reader (Some k) s named in
    let lesser = next_shorter d s came r c.in_ok-taken.ensures.1 in
    (n - 1, put k came l.invariant.1, omega (arith, less, lesser, l.invariant.2), l.invariant.3 ∙ member_read (value d) l.invariant.1 n k l.reader s r came (omega (arith, less, l.invariant.2)) named c.in_ok-taken.ensures.1, held_on g.F.Fields.names g.F.Fields.hold _ _ _ _ _ _ _ (c.in_ok-taken.ensures.2 l.known l.invariant.1) l.invariant.4)

pub returns-in_err-taken : goal.returns-in_err-taken
returns-in_err-taken g c =
    let d = c.args.depth in
    let l = c.members in
    let s = c.next_key.new.reader in
    let k = c.in-Some.key.now in
    let named : read_key l.reader ≡ Some (Some k, s) = grind arith in
    let still = still_refused _ (next d s) (rest_of_object d c.args.reader.now) (λ none. l.invariant.3 ∙ member_refused (value d) l.invariant.1 l.invariant.0 k l.reader s named none) c.in_err-taken.ensures in
    grind (arith, still)

pub returns : goal.returns
returns g c =
    let l = c.members in
    (l.invariant.1, l.invariant.3 ∙ members_over (value c.args.depth) l.invariant.1 l.invariant.0 l.reader c.next_key.new.reader l.invariant.2 (grind arith), l.invariant.4)
