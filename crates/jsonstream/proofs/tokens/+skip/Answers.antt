use Rattle.std.proofs.Common.{◌≡◌, ◌-◌, ◌<◌, [], ◌∷◌, length, Some, None, refl, sym, ap, ap₂, ◌∙◌, arith}
use Rattle.json.specs.Token.{Token}
use Rattle.json.specs.Json.{after_end_array, read_key, value}
use Rattle.json.specs.Reads.{token_of}
use Rattle.json.proofs.Grammar.{left, left_some, left_none, value_is, read_key-shorter}
use Rattle.serde_json.specs.Data.{array, object, no_members, put}
use Rattle.jsonstream.specs.Stream.{next}
use Rattle.jsonstream.proofs.Streams.{next_list, next_object, next_too_deep, number_passed, number_refused, next_nothing, passes_made, item_passed, item_refused, items_over, member_read, member_refused, key_refused, members_over}
use Rattle.jsonstream.proofs.tokens.+skip.Goals as goal

pub finish-returns-in-String-clause-value : goal.finish-returns-in-String-clause-value
finish-returns-in-String-clause-value t c = rw (value_is c.args.depth (token_of c.args.token ∷ c.args.reader.now)) (grind arith)

pub finish-returns-in-Some-clause-value : goal.finish-returns-in-Some-clause-value
finish-returns-in-Some-clause-value t c =
    let is : token_of c.args.token ≡ Token.number c.in-Number.text.now = ap token_of c.in-Number.is in
    rw is (number_passed c.args.depth c.in-Number.text.now _ c.args.reader.now (sym c.in-Some.ensures))

pub finish-returns-in-None-clause-value : goal.finish-returns-in-None-clause-value
finish-returns-in-None-clause-value t c =
    let is : token_of c.args.token ≡ Token.number c.in-Number.text.now = ap token_of c.in-Number.is in
    (refl, rw is (number_refused c.args.depth c.in-Number.text.now c.args.reader.now (sym c.in-None.ensures)))

pub finish-returns-in-EndObject-clause-value : goal.finish-returns-in-EndObject-clause-value
finish-returns-in-EndObject-clause-value t c = rw (value_is c.args.depth (token_of c.args.token ∷ c.args.reader.now)) (grind arith)

pub finish-returns-then-depth-eq0-clause-value : goal.finish-returns-then-depth-eq0-clause-value
finish-returns-then-depth-eq0-clause-value t c =
    let is : token_of c.args.token ≡ Token.begin_array = ap token_of c.in-BeginArray.is in
    let none : c.args.depth ≡ 0 = omega arith in
    (refl, ap₂ (λ d k. next d (k ∷ c.args.reader.now)) none is ∙ next_too_deep Token.begin_array c.args.reader.now refl)

pub finish-returns-else-depth-eq0-clause-value : goal.finish-returns-else-depth-eq0-clause-value
finish-returns-else-depth-eq0-clause-value t c =
    let is : token_of c.args.token ≡ Token.begin_array = ap token_of c.in-BeginArray.is in
    passes_made array _ _ _ _ (ap (λ k. next c.args.depth (k ∷ c.args.reader.now)) is ∙ next_list c.args.depth c.args.reader.now (omega arith)) c.skip_list.ensures.value

pub finish-returns-then-depth-eq0-2-clause-value : goal.finish-returns-then-depth-eq0-2-clause-value
finish-returns-then-depth-eq0-2-clause-value t c =
    let is : token_of c.args.token ≡ Token.begin_object = ap token_of c.in-BeginObject.is in
    let none : c.args.depth ≡ 0 = omega arith in
    (refl, ap₂ (λ d k. next d (k ∷ c.args.reader.now)) none is ∙ next_too_deep Token.begin_object c.args.reader.now refl)

pub finish-returns-else-depth-eq0-2-clause-value : goal.finish-returns-else-depth-eq0-2-clause-value
finish-returns-else-depth-eq0-2-clause-value t c =
    let is : token_of c.args.token ≡ Token.begin_object = ap token_of c.in-BeginObject.is in
    passes_made object _ _ _ _ (ap (λ k. next c.args.depth (k ∷ c.args.reader.now)) is ∙ next_object c.args.depth c.args.reader.now (omega arith)) c.skip_object.ensures.value

pub skip_list-returns-in_err-token-clause-value : goal.skip_list-returns-in_err-token-clause-value
skip_list-returns-in_err-token-clause-value t c =
    let d = c.args.depth in
    let l = c.items in
    let going : (after_end_array l.reader ≡ None) × (c.take_end_array.new.self ≡ l.reader) = grind arith in
    let empty : c.take_end_array.new.self ≡ [] = grind arith in
    let none = left_none _ (l.invariant.2 ∙ ap left (item_refused (value d) l.invariant.0 l.reader going.0 (ap (next d) (sym going.1 ∙ empty) ∙ next_nothing d))) in
    grind (arith, none)

pub skip_list-items-preserved : goal.skip_list-items-preserved
skip_list-items-preserved t c =
    let d = c.args.depth in
    let l = c.items in
    let n = l.invariant.0 in
    let r = c.finish.new.reader in
    let going : (after_end_array l.reader ≡ None) × (c.take_end_array.new.self ≡ l.reader) = grind arith in
    let first : c.take_end_array.new.self ≡ token_of c.in_ok-token.token ∷ c.next_token.new.reader = grind arith in
    let here = sym going.1 ∙ first in
    let less : length r < length l.reader = omega (arith, ap (λ ts. length ts) here, c.in_ok-finish.ensures.shorter) in
    (n - 1, omega (arith, l.invariant.1), l.invariant.2 ∙ item_passed (value d) n l.reader r (omega (arith, l.invariant.1)) going.0 (ap (λ ts. left (next d ts)) here ∙ c.in_ok-finish.ensures.value), omega (arith, l.invariant.3))

pub skip_list-returns-in_err-finish-clause-value : goal.skip_list-returns-in_err-finish-clause-value
skip_list-returns-in_err-finish-clause-value t c =
    let d = c.args.depth in
    let l = c.items in
    let going : (after_end_array l.reader ≡ None) × (c.take_end_array.new.self ≡ l.reader) = grind arith in
    let first : c.take_end_array.new.self ≡ token_of c.in_ok-token.token ∷ c.next_token.new.reader = grind arith in
    let none = left_none _ (l.invariant.2 ∙ ap left (item_refused (value d) l.invariant.0 l.reader going.0 (ap (next d) (sym going.1 ∙ first) ∙ c.in_err-finish.ensures.value.1))) in
    let bad = c.in_err-finish.ensures.value.0 in
    grind (arith, none, bad)

pub skip_list-returns-clause-value : goal.skip_list-returns-clause-value
skip_list-returns-clause-value t c =
    let l = c.items in
    let n = l.invariant.0 in
    l.invariant.2 ∙ ap left (items_over (value c.args.depth) n l.reader c.take_end_array.new.self l.invariant.1 (grind arith))

pub skip_object-members-init : goal.skip_object-members-init
skip_object-members-init t c = (length c.args.reader.now, no_members, omega arith, refl, omega arith)

pub skip_object-returns-in_err-next_key-clause-value : goal.skip_object-returns-in_err-next_key-clause-value
skip_object-returns-in_err-next_key-clause-value t c =
    let l = c.members in
    let refused : read_key l.reader ≡ None = grind arith in
    let none = left_none _ (l.invariant.3 ∙ ap left (key_refused (value c.args.depth) l.invariant.1 l.invariant.0 l.reader refused)) in
    grind (arith, none)

pub skip_object-returns-in_err-token-clause-value : goal.skip_object-returns-in_err-token-clause-value
skip_object-returns-in_err-token-clause-value t c =
    let d = c.args.depth in
    let l = c.members in
    let k = c.in-Some.field-0.now in
    let s = c.next_key.new.reader in
    let named : read_key l.reader ≡ Some (Some k, s) = grind arith in
    let empty : s ≡ [] = grind arith in
    let none = left_none _ (l.invariant.3 ∙ ap left (member_refused (value d) l.invariant.1 l.invariant.0 k l.reader s named (ap (next d) empty ∙ next_nothing d))) in
    grind (arith, none)

pub skip_object-members-preserved : goal.skip_object-members-preserved
skip_object-members-preserved t c =
    let d = c.args.depth in
    let l = c.members in
    let n = l.invariant.0 in
    let k = c.in-Some.field-0.now in
    let s = c.next_key.new.reader in
    let r = c.finish.new.reader in
    let named : read_key l.reader ≡ Some (Some k, s) = grind arith in
    let first : s ≡ token_of c.in_ok-token.token ∷ c.next_token.new.reader = grind arith in
    let passed = left_some _ r (ap (λ ts. left (next d ts)) first ∙ c.in_ok-finish.ensures.value) in
    let less = read_key-shorter l.reader (Some k) s named in
    let lesser : length r < length s = omega (arith, ap (λ ts. length ts) first, c.in_ok-finish.ensures.shorter) in
    (n - 1, put k passed.0 l.invariant.1, omega (arith, l.invariant.2), l.invariant.3 ∙ ap left (member_read (value d) l.invariant.1 n k l.reader s r passed.0 (omega (arith, l.invariant.2)) named passed.1), omega (arith, l.invariant.4))

pub skip_object-returns-in_err-finish-clause-value : goal.skip_object-returns-in_err-finish-clause-value
skip_object-returns-in_err-finish-clause-value t c =
    let d = c.args.depth in
    let l = c.members in
    let k = c.in-Some.field-0.now in
    let s = c.next_key.new.reader in
    let named : read_key l.reader ≡ Some (Some k, s) = grind arith in
    let first : s ≡ token_of c.in_ok-token.token ∷ c.next_token.new.reader = grind arith in
    let none = left_none _ (l.invariant.3 ∙ ap left (member_refused (value d) l.invariant.1 l.invariant.0 k l.reader s named (ap (next d) first ∙ c.in_err-finish.ensures.value.1))) in
    let bad = c.in_err-finish.ensures.value.0 in
    grind (arith, none, bad)

pub skip_object-returns-clause-value : goal.skip_object-returns-clause-value
skip_object-returns-clause-value t c =
    let l = c.members in
    l.invariant.3 ∙ ap left (members_over (value c.args.depth) l.invariant.1 l.invariant.0 l.reader c.next_key.new.reader l.invariant.2 (grind arith))
