-- The bytes of a map that is taken have their sum.
use Rattle.std.proofs.Common.{◌≡◌, ℕ, ◌+◌, ◌-◌, List, [], ◌∷◌, ◌++◌, length, take, drop, Result, Ok, Err, refl, sym, ap, ◌∙◌, append_assoc, arith, length-append}
use Rattle.std.specs.Prelude.{◌==◌, if◌then◌else◌, Bool, true, false}
use Rattle.std.proofs.lemmas.List.{take-append-drop, take_at, append-nil, length-take-le}
use Rattle.cephbytes.specs.declared.refused.Refused.{Refused}
use Rattle.cephbytes.specs.declared.refused.Refused.TheVariants.{WrongSum, Trailing}
use Rattle.cephbytes.specs.Crc.{crc32c_of}
use Rattle.cephbytes.specs.Encoding.{Front, gives, ◌>>=◌, number, section, Own, meant, at_end, ended, inside, known_version}
use Rattle.cephbytes.proofs.Fronts.{Leaves, leaves_on, leaves_to, behind_ok, number_is, section_leaves, meant_leaves}
use Rattle.cephbytes.proofs.Flips.{joined}
use Rattle.cephmap.specs.declared.map.CephMap.{CephMap}
use Rattle.cephmap.specs.Maps.{osd_map, whole_map, client_section, client_map, own_sum, sum_over, is_sum, first_of}
use Rattle.cephmap.specs.Laws.{HasItsSum}

-- a part of bytes is an end of its own with what is behind it
leaves_more : (a b c : List ℕ) → Leaves a (b ++ c) → Leaves a c
leaves_more a b c one = record { front = one.front ++ b; is = one.is ∙ sym (append_assoc one.front b c) }

-- what was looked at is right
equal : (m n : ℕ) → (m == n) ≡ true → m ≡ n
equal m n h = grind (arith, h)

-- a test, with the refusal of what does not pass it
abbrev passes_or : Refused → Bool → Result (Unit {0}) Refused
passes_or e t = if t then Ok tt else Err e

-- what is not refused has passed its test
passed : (e : Refused) (t : Bool) → passes_or e t ≡ Ok tt → t ≡ true
passed e true h = refl
passed e false h = absurd cc

-- a sum that is not refused is that of the bytes
is_right : (stands sum : ℕ) → is_sum stands sum ≡ Ok tt → stands ≡ sum
is_right stands sum h = equal stands sum (passed WrongSum (stands == sum) h)

-- the sum of the two parts is that of both together
whole_sum : (front sum after : List ℕ) → length sum ≡ 4 → sum_over (front ++ (sum ++ after)) after ≡ crc32c_of 4294967295 (front ++ after)
whole_sum front sum after four =
    let place : length front ≡ length (front ++ (sum ++ after)) - (length after + 4) = omega (arith, length-append front (sum ++ after), length-append sum after) in
    let before = take_at front (sum ++ after) (length (front ++ (sum ++ after)) - (length after + 4)) place in
    ap (λ (xs : List ℕ). crc32c_of (crc32c_of 4294967295 xs) after) before ∙ sym (joined 4294967295 front after)

-- a pair by its parts
pair_is : (p : ℕ × List ℕ) (n : ℕ) (xs : List ℕ) → p.0 ≡ n → p.1 ≡ xs → p ≡ (n, xs)
pair_is p n xs one two = ap (λ (m : ℕ). (m, p.1)) one ∙ ap (λ (ys : List ℕ). (n, ys)) two

-- a sum that is right stands behind what is before it
sum_stands : (bytes rest : List ℕ) (p : Unit {0} × List ℕ) → Leaves bytes rest → own_sum bytes rest ≡ Ok p → HasItsSum bytes
unfolding own_sum
sum_stands bytes rest p left h =
    let a = behind_ok (λ stands after. meant (is_sum stands (sum_over bytes after)) after) (number 4 rest) p h in
    let read = number_is 4 rest a.0 a.1 in
    let looked = meant_leaves (is_sum a.0.0 (sum_over bytes a.0.1)) a.0.1 p a.2 in
    let sum = take 4 rest in
    let after = drop 4 rest in
    let four : length sum ≡ 4 = length-take-le 4 rest read.0 in
    let split : rest ≡ sum ++ after = sym (take-append-drop 4 rest) in
    let parts : bytes ≡ left.front ++ (sum ++ after) = left.is ∙ ap (λ (xs : List ℕ). left.front ++ xs) split in
    let behind_is : a.0.1 ≡ after = sym (ap (λ (q : ℕ × List ℕ). q.1) read.1) in
    let right : a.0.0 ≡ sum_over bytes a.0.1 = is_right a.0.0 (sum_over bytes a.0.1) looked.0 in
    let over : sum_over bytes a.0.1 ≡ crc32c_of 4294967295 (left.front ++ after) =
    ap (sum_over bytes) behind_is ∙ ap (λ (xs : List ℕ). sum_over xs after) parts ∙ whole_sum left.front sum after four in
    record {
      front = left.front;
      sum = sum;
      behind = after;
      parts = parts;
      four = four;
      right = ap (number 4) (sym split) ∙ a.1 ∙ ap (λ (q : ℕ × List ℕ). Ok q) (pair_is a.0 (crc32c_of 4294967295 (left.front ++ after)) after (right ∙ over) behind_is);
    }

-- the section of clients stands before the sum
client_stands : (bytes own : List ℕ) (p : Own × List ℕ) → Leaves bytes own → client_section bytes own ≡ Ok p → HasItsSum bytes
unfolding client_section
client_stands bytes own p left h =
    let a = behind_ok (λ client. section 1 >>= λ _. own_sum bytes >>= λ _. gives client) (section 1 own) p h in
    let b = behind_ok (λ _. own_sum bytes >>= λ _. gives a.0.0) (section 1 a.0.1) p a.2 in
    let c = behind_ok (λ _. gives a.0.0) (own_sum bytes b.0.1) p b.2 in
    let one = leaves_more own a.0.0.own a.0.1 (section_leaves 1 own a.0 a.1) in
    let two = leaves_more a.0.1 b.0.0.own b.0.1 (section_leaves 1 a.0.1 b.0 b.1) in
    let all = leaves_on bytes a.0.1 b.0.1 (leaves_on bytes own a.0.1 left one) two in
    sum_stands bytes b.0.1 c.0 all c.1

-- nothing is left where that was looked at
empty_is : (bytes : List ℕ) → length bytes ≡ 0 → bytes ≡ []
empty_is [] h = refl
empty_is (b ∷ bytes) h = absurd (omega (arith, h))

-- where bytes are found to be at their end, there are none
none_left : (bytes : List ℕ) → at_end bytes ≡ Ok tt → bytes ≡ []
none_left bytes h = empty_is bytes (equal (length bytes) 0 (passed Trailing (length bytes == 0) h))

-- where a map comes out, the map was read and some bytes were left
read_first : (r : Result (CephMap × List ℕ) Refused) (map : CephMap) → first_of r ≡ Ok map → (p : CephMap × List ℕ) × (r ≡ Ok p)
read_first (Ok p) map h = (p, refl)
read_first (Err e) map h = absurd cc

-- the map in the section of clients
abbrev client_of : Own → Front CephMap
client_of client = inside (client_map client.version) client.own

-- the map in the bytes of the whole section: its section of clients is looked at first
abbrev inner_of : List ℕ → Own → Front CephMap
inner_of bytes outer = inside (client_section bytes) outer.own >>= client_of

-- the same, where nothing stands behind the whole section
abbrev ended_of : List ℕ → Own → Front CephMap
ended_of bytes outer = ended >>= λ _. inner_of bytes outer

-- the bytes of a map that is taken have their sum
pub has_its_sum : (bytes : List ℕ) (map : CephMap) → osd_map bytes ≡ Ok map → HasItsSum bytes
unfolding whole_map
has_its_sum bytes map h =
    let r = read_first (whole_map bytes bytes) map h in
    let a = behind_ok (λ outer. meant (known_version 8 8 outer.version) >>= λ _. ended_of bytes outer) (section 8 bytes) r.0 r.1 in
    let b = behind_ok (λ _. ended_of bytes a.0.0) (meant (known_version 8 8 a.0.0.version) a.0.1) r.0 a.2 in
    let c = behind_ok (λ _. inner_of bytes a.0.0) (ended b.0.1) r.0 b.2 in
    let d = behind_ok client_of (inside (client_section bytes) a.0.0.own c.0.1) r.0 c.2 in
    let e = behind_ok (λ x _. gives x c.0.1) (client_section bytes a.0.0.own) d.0 d.1 in
    let known = meant_leaves (known_version 8 8 a.0.0.version) a.0.1 b.0 b.1 in
    let over = meant_leaves (at_end b.0.1) b.0.1 c.0 c.1 in
    let nothing : a.0.1 ≡ [] = known.1 ∙ none_left b.0.1 over.0 in
    let outer = section_leaves 8 bytes a.0 a.1 in
    let inner = leaves_to bytes (a.0.0.own ++ a.0.1) a.0.0.own outer (ap (λ (xs : List ℕ). a.0.0.own ++ xs) nothing ∙ append-nil a.0.0.own) in
    client_stands bytes a.0.0.own e.0 inner e.1
