-- What is left of bytes behind what was read is an end of them.
use Rattle.std.proofs.Common.{◌≡◌, ℕ, ◌≤◌, List, [], ◌++◌, length, take, drop, Result, Ok, Err, refl, sym, ap, ◌∙◌, append_assoc, inl, inr}
use Rattle.std.specs.Prelude.{nat_lt, if◌then◌else◌}
use Rattle.std.proofs.lemmas.Bool.{le-ltb, lt-ltb, cases_lt}
use Rattle.std.proofs.lemmas.List.{take-append-drop}
use Rattle.cephbytes.specs.declared.refused.Refused.{Refused}
use Rattle.cephbytes.specs.declared.refused.Refused.TheVariants.{Short}
use Rattle.cephbytes.specs.Encoding.{Front, behind, gives, ◌>>=◌, number, little_from, taken, text, section, known, Own, meant}

-- the bytes that are left are an end of those that there were
pub record Leaves (bytes rest : List ℕ) : Type 0 where
  pub front : List ℕ
  pub is : bytes ≡ front ++ rest

-- where nothing is read, all bytes are left
pub leaves_all : (bytes : List ℕ) → Leaves bytes bytes
leaves_all bytes = record { front = []; is = refl }

-- an end of an end is an end
pub leaves_on : (a b c : List ℕ) → Leaves a b → Leaves b c → Leaves a c
leaves_on a b c one two = record { front = one.front ++ two.front; is = one.is ∙ ap (λ (xs : List ℕ). one.front ++ xs) two.is ∙ sym (append_assoc one.front two.front c) }

-- an end of bytes is one of the same bytes
pub leaves_from : (a b c : List ℕ) → a ≡ b → Leaves b c → Leaves a c
leaves_from a b c same one = record { front = one.front; is = same ∙ one.is }

-- what is the same as an end is an end
pub leaves_to : (a b c : List ℕ) → Leaves a b → b ≡ c → Leaves a c
leaves_to a b c one same = record { front = one.front; is = one.is ∙ ap (λ (xs : List ℕ). one.front ++ xs) same }

-- what was read first, where two things were read
pub behind_ok : {X Y : Type 0} (g : X → Front Y) (read : Result (X × List ℕ) Refused) (q : Y × List ℕ) → behind g read ≡ Ok q → (p : X × List ℕ) × (read ≡ Ok p) × (g p.0 p.1 ≡ Ok q)
behind_ok g (Ok p) q h = (p, refl, h)
behind_ok g (Err e) q h = absurd cc

-- a test that is passed
pub not_short : {A : Type 0} (m n : ℕ) (x q : A) → (if nat_lt m n then Err Short else Ok x) ≡ Ok q → (n ≤ m) × (x ≡ q)
not_short m n x q h =
    elim (cases_lt m n) [
      | inl lt ↦ let never = rw (lt-ltb m n lt) at h in absurd cc
      | inr le ↦ let same = rw (le-ltb m n le) at h in (le, cc)
    ]

-- where a number is read, its bytes are there; it is their value, and the bytes behind them are left
pub number_is : (n : ℕ) (bytes : List ℕ) (p : ℕ × List ℕ) → number n bytes ≡ Ok p → (n ≤ length bytes) × ((little_from 0 n bytes, drop n bytes) ≡ p)
number_is n bytes p h = not_short (length bytes) n (little_from 0 n bytes, drop n bytes) p h

-- behind a number an end of the bytes is left
pub number_leaves : (n : ℕ) (bytes : List ℕ) (p : ℕ × List ℕ) → number n bytes ≡ Ok p → Leaves bytes p.1
number_leaves n bytes p h =
    let same = (number_is n bytes p h).1 in
    record { front = take n bytes; is = sym (take-append-drop n bytes) ∙ ap (λ (q : ℕ × List ℕ). take n bytes ++ q.1) same }

-- bytes are those that are taken of them and those that are left
pub taken_leaves : (n : ℕ) (bytes : List ℕ) (p : List ℕ × List ℕ) → taken n bytes ≡ Ok p → bytes ≡ p.0 ++ p.1
taken_leaves n bytes p h =
    let same = (not_short (length bytes) n (take n bytes, drop n bytes) p h).1 in
    sym (take-append-drop n bytes) ∙ ap (λ (q : List ℕ × List ℕ). q.0 ++ q.1) same

-- a text with what is left behind it is an end of the bytes
pub text_leaves : (bytes : List ℕ) (p : List ℕ × List ℕ) → text bytes ≡ Ok p → Leaves bytes (p.0 ++ p.1)
unfolding text
text_leaves bytes p h =
    let a = behind_ok taken (number 4 bytes) p h in
    let first = number_leaves 4 bytes a.0 a.1 in
    let second = taken_leaves a.0.0 a.0.1 p a.2 in
    record { front = first.front; is = first.is ∙ ap (λ (xs : List ℕ). first.front ++ xs) second }

-- the test of the least version reads nothing
pub known_leaves : (least knows : ℕ) (bytes : List ℕ) (p : Unit {0} × List ℕ) → known least knows bytes ≡ Ok p → bytes ≡ p.1
known_leaves least knows bytes p h =
    elim (cases_lt knows least) [
      | inl lt ↦ let never = rw (lt-ltb knows least lt) at h in absurd cc
      | inr le ↦ let same = rw (le-ltb knows least le) at h in let q : (tt, bytes) ≡ p = cc in ap (λ (x : Unit {0} × List ℕ). x.1) q
    ]

-- what is given without reading is what comes out, and all bytes are left
given_is : {X : Type 0} (x : X) (rest : List ℕ) (p : X × List ℕ) → gives x rest ≡ Ok p → (x, rest) ≡ p
given_is x rest p h = cc

-- a section from the length of its own bytes on
abbrev own_of : ℕ → Front Own
own_of version = text >>= λ own. gives (record { version = version; own = own })

-- the same, where its reader knows the least version
abbrev known_own : ℕ → ℕ → ℕ → Front Own
known_own knows version least = known least knows >>= λ _. own_of version

-- a section from its least version on
abbrev least_own : ℕ → ℕ → Front Own
least_own knows version = number 1 >>= λ least. known_own knows version least

-- a section's own bytes with what is left behind it are an end of the bytes
pub section_leaves : (knows : ℕ) (bytes : List ℕ) (p : Own × List ℕ) → section knows bytes ≡ Ok p → Leaves bytes (p.0.own ++ p.1)
unfolding section
section_leaves knows bytes p h =
    let a = behind_ok (least_own knows) (number 1 bytes) p h in
    let b = behind_ok (known_own knows a.0.0) (number 1 a.0.1) p a.2 in
    let c = behind_ok (λ _. own_of a.0.0) (known b.0.0 knows b.0.1) p b.2 in
    let d = behind_ok (λ own. gives (record { version = a.0.0; own = own })) (text c.0.1) p c.2 in
    let same = ap (λ (q : Own × List ℕ). q.0.own ++ q.1) (given_is (record { version = a.0.0; own = d.0.0 }) d.0.1 p d.2) in
    let one = number_leaves 1 bytes a.0 a.1 in
    let two = number_leaves 1 a.0.1 b.0 b.1 in
    let three = known_leaves b.0.0 knows b.0.1 c.0 c.1 in
    let four = text_leaves c.0.1 d.0 d.1 in
    let end = leaves_from b.0.1 c.0.1 (d.0.0 ++ d.0.1) three four in
    let all = leaves_on bytes b.0.1 (d.0.0 ++ d.0.1) (leaves_on bytes a.0.1 b.0.1 one two) end in
    leaves_to bytes (d.0.0 ++ d.0.1) (p.0.own ++ p.1) all same

-- what a number stands for comes out, and nothing is read for it
pub meant_leaves : {X : Type 0} (read : Result X Refused) (bytes : List ℕ) (p : X × List ℕ) → meant read bytes ≡ Ok p → (read ≡ Ok p.0) × (bytes ≡ p.1)
meant_leaves {X} (Ok x) bytes p h = let same : (x, bytes) ≡ p = cc in (ap (λ (q : X × List ℕ). Ok q.0) same, ap (λ (q : X × List ℕ). q.1) same)
meant_leaves (Err e) bytes p h = absurd cc
