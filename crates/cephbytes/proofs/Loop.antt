-- Reading entries one after the other, as a loop does.
use Rattle.std.proofs.Common.{◌≡◌, ℕ, zero, suc, ◌-◌, ◌+◌, ◌*◌, ◌≤◌, ◌<◌, List, [], ◌∷◌, ◌++◌, length, Result, Ok, Err, refl, sym, ap, ◌∙◌, append_assoc, arith}
use Rattle.std.specs.Prelude.{IfOk}
use Rattle.std.proofs.lemmas.List.{append-nil}
use Rattle.cephbytes.specs.declared.refused.Refused.{Refused}
use Rattle.cephbytes.specs.declared.refused.ReadError.{ReadError}
use Rattle.cephbytes.specs.declared.refused.ReadError.TheVariants as errors
use Rattle.cephbytes.specs.Encoding.{Front, Gives, Fails, ◌>>=◌, gives, behind, entries}

-- what was read before, and what is still read
abbrev pub with_front : {X : Type 0} → List X → Result (List X × List ℕ) Refused → Result (List X × List ℕ) Refused
with_front front read = behind (λ xs. gives (front ++ xs)) read

-- an entry that is put before those read behind it is as well put behind those read before it
regroup : {X : Type 0} (front : List X) (x : X) (read : Result (List X × List ℕ) Refused) → with_front front (behind (λ xs. gives (x ∷ xs)) read) ≡ with_front (front ++ x ∷ []) read
regroup {X} front x (Ok p) = ap (λ (xs : List X). Ok (xs, p.1)) (simp append_assoc)
regroup front x (Err f) = refl

-- one entry more: what was read, with what is still read, is the same list as before
pub goes_on : {X : Type 0} (one : Front X) (front : List X) (count i : ℕ) (bytes : List ℕ) (x : X) (after : List ℕ) (total : Result (List X × List ℕ) Refused) → i < count → one bytes ≡ Ok (x, after)
    → with_front front (entries one (count - i) bytes) ≡ total → with_front (front ++ x ∷ []) (entries one (count - (i + 1)) after) ≡ total
unfolding entries
goes_on one front count i bytes x after total lt h so_far =
    let k : count - i ≡ suc (count - (i + 1)) = omega arith in
    let here : with_front front (entries one (count - i) bytes) ≡ with_front (front ++ x ∷ []) (entries one (count - (i + 1)) after) = rw (k, h) (regroup front x (entries one (count - (i + 1)) after)) in
    sym here ∙ so_far

-- a refusal of one entry is the refusal of the list
pub ends : {X : Type 0} (one : Front X) (e : Refused) (front : List X) (count i : ℕ) (bytes : List ℕ) (total : Result (List X × List ℕ) Refused) → i < count → one bytes ≡ Err e
    → with_front front (entries one (count - i) bytes) ≡ total → total ≡ Err e
unfolding entries
ends one e front count i bytes total lt h so_far =
    let k : count - i ≡ suc (count - (i + 1)) = omega arith in
    let here : with_front front (entries one (count - i) bytes) ≡ Err e = rw (k, h) refl in
    sym so_far ∙ here

-- what ends the reading of one ends that of the list
pub ends_by : {X : Type 0} (one : Front X) (e : ReadError) (front : List X) (count i : ℕ) (bytes : List ℕ) (total : Result (List X × List ℕ) Refused) → i < count → Fails e (one bytes)
    → with_front front (entries one (count - i) bytes) ≡ total → Fails e total
ends_by one errors.Memory front count i bytes total lt h so_far = tt
ends_by one (errors.Refused f) front count i bytes total lt h so_far = ends one f front count i bytes total lt h so_far

-- where no more entries are wanted, the list is those that were read
pub is_done : {X : Type 0} (one : Front X) (front : List X) (count i : ℕ) (bytes : List ℕ) (total : Result (List X × List ℕ) Refused) → count ≤ i → with_front front (entries one (count - i) bytes) ≡ total → total ≡ Ok (front, bytes)
unfolding entries
is_done {X} one front count i bytes total le so_far =
    let k : count - i ≡ 0 = omega arith in
    let here : with_front front (entries one (count - i) bytes) ≡ Ok (front, bytes) = rw k (ap (λ (xs : List X). Ok (xs, bytes)) (append-nil front)) in
    sym so_far ∙ here

-- ---- as many are read as were wanted

-- an entry before as many as were wanted is one more
one_more : {X : Type 0} (n : ℕ) (x : X) (read : Result (List X × List ℕ) Refused) (p : List X × List ℕ) → ((q : List X × List ℕ) → read ≡ Ok q → length q.0 ≡ n)
    → behind (λ xs. gives (x ∷ xs)) read ≡ Ok p → length p.0 ≡ suc n
one_more n x (Err e) p as_many h = absurd cc
one_more n x (Ok q) p as_many h = let t : length q.0 ≡ n = as_many q refl in let e : (x ∷ q.0, q.1) ≡ p = cc in rw (← e) (ap suc t)

-- an entry, and behind it as many as were wanted, are one more
begun : {X : Type 0} (one : Front X) (n : ℕ) (read : Result (X × List ℕ) Refused) (p : List X × List ℕ) → ((bytes : List ℕ) (q : List X × List ℕ) → entries one n bytes ≡ Ok q → length q.0 ≡ n)
    → behind (λ x. entries one n >>= λ xs. gives (x ∷ xs)) read ≡ Ok p → length p.0 ≡ suc n
begun one n (Err e) p as_many h = absurd cc
begun one n (Ok q) p as_many h = one_more n q.0 (entries one n q.1) p (as_many q.1) h

-- a list that is read has as many entries as were wanted
pub entries_as_many : {X : Type 0} (one : Front X) (n : ℕ) (bytes : List ℕ) (p : List X × List ℕ) → entries one n bytes ≡ Ok p → length p.0 ≡ n
unfolding entries
entries_as_many {X} one zero bytes p h = let e : p ≡ ([], bytes) = cc in rw e refl
entries_as_many one (suc n) bytes p h = begun one n (one bytes) p (entries_as_many one n) h

-- what was read of so many has room
pub as_many_have_room : {X Y : Type 0} (one : Front X) (n each room : ℕ) (bytes : List ℕ) (view : Y → List X × List ℕ) (result : Result Y ReadError) → n * each ≤ room
    → Gives view result (entries one n bytes) → IfOk result (λ y. length (view y).0 * each ≤ room)
as_many_have_room one n each room bytes view (Err e) fits h = tt
as_many_have_room one n each room bytes view (Ok y) fits h = rw (entries_as_many one n bytes (view y) h) fits
