-- Journals: what one more change does to a lawful one, and to what a pass has seen.
use Rattle.std.proofs.Common.{◌≡◌, Bool, ◌∙◌, sym, ap, ℕ, zero, suc, ◌+◌, ◌<◌, List, [], ◌∷◌, ◌++◌, length, refl, arith, None, Some, subst, true, false, not, nat_lt, ◌==◌, if◌then◌else◌, length-append, slice_get}
use Rattle.maptypes.specs.declared.change.ChangeParts.{ChangeParts}
use Rattle.osdmap.specs.Maps.{ClusterMap}
use Rattle.maptypes.specs.Incrementals.{Step}
use Rattle.osdmap.specs.Changes.{apply, after, change_fault, IsLawful, epoch_after}
use Rattle.epochlog.specs.Epochs.{Line, Seen, longer, last_epoch, epoch_of}
use Rattle.pgtable.specs.Tables.{TableFacts, IsTableOf}
use Rattle.std.proofs.lemmas.Bool.{eqb-true, ltb-true, ltb-false}
use Rattle.refusal.specs.declared.refused.Refusal.TheVariants.{StaleEpoch, JournalFull}
use Rattle.state.specs.States.{StateFacts, IsKept, opened, committed, longer_by, next_step, commit_fault, fault_in, unless}

-- the map after one more
pub after-snoc : (first : ClusterMap) (journal : List Step) (step : Step) → after first (journal ++ step ∷ []) ≡ apply (after first journal) step
after-snoc first [] step = refl
after-snoc first (s ∷ journal) step = after-snoc (apply first s) journal step

-- the epoch of the map after a step
epoch-apply : (m : ClusterMap) (step : Step) → (apply m step).epoch ≡ step.epoch
unfolding apply
epoch-apply m step = refl

-- the epoch after a lawful journal
pub epoch-after : (first : ClusterMap) (journal : List Step) → IsLawful first journal → (after first journal).epoch ≡ first.epoch + length journal
unfolding IsLawful
epoch-after first [] lawful = omega arith
epoch-after first (s ∷ journal) lawful = omega (arith, epoch-after (apply first s) journal lawful.2, epoch-apply first s, lawful.0)

-- one more change that the last map does not refuse
pub IsLawful-snoc : (first : ClusterMap) (journal : List Step) (step : Step) → IsLawful first journal
    → step.epoch ≡ (after first journal).epoch + 1 → change_fault (after first journal) step.change ≡ None → IsLawful first (journal ++ step ∷ [])
unfolding IsLawful
IsLawful-snoc first [] step lawful next accepted = (next, accepted, tt)
IsLawful-snoc first (s ∷ journal) step lawful next accepted = (lawful.0, lawful.1, IsLawful-snoc (apply first s) journal step lawful.2 next accepted)

-- the last epoch of a lawful journal is that of the map after it
pub last_epoch-lawful : (first : ClusterMap) (journal : List Step) → IsLawful first journal → last_epoch first.epoch journal ≡ (after first journal).epoch
unfolding IsLawful
last_epoch-lawful first [] lawful = refl
last_epoch-lawful first (s ∷ journal) lawful =
    ap (λ e. last_epoch e journal) (sym (epoch-apply first s)) ∙ last_epoch-lawful (apply first s) journal lawful.2

-- the last epoch of a list with one more
pub last_epoch-snoc : (before : ℕ) (journal : List Step) (step : Step) → last_epoch before (journal ++ step ∷ []) ≡ step.epoch
last_epoch-snoc before [] step = refl
last_epoch-snoc before (s ∷ journal) step = last_epoch-snoc s.epoch journal step

-- what stands last
pub last-shown : {T : Type 0} (xs : List T) (x : T) (at : ℕ) → at ≡ length xs → slice_get (xs ++ x ∷ []) at ≡ Some x
last-shown [] x at is = rw is refl
last-shown (y ∷ xs) x zero is = absurd (omega (arith, is))
last-shown (y ∷ xs) x (suc at) is = last-shown xs x at (omega (arith, is))

-- a list that goes on from another is the longer of the two
pub longer-more : {T : Type 0} (xs : List T) (x : T) → longer xs (xs ++ x ∷ []) ≡ xs ++ x ∷ []
longer-more xs x = elim (nat_lt (length xs) (length (xs ++ x ∷ []))) as (λ b. nat_lt (length xs) (length (xs ++ x ∷ [])) ≡ b → (if b then xs ++ x ∷ [] else xs) ≡ xs ++ x ∷ []) [
  | true ↦ λ is. refl
  | false ↦ λ is. absurd (omega (arith, length-append xs (x ∷ []), ltb-false _ _ is))
] refl

-- the present epoch is the one that the journal reaches
pub epoch-kept : (k : StateFacts) (t : TableFacts) → IsKept k t → k.map.epoch ≡ epoch_after k.first k.pass.history
epoch-kept k t kept = ap (λ (m : ClusterMap). m.epoch) kept.map ∙ epoch-after k.first k.pass.history kept.lawful

-- the pass stands at the present epoch
pub pass-epoch : (k : StateFacts) (t : TableFacts) → IsKept k t → epoch_of k.pass ≡ k.map.epoch
pass-epoch k t kept =
    ap (λ e. last_epoch e k.pass.history) kept.begins ∙ last_epoch-lawful k.first k.pass.history kept.lawful ∙ ap (λ (m : ClusterMap). m.epoch) (sym kept.map)

-- the fact of a state holds at its beginning
pub IsKept-opened : (m : ClusterMap) (row : Line) (t : TableFacts) (runs : ℕ) → row.first ≡ m.epoch → IsTableOf t m → IsKept (record (opened m row) { runs = runs }) t
unfolding IsLawful
IsKept-opened m row t runs begins table = record { lawful = tt; begins = begins; map = refl; table = table }

-- the fact of a state looks neither at its runs nor at whether its store has failed
pub IsKept-ran : (k : StateFacts) (t : TableFacts) (runs : ℕ) (failed : Bool) → IsKept k t → IsKept (record k { runs = runs; has_failed = failed }) t
IsKept-ran k t runs failed kept = record { lawful = kept.lawful; begins = kept.begins; map = kept.map; table = kept.table }

-- the fact of a state is kept by a commit that nothing refuses
pub IsKept-committed : (k : StateFacts) (t t2 : TableFacts) (change : ChangeParts) (runs : ℕ) (failed : Bool) → IsKept k t → change_fault k.map change ≡ None
    → IsTableOf t2 (apply k.map (next_step k.map change)) → IsKept (record (committed k change) { runs = runs; has_failed = failed }) t2
IsKept-committed k t t2 change runs failed kept accepted table = record {
  lawful = IsLawful-snoc k.first k.pass.history (next_step k.map change) kept.lawful (ap (λ (m : ClusterMap). m.epoch + 1) kept.map)
      (subst (λ (m : ClusterMap). change_fault m change ≡ None) kept.map accepted);
  begins = kept.begins;
  map = ap (λ m. apply m (next_step k.map change)) kept.map ∙ sym (after-snoc k.first k.pass.history (next_step k.map change));
  table = table;
}

-- what holds where nothing refuses a commit
pub record IsAccepted (k : StateFacts) (base : ℕ) (change : ChangeParts) : Type 0 where
  pub current : base ≡ k.map.epoch
  pub fine : change_fault k.map change ≡ None
  pub room : length k.pass.history < length k.pass.row.cells

-- where there is no fault
pub accepted : (k : StateFacts) (base : ℕ) (change : ChangeParts) → fault_in k base change ≡ None → IsAccepted k base change
unfolding commit_fault
accepted k base change = elim (base == k.map.epoch) as (λ b. (base == k.map.epoch) ≡ b → (if not b then Some (StaleEpoch k.map.epoch) else unless (change_fault k.map change) (if nat_lt (length k.pass.history) (length k.pass.row.cells) then None else Some JournalFull)) ≡ None → IsAccepted k base change) [
  | false ↦ λ is none. absurd (let wrong : Some (StaleEpoch k.map.epoch) ≡ None = none in cc)
  | true ↦ λ is none. elim (change_fault k.map change) as (λ f. change_fault k.map change ≡ f → unless f (if nat_lt (length k.pass.history) (length k.pass.row.cells) then None else Some JournalFull) ≡ None → IsAccepted k base change) [
    | Some r ↦ λ faulty wrong. absurd (let w : Some r ≡ None = wrong in cc)
    | None ↦ λ fine room. record { current = eqb-true base k.map.epoch is; fine = fine; room = has_room k room }
  ] refl none
] refl
  where
    has_room : (k : StateFacts) → (if nat_lt (length k.pass.history) (length k.pass.row.cells) then None else Some JournalFull) ≡ None → length k.pass.history < length k.pass.row.cells
    has_room k = elim (nat_lt (length k.pass.history) (length k.pass.row.cells)) as (λ b. nat_lt (length k.pass.history) (length k.pass.row.cells) ≡ b → (if b then None else Some JournalFull) ≡ None → length k.pass.history < length k.pass.row.cells) [
      | true ↦ λ is none. ltb-true (length k.pass.history) (length k.pass.row.cells) is
      | false ↦ λ is wrong. absurd (let w : Some JournalFull ≡ None = wrong in cc)
    ] refl

-- the pass of a state once it has joined one that has sealed the next epoch
pub joined_is : (before : Seen) (step : Step) (sealed joined : Seen) → sealed.history ≡ before.history ++ step ∷ [] → joined.row ≡ before.row
    → joined.history ≡ longer before.history sealed.history → joined ≡ longer_by before step
joined_is before step sealed joined more row is =
    let all : joined.history ≡ before.history ++ step ∷ [] = is ∙ ap (λ h. longer before.history h) more ∙ longer-more before.history step in
    λ i. record { row = row i; history = all i }

-- what is shown of the epoch that was sealed last
pub shown_is : (before : Seen) (step shown : Step) (joined : Seen) (at : ℕ) → joined ≡ longer_by before step → at ≡ length before.history
    → slice_get joined.history at ≡ Some shown → shown ≡ step
shown_is before step shown joined at is place found =
    let last : slice_get joined.history at ≡ Some step = ap (λ (s : Seen). slice_get s.history at) is ∙ last-shown before.history step at place in
    let same : Some shown ≡ Some step = sym found ∙ last in
    cc same

-- the incremental of a commit
pub step_is : (k : StateFacts) (base : ℕ) (change : ChangeParts) (step : Step) → base ≡ k.map.epoch → step ≡ record { epoch = base + 1; change = change }
    → step ≡ next_step k.map change
step_is k base change step current is = rw current at is

-- a state with another pass and map, and other runs, whose store has failed or not
abbrev pub with_parts : StateFacts → Seen → ClusterMap → ℕ → Bool → StateFacts
with_parts k pass m runs failed = record k { pass = pass; map = m; runs = runs; has_failed = failed }
