-- What a store that fails leaves of a journal that is kept.
use Rattle.std.proofs.Common.{◌≡◌, inl, inr, true, false, Bool}
use Rattle.maptypes.specs.Incrementals.{Step}
use Rattle.epochlog.specs.declared.keeper.Keeper.{Keeper}
use Rattle.epochlog.specs.Journals.{Journal, with_step, IsBeforeOrAfter, Follows, IsIncremental, HasAll}
use Rattle.epochlog.specs.Stores.{IsKeptBy}

-- the journal from before, or with the incremental that was under way, is all of it and at most the next one more
all_is_left : (j : Journal) (step : Step) (left : Journal) → Follows j step → IsIncremental step → IsBeforeOrAfter j step left → HasAll j left
all_is_left j step left next is (inl before) = inl before
all_is_left j step left next is (inr with_it) = inr (step, next, is, with_it)

-- once an incremental is not taken the journal is kept as before, by a store that counts as failed
pub kept_failed : {K : Type 0} (holds may_leave : K → Journal → Type 0) (may_fail : Type 0) (old : Keeper K) (store : K) (j : Journal) (step : Step) → Follows j step → IsIncremental step → old.has_failed ≡ false
    → ((held : Journal) → holds old.store held → (left : Journal) → may_leave store left → IsBeforeOrAfter held step left) → may_fail
    → IsKeptBy holds may_leave may_fail old j → IsKeptBy holds may_leave may_fail (record { store = store; has_failed = true }) j
kept_failed holds may_leave may_fail old store j step next is well crash fails kept = record {
  held = λ failed. absurd (let wrong : true ≡ false = failed in cc);
  left = λ left may. all_is_left j step left next is (crash j (kept.held well) left may);
  fails = λ failed. fails;
}

-- a store that holds one incremental more than the journal may be asked on if it holds any journal, and counts as failed
-- otherwise
pub kept_without : {K : Type 0} (holds may_leave : K → Journal → Type 0) (may_fail : Type 0) (settled : (store : K) (held left : Journal) → holds store held → may_leave store left → left ≡ held)
    (old : Keeper K) (failed : Bool) (j : Journal) (step : Step) → Follows j step → IsIncremental step → old.has_failed ≡ false → (failed ≡ false → holds old.store j) → (failed ≡ true → may_fail)
    → IsKeptBy holds may_leave may_fail old (with_step j step) → IsKeptBy holds may_leave may_fail (record old { has_failed = failed }) j
kept_without holds may_leave may_fail settled old failed j step next is well any fails kept = record {
  held = any;
  left = λ left may. inr (step, next, is, settled old.store (with_step j step) left (kept.held well) may);
  fails = fails;
}

-- a store that holds a journal keeps it
pub kept_first : {K : Type 0} (holds may_leave : K → Journal → Type 0) (may_fail : Type 0) (settled : (store : K) (held left : Journal) → holds store held → may_leave store left → left ≡ held)
    (store : K) (j : Journal) → holds store j → IsKeptBy holds may_leave may_fail (record { store = store; has_failed = false }) j
kept_first holds may_leave may_fail settled store j held = record {
  held = λ is. held;
  left = λ left may. inl (settled store j left held may);
  fails = λ is. absurd (let wrong : false ≡ true = is in cc);
}
