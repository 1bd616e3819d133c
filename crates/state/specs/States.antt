-- The state of a monitor: the object of one thread, whose answers a monitor gives to many.
use Rattle.std.specs.Prelude.{◌≡◌, Bool, true, false, List, ℕ, ◌+◌, ◌-◌, ◌^◌, ◌==◌, min, not, [], ◌∷◌, ◌++◌, length, nat_lt, Option, Some, None, Result, IfErr, ◌⊎◌, MatchResult, if◌then◌else◌}
use Rattle.refusal.specs.declared.refused.Refusal.{Refusal}
use Rattle.refusal.specs.declared.refused.Refusal.TheVariants.{StaleEpoch, JournalFull, Memory as OutOfMemory, NotSealed, NotStored}
use Rattle.maptypes.specs.declared.change.ChangeParts.{ChangeParts}
use Rattle.maptypes.specs.Incrementals.{Step}
use Rattle.mapparts.specs.Limits.{max_first_epoch}
use Rattle.maptypes.specs.Pools.{total_groups}
use Rattle.osdmap.specs.Maps.{ClusterMap}
use Rattle.osdmap.specs.Evals.{evals_of}
use Rattle.osdmap.specs.Changes.{change_fault, apply, after, IsLawful}
use Rattle.epochlog.specs.Epochs.{Line, Seen, max_capacity}
use Rattle.epochlog.specs.Journals.{Journal}
use Rattle.osdmap.specs.Stored.{StoredMap, HasRoomFor}
use Rattle.pgtable.specs.declared.patch.Patch.{Patch}
use Rattle.state.specs.declared.state.Commit.{Commit}
use Rattle.pgtable.specs.Patches.{changed_map, LeadsTo}
use Rattle.pgtable.specs.Tables.{TableFacts, IsTableOf}

-- the greatest epoch of a state: that of the last cell of the longest row, from the greatest first epoch on
abbrev pub max_epoch : ℕ
max_epoch = max_first_epoch + max_capacity

-- what callers see of a state: the first map, what its pass has seen, whose history is the journal, the present map,
-- how often rules were run for its tables, and whether its store has failed
pub record StateFacts : Type 0 where
  pub first : ClusterMap
  pub pass : Seen
  pub map : ClusterMap
  pub runs : ℕ
  pub has_failed : Bool

-- a state by its parts
abbrev pub facts : ClusterMap → Seen → ClusterMap → ℕ → Bool → StateFacts
facts first pass now runs has_failed =
    record { first = first; pass = pass; map = now; runs = runs; has_failed = has_failed }

-- a first map and a history, as a store keeps them
abbrev pub journal : ClusterMap → List Step → Journal
journal first history = record { first = first; steps = history }

-- the fact of every state: its journal is lawful from the first map, after whose epoch its row begins; its map is the
-- first map with the journal applied in the order of epochs, without gaps; and its table is that of its map
pub record IsKept (k : StateFacts) (t : TableFacts) : Type 0 where
  pub lawful : IsLawful k.first k.pass.history
  pub begins : k.pass.row.first ≡ k.first.epoch
  pub map : k.map ≡ after k.first k.pass.history
  pub table : IsTableOf t k.map

-- a count of runs, which stays at the greatest number
abbrev pub counted : ℕ → ℕ
counted n = min n (2 ^ 64 - 1)

-- a state at its beginning: its table took a run for each group
abbrev pub opened : ClusterMap → Line → StateFacts
opened m row = facts m (record { row = row; history = [] }) m (counted (total_groups m.pools)) false

-- a state after so many runs more
abbrev pub ran : ℕ → StateFacts → StateFacts
ran n k = record k { runs = counted (k.runs + n) }

-- nothing is changed but the count of runs, and that the store may count as failed: it does where that is the refusal,
-- and is as before where another is than that or one of the seal
pub record IsUnchangedBy (e : Refusal) (old new : StateFacts) : Type 0 where
  pub same : new ≡ record old { runs = new.runs; has_failed = new.has_failed }
  pub fails : e ≡ NotStored → new.has_failed ≡ true
  pub stays : (new.has_failed ≡ old.has_failed) ⊎ ((e ≡ NotStored) ⊎ (e ≡ NotSealed))

-- ---- commits

-- the incremental of a change to a map
abbrev pub next_step : ClusterMap → ChangeParts → Step
next_step m change = record { epoch = m.epoch + 1; change = change }

-- a refusal, else another
abbrev pub unless : Option Refusal → Option Refusal → Option Refusal
unless (Some r) other = Some r
unless None other = other

-- the first refusal that applies where a map is the present one, after so many changes of at most so many: the base is
-- not its epoch; what refuses the change; the journal is full
unfoldable pub commit_fault : ClusterMap → ℕ → ℕ → ℕ → ChangeParts → Option Refusal
commit_fault m done most base change =
    if not (base == m.epoch) then Some (StaleEpoch m.epoch)
    else unless (change_fault m change) (if nat_lt done most then None else Some JournalFull)

-- why a state refuses a commit, memory and the seal aside
abbrev pub fault_in : StateFacts → ℕ → ChangeParts → Option Refusal
fault_in k base change = commit_fault k.map (length k.pass.history) (length k.pass.row.cells) base change

-- a pass that has seen one incremental more
abbrev pub longer_by : Seen → Step → Seen
longer_by pass step = record pass { history = pass.history ++ step ∷ [] }

-- the state after a commit, but for its runs
abbrev pub committed : StateFacts → ChangeParts → StateFacts
committed k change =
    record k { pass = longer_by k.pass (next_step k.map change); map = apply k.map (next_step k.map change) }

-- why a commit is refused: the fault; or, where there is none, that memory ran out, that the change was not stored, or
-- that another sealed the epoch
abbrev pub IsRefusedBy : Option Refusal → Refusal → Type 0
IsRefusedBy fault e =
    ((fault ≡ None) × ((e ≡ OutOfMemory) ⊎ ((e ≡ NotStored) ⊎ (e ≡ NotSealed)))) ⊎ (fault ≡ Some e)

-- of a commit: what is done exactly where there is no fault, but that memory may run out there, the change not be
-- stored, or the epoch be sealed by another
abbrev pub IsDoneUnless : {X : Type 0} → Result X Refusal → Option Refusal → (X → Type 0) → Type 0
IsDoneUnless r fault P =
    MatchResult r (λ x. (fault ≡ None) × P x) (IsRefusedBy fault)

-- what a commit answers and leaves: where there is no fault the new epoch and the evaluations, a run for each, with the
-- journal longer by the change, whose store has not failed; else the fault; and after a refusal all is as before, but
-- for runs and a store that failed
abbrev pub Commits : StateFacts → StateFacts → ℕ → ChangeParts → Result Commit Refusal → Type 0
Commits old new base change r =
    IsDoneUnless r (fault_in old base change) (λ ok. (old.has_failed ≡ false)
    × (new ≡ ran ok.evals (committed old change)) × (ok.epoch ≡ base + 1) × (ok.evals ≡ evals_of new.map change))
    × IfErr r (λ e. IsUnchangedBy e old new)

-- all that a commit needs is ready: room in the map, a patch that makes of the table that of the map after the change
-- and tells the evaluations, and the incremental
pub record IsReady (m : StoredMap) (t : TableFacts) (change : ChangeParts) (patch : Patch) (made : Step) : Type 0 where
  pub step : made ≡ next_step m.map change
  pub room : HasRoomFor change m
  pub leads : LeadsTo (changed_map m.map change) t patch
  pub counted : patch.evals ≡ evals_of (changed_map m.map change) change
