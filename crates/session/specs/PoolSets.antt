-- The up sets of all groups of a pool, as text.
use Rattle.std.specs.Prelude.{◌≡◌, ◌⊎◌, ℕ, ◌+◌, ◌-◌, ◌^◌, ◌≤◌, min, zero, suc, List, [], map, Option, None, Some, Result, Err, MatchResult, string_bytes}
use Rattle.std.specs.List.{concat, range_with_len}
use Rattle.std.specs.Option.{option_map_or}
use Rattle.refusal.specs.declared.refused.Refusal.{Refusal}
use Rattle.refusal.specs.declared.refused.Refusal.TheVariants.{UnknownPool, Memory as OutOfMemory}
use Rattle.refusal.specs.Outcomes.{Gives}
use Rattle.maptypes.specs.Pools.{PoolFacts}
use Rattle.osdmap.specs.Maps.{ClusterMap, pool_at}
use Rattle.osdmap.specs.Placement.{up_set}
use Rattle.session.specs.declared.pool_sets.PoolSets.{PoolSets}
use Rattle.session.specs.Texts.{shown_text}

-- what refuses a question about a pool
abbrev pub sets_fault : ClusterMap → ℕ → Option Refusal
sets_fault m pool = elim (pool_at m.pools pool) [ None ↦ Some UnknownPool | Some p ↦ None ]

-- how many groups a pool has, where it is there
abbrev pub pg_num_of : Option PoolFacts → ℕ
pg_num_of p = option_map_or (λ p. p.pg_num) p 0

-- the up sets of the first groups of a pool, where it is there: by number from 0 on, each as `up` tells it, behind a
-- space
abbrev pub first_sets : ClusterMap → Option PoolFacts → ℕ → List ℕ
first_sets m None count = []
first_sets m (Some p) count = concat (map (λ n. shown_text (up_set m p n)) (range_with_len 0 count))

-- the epoch, and the up sets of all groups of a pool
abbrev pub FindsSets : ClusterMap → ℕ → Result PoolSets Refusal → Type 0
FindsSets m pool r =
    Gives r (sets_fault m pool)
    (λ sets. (sets.epoch ≡ m.epoch) × (sets.pool ≡ pool)
    × (string_bytes sets.text ≡ first_sets m (pool_at m.pools pool) (pg_num_of (pool_at m.pools pool))))

-- the same, where `Memory` may come in place of any answer
abbrev pub FindsSetsThere : ClusterMap → ℕ → Result PoolSets Refusal → Type 0
FindsSetsThere m pool r = (r ≡ Err OutOfMemory) ⊎ FindsSets m pool r

-- a count of runs after so many more, each of which counts one; the count stays at the greatest number
abbrev pub runs_after : ℕ → ℕ → ℕ
runs_after runs zero = runs
runs_after runs (suc more) = min (runs_after runs more + 1) (2 ^ 64 - 1)

-- one rule is run for each group of a pool, or for the first of them where memory runs out
abbrev pub RunsForSets : Option PoolFacts → ℕ → ℕ → Result PoolSets Refusal → Type 0
RunsForSets p before now r =
    MatchResult r (λ _. now ≡ runs_after before (pg_num_of p))
    (λ _. (more : ℕ) × (more ≤ pg_num_of p) × (now ≡ runs_after before more))
