-- The limits of forests, of rules, and of the pools that rules serve, each by the one name that clauses cite.
use Rattle.std.specs.Prelude.{ℕ}
use Rattle.crush.specs.declared.limits.TheConstants as limits

-- the most buckets of a forest
abbrev pub max_buckets : ℕ
max_buckets = limits.MAX_BUCKETS

-- the most of a plain cluster's
abbrev pub plain_buckets : ℕ
plain_buckets = limits.PLAIN_BUCKETS

-- the most steps of a rule
abbrev pub max_steps : ℕ
max_steps = limits.MAX_STEPS

-- the greatest count of a choose step
abbrev pub max_count : ℕ
max_count = limits.MAX_COUNT

-- the most places of a pool
abbrev pub max_size : ℕ
max_size = limits.MAX_SIZE

-- the reweight of a device that takes its whole share
abbrev pub full_weight : ℕ
full_weight = limits.FULL_WEIGHT

-- the most tries that a step sets
abbrev pub max_tries : ℕ
max_tries = limits.MAX_TRIES

-- the greatest number that a step of chooseleaf_vary_r sets
abbrev pub max_vary : ℕ
max_vary = limits.MAX_VARY

-- the greatest number that a step of chooseleaf_stable sets
abbrev pub max_stable : ℕ
max_stable = limits.MAX_STABLE
