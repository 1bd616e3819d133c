-- The limit of a plan; those of maps stand in crush and mapparts.
use Rattle.std.specs.Prelude.{ℕ}
use Rattle.balancer.specs.declared.limits.TheConstants as limits

-- how many moves a plan may have at most
abbrev pub max_moves : ℕ
max_moves = limits.MAX_MOVES
