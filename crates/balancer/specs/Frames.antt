-- What a plan goes by and no move changes, as it is stored.
use Rattle.std.specs.Prelude.{ℕ, ℤ, Option}
use Rattle.osdmap.specs.Placement.{steps_of}
use Rattle.balancer.specs.declared.frame.Frame.{Frame}
use Rattle.balancer.specs.Moves.{domain_of, last_level, levels_of}

-- the last type that the pool's rule chooses
abbrev pub level_in : Frame → ℕ
level_in f = last_level (levels_of (steps_of f.map.now.map f.pool))

-- the failure domain of an OSD, by that type
abbrev pub domain_in : Frame → ℕ → Option ℤ
domain_in f osd = domain_of f.map.now.map (level_in f) osd
