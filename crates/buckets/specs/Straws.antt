-- The straws of a straw2 bucket, one after another.
use Rattle.std.specs.Prelude.{ℕ, nat_lt, if◌then◌else◌}
use Rattle.buckets.specs.declared.pick.straw2.Longest.{Longest}

-- the longest straw after that of the item at a place
abbrev pub longer_straw : Longest → ℕ → ℕ → Longest
longer_straw best place short = if nat_lt short best.short then record { place = place; short = short } else best
