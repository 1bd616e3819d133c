use Rattle.std.proofs.Common.{◌≡◌, ℕ, length, nat_eq}
use Rattle.std.specs.Map.{lookup}
use Rattle.std.specs.Option.{option_or}
use Rattle.grouptable.proofs.merge.Merge.into_lists.Given as goal

abbrev pub invariant-loop-osd : goal.invariant-loop-osd
invariant-loop-osd l = (k : ℕ) → option_or (lookup (nat_eq k) l.fresh.entries) (lookup (nat_eq k) l.lists.entries) ≡ lookup (nat_eq k) l.initial.fresh.entries

abbrev pub decreases-loop-osd : goal.decreases-loop-osd
decreases-loop-osd l = length l.fresh.entries
