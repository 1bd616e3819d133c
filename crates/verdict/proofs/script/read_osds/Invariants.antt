use Rattle.std.proofs.Common.{◌≡◌, ◌++◌}
use Rattle.std.specs.Option.{option_map, option_copied}
use Rattle.verdict.specs.Scripts.{osds_in, words_in_line}
use Rattle.verdict.specs.Reading.{parts_left, left_size}
use Rattle.verdict.proofs.script.read_osds.Given as goal

abbrev pub invariant-loop-left : goal.invariant-loop-left
invariant-loop-left l = osds_in (words_in_line l.text) ≡ option_map (λ more. l.osds.items ++ more) (osds_in (parts_left 32 (option_copied l.left)))

abbrev pub decreases-loop-left : goal.decreases-loop-left
decreases-loop-left l = left_size (option_copied l.left)
