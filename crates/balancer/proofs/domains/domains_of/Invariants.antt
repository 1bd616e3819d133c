use Rattle.std.proofs.Common.{◌≡◌, map}
use Rattle.std.specs.List.{range_with_len}
use Rattle.balancer.specs.Moves.{domain_of}
use Rattle.balancer.proofs.domains.domains_of.Given as goal

abbrev pub invariant-loop-osd : goal.invariant-loop-osd
invariant-loop-osd l = l.domains.items ≡ map (domain_of l.map.map l.level) (range_with_len 0 l.osd)
