use Rattle.std.proofs.Common.{◌≡◌, take}
use Rattle.std.specs.List.{filter_map, enumerate_from}
use Rattle.cephimport.specs.Rules.{slot_rule}
use Rattle.cephimport.proofs.rules.rules_in.Given as goal

abbrev pub invariant-loop-id : goal.invariant-loop-id
invariant-loop-id l = l.parts.items ≡ filter_map (λ p. slot_rule l.map p.0 p.1) (take l.id (enumerate_from 0 l.slots))
