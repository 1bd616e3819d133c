use Rattle.std.proofs.Common.{◌≡◌, true, sym, arith}
use Rattle.std.specs.Prelude.{nat_lt}
use Rattle.std.proofs.lemmas.Bool.Decides.{nat_tests}
use Rattle.osdmap.proofs.Named.{below_max}
use Rattle.osdmap.proofs.map.OsdMap.existing_osd.Goals as goal

pub returns-then-exists-clause-small : goal.returns-then-exists-clause-small
returns-then-exists-clause-small c =
    let below : nat_lt c.in_ok-osd.osd 4096 ≡ true = below_max c.args.self.now.map c.in_ok-osd.osd 4096 c.holds_together.ensures.osds.few (sym c.if-exists.ensures) in
    grind (arith, nat_tests, below)
