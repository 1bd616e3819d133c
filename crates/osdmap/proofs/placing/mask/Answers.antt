use Rattle.osdmap.proofs.Masks.{mask_power}
use Rattle.osdmap.proofs.placing.mask.Goals as goal

pub returns : goal.returns
returns c =
    let next = c.next_power_of_two.ensures in
    mask_power c.args.count c.next_power_of_two.result next.power.0 next.power.1 c.requires.some c.requires.few next.lower_bound next.upper_bound
