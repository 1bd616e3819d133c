use Rattle.std.proofs.Common.{◌≡◌, ◌-◌, length, map, take, ap, arith}
use Rattle.std.specs.List.{suffix_len}
use Rattle.grouptable.specs.Sets.{is_end, place_stored}
use Rattle.grouptable.proofs.osd_set.filled_places.Goals as goal

pub returns-clause-value : goal.returns-clause-value
returns-clause-value c =
    let row = c.args.row.now in
    let long : c.filled_len.result ≡ length row - suffix_len is_end row = omega (arith, c.filled_len.ensures) in
    ap (λ n. map place_stored (take n row)) long
