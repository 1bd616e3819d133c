-- OSDs that passed their tests.
use Rattle.std.proofs.Common.{◌≡◌, ℕ, true, List, nat_lt, nat_abs}
use Rattle.std.specs.List.{list_all}
use Rattle.keylist.proofs.Each.{all_more}
use Rattle.keylist.proofs.Tests.{and_first}
use Rattle.mapparts.specs.declared.parts.OsdPart.{OsdPart}
use Rattle.osdmap.specs.Stated.{osd_ok}

-- they have numbers below max_osd
pub osds_below : (max_osd : ℕ) (osds : List OsdPart) → list_all (osd_ok max_osd) osds ≡ true → list_all (λ o. nat_lt (nat_abs o.id) max_osd) osds ≡ true
unfolding osd_ok
osds_below max_osd osds h = all_more (osd_ok max_osd) (λ (o : OsdPart). nat_lt (nat_abs o.id) max_osd) osds (λ o. and_first (nat_lt (nat_abs o.id) max_osd) _) h
