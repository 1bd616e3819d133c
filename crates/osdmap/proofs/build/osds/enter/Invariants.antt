use Rattle.std.proofs.Common.{◌≡◌, ℕ, ◌<◌, map, take, drop, get_or, length, nat_abs, None}
use Rattle.std.specs.Prelude.{is_some}
use Rattle.std.specs.Option.{option_map}
use Rattle.mapparts.specs.declared.parts.OsdPart.{OsdPart}
use Rattle.keylist.specs.Keys.{is_distinct}
use Rattle.osdmap.specs.Marks.{are_new}
use Rattle.osdmap.specs.Stated.{listed_osd}
use Rattle.osdmap.specs.Built.{state_of}
use Rattle.osdmap.proofs.build.osds.enter.Given as goal

abbrev pub invariant-loop-osd : goal.invariant-loop-osd
invariant-loop-osd l = record {
  rest : is_distinct (map (λ (o : OsdPart). nat_abs o.id) l.osds) ≡ are_new (λ (o : OsdPart). nat_abs o.id) (map is_some l.rows.items) (drop l.osd-index l.osds);
  sized : length l.rows.items ≡ length l.initial.rows.items;
  entered : (n : ℕ) → n < length l.rows.items → get_or l.rows.items n None ≡ option_map state_of (listed_osd (take l.osd-index l.osds) n);
}
