use Rattle.std.proofs.Common.{◌∙◌}
use Rattle.std.proofs.Math.Seq.{map-set_same}
use Rattle.pgtable.specs.declared.rooms.Room.{Room}
use Rattle.pgtable.proofs.rooms.forget.Goals as goal

pub loop-i-preserved : goal.loop-i-preserved
loop-i-preserved c =
    map-set_same (λ (r : Room). r.work) c.loop-i.rooms c.loop-i.i c.clear.new.room c.index-rooms-i.result c.clear.ensures ∙ c.loop-i.invariant
