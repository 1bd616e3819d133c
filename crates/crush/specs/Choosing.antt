-- What a choose step goes by (CRUSH paper, section 3.2; Ceph, mapper.c, crush_do_rule).
use Rattle.std.specs.Prelude.{ℕ}
use Rattle.crush.specs.declared.choose.Tries.{Tries}
use Rattle.crush.specs.declared.step.Choose.{Choose}
use Rattle.crush.specs.World.{World}

-- the world, the step, how often it tries, and how many items it seeks below each bucket
pub record Choosing : Type 0 where
  pub world : World
  pub choose : Choose
  pub tries : Tries
  pub numrep : ℕ
