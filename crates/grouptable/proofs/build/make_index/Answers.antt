use Rattle.std.proofs.Common.{◌∙◌, arith}
use Rattle.grouptable.proofs.build.make_index.Goals as goal

pub returns : goal.returns
returns c = record {
  few = c.len.ensures.few;
  each = record {
    few = omega (arith, c.trim.ensures.few, c.in_ok-add_groups.ensures.all);
    each = λ osd h. c.trim.ensures.same osd ∙ c.in_ok-add_groups.ensures.lists osd h;
    trimmed = c.trim.ensures.trimmed;
  };
}
