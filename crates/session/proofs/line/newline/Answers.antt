use Rattle.session.specs.Commands.{is_newline}
use Rattle.session.proofs.Firsts.{first_place}
use Rattle.session.proofs.line.newline.Goals as goal

pub returns-clause-place : goal.returns-clause-place
returns-clause-place c = first_place is_newline c.args.text.now c.memchr.result c.memchr.ensures
