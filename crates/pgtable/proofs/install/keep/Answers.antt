use Rattle.pgtable.proofs.install.keep.Goals as goal

pub keep_one-requires : goal.keep_one-requires
keep_one-requires c = c.requires c.in-Some.kept c.in-Some.is

pub returns-in-Some-clause-table : goal.returns-in-Some-clause-table
returns-in-Some-clause-table c = rw c.in-Some.is c.keep_one.ensures.table

pub returns-in-Some-clause-others : goal.returns-in-Some-clause-others
returns-in-Some-clause-others c = λ j other. c.keep_one.ensures.others j (other c.in-Some.kept c.in-Some.is)
