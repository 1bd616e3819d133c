use Rattle.std.proofs.Common.{◌∙◌, not, refl, arith}
use Rattle.std.specs.Prelude.{◌==◌}
use Rattle.std.proofs.lemmas.List.Filters.{length-filter_both}
use Rattle.maptypes.specs.declared.pg.Pg.{Pg}
use Rattle.pgtable.specs.Index.{index_of}
use Rattle.pgtable.proofs.Shows.{count_shown}
use Rattle.pgtable.proofs.table.PgTable.count_in.Goals as goal

pub returns-clause-value : goal.returns-clause-value
returns-clause-value c = λ m is. c.shown_in.ensures ∙ count_shown c.args.self.now m c.args.pool c.args.osd is

pub returns-clause-few : goal.returns-clause-few
returns-clause-few c = λ m is.
    let both = length-filter_both (λ (g : Pg). g.pool == c.args.pool) (λ g. not (g.pool == c.args.pool)) (λ g. refl) (index_of m c.args.osd) in
    omega (arith, returns-clause-value c m is, both)
