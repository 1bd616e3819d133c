use Rattle.std.proofs.Common.{◌≡◌, subst, arith, take, take_all, List}
use Rattle.std.specs.List.{All}
use Rattle.std.proofs.lemmas.List.Elements.{All-more}
use Rattle.maptypes.specs.GroupText.{IsNamedByText}
use Rattle.maptypes.proofs.named.are_read_back.Goals as goal

pub loop-entry-preserved : goal.loop-entry-preserved
loop-entry-preserved g c =
    All-more (λ e. IsNamedByText (g.G.NamesGroup.named e)) c.args.entries.now c.loop-entry.entry-index c.entry-item.result c.loop-entry-test.true c.loop-entry.invariant
    (rw (← c.entry-item.is) (subst IsNamedByText c.group-pg.ensures c.group_text_is_read_back.ensures))

pub returns : goal.returns
returns g c =
    let all : take c.loop-entry.entry-index c.args.entries.now ≡ c.args.entries.now = take_all c.loop-entry.entry-index c.args.entries.now (omega (arith, c.loop-entry-test.false)) in
    subst (λ (es : List g.row.G.Denot). All (λ e. IsNamedByText (g.G.NamesGroup.named e)) es) all c.loop-entry.invariant
