use Rattle.std.proofs.Common.{◌≡◌, ◌∙◌, sym, subst, length}
use Rattle.pgtable.specs.Patches.{FitGroups}
use Rattle.pgtable.specs.PoolPatches.{patches_by, AreBelow}
use Rattle.pgtable.proofs.PoolPatches.{patches_long}
use Rattle.pgtable.proofs.install.install_all.Goals as goal

pub install_some-requires-clause-below : goal.install_some-requires-clause-below
install_some-requires-clause-below c =
    let long : c.args.patches.count ≡ length c.args.pools.now = sym (patches_long c.args.patches.some.items c.args.patches.count) ∙ c.requires.same in
    subst (AreBelow c.args.patches.some.items) long c.args.patches.below

pub install_some-requires-clause-fit : goal.install_some-requires-clause-fit
install_some-requires-clause-fit c =
    let long : c.args.patches.count ≡ length c.args.pools.now = sym (patches_long c.args.patches.some.items c.args.patches.count) ∙ c.requires.same in
    subst (λ n. FitGroups c.args.pools.now (patches_by c.args.patches.some.items n)) long c.requires

pub returns : goal.returns
returns c =
    let long : c.args.patches.count ≡ length c.args.pools.now = sym (patches_long c.args.patches.some.items c.args.patches.count) ∙ c.requires.same in
    rw long c.install_some.ensures
