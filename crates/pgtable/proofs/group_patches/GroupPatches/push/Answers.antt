use Rattle.std.proofs.Common.{◌≡◌, ◌∙◌, ◌+◌, ◌-◌, ◌++◌, ◌∷◌, [], sym, ap, length, replicate, None, arith}
use Rattle.pgtable.specs.Patches.{patches_of}
use Rattle.pgtable.proofs.PoolPatches.{patches_long}
use Rattle.pgtable.proofs.group_patches.GroupPatches.push.Goals as goal

pub overflow_add-self : goal.overflow_add-self
overflow_add-self c = omega (arith, patches_long c.args.self.now.some.items c.args.self.now.count, c.requires)

pub skip_to-requires : goal.skip_to-requires
skip_to-requires c = omega (arith, patches_long c.args.self.now.some.items c.args.self.now.count)

pub returns-in-None : goal.returns-in-None
returns-in-None c =
    let one : c.args.self.now.count + 1 - length (patches_of c.args.self.now) ≡ 1 = omega (arith, patches_long c.args.self.now.some.items c.args.self.now.count) in
    c.skip_to.ensures ∙ ap (λ n. patches_of c.args.self.now ++ replicate n None) one ∙ ap (λ p. patches_of c.args.self.now ++ p ∷ []) (sym c.in-None.is)
