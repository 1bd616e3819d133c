use Rattle.std.proofs.Common.{◌≡◌, ◌∙◌, sym, subst, ℕ, pos, Some, rules}
use mir.Syntax.{w32}
use mir.Val.{SFits}
use Rattle.std.proofs.lemmas.Int.{to_z-of_z}
use Rattle.crush.specs.Paths.{ancestor_of}
use Rattle.upmap_cleanup.specs.Reading.{holder}
use Rattle.upmap_cleanup.proofs.reading.Reading.holder.Goals as goal

pub returns-in-Some-ancestor_of_device : goal.returns-in-Some-ancestor_of_device
unfolding holder
returns-in-Some-ancestor_of_device c =
    let fits : SFits w32 c.in-Some-ancestor_of_device.id = search rules in
    let wide : c.from.result ≡ c.in-Some.osd = search rules in
    let there : ancestor_of c.args.self.now.forest.now (pos c.from.result) c.args.level ≡ Some c.in-Some-ancestor_of_device.id =
    sym c.ancestor_of_device.ensures ∙ c.in-Some-ancestor_of_device.is in
    let found : ancestor_of c.args.self.now.forest.now (pos c.in-Some.osd) c.args.level ≡ Some c.in-Some-ancestor_of_device.id =
    subst (λ (n : ℕ). ancestor_of c.args.self.now.forest.now (pos n) c.args.level ≡ Some c.in-Some-ancestor_of_device.id) wide there in
    rw (c.in-Some.is, found) (rw (to_z-of_z w32 c.in-Some-ancestor_of_device.id fits) at c.within.ensures)
