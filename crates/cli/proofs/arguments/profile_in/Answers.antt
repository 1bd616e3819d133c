use Rattle.std.proofs.Common.{◌≡◌, ◌∙◌, true, false, codes, refl, sym}
use Rattle.clap.specs.Matches.{found_of}
use Rattle.clap.proofs.WalkLemmas.{one_text-rows}
use Rattle.mapparts.specs.declared.profile.Profile.TheVariants.{Plain, Stock}
use Rattle.cli.proofs.arguments.profile_in.Goals as goal

pub returns-then-get_flag : goal.returns-then-get_flag
returns-then-get_flag c Stock found = refl
returns-then-get_flag c Plain found =
    let bad : true ≡ false = sym c.if-get_flag.true ∙ c.get_flag.ensures.other (one_text-rows (found_of c.args.matches.now) (codes "stock") ∙ found) in
    absurd (cc)

pub returns-else-get_flag : goal.returns-else-get_flag
returns-else-get_flag c Plain found = refl
returns-else-get_flag c Stock found =
    let bad : true ≡ false = sym (c.get_flag.ensures.value (one_text-rows (found_of c.args.matches.now) (codes "stock") ∙ found)) ∙ c.if-get_flag.false in
    absurd (cc)
