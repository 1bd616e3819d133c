-- What a line that is not empty takes, from what its command answers; and which lines are empty.
use Rattle.std.proofs.Common.{◌≡◌, ◌∙◌, ◌==◌, ◌<◌, ℕ, Bool, true, false, List, [], ◌∷◌, length, sym, refl, arith}
use Rattle.std.proofs.lemmas.Bool.{eqb-true}
use Rattle.session.specs.Transcripts.{Manner, TakesLine}

-- a line that is not empty is let through, and is then answered as its command
pub takes_line : {S : Type 0} (m : Manner S) (number : ℕ) (before left : S) (line answer : List ℕ) → 0 < length line
    → m.lets number true → m.answers before line answer left → TakesLine m number before line answer left
takes_line m number before left [] answer some lets answered = absurd (omega arith)
takes_line m number before left (c ∷ cs) answer some lets answered = (lets, answered)

-- a text that tests as not empty
pub some_text : (text : List ℕ) (test : Bool) → test ≡ (length text == 0) → test ≡ false → 0 < length text
some_text [] test is fails =
    let bad : true ≡ false = sym is ∙ fails in
    cc
some_text (c ∷ cs) test is fails = omega arith

-- one that tests as empty
pub no_text : (text : List ℕ) (test : Bool) → test ≡ (length text == 0) → test ≡ true → text ≡ []
no_text [] test is holds = refl
no_text (c ∷ cs) test is holds =
    absurd (omega (arith, eqb-true (length (c ∷ cs)) 0 (sym is ∙ holds)))
