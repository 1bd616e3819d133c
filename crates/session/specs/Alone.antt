-- What the answers of a session tell of its history.
use Rattle.std.specs.Prelude.{◌≡◌, ◌⊎◌, ℕ, List, [], ◌∷◌}
use Rattle.maptypes.specs.Incrementals.{Step}
use Rattle.session.specs.Texts.{ok_text, moved_text}

-- an answer tells of an incremental, by its epoch: `ok EPOCH evals N` or `moved N epoch EPOCH`
abbrev pub IsToldIn : Step → List ℕ → Type 0
IsToldIn step answer = (count : ℕ) × ((answer ≡ ok_text step.epoch count) ⊎ (answer ≡ moved_text count step.epoch))

-- each of the incrementals is told of in an answer of its own, in their order
abbrev pub TellOf : List (List ℕ) → List Step → Type 0
TellOf [] steps = steps ≡ []
TellOf (answer ∷ answers) steps =
    TellOf answers steps
    ⊎ ((step : Step) × (others : List Step) × (steps ≡ step ∷ others) × IsToldIn step answer × TellOf answers others)
