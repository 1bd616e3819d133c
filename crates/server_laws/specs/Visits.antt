-- What was told of one history, by whom, the last first.
use Rattle.std.specs.Prelude.{◌≡◌, ◌⊎◌, ℕ, List, [], ◌∷◌, ◌++◌, Option, Some, None}

-- a visit of somebody to a history: what he found of it, and what he has put behind that, if anything; else he has
-- looked at it
pub record Visit (X : Type 0) : Type 0 where
  pub by : ℕ
  pub found : List X
  pub made : Option X

-- the history behind a visit
abbrev pub put : {X : Type 0} → List X → Option X → List X
put found None = found
put found (Some x) = found ++ x ∷ []

-- the same, by what the visit has found and put
abbrev pub behind : {X : Type 0} → Visit X → List X
behind v = put v.found v.made

-- one after the other, the visits have made a history of nothing: each finds just what the one before it has left
abbrev pub IsExecution : {X : Type 0} → List X → List (Visit X) → Type 0
IsExecution all [] = all ≡ []
IsExecution all (v ∷ visits) = (behind v ≡ all) × IsExecution v.found visits

-- a visit that puts something behind what it finds is none
abbrev pub PutNothing : {X : Type 0} → List (Visit X) → Type 0
PutNothing [] = Unit {0}
PutNothing (v ∷ visits) = (v.made ≡ None) × PutNothing visits

-- a list has all of two, each in its order
abbrev pub IsMergeOf : {T : Type 0} → List T → List T → List T → Type 0
IsMergeOf xs ys [] = (xs ≡ []) × (ys ≡ [])
IsMergeOf {T} xs ys (z ∷ zs) =
    ((rest : List T) × (xs ≡ z ∷ rest) × IsMergeOf rest ys zs)
    ⊎ ((rest : List T) × (ys ≡ z ∷ rest) × IsMergeOf xs rest zs)

-- a list has all of several, each in its order
abbrev pub IsMergeOfAll : {T : Type 0} → List (List T) → List T → Type 0
IsMergeOfAll [] all = all ≡ []
IsMergeOfAll {T} (xs ∷ xss) all = (rest : List T) × IsMergeOfAll xss rest × IsMergeOf xs rest all
