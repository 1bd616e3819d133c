-- What is seen of a row.
use Rattle.std.specs.Prelude.{◌≡◌, ℕ, List, ◌++◌, ◌⊎◌, length, nat_lt, if◌then◌else◌}

-- what contracts see of a pass: the row that it is of, by the names of its cells, and its history, the values that it
-- has seen, in the order of the cells
pub record PassFacts (T : Type 0) : Type 0 where
  pub row : List ℕ
  pub history : List T

-- one list begins another, which goes on with some rest
abbrev pub Begins : {T : Type 0} → List T → List T → Type 0
Begins {T} xs ys = (rest : List T) × (xs ++ rest ≡ ys)

-- one of the two begins the other
abbrev pub OneBegins : {T : Type 0} → List T → List T → Type 0
OneBegins xs ys = Begins xs ys ⊎ Begins ys xs

-- the longer of two lists, and the first where they are equally long
abbrev pub longer : {T : Type 0} → List T → List T → List T
longer xs ys = (if nat_lt (length xs) (length ys) then ys else xs)
