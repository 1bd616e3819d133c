-- What is out at a writer.
use Rattle.std.specs.Prelude.{◌≡◌, ◌==◌, ℕ, Bool, nat_le, not, List, ◌++◌, Option, Some}

-- the writer has these bytes behind those that it had at first, where its contents are known
abbrev pub IsPutOut : List ℕ → Option (List ℕ) → Option (List ℕ) → Type 0
IsPutOut bytes first now = (xs : List ℕ) → first ≡ Some xs → now ≡ Some (xs ++ bytes)

-- so many bytes that are not out make a sink full
abbrev pub full_out : ℕ
full_out = 65536

-- some of so many bytes are there
abbrev pub are_there : ℕ → Bool
are_there n = not (n == 0)

-- they are as many as make a sink full
abbrev pub are_many : ℕ → Bool
are_many n = nat_le full_out n
