-- Entries put into a list with rising keys, which so is a finite map.
use Rattle.std.specs.Prelude.{◌≡◌, ℕ, ◌+◌, ◌<◌, ◌≤◌, ◌==◌, nat_lt, List, [], ◌∷◌, ◌++◌, take, length, if◌then◌else◌}
use Rattle.std.specs.List.{fold}
use Rattle.keylist.specs.Order.{IsRising}

-- an entry goes to the place of its key, instead of one that has this key
unfoldable pub put : {X : Type 0} → (X → ℕ) → List X → X → List X
put key [] e = e ∷ []
put key (x ∷ xs) e = if nat_lt (key x) (key e) then x ∷ put key xs e else if key x == key e then e ∷ xs else e ∷ x ∷ xs

-- what comes last of two lists made one, how many of the old are left then, and what is left of the new; it stands here
-- because the clause of a private step of the merge speaks of it
pub record ComesLast {X : Type 0} (key : X → ℕ) (old new : List X) (x : X) (left : ℕ) (news : List X) : Type 0 where
  pub made : fold (put key) old new ≡ fold (put key) (take left old) news ++ x ∷ []
  pub old_rises : IsRising key (take left old)
  pub new_rises : IsRising key news
  pub some : left ≤ length old
  pub fewer : left + length news < length old + length new
