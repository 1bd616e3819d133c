-- Lists that pass a test.
use Rattle.std.proofs.Common.{All, IsTrue, true, ◌≡◌, Bool, List}
use Rattle.std.specs.List.{list_all}
use Rattle.std.proofs.lemmas.List.Sums.{AllPass-from_list_all}

-- what passes a test element by element
pub all_from_test : {X : Type 0} (test : X → Bool) (xs : List X) → list_all test xs ≡ true → All (λ x. IsTrue (test x)) xs
all_from_test test xs h = AllPass-from_list_all test xs h
