-- What each step of a fold keeps, the fold keeps.
use Rattle.std.proofs.Common.{List, [], ◌∷◌}
use Rattle.std.specs.List.{fold}

-- a fact of a value
pub fold_keeps : {A B : Type 0} (P : B → Type 0) (f : B → A → B) → ((b : B) (x : A) → P b → P (f b x)) → (b : B) (xs : List A) → P b → P (fold f b xs)
fold_keeps P f step b [] s = s
fold_keeps P f step b (x ∷ xs) s = fold_keeps P f step (f b x) xs (step b x s)
