-- What is made of a value that was read.
use Rattle.std.proofs.Common.{◌≡◌, List, Option, Some, None, refl, ap, ◌∙◌, ◌⊎◌}
use Rattle.json.specs.Token.{Token}
use Rattle.json.specs.Json.{parse_map}
use Rattle.refusal.specs.declared.refused.Refusal.{Refusal}
use Rattle.refusal.specs.declared.refused.Refusal.TheVariants.{BadJson, Memory as OutOfMemory}
use Rattle.jsonstream.proofs.Entries.{mapped_none, still_refused}

-- one thing made of another, at once or in turn
twice : {A B C : Type 0} (f : A → B) (g : B → C) (o : Option (A × List Token)) → parse_map (λ a. g (f a)) o ≡ parse_map g (parse_map f o)
twice f g None = refl
twice f g (Some p) = refl

-- what is made of what was made of something that was read
pub read_on : {A B C : Type 0} (f : A → B) (g : B → C) (o : Option (A × List Token)) (b : B) (r : List Token) → parse_map f o ≡ Some (b, r) → parse_map (λ a. g (f a)) o ≡ Some (g b, r)
read_on f g o b r e = twice f g o ∙ ap (parse_map g) e

-- what refuses one thing refuses another that is made of the same
pub refused_on : {A B C : Type 0} (f : A → B) (h : A → C) (e : Refusal) (o : Option (A × List Token)) → (e ≡ OutOfMemory) ⊎ ((e ≡ BadJson) × (parse_map f o ≡ None)) → (e ≡ OutOfMemory) ⊎ ((e ≡ BadJson) × (parse_map h o ≡ None))
refused_on f h e o refused = still_refused e (parse_map f o) (parse_map h o) (λ none. ap (parse_map h) (mapped_none f o none)) refused

-- what a value that was read states
pub read_is : {A B : Type 0} (f : A → B) (o : Option (A × List Token)) (a : A) (b : B) (r : List Token) → o ≡ Some (a, r) → f a ≡ b → parse_map f o ≡ Some (b, r)
read_is f o a b r e is = ap (parse_map f) e ∙ ap (λ x. Some (x, r)) is
