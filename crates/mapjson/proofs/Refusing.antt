-- A list is refused where one of it is.
use Rattle.std.proofs.Common.{◌≡◌, ◌<◌, ℕ, List, Bool, true, false, length, get_or, ap, Some, None, refl, sym, ◌∙◌}
use Rattle.std.specs.List.{list_all}
use Rattle.refusal.specs.declared.refused.Refusal.{Refusal}
use Rattle.refusal.specs.Outcomes.{refused_unless}
use Rattle.keylist.proofs.Each.{list_all-at}

-- what refuses one of a list refuses the list
pub refused_with_one : {X : Type 0} (p : X → Bool) (xs : List X) (k : ℕ) (d : X) (why e : Refusal) → k < length xs
    → refused_unless (p (get_or xs k d)) why ≡ Some e → refused_unless (list_all p xs) why ≡ Some e
refused_with_one p xs k d why e within one = elim (list_all p xs) as (λ b. list_all p xs ≡ b → refused_unless b why ≡ Some e) [
  | true ↦ λ all. absurd (let wrong : None ≡ Some e = sym (ap (λ b. refused_unless b why) (list_all-at p xs k d within all)) ∙ one in cc)
  | false ↦ λ some. elim (p (get_or xs k d)) as (λ b. refused_unless b why ≡ Some e → Some why ≡ Some e) [
    | true ↦ λ wrong. absurd (let w : None ≡ Some e = wrong in cc)
    | false ↦ λ same. same
  ] one
] refl
