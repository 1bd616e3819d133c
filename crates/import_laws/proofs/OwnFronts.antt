-- The steps at the front of a map's rule, which stand for the tunables of the cluster's own map.
use Rattle.std.proofs.Common.{◌≡◌, ℕ, ◌+◌, ◌||◌, Bool, true, false, not, cond, eqb, List, [], ◌++◌, map, inl, inr, ap, refl, ◌∙◌, arith}
use Rattle.std.specs.List.{fold}
use Rattle.std.specs.Option.{option_to_list}
use Rattle.std.proofs.lemmas.Bool.{cases_Bool}
use Rattle.std.proofs.lemmas.Bool.Decides.{nat_tests}
use Rattle.std.proofs.lemmas.List.{map-append}
use Rattle.std.proofs.lemmas.List.Sums.{fold-append}
use Rattle.crush.specs.declared.choose.Tries.{Tries}
use Rattle.crush.specs.Run.{Progress, no_progress, after_step}
use Rattle.crush.specs.World.{World}
use Rattle.mapparts.specs.declared.parts.StepPart.{StepPart}
use Rattle.maptypes.specs.Values.{step_of}
use Rattle.cephmap.specs.declared.crush.Tunables.{Tunables}
use Rattle.cephmap.specs.declared.rule.Step.{Step}
use Rattle.cephimport.specs.declared.tuned.Tuned.{Tuned}
use Rattle.cephimport.specs.declared.tuned.Tuned.TheVariants as tuned
use Rattle.cephimport.specs.Tuned.{own, usual, looks, sets_first, front_step, front}
use Rattle.import_laws.specs.Own.{own_tries}
use Rattle.import_laws.proofs.OwnTries.{AreUnset}

-- a tunable needs no step at the front
abbrev is_settled : Tuned → Tunables → List Step → Bool
is_settled t tunables steps = eqb (own t tunables) (usual t) || sets_first t steps || not (looks t steps)

-- how rules try behind the front
abbrev pub front_tries : Tunables → List Step → Tries
front_tries t steps = record {
  total = cond (is_settled tuned.Tries t steps) 51 (t.choose_total_tries + 1);
  leaf = 1;
  vary = cond (is_settled tuned.VaryR t steps) 1 t.chooseleaf_vary_r;
  stable = cond (is_settled tuned.Stable t steps) 1 t.chooseleaf_stable;
}

-- before anything is taken
abbrev pub at_front : Tries → Progress
at_front tries = record { tries = tries; working = []; emitted = [] }

-- what the steps of a map make of progress
abbrev pub run_parts : World → ℕ → Progress → List StepPart → Progress
run_parts v size q steps = fold (after_step v size) q (map step_of steps)

-- one after another
pub parts_append : (v : World) (size : ℕ) (q : Progress) (xs ys : List StepPart) → run_parts v size q (xs ++ ys) ≡ run_parts v size (run_parts v size q xs) ys
parts_append v size q xs ys = ap (fold (after_step v size) q) (map-append step_of xs ys) ∙ fold-append (after_step v size) q (map step_of xs) (map step_of ys)

-- the step for the tries of choices
total_front : (v : World) (size : ℕ) (t : Tunables) (steps : List Step) (tries : Tries) → tries.total ≡ 51 → run_parts v size (at_front tries) (option_to_list (front_step tuned.Tries t steps)) ≡ at_front (record tries { total = cond (is_settled tuned.Tries t steps) 51 (t.choose_total_tries + 1) })
unfolding front_step after_step
total_front v size t steps tries e = elim (cases_Bool (is_settled tuned.Tries t steps)) [
  | inl settled ↦ rw settled (ap (λ n. at_front (record tries { total = n })) e)
  | inr not_so ↦ rw not_so refl
]

-- the step for `chooseleaf_vary_r`
vary_front : (v : World) (size : ℕ) (t : Tunables) (steps : List Step) (tries : Tries) → tries.vary ≡ 1 → run_parts v size (at_front tries) (option_to_list (front_step tuned.VaryR t steps)) ≡ at_front (record tries { vary = cond (is_settled tuned.VaryR t steps) 1 t.chooseleaf_vary_r })
unfolding front_step after_step
vary_front v size t steps tries e = elim (cases_Bool (is_settled tuned.VaryR t steps)) [
  | inl settled ↦ rw settled (ap (λ n. at_front (record tries { vary = n })) e)
  | inr not_so ↦ rw not_so refl
]

-- the step for `chooseleaf_stable`
stable_front : (v : World) (size : ℕ) (t : Tunables) (steps : List Step) (tries : Tries) → tries.stable ≡ 1 → run_parts v size (at_front tries) (option_to_list (front_step tuned.Stable t steps)) ≡ at_front (record tries { stable = cond (is_settled tuned.Stable t steps) 1 t.chooseleaf_stable })
unfolding front_step after_step
stable_front v size t steps tries e = elim (cases_Bool (is_settled tuned.Stable t steps)) [
  | inl settled ↦ rw settled (ap (λ n. at_front (record tries { stable = n })) e)
  | inr not_so ↦ rw not_so refl
]

-- all of them
pub front_is : (v : World) (size : ℕ) (t : Tunables) (steps : List Step) → run_parts v size no_progress (front t steps) ≡ at_front (front_tries t steps)
unfolding front
front_is v size t steps =
    let first = option_to_list (front_step tuned.Tries t steps) in
    let second = option_to_list (front_step tuned.VaryR t steps) in
    let third = option_to_list (front_step tuned.Stable t steps) in
    let total = cond (is_settled tuned.Tries t steps) 51 (t.choose_total_tries + 1) in
    let vary = cond (is_settled tuned.VaryR t steps) 1 t.chooseleaf_vary_r in
    parts_append v size no_progress (first ++ second) third
    ∙ ap (λ q. run_parts v size q third) (parts_append v size no_progress first second
    ∙ ap (λ q. run_parts v size q second) (total_front v size t steps (record { total = 51; leaf = 1; vary = 1; stable = 1 }) refl))
    ∙ ap (λ q. run_parts v size q third) (vary_front v size t steps (record { total = total; leaf = 1; vary = 1; stable = 1 }) refl)
    ∙ stable_front v size t steps (record { total = total; leaf = 1; vary = vary; stable = 1 }) refl

-- a tunable that the rule looks at and does not set first is the usual one, or it has a step
is_own : (n usual_n : ℕ) (first look : Bool) → first ≡ false → look ≡ true → n ≡ cond (eqb n usual_n || first || not look) usual_n n
is_own n usual_n first look not_so is_so = grind (arith, nat_tests, not_so, is_so)

-- so the rule tries as the cluster's own does, but for what its steps set first
pub front_unset : (t : Tunables) (steps : List Step) → AreUnset steps (own_tries t) (front_tries t steps)
front_unset t steps = record {
  leaf = refl;
  total = λ not_so. elim (cases_Bool (eqb t.choose_total_tries 50)) [
    | inl same ↦ (let n : t.choose_total_tries ≡ 50 = grind (arith, nat_tests, same) in rw same (ap (λ m. m + 1) n))
    | inr other ↦ rw other (rw not_so refl)
  ];
  vary = λ not_so look. is_own t.chooseleaf_vary_r 1 (sets_first tuned.VaryR steps) (looks tuned.VaryR steps) not_so look;
  stable = λ not_so look. is_own t.chooseleaf_stable 1 (sets_first tuned.Stable steps) (looks tuned.Stable steps) not_so look;
}
