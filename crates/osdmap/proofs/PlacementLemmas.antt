-- Pools and rules that are found, and how long a rule's result is.
use Rattle.std.proofs.Common.{◌≡◌, ℕ, ◌≤◌, Bool, true, false, List, [], ◌∷◌, length, length-take, Some, None, IsSome, refl, arith}
use mathlib.Core.Bool.{false≢true}
use Rattle.std.specs.List.{find, list_all, fold}
use Rattle.std.specs.Option.{option_map_or}
use Rattle.std.proofs.lemmas.Grind.{common_steps}
use Rattle.crush.specs.declared.step.Step.{Step}
use Rattle.crush.specs.declared.step.Step.TheVariants.{SetChooseTries, SetChooseleafTries, SetChooseleafVaryR, SetChooseleafStable, Take, Choose as Chooses, Emit}
use Rattle.crush.specs.World.{World}
use Rattle.crush.specs.Run.{Progress, no_progress, after_step, run_of}
use Rattle.maptypes.specs.declared.rules.NumberedRule.{NumberedRule}
use Rattle.maptypes.specs.Pools.{PoolFacts}
use Rattle.maptypes.specs.CrushMaps.{rule_at}
use Rattle.osdmap.specs.Maps.{has_rule, is_kind}

-- what is found passes a test that all pass
pub found_passes : {X : Type 0} (p q : X → Bool) (xs : List X) (x : X) → find p xs ≡ Some x → list_all q xs ≡ true → q x ≡ true
found_passes p q [] x found all = let wrong : None ≡ Some x = found in cc
found_passes p q (y ∷ ys) x found all = grind (arith, common_steps, found_passes p q ys x)

-- a pool that has a rule has one
pub rule_there : (rules : List NumberedRule) (p : PoolFacts) → has_rule rules p ≡ true → IsSome (rule_at rules p.rule)
rule_there rules p has = elim (rule_at rules p.rule) as (λ r. option_map_or (λ x. is_kind x.kind p.kind) r false ≡ true → IsSome r) [
  | None ↦ λ h. absurd (false≢true h)
  | Some r ↦ λ h. refl
] has

-- a rule's result is no longer than the pool's size
short_step : (w : World) (size : ℕ) (s : Progress) (step : Step) → length s.emitted ≤ size → length (after_step w size s step).emitted ≤ size
unfolding after_step
short_step w size s (SetChooseTries n) short = short
short_step w size s (SetChooseleafTries n) short = short
short_step w size s (SetChooseleafVaryR n) short = short
short_step w size s (SetChooseleafStable n) short = short
short_step w size s (Take id) short = short
short_step w size s (Chooses c) short = short
short_step w size s Emit short = simp length-take (omega arith)

-- the steps of a rule place at most the size of the pool
short_steps : (w : World) (size : ℕ) (s : Progress) (steps : List Step) → length s.emitted ≤ size → length (fold (after_step w size) s steps).emitted ≤ size
short_steps w size s [] short = short
short_steps w size s (step ∷ steps) short = short_steps w size (after_step w size s step) steps (short_step w size s step short)

-- so does its run
pub short_run : (w : World) (steps : List Step) (size : ℕ) → length (run_of w steps size) ≤ size
unfolding run_of
short_run w steps size = short_steps w size no_progress steps (omega arith)

-- so it is no longer than what the size is at most
pub short_within : (w : World) (steps : List Step) (size most : ℕ) → size ≤ most → length (run_of w steps size) ≤ most
short_within w steps size most few = omega (arith, short_run w steps size)
