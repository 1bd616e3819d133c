-- What a rule emits is cut at the size of the pool.
use Rattle.std.proofs.Common.{ℕ, ◌≤◌, ◌++◌, length, arith}
use Rattle.std.proofs.lemmas.List.{length-take}
use Rattle.crush.specs.declared.step.Step.{Step}
use Rattle.crush.specs.declared.step.Step.TheVariants.{SetChooseTries, SetChooseleafTries, SetChooseleafVaryR, SetChooseleafStable, Take, Choose as Chooses, Emit}
use Rattle.crush.specs.World.{World}
use Rattle.crush.specs.Run.{Progress, no_progress, after_step, run_of}
use Rattle.crush_laws.specs.Runs.{RunsFit}
use Rattle.crush.proofs.Folds.{fold_keeps}

-- one step
step_fits : (w : World) (size : ℕ) (p : Progress) (step : Step) → length p.emitted ≤ size → length (after_step w size p step).emitted ≤ size
unfolding after_step
step_fits w size p (SetChooseTries n) fits = fits
step_fits w size p (SetChooseleafTries n) fits = fits
step_fits w size p (SetChooseleafVaryR n) fits = fits
step_fits w size p (SetChooseleafStable n) fits = fits
step_fits w size p (Take id) fits = fits
step_fits w size p (Chooses c) fits = fits
step_fits w size p Emit fits = omega (arith, length-take size (p.emitted ++ p.working))

-- so all steps together
pub runs_fit : RunsFit
unfolding run_of
runs_fit w steps size = fold_keeps (λ p. length p.emitted ≤ size) (after_step w size) (λ p step fits. step_fits w size p step fits) no_progress steps (omega arith)
