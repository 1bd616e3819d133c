-- Rows that stand for incrementals, one more at a time.
use Rattle.std.proofs.Common.{◌≡◌, ◌∙◌, ℕ, zero, suc, ◌+◌, ◌<◌, List, [], ◌∷◌, ◌++◌, length, take, drop, get_or, refl, sym, ap, subst, arith}
use Rattle.std.proofs.Math.Seq.{take-suc}
use Rattle.mapparts.specs.declared.profile.Profile.{Profile}
use Rattle.maptypes.specs.Incrementals.{Step}
use Rattle.osdmap.specs.Maps.{ClusterMap}
use Rattle.osdmap.specs.Changes.{apply, after}
use Rattle.replay.specs.declared.row.Row.{Row}
use Rattle.replay.specs.Replays.{MakesStep, StandFor}

-- no rows stand for no incrementals
pub none_stand : (profile : Profile) (first : ClusterMap) → StandFor profile first [] []
unfolding StandFor
none_stand profile first = tt

-- the map after one incremental more
pub after_more : (first : ClusterMap) (steps : List Step) (step : Step) → after first (steps ++ step ∷ []) ≡ apply (after first steps) step
after_more first [] step = refl
after_more first (s ∷ steps) step = after_more (apply first s) steps step

-- a row more stands for an incremental more
stand_behind : (profile : Profile) (first : ClusterMap) (rows : List Row) (steps : List Step) (row : Row) (step : Step)
    → StandFor profile first rows steps → MakesStep profile (after first steps) row step
    → StandFor profile first (rows ++ row ∷ []) (steps ++ step ∷ [])
unfolding StandFor
stand_behind profile first [] [] row step stand makes = (makes, tt)
stand_behind profile first [] (s ∷ steps) row step stand makes = absurd stand
stand_behind profile first (r ∷ rows) [] row step stand makes = absurd stand
stand_behind profile first (r ∷ rows) (s ∷ steps) row step stand makes =
    (stand.0, stand_behind profile (apply first s) rows steps row step stand.1 makes)

-- what the rows so far stand for, with the map after it
pub record StandTo (profile : Profile) (first : ClusterMap) (rows : List Row) (m : ClusterMap) : Type 0 where
  pub steps : List Step
  pub stand : StandFor profile first rows steps
  pub map : m ≡ after first steps

-- the first of them
pub stand_first : (profile : Profile) (first : ClusterMap) (rows : List Row) → StandTo profile first (take 0 rows) first
stand_first profile first rows = record { steps = []; stand = none_stand profile first; map = refl }

-- one more of them
pub stand_more : (profile : Profile) (first before now : ClusterMap) (rows : List Row) (at : ℕ) (row : Row) → at < length rows
    → row ≡ get_or rows at row → StandTo profile first (take at rows) before
    → ((step : Step) × MakesStep profile before row step × (now ≡ apply before step)) → StandTo profile first (take (at + 1) rows) now
stand_more profile first before now rows at row within is so_far (step, makes, applied) =
    let there : MakesStep profile (after first so_far.steps) row step = subst (λ m. MakesStep profile m row step) so_far.map makes in
    let more : take (at + 1) rows ≡ take at rows ++ row ∷ [] = next in
    record {
      steps = so_far.steps ++ step ∷ [];
      stand =
          subst (λ rs. StandFor profile first rs (so_far.steps ++ step ∷ [])) (sym more)
          (stand_behind profile first (take at rows) so_far.steps row step so_far.stand there);
      map = applied ∙ ap (λ m. apply m step) so_far.map ∙ sym (after_more first so_far.steps step);
    }
  where
    next : take (at + 1) rows ≡ take at rows ++ row ∷ []
    next =
        let one : suc at ≡ at + 1 = omega arith in
        subst (λ n. take n rows ≡ take at rows ++ row ∷ []) one (take-suc rows at row within ∙ ap (λ r. take at rows ++ r ∷ []) (sym is))

-- the rows before one, itself, and those behind it
pub split_at : (rows : List Row) (at : ℕ) (row : Row) → at < length rows → row ≡ get_or rows at row
    → rows ≡ take at rows ++ row ∷ drop (suc at) rows
split_at [] at row within is = absurd (omega (arith, within))
split_at (r ∷ rows) zero row within is = ap (λ x. x ∷ rows) (sym is)
split_at (r ∷ rows) (suc at) row within is = ap (λ xs. r ∷ xs) (split_at rows at row (omega (arith, within)) is)
