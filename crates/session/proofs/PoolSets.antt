-- The sets of the groups of a pool, one after another.
use Rattle.std.proofs.Common.{◌≡◌, ◌≢◌, ◌∙◌, ◌++◌, ◌+◌, ◌≤◌, ◌-◌, ◌^◌, ℕ, suc, min, List, [], ◌∷◌, map, nat_lt, Option, None, Some, Result, Ok, Err, IfErr, if◌then◌else◌, inl, inr, refl, sym, ap, append-nil, arith}
use Rattle.std.specs.Prelude.{option_and_then}
use Rattle.std.specs.List.{concat, range_with_len}
use Rattle.std.specs.Result.{IsErrAnd}
use Rattle.std.proofs.lemmas.Bool.{ltb-true}
use Rattle.std.proofs.lemmas.List.Folds.{concat-append}
use Rattle.std.proofs.lemmas.List.FromFn.{map-range_with_len_more}
use Rattle.std.proofs.lemmas.Option.{none-some, same_Some, cond_some}
use Rattle.refusal.specs.declared.refused.Refusal.{Refusal}
use Rattle.refusal.specs.declared.refused.Refusal.TheVariants.{UnknownPool, SeatSpent, Memory as OutOfMemory}
use Rattle.maptypes.specs.Pools.{PoolFacts}
use Rattle.osdmap.specs.Maps.{ClusterMap, pool_at}
use Rattle.osdmap.specs.Placement.{up_set}
use Rattle.monitor.specs.Followers.{Followed}
use Rattle.session.specs.declared.pool_sets.PoolSets.{PoolSets}
use Rattle.session.specs.Texts.{shown_text}
use Rattle.session.specs.PoolSets.{first_sets, pg_num_of, runs_after, FindsSets, RunsForSets}

-- the up set of a group of a pool, where both are there
abbrev pub set_in : ClusterMap → Option PoolFacts → ℕ → Option (List (Option ℕ))
set_in m p n = option_and_then (λ q. if nat_lt n q.pg_num then Some (up_set m q n) else None) p

-- one text more behind those of the first numbers
texts_more : (f : ℕ → List ℕ) (n : ℕ) → concat (map f (range_with_len 0 (n + 1))) ≡ concat (map f (range_with_len 0 n)) ++ f n
texts_more f n =
    ap concat (map-range_with_len_more f 0 n n (omega arith)) ∙ (concat-append (map f (range_with_len 0 n)) (f n ∷ [])
    ∙ ap (λ t. concat (map f (range_with_len 0 n)) ++ t) (append-nil (f n)))

-- the set of one group more
pub sets_more : (m : ClusterMap) (p : Option PoolFacts) (n : ℕ) (set : List (Option ℕ)) → Some set ≡ set_in m p n
    → first_sets m p (n + 1) ≡ first_sets m p n ++ shown_text set
sets_more m None n set is = absurd (none-some set (sym is))
sets_more m (Some p) n set is =
    let (within, same) = cond_some (nat_lt n p.pg_num) (up_set m p n) set (sym is) in
    texts_more (λ k. shown_text (up_set m p k)) n ∙ ap (λ s. first_sets m (Some p) n ++ shown_text s) same

-- a group that has a set is one of the pool
pub group_within : (m : ClusterMap) (p : Option PoolFacts) (n : ℕ) (set : List (Option ℕ)) → Some set ≡ set_in m p n → n + 1 ≤ pg_num_of p
group_within m None n set is = absurd (none-some set (sym is))
group_within m (Some p) n set is =
    let within = ltb-true n p.pg_num (cond_some (nat_lt n p.pg_num) (up_set m p n) set (sym is)).0 in
    omega (arith, within)

-- ---- runs

-- rules were run for the first groups of a pool, and then memory ran out
pub runs_short : (p : Option PoolFacts) (before now more : ℕ) (r : Result PoolSets Refusal) → IsErrAnd r (λ e. e ≡ OutOfMemory) → more ≤ pg_num_of p
    → now ≡ runs_after before more → RunsForSets p before now r
runs_short p before now more (Ok sets) is low same = absurd is
runs_short p before now more (Err e) is low same = (more, low, same)

-- one rule more was run
pub run_more : (first next now : Followed) (n : ℕ) → next ≡ record first { runs = runs_after first.runs n }
    → now ≡ record next { runs = min (next.runs + 1) (2 ^ 64 - 1) } → now ≡ record first { runs = runs_after first.runs (n + 1) }
run_more first next now n same more =
    let one : n + 1 ≡ suc n = omega arith in
    more ∙ rw (same, one) refl

-- ---- refusals

-- a pool that is not there is no spent seat
no_seat : (p : Option PoolFacts) (e : Refusal) → elim p [ None ↦ Some UnknownPool | Some p ↦ None ] ≡ Some e → e ≢ SeatSpent
no_seat None e is seat = let same = same_Some UnknownPool e is ∙ seat in cc
no_seat (Some p) e is seat = none-some e is

-- what is found of sets is never 31
pub sets_unspent : (m : ClusterMap) (pool : ℕ) (r : Result PoolSets Refusal) → FindsSets m pool r → IfErr r (λ e. e ≢ SeatSpent)
sets_unspent m pool (Ok sets) finds = tt
sets_unspent m pool (Err e) (inl (there, memory)) = λ seat. (let same : OutOfMemory ≡ SeatSpent = sym memory ∙ seat in cc)
sets_unspent m pool (Err e) (inr fault) = no_seat (pool_at m.pools pool) e fault
