-- Two know one count.
use Rattle.std.proofs.Common.{◌≡◌, ℕ, List, [], ◌∷◌, refl}
use mir.Syntax.{named}
use mir.Val.{Val, vunit, vptr}
use base.Logic.{SProp, emp}
use base.Fml.{ftrue, flft, fshr_bor}
use types.Kit.{‵, raw, ◌⊛◌, given, later, ◌$◌, ◌∵◌, !, qed, by, keep, drop, split, join, move, fsplit, fsplit3, fjoin, learn, use3, await, rewrite, feq_i}
use types.Run.{of_opd, unit_lit, returns, enter}
use types.ByLocal.{alloc_all, pass_all, free_all, look_at, sets}
use contract.Monad.{fact, fact_i}
use contract.Running.{tables}
use denote.Exit.{yes}
use denote.RattleType.{owns}
use denote.Signature.{types_at, plain}
use denote.Builtin.{RefOf}
use denote.Ref.{shr_vals, shr_Tells}
use denote.Opens.{unhide}
use denote.Steps.{nothing, heard}
use denote.Triple.Walked.{Stays, stay_dropped, walk_of, Goes-dropped}
use Rattle.std.proofs.raw_atomic.Walks.{proved}
use Rattle.tip.specs.Counts.{is_at}
use Rattle.tip.specs.contracts.twins.Kept as Kept
use Rattle.tip.specs.contracts.twins.Mine as Mine
use Rattle.tip.proofs.Tokens.{agreed, ends}
use Rattle.tip.specs.contracts.twins.Kept.agrees.{ended, clauses}
use Rattle.tip.specs.contracts.twins.Kept.agrees.Key.{name as #self}
use Rattle.tip.proofs.twins.Kept.agrees.Statement.{statement}
use Rattle.tip.proofs.twins.Kept.agrees.Code as code

-- both halves know one count
pub agrees_spec : {M : Type 1} → statement M
agrees_spec 𝓤 𝓛 𝓜 𝓡 wired =
    let H = 𝓛.H in let 𝓣 = tables 𝓤 H 𝓜 𝓡 𝓡.env in let fn = code.function in let c = clauses 𝓛 𝓜.mem 𝓡.returns in
    let self = RefOf (0 ∷ []) tt (plain (λ _. Kept.the_row)) (λ _. tt) in let other = RefOf (1 ∷ []) tt (plain (λ _. Mine.the_row)) (λ _. tt) in
    let hs : Stays ended.signature.params ended.kept = (stay_dropped self yes, (stay_dropped other yes, tt)) in
    proved 𝓛 ended hs c 𝓜 𝓡 (Goes-dropped 𝓛 2 self yes (λ κs x f. refl), (Goes-dropped 𝓛 2 other yes (λ κs x f. refl), tt)) #self fn (code.unfolded 𝓤 H 𝓜 𝓡 wired)
    (λ κs. (shr_vals, (shr_vals, tt))) (λ κs. (shr_Tells (named 0) κs.0 Kept.the_row, (shr_Tells (named 1) κs.1.0 Mine.the_row, tt))) (λ κs qs bounds a gh are.
    let p : Val = vptr a.0.ref_ptr.0 a.0.ref_ptr.1 in let p' : Val = vptr a.1.0.ref_ptr.0 a.1.0.ref_ptr.1 in let me = a.0.now in let it = a.1.0.now in let Same : Type 0 = it.name ≡ me.name in let Low : Type 0 = it.count ≡ me.count in
    let y : (walk_of 𝓛 ended hs c).Ghost = ((κs, qs, bounds, a, (p ∷ [], (p' ∷ [], tt))), gh) in let Post : Val → SProp 𝓤 = (walk_of 𝓛 ended hs c).post y in
    qed 𝓛 (((‵ (flft κs.0 qs.0) ⊛ (‵ (flft κs.1.0 qs.1.0) ⊛ ‵ ftrue)) ⊛ ‵ (owns (types_at ended.signature.params κs) a y.0.4)) ∷ raw (fact 𝓤 Same) ∷ []) ∵ move ! (1 ∷ []) $ heard ! Same (λ same. split ! $ split ! $ move ! (1 ∷ []) $ split ! $ move ! (3 ∷ []) $
    -- [what the parameters own; the token of the second; nothing; the token of the first]
    fsplit3 ! $ fsplit ! $ move ! (2 ∷ []) $ fsplit ! $ keep ! (1 ∷ 3 ∷ 5 ∷ 6 ∷ 7 ∷ []) $ unhide ! $ fsplit ! $ drop ! $ rewrite ! 0 (λ (k : ℕ). ‵ (fshr_bor κs.1.0 (λ r. is_at r k it.count))) same refl $
    move ! (1 ∷ []) $ unhide ! $ fsplit ! $ drop ! $ move ! (1 ∷ 2 ∷ []) $ join ! $ move ! (1 ∷ 3 ∷ 0 ∷ []) $
    enter ! 𝓣.C 𝓣.Λ fn (p ∷ p' ∷ []) Post $ alloc_all ! (λ l. pass_all ! refl ((tt, tt), ((tt, tt), tt)) $
    use3 𝓛 (later (given Low (‵ (flft κs.0 qs.0) ⊛ ‵ (flft κs.1.0 qs.1.0)))) (agreed 𝓛 κs.0 κs.1.0 qs.0 qs.1.0 me.name me.count it.count) $ await ! tt $ learn ! (λ low. split ! $ move ! (1 ∷ 2 ∷ []) $ join ! $ move ! (1 ∷ 0 ∷ []) $ join ! $
    sets ! (of_opd ! (unit_lit !)) refl (tt, tt) $ feq_i ! (List Val) (vunit ∷ []) (vunit ∷ []) refl $ nothing ! $ nothing ! $ fjoin ! $ nothing ! $ fjoin ! $
    returns ! (look_at ! 0 refl) $ free_all ! refl $ keep ! (2 ∷ 0 ∷ 1 ∷ []) $ by ! (ends 𝓛 ended hs c y vunit tt (tt, (tt, tt)) (tt, (tt, tt)) (fact_i 𝓤 _ (emp 𝓤) low))))))
