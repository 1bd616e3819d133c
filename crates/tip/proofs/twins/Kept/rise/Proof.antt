-- A count rises by both who know it.
use Rattle.std.proofs.Common.{◌≡◌, ℕ, ◌+◌, List, [], ◌∷◌, refl, sym, w64}
use mir.Syntax.{named}
use mir.Val.{Val, vunit, vint, vptr}
use base.Fraction.{full_share, left, right}
use base.Logic.{SProp, emp}
use base.Fml.{ftrue, flft}
use types.Kit.{drop, rewrite, use0, use2, ‵, raw, ◌⊛◌, later, ◌$◌, ◌∵◌, !, qed, by, keep, split, join, move, fsplit, fsplit3, fjoin, fjoin3, await, feq_i}
use types.Run.{of_opd, unit_lit, returns, enter}
use types.ByLocal.{alloc_all, pass_all, free_all, look_at, sets}
use contract.Monad.{fact, fact_i}
use contract.Running.{tables}
use denote.Exit.{yes}
use denote.RattleType.{RattleType, owns}
use denote.Signature.{types_at, plain}
use denote.Builtin.{u64}
use denote.Plain.{uint_vals, uint_Tells}
use denote.Ref.{mut_vals, mut_Tells}
use denote.Steps.{nothing, heard, opens, closes}
use denote.Triple.Walked.{Stays, stay_ref, stay_dropped, walk_of, Goes-ref, Goes-dropped}
use Rattle.std.proofs.raw_atomic.Walks.{proved, leaves}
use Rattle.tip.specs.Counts.{is_at}
use Rattle.tip.specs.contracts.twins.Kept as Kept
use Rattle.tip.specs.contracts.twins.Mine as Mine
use Rattle.tip.proofs.Tokens.{rises_by_both}
use Rattle.tip.specs.contracts.twins.Kept.rise.{ended, clauses}
use Rattle.tip.specs.contracts.twins.Kept.rise.Key.{name as #self}
use Rattle.tip.proofs.twins.Kept.rise.Statement.{statement}
use Rattle.tip.proofs.twins.Kept.rise.Code as code

-- with both halves a count rises
pub rise_spec : {M : Type 1} → statement M
rise_spec 𝓤 𝓛 𝓜 𝓡 wired =
    let H = 𝓛.H in let 𝓣 = tables 𝓤 H 𝓜 𝓡 𝓡.env in let fn = code.function in let c = clauses 𝓛 𝓜.mem 𝓡.returns in let A : RattleType = Kept.the_row in let B : RattleType = Mine.the_row in
    let hs : Stays ended.signature.params ended.kept = (stay_ref (0 ∷ []) tt (plain (λ _. A)), (stay_ref (1 ∷ []) tt (plain (λ _. B)), (stay_dropped (plain (λ _. u64)) yes, tt))) in
    proved 𝓛 ended hs c 𝓜 𝓡 (Goes-ref 𝓛 2 0 tt (plain (λ _. A)), (Goes-ref 𝓛 2 1 tt (plain (λ _. B)), (Goes-dropped 𝓛 2 (plain (λ _. u64)) yes (λ κs x f. refl), tt))) #self fn (code.unfolded 𝓤 H 𝓜 𝓡 wired)
    (λ κs. (mut_vals, (mut_vals, (uint_vals w64, tt)))) (λ κs. (mut_Tells (named 0) κs.0 A, (mut_Tells (named 1) κs.1.0 B, (uint_Tells w64, tt)))) (λ κs qs bounds a gh are.
    let b : ℕ = a.0.ref_ptr.0 in let o : ℕ = a.0.ref_ptr.1 in let b' : ℕ = a.1.0.ref_ptr.0 in let o' : ℕ = a.1.0.ref_ptr.1 in let h : A.Denot = a.0.now in let g : B.Denot = a.1.0.now in let k : ℕ = a.1.1.0 in
    let h' : A.Denot = record { marker = h.marker; name = h.name; count = h.count + k } in let g' : B.Denot = record { marker = g.marker; name = g.name; count = g.count + k } in let Same : Type 0 = g.name ≡ h.name in
    let y : (walk_of 𝓛 ended hs c).Ghost = ((κs, qs, bounds, a, (vptr b o ∷ [], (vptr b' o' ∷ [], (vint w64 k ∷ [], tt)))), gh) in let Post : Val → SProp 𝓤 = (walk_of 𝓛 ended hs c).post y in
    let A₁ : Type 0 = (h.name ≡ h.name) × (h'.count ≡ h'.count) in let A₂ : Type 0 = (g.name ≡ g.name) × (g'.count ≡ g'.count) in
    qed 𝓛 (((‵ (flft κs.0 qs.0) ⊛ (‵ (flft κs.1.0 qs.1.0) ⊛ ‵ ftrue)) ⊛ ‵ (owns (types_at ended.signature.params κs) a y.0.4)) ∷ raw (fact 𝓤 Same) ∷ []) ∵ move ! (1 ∷ []) $ heard ! Same (λ same. split ! $ split ! $ move ! (1 ∷ []) $ split ! $ move ! (3 ∷ []) $
    -- [what the parameters own; the token of the second; nothing; the token of the first]
    fsplit3 ! $ fsplit3 ! $ drop ! $ move ! (2 ∷ []) $ fsplit3 ! $ drop ! $
    -- [the second's two parts; the first's two parts; the number; the token of the second; nothing; the token of the first]
    keep ! (2 ∷ 3 ∷ 7 ∷ 0 ∷ 1 ∷ 5 ∷ []) $
    enter ! 𝓣.C 𝓣.Λ fn (vptr b o ∷ vptr b' o' ∷ vint w64 k ∷ []) Post $ alloc_all ! (λ l. pass_all ! refl ((tt, tt), ((tt, tt), ((tt, record { fits = are.1.1.0.1 }), tt))) $
    opens ! tt A b o (λ ts. move ! (5 ∷ 6 ∷ 7 ∷ []) $ opens ! tt B b' o' (λ us. move ! (1 ∷ []) $ fsplit ! $ move ! (7 ∷ []) $ fsplit ! $ move ! (1 ∷ 3 ∷ []) $
    rewrite ! 1 (λ (x : ℕ). ‵ (is_at (right full_share) x g.count)) same refl $
    use2 𝓛 (later (‵ (is_at (left full_share) h.name h'.count) ⊛ ‵ (is_at (right full_share) h.name g'.count))) (rises_by_both 𝓛 h.name h.count g.count k) $ await ! tt $ split ! $
    rewrite ! 1 (λ (x : ℕ). ‵ (is_at (right full_share) x g'.count)) (sym same) refl $
    move ! (2 ∷ 0 ∷ []) $ fjoin ! $ move ! (2 ∷ 1 ∷ []) $ fjoin ! $
    move ! (2 ∷ 0 ∷ 3 ∷ 4 ∷ 5 ∷ []) $ closes ! tt B g' us b' o' $ move ! (4 ∷ 3 ∷ 5 ∷ 6 ∷ 7 ∷ []) $ closes ! tt A h' ts b o $
    feq_i ! (List Val) (vptr b o ∷ []) (vptr b o ∷ []) refl $ fjoin3 ! $ move ! (2 ∷ 3 ∷ []) $ feq_i ! (List Val) (vptr b' o' ∷ []) (vptr b' o' ∷ []) refl $ fjoin3 ! $ nothing ! $ nothing ! $ fjoin ! $ move ! (1 ∷ 0 ∷ []) $ fjoin ! $ move ! (1 ∷ []) $ fjoin ! $
    -- [what is left; the token of the first; the token of the second]
    nothing ! $ move ! (3 ∷ 0 ∷ []) $ join ! $ move ! (2 ∷ 0 ∷ []) $ join ! $
    sets ! (of_opd ! (unit_lit !)) refl (tt, tt) $ feq_i ! (List Val) (vunit ∷ []) (vunit ∷ []) refl $
    use0 𝓛 (raw (fact 𝓤 A₂)) (fact_i 𝓤 A₂ (emp 𝓤) (refl, refl)) $ use0 𝓛 (raw (fact 𝓤 A₁)) (fact_i 𝓤 A₁ (emp 𝓤) (refl, refl)) $ join ! $
    returns ! (look_at ! 0 refl) $ free_all ! refl $ keep ! (2 ∷ 3 ∷ 1 ∷ 0 ∷ []) $ by ! (leaves 𝓛 ended hs c y vunit tt (h', (g', (tt, tt))) (tt, (tt, (tt, tt)))))))))
