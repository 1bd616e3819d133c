-- `new` puts the value in. Assumes `Logic`.
use Rattle.std.proofs.Common.{◌≡◌, List, [], ◌∷◌, ◌++◌, refl, sym, subst}
use seplogic.Ra.Ura.{Ura}
use mir.Syntax.{Fn, a_type}
use mir.Val.{Val, vstruct, vcons, vnil}
use mir.MapTy.{inst_fn}
use base.Logic.{SProp, ent, sep, emp}
use base.Fml.{fsep, ftrue}
use prog.Memory.{Memory}
use prog.Routine.{Routine}
use prog.Wp.{Calls, Loops, WpFn}
use types.Logic.{Logic, sem}
use contract.Monad.{Fun, fact, fact_i}
use contract.Running.{tables}
use types.Kit.{‵, raw, ◌⊛◌, ◌$◌, ◌∵◌, !, qed, by, move, keep, split, fsplit, fjoin, done, use0, use1, feq_i, fpack}
use types.Run.{of_opd, returns, enter, and_then, no_more}
use types.ByLocal.{alloc_all, pass_all, free_all, look_at, get, sets}
use types.Part.{agg}
use denote.Exit.{no}
use denote.RattleType.{RattleType, Valss, owns}
use denote.Signature.{plain}
use denote.Steps.{nothing}
use denote.Param.{layout, layouts, param}
use denote.Param.Laws.{param_laws}
use denote.Struct.Struct.{within, as_fields}
use denote.Struct.Owning.{shape}
use denote.Triple.Clauses.{Clauses}
use denote.Triple.Entry.{alive}
use denote.Triple.Walked.{Stays, stay_dropped, walk_of, Goes-dropped}
use Rattle.std.proofs.raw_atomic.Walks.{proved_at, leaves}
use lib.Dec.{T as Holds}
use mir.Syntax.{Ty}
use mir.Val.{WT, has_ty}
use denote.Laws.{Typed}
use Rattle.journalstore.specs.declared.exclusive.Exclusive.TheInside.{Inside}
use Rattle.journalstore.specs.declared.exclusive.Exclusive.TheView.{view, invariant}
use Rattle.journalstore.specs.contracts.exclusive.Exclusive.{the_row}
use Rattle.journalstore.specs.contracts.exclusive.Exclusive.TheInside as inside
use Rattle.journalstore.specs.contracts.exclusive.Exclusive.new.{ended, clauses}
use Rattle.journalstore.specs.contracts.exclusive.Exclusive.new.Key.{name as #self}
use Rattle.journalstore.proofs.exclusive.Exclusive.new.Statement.{statement}
use Rattle.journalstore.proofs.exclusive.Exclusive.new.Code as code

abbrev Good : Ty → Val → Type 0
Good τ v = Holds (has_ty τ v) × WT v

-- where one value of a type is wanted there is just one, and it is of that type
one : (τ : Ty) (vs : List Val) → Typed (τ ∷ []) vs → (v : Val) × (vs ≡ v ∷ []) × Good τ v
one τ [] t = absurd t
one τ (v ∷ []) t = (v, refl, t.0)
one τ (v ∷ w ∷ vs) t = absurd t.1

abbrev round : Val → Val
round v = vstruct (vcons v vnil)

module _ (T : RattleType) where
  abbrev R : RattleType
  R = param 0 T

  abbrev function : Fn
  function = inst_fn (layouts (a_type ∷ []) (T, tt)) code.function

  abbrev stayed : Stays (ended T).signature.params (ended T).kept
  stayed = (stay_dropped (plain (λ _. R)) no, tt)

module _ (T : RattleType) {M : Type 1} {𝓤 : Ura M} (𝓛 : Logic 𝓤) where
  -- the struct of a value
  wraps : (x : T.Denot) (v : Val) → ent 𝓤 (sem 𝓛 ((R T).own_val x (v ∷ []))) (sem 𝓛 ((the_row (R T)).own_val x (round v ∷ [])))
  wraps x v =
      qed 𝓛 (‵ ((R T).own_val x (v ∷ [])) ∷ []) ∵ nothing ! $ move ! (1 ∷ 0 ∷ []) $ fjoin ! $ feq_i ! (List Val) (round v ∷ []) (round v ∷ []) refl $ fjoin ! $
      fpack ! (Valss (R T ∷ [])) (within (shape (inside.the_type (R T))) (x, tt) (round v ∷ [])) (v ∷ [], tt) $
      nothing ! $ move ! (1 ∷ 0 ∷ []) $ fjoin ! $ nothing ! $ move ! (1 ∷ 0 ∷ []) $ fjoin ! $
      fpack ! ((a : Inside T.Denot) × ((view T.Denot a ≡ x) × invariant T.Denot a)) (λ n. fsep ((inside.the_row (R T)).own_val n.0 (round v ∷ [])) ftrue) (record { value = x }, (refl, tt)) $ done !

module _ (T : RattleType) {M : Type 1} {𝓤 : Ura M} (𝓛 : Logic 𝓤) (mem : Memory → SProp 𝓤) (run : Routine → Fun 𝓤) where
  open 𝓛 use {H}

  abbrev held : Clauses 𝓤 (ended T)
  held = clauses T 𝓛 mem run

  module _ (C : Calls 𝓤 H) (Λ : Loops 𝓤 H) (z : (walk_of 𝓛 (ended T) (stayed T) held).Ghost) where
    abbrev At : List Val → (walk_of 𝓛 (ended T) (stayed T) held).Ghost
    At us = ((z.0.0, z.0.1, z.0.2, z.0.3, (us, tt)), z.1)

    abbrev Post : List Val → Val → SProp 𝓤
    Post us = (walk_of 𝓛 (ended T) (stayed T) held).post (At us)

    abbrev Goes : List Val → Type 1
    Goes us = ent 𝓤 ((walk_of 𝓛 (ended T) (stayed T) held).pre (At us)) (WpFn 𝓤 H C Λ (function T) (us ++ []) (Post us))

    -- with the struct of the value as its answer the function has done what its contract says
    exits : (v : Val) → ent 𝓤 (sep 𝓤 (alive 𝓛 (ended T).signature z.0.0 z.0.1) (sem 𝓛 ((the_row (R T)).own_val z.0.3.0 (round v ∷ [])))) (Post (v ∷ []) (round v))
    exits v =
        qed 𝓛 (raw (alive 𝓛 (ended T).signature z.0.0 z.0.1) ∷ ‵ ((the_row (R T)).own_val z.0.3.0 (round v ∷ [])) ∷ []) ∵
        use0 𝓛 (raw (fact 𝓤 (z.0.3.0 ≡ z.0.3.0))) (fact_i 𝓤 (z.0.3.0 ≡ z.0.3.0) (emp 𝓤) refl) $ nothing ! $ nothing ! $ fjoin ! $ keep ! (2 ∷ 0 ∷ 3 ∷ 1 ∷ []) $
        by ! (leaves 𝓛 (ended T) (stayed T) held (At (v ∷ [])) (round v) z.0.3.0 (tt, tt) (tt, tt))

    -- called with a value of the type it comes to that answer
    pub walks : (v : Val) → Good (layout T) v → Goes (v ∷ [])
    walks v g =
        qed 𝓛 ((raw (alive 𝓛 (ended T).signature z.0.0 z.0.1) ⊛ ‵ (owns (R T ∷ []) z.0.3 (v ∷ [], tt))) ∷ raw ((held z.0.0 z.0.3).requires z.1) ∷ []) ∵ split ! $ move ! (1 ∷ []) $ fsplit ! $ keep ! (0 ∷ 2 ∷ []) $
        use1 𝓛 (‵ ((the_row (R T)).own_val z.0.3.0 (round v ∷ []))) (wraps T 𝓛 z.0.3.0 v) $
        enter ! C Λ (function T) (v ∷ []) _ $ alloc_all ! (λ l. pass_all ! refl (g, tt) $
        sets ! (of_opd ! (get ! refl)) refl g $ sets ! (agg ! (and_then ! (get ! refl) (no_more !))) refl (as_fields (layout T ∷ []) (v ∷ []) (g, tt)) $
        returns ! (look_at ! 0 refl) $ free_all ! refl $ keep ! (1 ∷ 0 ∷ []) $ by ! (exits v))

-- so the function meets its contract, whatever the type of its value
pub new_spec : {M : Type 1} → statement M
new_spec 𝓤 𝓛 𝓜 𝓡 wired T L =
    let H = 𝓛.H in let 𝓣 = tables 𝓤 H 𝓜 𝓡 𝓡.env in let En = ended T in let c = clauses T 𝓛 𝓜.mem 𝓡.returns in
    proved_at 𝓛 En (stayed T) c 𝓜 𝓡 (Goes-dropped 𝓛 1 (plain (λ _. R T)) no (λ κs x f. refl), tt) (#self (layouts (a_type ∷ []) (T, tt))) (function T) (code.unfolded 𝓤 H 𝓜 𝓡 wired (T, tt)) (λ z are.
    let got = one (layout T) z.0.4.0 (((param_laws 0 T L).lawful 𝓛).typed z.0.3.0 z.0.4.0 are.0) in
    subst (Goes T 𝓛 𝓜.mem 𝓡.returns 𝓣.C 𝓣.Λ z) (sym got.1) (walks T 𝓛 𝓜.mem 𝓡.returns 𝓣.C 𝓣.Λ z got.0 got.2))
