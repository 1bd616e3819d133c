-- The machine value of a token, how a walk ends, and the ghost steps of a count. Assumes `Logic`.
use Rattle.std.proofs.Common.{◌≡◌, ℕ, ◌+◌, ◌≤◌, [], ◌∷◌, refl, sym, le_refl, arith}
use seplogic.Ra.Ura.{Ura}
use mir.Val.{Val, vstruct, vcons, vnil}
use base.Share
use base.Fraction.{full_share}
use base.Shift.{Keyless}
use base.Logic.{ent, sep, wand, ex, guard, emp, via, apply∗}
use base.Fml.{Lft, Share, Fml, fbor, fshr_bor, flft}
use base.Growing.{numbers, latest, at_least}
use ghost.Rules.{Halves}
use types.Logic.{Logic, sem, lfts}
use types.Owned.{basic}
use types.Growing.{latest_new, latest_grows, latest_shows, latest_bounds, latest_cut, latest_glue, latest_agrees, at_least_dup}
use types.Tokens.{shr_bor-open, obor_close}
use types.Kit.{‵, raw, ◌⊛◌, some, given, later, pick, show, rewrite, ◌$◌, ◌∵◌, !, qed, by, move, keep, drop, split, learn, check, use0, use1, use2, updating, await, now, done}
use denote.RattleType.{RattleType}
use denote.Builtin.{unit}
use denote.Shadow.{makes_shadow}
use denote.Sharing.{said}
use denote.Signature.{type_at}
use denote.Struct.Struct.{Struct}
use denote.Struct.Lending.{Lends}
use denote.Triple.Clauses.{Ended, Clauses, Lasts, at_exit}
use denote.Triple.Entry.{Res, alive}
use denote.Triple.Walked.{Stays, Fit, has_of, walk_of}
use Rattle.std.specs.contracts.marker.PhantomData as marker
use Rattle.std.proofs.raw_atomic.Walks.{leaves}
use Rattle.tip.specs.Counts.{is_at, has_reached}

abbrev pub token : Val
token = vstruct (vcons (vstruct vnil) vnil)

abbrev pub Token : RattleType
Token = Struct record { name = []; args = []; types = []; fields = marker.the_row unit ∷ [] }

-- where a count is says nothing of keys
pub at_keyless : (q : Share) (γ n : ℕ) → Keyless (is_at q γ n)
unfolding latest
at_keyless q γ n = tt

-- nor does what a count has reached
pub reached_keyless : (γ n : ℕ) → Keyless (has_reached γ n)
unfolding at_least
reached_keyless γ n = tt

module _ {M : Type 1} {𝓤 : Ura M} (𝓛 : Logic 𝓤) where
  open 𝓛 use {H, A}

  pub token_made : ent 𝓤 (emp 𝓤) (sem 𝓛 (Token.own_val (record {}, tt) (token ∷ [])))
  token_made = makes_shadow 𝓛 (Token.own_val (record {}, tt) (token ∷ [])) (λ vss. (tt, ((λ uss. (tt, tt)), tt))) ((vstruct vnil ∷ [], tt), (refl, ((tt, (refl, tt)), tt)))

  -- a count begins at 0, and rises
  pub begins : ent 𝓤 (emp 𝓤) (H.⇛ (ex 𝓤 (λ (γ : ℕ). sem 𝓛 (is_at full_share γ 0))))
  begins = via 𝓤 _ (latest_new numbers 𝓛 0) (basic 𝓛 _)

  pub rises : (γ n k : ℕ) → ent 𝓤 (sem 𝓛 (is_at full_share γ n)) (H.⇛ (sem 𝓛 (is_at full_share γ (n + k))))
  rises γ n k = via 𝓤 _ (latest_grows numbers 𝓛 γ n (n + k) (omega arith)) (basic 𝓛 _)

  pub reached_twice : (γ n : ℕ) → ent 𝓤 (sem 𝓛 (has_reached γ n)) (sep 𝓤 (sem 𝓛 (has_reached γ n)) (sem 𝓛 (has_reached γ n)))
  reached_twice γ n = at_least_dup numbers 𝓛 γ n

  halved : (γ n : ℕ) → Halves 𝓤 H A (λ q. is_at q γ n)
  halved γ n = record { cut = λ q. latest_cut numbers 𝓛 q (Share.left q) (Share.right q) γ n (Share.halves q); join = λ q. latest_glue numbers 𝓛 q (Share.left q) (Share.right q) γ n (Share.halves q) }

  -- who has a reference knows that the count has been where it is
  pub sees : (κ : Lft) (q : Share) (γ n : ℕ) → ent 𝓤 (sep 𝓤 (sem 𝓛 (fshr_bor κ (λ r. is_at r γ n))) (A.lft κ q)) (H.⇛ (sep 𝓤 (A.lft κ q) (sem 𝓛 (has_reached γ n))))
  sees κ q γ n = qed 𝓛 (‵ (fshr_bor κ (λ r. is_at r γ n)) ∷ ‵ (flft κ q) ∷ []) ∵ updating ! $ shr_bor-open ! tt (halved γ n) (λ r. move ! (1 ∷ []) $
      use1 𝓛 (‵ (is_at r γ n) ⊛ ‵ (has_reached γ n)) (latest_shows numbers 𝓛 r γ n n (le_refl n)) $ split ! $ move ! (2 ∷ 0 ∷ []) $ obor_close ! tt $ keep ! (1 ∷ 2 ∷ []) $ now ! $ done !)

  -- and that it has not been beyond
  pub bounded : (κ : Lft) (q : Share) (γ n m : ℕ) → ent 𝓤 (sep 𝓤 (sem 𝓛 (fshr_bor κ (λ r. is_at r γ n))) (sep 𝓤 (A.lft κ q) (sem 𝓛 (has_reached γ m)))) (H.⇛ (guard 𝓤 (m ≤ n) (A.lft κ q)))
  bounded κ q γ n m = qed 𝓛 (‵ (fshr_bor κ (λ r. is_at r γ n)) ∷ ‵ (flft κ q) ∷ ‵ (has_reached γ m) ∷ []) ∵ updating ! $ shr_bor-open ! tt (halved γ n) (λ r. move ! (1 ∷ 2 ∷ []) $
      use2 𝓛 (given (m ≤ n) (‵ (is_at r γ n) ⊛ ‵ (has_reached γ m))) (latest_bounds numbers 𝓛 r γ n m) $ learn ! (λ low. split ! $ move ! (2 ∷ 0 ∷ []) $ obor_close ! tt $ keep ! (1 ∷ []) $ now ! $ check ! low $ done !))

  -- two know a count that begins at 0
  abbrev pub Two : ℕ → base.Logic.SProp 𝓤
  Two γ = sep 𝓤 (sem 𝓛 (is_at (Share.left full_share) γ 0)) (sem 𝓛 (is_at (Share.right full_share) γ 0))

  pub begins_twice : ent 𝓤 (emp 𝓤) (H.⇛ (ex 𝓤 Two))
  begins_twice = qed 𝓛 [] ∵ updating ! $ use0 𝓛 (later (some (λ (γ : ℕ). ‵ (is_at full_share γ 0)))) begins $ await ! tt $ pick ! (λ γ.
      use1 𝓛 (‵ (is_at (Share.left full_share) γ 0) ⊛ ‵ (is_at (Share.right full_share) γ 0)) (latest_cut numbers 𝓛 full_share (Share.left full_share) (Share.right full_share) γ 0 (Share.halves full_share)) $
      now ! $ show ! Two γ $ done !)

  -- two who have references know one count
  pub agreed : (κ κ' : Lft) (q q' : Share) (γ n m : ℕ) → ent 𝓤 (sep 𝓤 (sem 𝓛 (fshr_bor κ (λ r. is_at r γ n))) (sep 𝓤 (A.lft κ q) (sep 𝓤 (sem 𝓛 (fshr_bor κ' (λ r. is_at r γ m))) (A.lft κ' q')))) (H.⇛ (guard 𝓤 (m ≡ n) (sep 𝓤 (A.lft κ q) (A.lft κ' q'))))
  agreed κ κ' q q' γ n m = qed 𝓛 (‵ (fshr_bor κ (λ r. is_at r γ n)) ∷ ‵ (flft κ q) ∷ ‵ (fshr_bor κ' (λ r. is_at r γ m)) ∷ ‵ (flft κ' q') ∷ []) ∵ updating ! $
      shr_bor-open ! tt (halved γ n) (λ r. move ! (2 ∷ 3 ∷ []) $ shr_bor-open ! tt (halved γ m) (λ s. move ! (3 ∷ 1 ∷ []) $
      use2 𝓛 (given (n ≡ m) (‵ (is_at r γ n) ⊛ ‵ (is_at s γ m))) (latest_agrees numbers 𝓛 r s γ n m) $ learn ! (λ same. split ! $ move ! (3 ∷ 0 ∷ []) $ obor_close ! tt $ move ! (3 ∷ 2 ∷ []) $ obor_close ! tt $ keep ! (3 ∷ 1 ∷ []) $
      now ! $ check ! (sym same) $ done !)))

  -- it rises by both
  pub rises_by_both : (γ n m k : ℕ) → ent 𝓤 (sep 𝓤 (sem 𝓛 (is_at (Share.left full_share) γ n)) (sem 𝓛 (is_at (Share.right full_share) γ m))) (H.⇛ (sep 𝓤 (sem 𝓛 (is_at (Share.left full_share) γ (n + k))) (sem 𝓛 (is_at (Share.right full_share) γ (m + k)))))
  rises_by_both γ n m k = let l : Share = Share.left full_share in let r : Share = Share.right full_share in
      qed 𝓛 (‵ (is_at l γ n) ∷ ‵ (is_at r γ m) ∷ []) ∵ updating ! $ use2 𝓛 (given (n ≡ m) (‵ (is_at l γ n) ⊛ ‵ (is_at r γ m))) (latest_agrees numbers 𝓛 l r γ n m) $ learn ! (λ same. split ! $
      rewrite ! 1 (λ (x : ℕ). ‵ (is_at r γ x)) (sym same) refl $ use2 𝓛 (‵ (is_at full_share γ n)) (latest_glue numbers 𝓛 full_share l r γ n (Share.halves full_share)) $
      use1 𝓛 (later (‵ (is_at full_share γ (n + k)))) (rises γ n k) $ await ! tt $ use1 𝓛 (‵ (is_at l γ (n + k)) ⊛ ‵ (is_at r γ (n + k))) (latest_cut numbers 𝓛 full_share l r γ (n + k) (Share.halves full_share)) $ split ! $
      rewrite ! 1 (λ (x : ℕ). ‵ (is_at r γ (x + k))) same refl $ now ! $ done !)

-- what may be said twice can be lent and kept
pub lends_twice : {M : Type 1} {𝓤 : Ura M} (𝓛 : Logic 𝓤) (P : Fml) → ent 𝓤 (sem 𝓛 P) (sep 𝓤 (sem 𝓛 P) (sem 𝓛 P)) → (l : Lft) → Lends 𝓛 P (said P) l
lends_twice {𝓤 = 𝓤} 𝓛 P twice l κ ts inc sp = let Back = 𝓛.H.⇛ (sep 𝓤 (𝓛.A.bor κ P) (lfts 𝓛 ts)) in
    qed 𝓛 (‵ (fbor κ P) ∷ raw (lfts 𝓛 ts) ∷ []) ∵ updating ! $ use2 𝓛 (later (‵ P ⊛ raw (wand 𝓤 (sem 𝓛 P) Back))) (𝓛.more.bor_acc_by κ ts P sp) $ await ! tt $ split ! $ use1 𝓛 (‵ P ⊛ ‵ P) twice $ split ! $ move ! (0 ∷ 2 ∷ []) $
    use2 𝓛 (later (‵ (fbor κ P) ⊛ raw (lfts 𝓛 ts))) (apply∗ 𝓤 (sem 𝓛 P) Back) $ await ! tt $ split ! $ drop ! $ move ! (1 ∷ 0 ∷ []) $ now ! $ done !

-- how a call ends whose parameters stay what they are
pub ends : {M : Type 1} {𝓤 : Ura M} (𝓛 : Logic 𝓤) (T : Ended) (hs : Stays T.signature.params T.kept) (c : Clauses 𝓤 T) (y : (walk_of 𝓛 T hs c).Ghost) (v : Val) (r : Res T.signature y.0.0) (ws : Lasts T y.0.0 y.0.3)
    → Fit T hs y.0.0 y.0.3 ws → ent 𝓤 (emp 𝓤) ((c y.0.0 y.0.3).ensures y.1 r (at_exit T y.0.0 y.0.3 ws))
    → ent 𝓤 (sep 𝓤 (alive 𝓛 T.signature y.0.0 y.0.1) (sep 𝓤 (sem 𝓛 (has_of y.0.0 T.signature.params T.kept hs y.0.3 ws y.0.4)) (sem 𝓛 ((type_at T.signature.result y.0.0).own_val r (v ∷ []))))) ((walk_of 𝓛 T hs c).post y v)
ends 𝓛 T hs c y v r ws fit told = qed 𝓛 (raw (alive 𝓛 T.signature y.0.0 y.0.1) ∷ ‵ (has_of y.0.0 T.signature.params T.kept hs y.0.3 ws y.0.4) ∷ ‵ ((type_at T.signature.result y.0.0).own_val r (v ∷ [])) ∷ []) ∵
    use0 𝓛 (raw ((c y.0.0 y.0.3).ensures y.1 r (at_exit T y.0.0 y.0.3 ws))) told $ move ! (1 ∷ 2 ∷ 3 ∷ []) $ by ! (leaves 𝓛 T hs c y v r ws fit)
