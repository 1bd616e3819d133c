-- What seats know of a list of events, once it has gone on by one.
use Rattle.std.proofs.Common.{◌≡◌, ◌≢◌, ◌⊎◌, ℕ, zero, suc, ◌<◌, ◌≤◌, ◌==◌, List, [], ◌∷◌, ◌++◌, length, map, set, sym, refl, ap, subst, ◌∙◌, inl, inr, ⊎_elim, append_assoc, append-nil, length-set, length-append, Bool, if◌then◌else◌, eq-eqb, ne_eqb, arith}
use mathlib.Core.Option.{some, some-injective, some-ne-none}
use mathlib.Core.Logic.{dite}
use native.Mathlib.Decide.{ℕ_discrete}
use lib.ListN.{get_elem?}
use Rattle.atomic_table.proofs.Lists.{at_set, at_map, set_here}
use Rattle.ticketlock.specs.declared.view.View.{View}
use Rattle.ticketlock.specs.declared.view.Step.{Step}
use Rattle.ticketlock.specs.declared.view.Event.{Event}
use Rattle.ticketlock.specs.declared.view.Event.TheVariants.{Took, CutOff}
use Rattle.ticketlock.specs.declared.view.Sight.{Sight}
use Rattle.ticketlock.specs.Rule.{LockWorld, Takes, newcomer}
use Rattle.ticketlock.specs.Places.{sight_cut, unseeing}
use Rattle.ticketlock.specs.Traces.{view_in, steps_by, IsBeginning, IsKnownTo, AreKnown, IsReachedBy, KnowsRun, HasTaken, IsFrom, HasTakenSome}
use Rattle.ticketlock.proofs.Runs.{alone_writes}
use Rattle.ticketlock.proofs.Traced.{reached_keeps, within}

-- one step more of a seat is one more of its own
own_more : (seat : ℕ) (events : List Event) (s : Step) → steps_by seat (events ++ Took s seat ∷ []) ≡ steps_by seat events ++ s ∷ []
own_more seat [] s = ap (λ (b : Bool). if b then s ∷ [] else []) (eq-eqb seat seat refl)
own_more seat (Took r k ∷ events) s = dite (ℕ_discrete k seat)
    (λ same. let b = eq-eqb k seat same in rw b (ap (λ (l : List Step). r ∷ l) (own_more seat events s)))
    (λ other. let b = ne_eqb k seat other in rw b (own_more seat events s))
own_more seat (CutOff k ∷ events) s = own_more seat events s

-- and none of another
own_none : (seat other : ℕ) (events : List Event) (s : Step) → other ≢ seat → steps_by seat (events ++ Took s other ∷ []) ≡ steps_by seat events
own_none seat other [] s differ = ap (λ (b : Bool). if b then s ∷ [] else []) (ne_eqb other seat differ)
own_none seat other (Took r k ∷ events) s differ = dite (ℕ_discrete k seat)
    (λ same. let b = eq-eqb k seat same in rw b (ap (λ (l : List Step). r ∷ l) (own_none seat other events s differ)))
    (λ apart. let b = ne_eqb k seat apart in rw b (own_none seat other events s differ))
own_none seat other (CutOff k ∷ events) s differ = own_none seat other events s differ

-- a seat that is cut off is no step
own_cut : (seat k : ℕ) (events : List Event) → steps_by seat (events ++ CutOff k ∷ []) ≡ steps_by seat events
own_cut seat k [] = refl
own_cut seat k (Took r j ∷ events) = dite (ℕ_discrete j seat)
    (λ same. let b = eq-eqb j seat same in rw b (ap (λ (l : List Step). r ∷ l) (own_cut seat k events)))
    (λ apart. let b = ne_eqb j seat apart in rw b (own_cut seat k events))
own_cut seat k (CutOff j ∷ events) = own_cut seat k events

-- what begins a list begins it one event later
begins_more : (seen events : List Event) (e : Event) → IsBeginning seen events → IsBeginning seen (events ++ e ∷ [])
begins_more seen events e b = (b.0 ++ e ∷ [], ap (λ (l : List Event). l ++ e ∷ []) b.1 ∙ append_assoc seen b.0 (e ∷ []))

-- the views of sights of which one is another
pub views_set : (sights : List Sight) (i : ℕ) (x : Sight) → map view_in (set sights i x) ≡ set (map view_in sights) i x.view
views_set [] i x = refl
views_set (y ∷ ys) zero x = refl
views_set (y ∷ ys) (suc i) x = ap (λ (l : List View). y.view ∷ l) (views_set ys i x)

-- the views of sights with one more
pub views_snoc : (sights : List Sight) (x : Sight) → map view_in (sights ++ x ∷ []) ≡ map view_in sights ++ x.view ∷ []
views_snoc [] x = refl
views_snoc (y ∷ ys) x = ap (λ (l : List View). y.view ∷ l) (views_snoc ys x)

-- the last of a list, or one before it
at_end : (l : List Sight) (a b : Sight) (j : ℕ) → get_elem? (l ++ a ∷ []) j ≡ some b → (get_elem? l j ≡ some b) ⊎ ((j ≡ length l) × (a ≡ b))
at_end [] a b zero e = inr (refl, some-injective a b e)
at_end [] a b (suc j) e = absurd (some-ne-none b (sym e))
at_end (x ∷ xs) a b zero e = inl e
at_end (x ∷ xs) a b (suc j) e = ⊎_elim (λ h. inl h) (λ h. inr (ap suc h.0, h.1)) (at_end xs a b j e)

module _ (id : ℕ) (me : Sight) (events : List Event) (sights : List Sight) (known : AreKnown events sights) (at : get_elem? sights id ≡ some me) where
  -- what the seat knows after a step
  abbrev pub sight_then : Step → View → Sight
  sight_then s v = record { view = v; seen = events ++ Took s id ∷ []; mine = me.mine ++ s ∷ [] }

  own_then : (s : Step) → steps_by id (events ++ Took s id ∷ []) ≡ me.mine ++ s ∷ []
  own_then s = own_more id events s ∙ ap (λ (l : List Step). l ++ s ∷ []) (known.0 id me at).1

  -- a step of one seat leaves what the others know
  pub known_then : (s : Step) (v : View) → AreKnown (events ++ Took s id ∷ []) (set sights id (sight_then s v))
  known_then s v = let all : List Event = events ++ Took s id ∷ [] in let you : Sight = sight_then s v in (
    (λ seat u e. ⊎_elim
        (λ (t : (seat ≡ id) × (you ≡ u)). subst (λ (z : ℕ × Sight). IsKnownTo all z.0 z.1) (λ i. (sym t.0 i, t.1 i)) (([], sym (append-nil all)), own_then s))
        (λ (t : (seat ≢ id) × (get_elem? sights seat ≡ some u)). let k = known.0 seat u t.1 in
        (begins_more u.seen events (Took s id) k.0, own_none seat id events s (λ same. t.0 (sym same)) ∙ k.1))
        (at_set sights id seat you u e)),
    λ seat past. let l = length-set sights id you in let here = within sights id me at in own_none seat id events s (λ same. omega arith) ∙ known.1 seat (omega arith),
  )

  -- and the seat knows the run
  pub follows_then : (seats : ℕ) (s : Step) (v : View) (next : LockWorld) → IsReachedBy seats (events ++ Took s id ∷ []) next → get_elem? next.views id ≡ some v → HasTaken (s ∷ []) me (sight_then s v)
  follows_then seats s v next reached there = let kept = reached_keeps seats (events ++ Took s id ∷ []) next reached in (
    begins_more me.seen events (Took s id) (known.0 id me at).0,
    refl,
    (seats, id, next, reached, there, own_then s, kept, alone_writes next kept),
  )

  -- the view of the seat
  pub view_at : get_elem? (map view_in sights) id ≡ some me.view
  view_at = at_map view_in sights id me at

  -- the view of the seat after the step
  pub view_then : (v : View) → get_elem? (set (map view_in sights) id v) id ≡ some v
  view_then v = set_here (map view_in sights) id v (within (map view_in sights) id me.view view_at)

  -- a seat that is cut off from one leaves what all know
  pub known_cut : AreKnown (events ++ CutOff id ∷ []) (set sights id (sight_cut me) ++ unseeing newcomer ∷ [])
  known_cut = let all : List Event = events ++ CutOff id ∷ [] in let others : List Sight = set sights id (sight_cut me) in let l = length-set sights id (sight_cut me) in let m = length-append others (unseeing newcomer ∷ []) in (
    (λ seat u e. ⊎_elim
        (λ (old : get_elem? others seat ≡ some u). ⊎_elim
        (λ (t : (seat ≡ id) × (sight_cut me ≡ u)). let k = known.0 id me at in subst (λ (z : ℕ × Sight). IsKnownTo all z.0 z.1) (λ i. (sym t.0 i, t.1 i)) (begins_more me.seen events (CutOff id) k.0, own_cut id id events ∙ k.1))
        (λ (t : (seat ≢ id) × (get_elem? sights seat ≡ some u)). let k = known.0 seat u t.1 in (begins_more u.seen events (CutOff id) k.0, own_cut seat id events ∙ k.1))
        (at_set sights id seat (sight_cut me) u old))
        (λ (new : (seat ≡ length others) × (unseeing newcomer ≡ u)). subst (IsKnownTo all seat) new.1 ((all, refl), own_cut seat id events ∙ known.1 seat (let e = new.0 in omega arith)))
        (at_end others (unseeing newcomer) u seat e)),
    λ seat past. own_cut seat id events ∙ known.1 seat (omega arith),
  )

-- a seat that has taken some steps and then others has taken both
pub follows_both : (steps more : List Step) (a b c : Sight) → HasTaken steps a b → HasTaken more b c → HasTaken (steps ++ more) a c
follows_both steps more a b c f g = (
  (f.0.0 ++ g.0.0, g.0.1 ∙ (ap (λ (l : List Event). l ++ g.0.0) f.0.1 ∙ append_assoc a.seen f.0.0 g.0.0)),
  g.1 ∙ (ap (λ (l : List Step). l ++ more) f.1 ∙ append_assoc a.mine steps more),
  g.2,
)

-- a seat is from where it stands
pub from_here : (a : Sight) → IsFrom a a
from_here a = (([], sym (append-nil a.seen)), [], sym (append-nil a.mine))

-- a seat that has taken some steps is from where it stood
pub from_then : (steps : List Step) (a b c : Sight) → IsFrom a b → HasTaken steps b c → IsFrom a c
from_then steps a b c f g = (
  (f.0.0 ++ g.0.0, g.0.1 ∙ (ap (λ (l : List Event). l ++ g.0.0) f.0.1 ∙ append_assoc a.seen f.0.0 g.0.0)),
  f.1 ++ steps,
  g.1 ∙ (ap (λ (l : List Step). l ++ steps) f.2 ∙ append_assoc a.mine f.1 steps),
)

-- and goes on from there
pub goes_from : (steps : List Step) (a b c : Sight) → IsFrom a b → HasTaken steps b c → HasTakenSome a c
goes_from steps a b c f g = let h = from_then steps a b c f g in (h.1, (h.0, h.2, g.2))
