-- Followers: what one more incremental does to one, and to what it has seen.
use Rattle.std.proofs.Common.{◌≡◌, ◌∙◌, sym, ap, refl, subst, ℕ, zero, suc, ◌+◌, ◌-◌, ◌≤◌, Bool, true, false, List, [], ◌∷◌, ◌++◌, length, take, Some, None, Result, Ok, Err, IfOk, OnErr, IsSome, slice_get, inl, inr, arith, length-append}
use Rattle.std.proofs.lemmas.List.{take-append-le, length-take, append-nil, take_all}
use Rattle.maptypes.specs.Incrementals.{Step}
use Rattle.osdmap.specs.Maps.{ClusterMap}
use Rattle.osdmap.specs.Changes.{IsLawful, after, apply, change_fault, epoch_after}
use Rattle.epochlog.specs.Epochs.{Line, Seen, Begins, OneBegins}
use Rattle.sealed.proofs.Beginnings.{begins_on, begins_by}
use Rattle.state.proofs.Journals.{after-snoc, IsLawful-snoc}
use Rattle.monitor.specs.Followers.{Followed, IsFollowed, Steps, GoesOnFrom, IsCaughtUp, Advances, applied, followed}

-- ---- lists that begin one another

-- the first of what goes on are the first of what there was
take_begun : {T : Type 0} (n : ℕ) (xs ys : List T) → Begins xs ys → n ≤ length xs → take n ys ≡ take n xs
take_begun n xs ys goes few = ap (take n) (sym goes.1) ∙ take-append-le n xs goes.0 few

-- one more of the first, and what stands there
take_one_more : {T : Type 0} (xs : List T) (n : ℕ) (x : T) → slice_get xs n ≡ Some x
    → take (suc n) xs ≡ take n xs ++ x ∷ []
take_one_more [] n x is = absurd (let none : None ≡ Some x = is in cc)
take_one_more (y ∷ xs) zero x is = let same : Some y ≡ Some x = is in ap (λ z. z ∷ []) (cc same)
take_one_more (y ∷ xs) (suc n) x is = ap (λ zs. y ∷ zs) (take_one_more xs n x is)

-- of two that begin a third, one begins the other
begun_both : {T : Type 0} (xs ys zs : List T) → Begins xs zs → Begins ys zs → OneBegins xs ys
begun_both [] ys zs p q = inl (ys, refl)
begun_both (x ∷ xs) [] zs p q = inr (x ∷ xs, refl)
begun_both (x ∷ xs) (y ∷ ys) [] p q = absurd (let none : x ∷ (xs ++ p.0) ≡ [] = p.1 in cc)
begun_both {T} (x ∷ xs) (y ∷ ys) (z ∷ zs) p q = more (begun_both xs ys zs (p.0, tail_of p.1) (q.0, tail_of q.1))
  where
    tail_of : {a b : T} {us vs : List T} → a ∷ us ≡ b ∷ vs → us ≡ vs
    tail_of e = cc e

    heads : x ≡ y
    heads = let one : x ∷ (xs ++ p.0) ≡ z ∷ zs = p.1 in let two : y ∷ (ys ++ q.0) ≡ z ∷ zs = q.1 in cc

    more : OneBegins xs ys → OneBegins (x ∷ xs) (y ∷ ys)
    more (inl b) = inl (b.0, ap (λ h. h ∷ (xs ++ b.0)) heads ∙ ap (λ t. y ∷ t) b.1)
    more (inr b) = inr (b.0, ap (λ h. h ∷ (ys ++ b.0)) (sym heads) ∙ ap (λ t. x ∷ t) b.1)

-- where one of two begins the other, that is so of the first part of one
pub one_begins_part : {T : Type 0} (n : ℕ) (xs ys : List T) → OneBegins xs ys → OneBegins (take n xs) ys
one_begins_part n xs ys (inl p) = inl (begins_on (take n xs) xs ys (begins_by (take n xs) xs n refl) p)
one_begins_part n xs ys (inr p) = begun_both (take n xs) ys xs (begins_by (take n xs) xs n refl) p

-- ---- followers

-- a follower at the first map, which has seen nothing
pub followed_new : (first m : ClusterMap) (pass : Seen) (runs : ℕ) → m ≡ first → pass.history ≡ [] → pass.row.first ≡ first.epoch
    → IsFollowed (followed first pass m runs)
unfolding IsLawful
followed_new first m pass runs same none begins =
    let nothing : applied first m pass.history ≡ [] = take_none (m.epoch - first.epoch) pass.history none in
    record {
      begins = begins;
      front = begins_by (applied first m pass.history) pass.history (m.epoch - first.epoch) refl;
      lawful = subst (IsLawful first) (sym nothing) tt;
      map = same ∙ ap (after first) (sym nothing);
      epoch = ap (λ (x : ClusterMap). x.epoch) same ∙ omega (arith, ap length nothing);
    }
  where
    take_none : (n : ℕ) (xs : List Step) → xs ≡ [] → take n xs ≡ []
    take_none zero xs none = refl
    take_none (suc n) [] none = refl
    take_none (suc n) (x ∷ xs) none = absurd (let no : x ∷ xs ≡ [] = none in cc)

-- the epoch of the map after a step
epoch_made : (m : ClusterMap) (step : Step) → (apply m step).epoch ≡ step.epoch
unfolding apply
epoch_made m step = refl

-- a follower that has seen more: what it stands at
module _ (first m : ClusterMap) (seen more : Seen) (runs : ℕ) (is : IsFollowed (followed first seen m runs)) (rows : more.row ≡ seen.row)
    (goes : Begins seen.history more.history) where
  -- what is so of it with this map
  abbrev pub Stands : ClusterMap → Type 0
  Stands m2 = IsFollowed (followed first more m2 runs) × GoesOnFrom (followed first seen m runs) (followed first more m2 runs)

  -- it had seen all that it had applied
  few : (m.epoch - first.epoch) ≤ length seen.history
  few = omega (arith, is.epoch, length-take (m.epoch - first.epoch) seen.history)

  -- what it sees beyond changes nothing
  same_part : applied first m more.history ≡ applied first m seen.history
  same_part = take_begun (m.epoch - first.epoch) seen.history more.history goes few

  -- what it stands at, once some more is applied
  stands_by : (m2 : ClusterMap) (rest : List Step) → applied first m2 more.history ≡ applied first m seen.history ++ rest
      → IsLawful first (applied first m seen.history ++ rest) → m2 ≡ after first (applied first m seen.history ++ rest)
      → m2.epoch ≡ epoch_after first (applied first m seen.history ++ rest) → Stands m2
  stands_by m2 rest history lawful map epoch = (
    record {
      begins = ap (λ (l : Line). l.first) rows ∙ is.begins;
      front = begins_by (applied first m2 more.history) more.history (m2.epoch - first.epoch) refl;
      lawful = subst (IsLawful first) (sym history) lawful;
      map = map ∙ ap (after first) (sym history);
      epoch = epoch ∙ ap (epoch_after first) (sym history);
    },
    record { first = refl; row = rows; begins = (rest, sym history); seen = goes; runs = refl },
  )

  -- nothing is applied
  pub stands_same : (m2 : ClusterMap) → m2 ≡ m → Stands m2
  stands_same m2 same =
      let none : applied first m seen.history ++ [] ≡ applied first m seen.history = append-nil (applied first m seen.history) in
      stands_by m2 [] (ap (λ x. applied first x more.history) same ∙ same_part ∙ sym none) (subst (IsLawful first) (sym none) is.lawful)
      (same ∙ is.map ∙ ap (after first) (sym none)) (ap (λ (x : ClusterMap). x.epoch) same ∙ is.epoch ∙ ap (epoch_after first) (sym none))

  -- one incremental more is applied
  stands_next : (m2 : ClusterMap) (step : Step) → step.epoch ≡ m.epoch + 1
      → slice_get more.history (m.epoch - seen.row.first) ≡ Some step → change_fault m step.change ≡ None → m2 ≡ apply m step → Stands m2
  stands_next m2 step next place fine made =
      let past = applied first m seen.history in
      let epoch : m2.epoch ≡ m.epoch + 1 = ap (λ (x : ClusterMap). x.epoch) made ∙ epoch_made m step ∙ next in
      let at : slice_get more.history (m.epoch - first.epoch) ≡ Some step =
      ap (λ n. slice_get more.history (m.epoch - n)) (sym is.begins) ∙ place in
      let count : m2.epoch - first.epoch ≡ suc (m.epoch - first.epoch) = omega (arith, epoch, is.epoch) in
      let history : applied first m2 more.history ≡ past ++ step ∷ [] =
      ap (λ n. take n more.history) count ∙ take_one_more more.history (m.epoch - first.epoch) step at
      ∙ ap (λ xs. xs ++ step ∷ []) same_part in
      let lawful : IsLawful first (past ++ step ∷ []) =
      IsLawful-snoc first past step is.lawful (next ∙ ap (λ (x : ClusterMap). x.epoch + 1) is.map)
      (subst (λ (x : ClusterMap). change_fault x step.change ≡ None) is.map fine) in
      stands_by m2 (step ∷ []) history lawful (made ∙ ap (λ x. apply x step) is.map ∙ sym (after-snoc first past step))
      (omega (arith, epoch, is.epoch, length-append past (step ∷ [])))

  -- a step that is made, or is not
  stands_step : (m2 : ClusterMap) (step : Step) (made : Bool) → step.epoch ≡ m.epoch + 1
      → slice_get more.history (m.epoch - seen.row.first) ≡ Some step → Steps m m2 step made → Stands m2
  stands_step m2 step true next place steps = stands_next m2 step next place steps.0 steps.1
  stands_step m2 step false next place steps = stands_same m2 steps.1

  -- a step that is made, or is not, or for which there is no memory
  pub stands_on : {E : Type 0} → (m2 : ClusterMap) (step : Step) (r : Result Bool E) → step.epoch ≡ m.epoch + 1
      → slice_get more.history (m.epoch - seen.row.first) ≡ Some step → IfOk r (Steps m m2 step) → OnErr r (m2 ≡ m) → Stands m2
  stands_on m2 step (Ok made) next place steps same = stands_step m2 step made next place steps
  stands_on m2 step (Err e) next place steps same = stands_same m2 same

  -- how many are applied
  count_is : length (applied first m more.history) ≡ m.epoch - first.epoch
  count_is = omega (arith, is.epoch, ap length same_part)

  -- all that is seen is applied
  pub caught_up : more.row.first + length more.history ≤ m.epoch → IsCaughtUp (followed first more m runs)
  caught_up few = inl (take_all (m.epoch - first.epoch) more.history (omega (arith, few, ap (λ (l : Line). l.first) rows, is.begins)))

  -- the next change is refused
  refused : (step : Step) → slice_get more.history (m.epoch - seen.row.first) ≡ Some step → IsSome (change_fault m step.change)
      → IsCaughtUp (followed first more m runs)
  refused step place fault =
      inr (step, ap (slice_get more.history) (omega (arith, count_is, is.begins)) ∙ place, fault)

  advances_step : (m2 : ClusterMap) (step : Step) (made : Bool) → step.epoch ≡ m.epoch + 1
      → slice_get more.history (m.epoch - seen.row.first) ≡ Some step → Steps m m2 step made
      → Advances (followed first seen m runs) (followed first more m2 runs) made
  advances_step m2 step true next place steps =
      let epoch : m2.epoch ≡ m.epoch + 1 = ap (λ (x : ClusterMap). x.epoch) steps.1 ∙ epoch_made m step ∙ next in
      omega (arith, epoch, is.epoch, (stands_step m2 step true next place steps).0.epoch)
  advances_step m2 step false next place steps =
      subst (λ (x : ClusterMap). IsCaughtUp (followed first more x runs)) (sym steps.1) (refused step place steps.0)

  -- a step that is made, or is not: that it is one more, or why it is not
  pub advances_on : {E : Type 0} → (m2 : ClusterMap) (step : Step) (r : Result Bool E) → step.epoch ≡ m.epoch + 1
      → slice_get more.history (m.epoch - seen.row.first) ≡ Some step → IfOk r (Steps m m2 step)
      → IfOk r (Advances (followed first seen m runs) (followed first more m2 runs))
  advances_on m2 step (Ok made) next place steps = advances_step m2 step made next place steps
  advances_on m2 step (Err e) next place steps = tt

-- a follower that has applied as many as there are cells has caught up
pub all_applied : (f : Followed) (count : ℕ) → Begins f.history f.seen → count ≤ length f.history → length f.seen ≤ count
    → IsCaughtUp f
all_applied f count front many few =
    let none : length front.0 ≡ 0 = omega (arith, many, few, length-append f.history front.0, ap length front.1) in
    inl (sym (append-nil f.history) ∙ ap (λ xs. f.history ++ xs) (sym (nil_of front.0 none)) ∙ front.1)
  where
    nil_of : (xs : List Step) → length xs ≡ 0 → xs ≡ []
    nil_of [] e = refl
    nil_of (x ∷ xs) e = absurd (omega (arith, e))
