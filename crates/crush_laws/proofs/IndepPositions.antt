-- what choosing for positions leaves: no item twice, nothing that is out, and what is decided stays
use Rattle.std.proofs.Common.{◌≡◌, ◌≢◌, ℕ, suc, zero, ◌-◌, ◌+◌, ◌<◌, ℤ, Bool, true, false, not, cond, ◌&&◌, eqb, List, [], ◌∷◌, length, get_or, set, replicate, Option, Some, None, inl, inr, sym, ap, refl, ◌∙◌, subst, arith, length-set}
use Rattle.std.specs.List.{All, AllPairs, range_with_len, list_any, fold}
use Rattle.std.proofs.lemmas.Bool.{cases_Bool, cases_eq, false≢true}
use Rattle.std.proofs.lemmas.Bool.Decides.{Decides-int_eq}
use Rattle.std.proofs.lemmas.List.{get_or-set_same, get_or-set_other, length-replicate}
use Rattle.std.proofs.lemmas.List.Elements.{All-set, All-replicate}
use Rattle.std.proofs.lemmas.List.Folds.{list_any_at}
use Rattle.std.proofs.lemmas.List.Sums.{fold-append}
use Rattle.buckets.specs.declared.bucket.Bucket.{Bucket}
use Rattle.crush.specs.declared.choose.Choice.{Choice}
use Rattle.crush.specs.declared.choose.Picked.{Picked}
use Rattle.crush.specs.declared.choose.Position.{Position}
use Rattle.crush.specs.declared.choose.Position.TheVariants.{Open, Hole, Filled}
use Rattle.crush.specs.Choosing.{Choosing}
use Rattle.crush.specs.World.{is_out}
use Rattle.crush.specs.Descent.{leaf_below, item_below}
use Rattle.crush.proofs.Rounds.{range_append}
use Rattle.crush.specs.Indep.{replica_number, replica_numbers, holds_item, is_open, position_with, position_at, position_of, after_position, after_round, indep}
use Rattle.crush_laws.specs.Choices.{takes_devices, AreApart, HoldsNoneOut, ArePositions, in_rounds, IndepIsPositions, IndepKeepsPositions, IndepLooksBack}
use Rattle.crush.proofs.Folds.{fold_keeps}
use Rattle.crush.proofs.ItemTries.{position_by, filled_by}
use Rattle.crush_laws.proofs.LeafSearches.{leaf_accepted, other_holds, no_device, not_true}

-- a choice that may fill a position
record MayFill (k : Choosing) (positions : List Position) (e : Choice) : Type 0 where
  item : list_any (holds_item e.item) positions ≡ false
  inside : takes_devices k.choose ≡ true → is_out k.world e.leaf ≡ false

-- an item that fills a position may
fills_with : (k : Choosing) (positions : List Position) (rep : ℕ) (p : Picked) (e : Choice) → position_with k positions rep p ≡ Filled e → MayFill k positions e
unfolding position_with position_by
fills_with k positions rep p e h =
    let accepts : ℤ → Bool = λ d. not (is_out k.world d) in
    let rs = replica_numbers k.numrep (rep + p.r) k.tries.leaf in
    let is = filled_by (list_any (holds_item p.item) positions) k.choose.to_leaf (eqb k.choose.level 0 && is_out k.world p.item) (leaf_below k.world accepts rs p.item) p.item e h in
    record {
      item = ap (λ i. list_any (holds_item i) positions) (sym is.item_is) ∙ is.apart;
      inside = λ takes. elim (cases_Bool k.choose.to_leaf) [
        | inl leafy ↦ not_true _ (leaf_accepted k.world accepts rs p.item e.leaf (is.taken leafy))
        | inr bare ↦ ap (is_out k.world) (is.itself bare).0 ∙ no_device _ _ (is.itself bare).1 (other_holds _ _ takes bare)
      ];
    }

-- so may what a descent found
fills_at : (k : Choosing) (positions : List Position) (rep : ℕ) (found : Option Picked) (e : Choice) → position_at k positions rep found ≡ Filled e → MayFill k positions e
fills_at k positions rep None e h = absurd (cc)
fills_at k positions rep (Some p) e h = fills_with k positions rep p e h

-- and what a round fills it with
fills_of : (k : Choosing) (start : Bucket) (round : ℕ) (positions : List Position) (rep : ℕ) (e : Choice) → position_of k start round positions rep ≡ Filled e → MayFill k positions e
unfolding position_of
fills_of k start round positions rep e h = fills_at k positions rep (item_below k.world (replica_number k.numrep rep round) k.choose.level start) e h

-- a position that does not hold an item is apart from one that does
apart_from : (q : Position) (e : Choice) → holds_item e.item q ≡ false → AreApart q (Filled e) × AreApart (Filled e) q
apart_from Open e h = (tt, tt)
apart_from Hole e h = (tt, tt)
apart_from (Filled o) e h = (λ same. false≢true (sym h ∙ (Decides-int_eq o.item e.item).1 same), λ same. false≢true (sym h ∙ (Decides-int_eq o.item e.item).1 (sym same)))

-- a position that holds nothing is apart from all
apart_from_empty : (q p : Position) → ((e : Choice) → p ≡ Filled e → ⊥) → AreApart q p × AreApart p q
apart_from_empty Open Open h = (tt, tt)
apart_from_empty Open Hole h = (tt, tt)
apart_from_empty Hole Open h = (tt, tt)
apart_from_empty Hole Hole h = (tt, tt)
apart_from_empty (Filled o) Open h = (tt, tt)
apart_from_empty (Filled o) Hole h = (tt, tt)
apart_from_empty q (Filled e) h = absurd (h e refl)

-- an item that no position holds is at none
not_held : (item : ℤ) (positions : List Position) → list_any (holds_item item) positions ≡ false → (k : ℕ) (d : Position) → k < length positions → holds_item item (get_or positions k d) ≡ false
not_held item positions none k d within = elim (cases_Bool (holds_item item (get_or positions k d))) [
  | inl held ↦ absurd (false≢true (sym none ∙ list_any_at (holds_item item) positions k d within held))
  | inr free ↦ free
]

-- a new position is apart from all
apart_of : (k : Choosing) (positions : List Position) (p : Position) → ((e : Choice) → p ≡ Filled e → MayFill k positions e) → (i : ℕ) (d : Position) → i < length positions → AreApart (get_or positions i d) p × AreApart p (get_or positions i d)
apart_of k positions Open h i d within = apart_from_empty (get_or positions i d) Open (λ e q. absurd (cc))
apart_of k positions Hole h i d within = apart_from_empty (get_or positions i d) Hole (λ e q. absurd (cc))
apart_of k positions (Filled e) h i d within = apart_from (get_or positions i d) e (not_held e.item positions (h e refl).item i d within)

-- a new position holds none that is out
inside_of : (k : Choosing) (positions : List Position) (p : Position) → ((e : Choice) → p ≡ Filled e → MayFill k positions e) → takes_devices k.choose ≡ true → HoldsNoneOut k.world p
inside_of k positions Open h takes = tt
inside_of k positions Hole h takes = tt
inside_of k positions (Filled e) h takes = (h e refl).inside takes

-- a write of a position that is apart from all
pairs_set : (positions : List Position) (rep : ℕ) (p : Position) → AllPairs AreApart positions → ((k : ℕ) (d : Position) → k < length positions → AreApart (get_or positions k d) p × AreApart p (get_or positions k d)) → AllPairs AreApart (set positions rep p)
pairs_set positions rep p all apart i j d lt within =
    let inside : j < length positions = omega (arith, length-set positions rep p) in
    let kept : (k : ℕ) → k ≢ rep → get_or (set positions rep p) k d ≡ get_or positions k d = λ k ne. get_or-set_other positions rep k p d ne in
    let at : (k : ℕ) → k ≡ rep → k < length positions → get_or (set positions rep p) k d ≡ p = λ k e low. ap (λ m. get_or (set positions rep p) m d) e ∙ get_or-set_same positions rep p d (subst (λ m. m < length positions) e low) in
    elim (cases_eq i rep) [
      | inl e ↦ (let other : j ≢ rep = omega arith in
          let P : Position → Type 0 = λ q. AreApart q (get_or (set positions rep p) j d) in
          let Q : Position → Type 0 = λ q. AreApart p q in
          subst P (sym (at i e (omega arith))) (subst Q (sym (kept j other)) (apart j d inside).1))
      | inr ne ↦ elim (cases_eq j rep) [
        | inl f ↦ (let P : Position → Type 0 = λ q. AreApart q (get_or (set positions rep p) j d) in
            let Q : Position → Type 0 = λ q. AreApart (get_or positions i d) q in
            subst P (sym (kept i ne)) (subst Q (sym (at j f inside)) (apart i d (omega arith)).0))
        | inr other ↦ (let P : Position → Type 0 = λ q. AreApart q (get_or (set positions rep p) j d) in
            let Q : Position → Type 0 = λ q. AreApart (get_or positions i d) q in
            subst P (sym (kept i ne)) (subst Q (sym (kept j other)) (all i j d lt inside)))
      ]
    ]

-- a position tried keeps the number of positions
length_kept : (k : Choosing) (start : Bucket) (round count : ℕ) (positions : List Position) (rep : ℕ) (undecided : Bool) → ArePositions k count positions → ArePositions k count (cond undecided (set positions rep (position_of k start round positions rep)) positions)
length_kept k start round count positions rep false s = s
length_kept k start round count positions rep true s =
    let p = position_of k start round positions rep in
    let fills = fills_of k start round positions rep in
    record {
      counted = length-set positions rep p ∙ s.counted;
      items_once = pairs_set positions rep p s.items_once (apart_of k positions p fills);
      none_out = λ takes. All-set (HoldsNoneOut k.world) positions rep p (inside_of k positions p fills takes) (s.none_out takes);
    }

-- a round keeps them
positions_round : (k : Choosing) (start : Bucket) (count : ℕ) (positions : List Position) (round : ℕ) → ArePositions k count positions → ArePositions k count (after_round k start positions round)
unfolding after_round
positions_round k start count positions round s =
    let P : List Position → Type 0 = ArePositions k count in
    fold_keeps P (after_position k start round) (λ ps rep q. length_kept k start round count ps rep (is_open (get_or ps rep Hole)) q) positions (range_with_len 0 (length positions)) s

-- open positions hold nothing twice
none_yet : (k : Choosing) (count : ℕ) → ArePositions k count (replicate count Open)
none_yet k count =
    let open_at : All (λ p. p ≡ Open) (replicate count Open) = All-replicate (λ p. p ≡ Open) count Open refl in
    record {
      counted = length-replicate count Open;
      items_once = λ i j d lt within. (let P : Position → Type 0 = λ q. AreApart q (get_or (replicate count Open) j d) in subst P (sym (open_at i d (omega arith))) tt);
      none_out = λ takes. All-replicate (HoldsNoneOut k.world) count Open tt;
    }

-- so all rounds leave positions
pub indep_is_positions : IndepIsPositions
unfolding indep
indep_is_positions k start count =
    let P : List Position → Type 0 = ArePositions k count in
    fold_keeps P (after_round k start) (λ ps round q. positions_round k start count ps round q) (replicate count Open) (range_with_len 0 k.tries.total) (none_yet k count)

-- a decided position of the list before stands in the list after
record StaysIn (before after : List Position) : Type 0 where
  decided : (i : ℕ) → is_open (get_or before i Hole) ≡ false → get_or after i Hole ≡ get_or before i Hole

-- a position tried leaves what is decided
decided_stays : (positions : List Position) (rep : ℕ) (p : Position) (undecided : Bool) → is_open (get_or positions rep Hole) ≡ undecided → StaysIn positions (cond undecided (set positions rep p) positions)
decided_stays positions rep p false e = record { decided = λ i h. refl }
decided_stays positions rep p true e = record { decided = λ i h. get_or-set_other positions rep i p Hole (λ same. false≢true (sym h ∙ ap (λ m. is_open (get_or positions m Hole)) same ∙ e)) }

-- so do positions one after another
stays_fold : {A : Type 0} (f : List Position → A → List Position) → ((ps : List Position) (x : A) → StaysIn ps (f ps x)) → (ps : List Position) (xs : List A) → StaysIn ps (fold f ps xs)
stays_fold f step ps [] = record { decided = λ i h. refl }
stays_fold f step ps (x ∷ xs) =
    let here = step ps x in
    let later = stays_fold f step (f ps x) xs in
    record { decided = λ i h. (let same = here.decided i h in later.decided i (ap is_open same ∙ h) ∙ same) }

-- and a round
stays_round : (k : Choosing) (start : Bucket) (positions : List Position) (round : ℕ) → StaysIn positions (after_round k start positions round)
unfolding after_round
stays_round k start positions round =
    stays_fold (after_position k start round) (λ ps rep. decided_stays ps rep (position_of k start round ps rep) (is_open (get_or ps rep Hole)) refl) positions (range_with_len 0 (length positions))

-- how many rounds there are is nothing to a round
same_round : (k : Choosing) (m n : ℕ) (start : Bucket) → after_round (in_rounds k m) start ≡ after_round (in_rounds k n) start
unfolding after_round position_of position_with
same_round k m n start = refl

-- so what some rounds decided stays through more
pub indep_keeps_positions : IndepKeepsPositions
unfolding indep
indep_keeps_positions k start rounds more count place =
    let F : ℕ → List Position → ℕ → List Position = λ n. after_round (in_rounds k n) start in
    let none = replicate count Open in
    let first = fold (F rounds) none (range_with_len 0 rounds) in
    let whole : fold (F (rounds + more)) none (range_with_len 0 (rounds + more)) ≡ fold (F rounds) first (range_with_len (0 + rounds) more) =
    ap (λ f. fold f none (range_with_len 0 (rounds + more))) (same_round k (rounds + more) rounds start)
    ∙ ap (fold (F rounds) none) (range_append 0 rounds more)
    ∙ fold-append (F rounds) none (range_with_len 0 rounds) (range_with_len (0 + rounds) more) in
    let stays = stays_fold (F rounds) (stays_round (in_rounds k rounds) start) first (range_with_len (0 + rounds) more) in
    λ h. ap (λ ps. get_or ps place Hole) whole ∙ stays.decided place h

-- a position tried leaves every other alone
others_stay : (ps : List Position) (rep place : ℕ) (p : Position) (undecided : Bool) → place ≢ rep → get_or (cond undecided (set ps rep p) ps) place Hole ≡ get_or ps place Hole
others_stay ps rep place p true ne = get_or-set_other ps rep place p Hole ne
others_stay ps rep place p false ne = refl

-- so do all later positions
later_positions : (k : Choosing) (start : Bucket) (round : ℕ) (ps : List Position) (place a m : ℕ) → place < a → get_or (fold (after_position k start round) ps (range_with_len a m)) place Hole ≡ get_or ps place Hole
later_positions k start round ps place a zero before = refl
later_positions k start round ps place a (suc m) before =
    let next = after_position k start round ps a in
    later_positions k start round next place (a + 1) m (omega arith)
    ∙ others_stay ps a place (position_of k start round ps a) (is_open (get_or ps a Hole)) (λ same. omega arith)

-- so a round leaves a position as its own try does
pub indep_looks_back : IndepLooksBack
unfolding after_round
indep_looks_back k start round positions place within =
    let f = after_position k start round in
    let n = length positions in
    let rest = n - (place + 1) in
    let whole : (place + 1) + rest ≡ n = omega arith in
    let first = fold f positions (range_with_len 0 (place + 1)) in
    ap (λ m. get_or (fold f positions (range_with_len 0 m)) place Hole) (sym whole)
    ∙ ap (λ xs. get_or (fold f positions xs) place Hole) (range_append 0 (place + 1) rest)
    ∙ ap (λ ps. get_or ps place Hole) (fold-append f positions (range_with_len 0 (place + 1)) (range_with_len (0 + (place + 1)) rest))
    ∙ later_positions k start round first place (0 + (place + 1)) rest (omega arith)
