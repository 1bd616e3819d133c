-- The rules of a map run as those of the cluster's own map do: its tunables as steps, its counts by the size of a pool,
-- and without the blocks that give nothing.
use Rattle.std.proofs.Common.{◌≡◌, ℕ, ◌<◌, ◌≤◌, ℤ, pos, ◌+ℤ◌, ◌&&◌, ◌||◌, Bool, true, false, not, cond, eqb, List, [], ◌∷◌, ◌++◌, length, take, map, Option, Some, inl, inr, sym, ap, refl, ◌∙◌, subst, arith, length-take}
use Rattle.std.specs.Prelude.{nat_abs, int_lt, int_le}
use Rattle.std.specs.List.{All, fold, list_all, list_any}
use Rattle.std.proofs.lemmas.Bool.{cases_Bool, and_parts}
use Rattle.std.proofs.lemmas.Bool.Decides.{nat_tests}
use Rattle.std.proofs.lemmas.Int.{ints}
use Rattle.std.proofs.lemmas.List.Elements.{All-head, All-tail}
use Rattle.buckets.specs.declared.bucket.Bucket.{Bucket}
use Rattle.crush.specs.declared.choose.Tries.{Tries}
use Rattle.crush.specs.declared.step.Choose.{Choose}
use Rattle.crush.specs.declared.step.Mode.{Mode}
use Rattle.crush.specs.declared.step.Mode.TheVariants.{Firstn}
use Rattle.crush.specs.Choosing.{Choosing}
use Rattle.crush.specs.Run.{Progress, chosen_from, numrep_of, choosing_of, after_step}
use Rattle.crush.specs.World.{World}
use Rattle.crush.proofs.RunsWithin.{IsIn, TakesIn, nothing, step_in}
use Rattle.mapparts.specs.declared.parts.StepPart.{StepPart}
use Rattle.mapparts.specs.declared.parts.StepPart.TheVariants as parts
use Rattle.mapparts.specs.Parts.{step_fits}
use Rattle.maptypes.specs.Values.{step_of}
use Rattle.cephmap.specs.declared.rule.Step.{Step}
use Rattle.cephmap.specs.declared.rule.StepWord.TheVariants as words
use Rattle.cephimport.specs.FitRules.{has_known_words}
use Rattle.cephimport.specs.Steps.{is_setting, emits, chooses, count_for, choose_part, other_step, part_of_word, imported_step, is_idle, takes_ahead, leaves_nothing, idle_ahead, idle_behind, lives, keeps, kept_steps}
use Rattle.cephimport.specs.Tuned.{is_leaf_choice}
use Rattle.import_laws.specs.Own.{sought, own_choosing, own_chosen, after_choose, after_word, after_own}
use Rattle.import_laws.proofs.IdleBlocks.{GivesNothing, none_chosen, take_gives, set_gives, choose_gives, end_gives, nothing_emitted, same_block, next_block, setting_keeps, other_keeps, kept_without, kept_with, dead}
use Rattle.import_laws.proofs.OwnTries.{TryAlikeFrom, alike_behind, unset_behind, tries_taken, setting_part, tries_set, made_set, sets_none}
use Rattle.import_laws.proofs.PairedWorlds.{IsBeside, beside, own_of, PacksBy, working_same}
use Rattle.import_laws.proofs.StepForms.{kind_of, choice_of, chooses_alone, sets_alone, idle_on, takes_on, none_ahead, idle_choice}

-- ---- what both have come to

-- a block that gives something: both work on the same, where no step takes anew
pub record WorkAlike (size : ℕ) (rest : List Step) (p q : Progress) : Type 0 where
  pub alive : idle_ahead size rest ≡ false
  pub working : takes_ahead rest ≡ false → p.working ≡ q.working

-- both runs before the same steps: they try alike, have emitted the same, and work on the same or give nothing
pub record RunAlike (R : ℤ → Type 0) (size : ℕ) (idle : Bool) (rest : List Step) (p q : Progress) : Type 0 where
  pub tries : TryAlikeFrom rest p q
  pub emitted : p.emitted ≡ q.emitted
  pub few : length q.emitted ≤ size
  pub inside : All (IsIn R) q.working
  pub live : idle ≡ false → WorkAlike size rest p q
  pub none : idle ≡ true → GivesNothing size rest p.working × (q.working ≡ [])

-- no block is idle and not
no_block : {A : Type 0} → true ≡ false → A
no_block e = absurd (cc)

-- nor the other way
not_idle : {A : Type 0} → false ≡ true → A
not_idle e = absurd (cc)

-- the same over progress that is the same
moved : (R : ℤ → Type 0) (size : ℕ) (idle : Bool) (rest : List Step) (p p' q q' : Progress) → p' ≡ p → q' ≡ q → RunAlike R size idle rest p q → RunAlike R size idle rest p' q'
moved R size idle rest p p' q q' own made h = subst (λ o. RunAlike R size idle rest o q') (sym own) (subst (RunAlike R size idle rest p) (sym made) h)

-- ---- steps that take

-- one in the cluster's own map
own_take : (w : World) (size : ℕ) (p : Progress) (s : Step) → s.word ≡ words.Take → after_own w size p s ≡ record p { working = Some s.first ∷ [] }
unfolding after_word
own_take w size p s is = ap (λ word. after_word word w size p s) is

-- and what the map has for it
take_part : (size : ℕ) (s : Step) → s.word ≡ words.Take → imported_step size s ≡ parts.Take s.first
unfolding imported_step
take_part size s is = ap (λ word. part_of_word word size s) is ∙ ap (λ word. other_step word s.first) is

-- in the map
made_take : (v : World) (size : ℕ) (q : Progress) (s : Step) → s.word ≡ words.Take → after_step v size q (step_of (imported_step size s)) ≡ record q { working = Some s.first ∷ [] }
unfolding after_step
made_take v size q s is = ap (λ part. after_step v size q (step_of part)) (take_part size s is)

-- behind one in a block that gives something
take_live : (R : ℤ → Type 0) (w v : World) (size : ℕ) (s : Step) (rest : List Step) (p q : Progress) → s.word ≡ words.Take → RunAlike R size false (s ∷ rest) p q → All (IsIn R) (after_step v size q (step_of (imported_step size s))).working → RunAlike R size false rest (after_own w size p s) (after_step v size q (step_of (imported_step size s)))
take_live R w v size s rest p q is h inside =
    let own = own_take w size p s is in
    let made = made_take v size q s is in
    let e : emits s.word ≡ false = rw is refl in
    let c : chooses s.word ≡ false = rw is refl in
    moved R size false rest _ _ _ _ own made (record {
      tries = inl (tries_taken s rest p q is h.tries);
      emitted = h.emitted;
      few = h.few;
      inside = subst (λ (o : Progress). All (IsIn R) o.working) made inside;
      live = λ _. record { alive = sym (idle_on size s rest e c) ∙ (h.live refl).alive; working = λ _. refl };
      none = λ idle. not_idle idle;
    })

-- and in one that gives nothing
take_idle : (R : ℤ → Type 0) (w : World) (size : ℕ) (s : Step) (rest : List Step) (p q : Progress) → s.word ≡ words.Take → RunAlike R size true (s ∷ rest) p q → RunAlike R size true rest (after_own w size p s) q
take_idle R w size s rest p q is h =
    let own = own_take w size p s is in
    moved R size true rest _ _ _ _ own refl (record {
      tries = inl (tries_taken s rest p q is h.tries);
      emitted = h.emitted;
      few = h.few;
      inside = h.inside;
      live = λ live. no_block live;
      none = λ _. (take_gives size s rest p.working (Some s.first ∷ []) is (h.none refl).0, (h.none refl).1);
    })

-- ---- steps that emit

-- one in the cluster's own map
own_emit : (w : World) (size : ℕ) (p : Progress) (s : Step) → s.word ≡ words.Emit → after_own w size p s ≡ record p { working = []; emitted = take size (p.emitted ++ p.working) }
unfolding after_word
own_emit w size p s is = ap (λ word. after_word word w size p s) is

-- and what the map has for it
emit_part : (size : ℕ) (s : Step) → s.word ≡ words.Emit → imported_step size s ≡ parts.Emit
unfolding imported_step
emit_part size s is = ap (λ word. part_of_word word size s) is ∙ ap (λ word. other_step word s.first) is

-- in the map
made_emit : (v : World) (size : ℕ) (q : Progress) (s : Step) → s.word ≡ words.Emit → after_step v size q (step_of (imported_step size s)) ≡ record q { working = []; emitted = take size (q.emitted ++ q.working) }
unfolding after_step
made_emit v size q s is = ap (λ part. after_step v size q (step_of part)) (emit_part size s is)

-- a step that emits neither takes nor sets anything
emit_alone : (s : Step) → s.word ≡ words.Emit → is_setting s.word ≡ false
emit_alone s is = rw is refl

-- how both try behind it
emit_tries : (s : Step) (rest : List Step) (p q : Progress) (ps qs : List (Option ℤ)) → s.word ≡ words.Emit → TryAlikeFrom (s ∷ rest) p q → TryAlikeFrom rest (record p { working = []; emitted = ps }) (record q { working = []; emitted = qs })
emit_tries s rest p q ps qs is (inl h) = inl (alike_behind s rest p.tries q.tries h)
emit_tries s rest p q ps qs is (inr h) = inr (unset_behind s rest p.tries q.tries (rw is refl) (λ t. sets_none t s.word (emit_alone s is)) h.0, refl, refl)

-- what both have at the beginning of a block
pub new_block : (R : ℤ → Type 0) (size : ℕ) (rest : List Step) (p q : Progress) → TryAlikeFrom rest p q → p.emitted ≡ q.emitted → length q.emitted ≤ size → p.working ≡ [] → q.working ≡ [] → RunAlike R size (idle_ahead size rest) rest p q
new_block R size rest p q tries emitted few own made = record {
  tries = tries;
  emitted = emitted;
  few = few;
  inside = subst (All (IsIn R)) (sym made) (nothing R);
  live = λ alive. record { alive = alive; working = λ _. own ∙ sym made };
  none = λ idle. (inl idle, made);
}

-- behind one in a block that gives something
emit_live : (R : ℤ → Type 0) (w v : World) (size : ℕ) (s : Step) (rest : List Step) (p q : Progress) → s.word ≡ words.Emit → RunAlike R size false (s ∷ rest) p q → RunAlike R size (idle_ahead size rest) rest (after_own w size p s) (after_step v size q (step_of (imported_step size s)))
emit_live R w v size s rest p q is h =
    let own = own_emit w size p s is in
    let made = made_emit v size q s is in
    let same : p.working ≡ q.working = (h.live refl).working (none_ahead size s rest is).1 in
    let out : take size (p.emitted ++ p.working) ≡ take size (q.emitted ++ q.working) = ap (λ ys. take size (ys ++ p.working)) h.emitted ∙ ap (λ ys. take size (q.emitted ++ ys)) same in
    let few : length (take size (q.emitted ++ q.working)) ≤ size = omega (arith, length-take size (q.emitted ++ q.working)) in
    moved R size (idle_ahead size rest) rest _ _ _ _ own made
    (new_block R size rest _ _ (emit_tries s rest p q (take size (p.emitted ++ p.working)) (take size (q.emitted ++ q.working)) is h.tries) out few refl refl)

-- and in one that gives nothing
emit_idle : (R : ℤ → Type 0) (w : World) (size : ℕ) (s : Step) (rest : List Step) (p q : Progress) → s.word ≡ words.Emit → RunAlike R size true (s ∷ rest) p q → RunAlike R size (idle_ahead size rest) rest (after_own w size p s) q
emit_idle R w size s rest p q is h =
    let own = own_emit w size p s is in
    let empty = end_gives size s rest p.working is (h.none refl).0 in
    let made : q.working ≡ [] = (h.none refl).1 in
    let room : length p.emitted ≤ size = subst (λ (ys : List (Option ℤ)). length ys ≤ size) (sym h.emitted) h.few in
    let out : take size (p.emitted ++ p.working) ≡ q.emitted = nothing_emitted size p.emitted p.working room empty ∙ h.emitted in
    let tries : TryAlikeFrom rest (record p { working = []; emitted = take size (p.emitted ++ p.working) }) q = idle_tries s rest p q (take size (p.emitted ++ p.working)) is made h.tries in
    moved R size (idle_ahead size rest) rest _ _ _ _ own refl (new_block R size rest _ q tries out h.few refl made)
  where
    idle_tries : (s : Step) (rest : List Step) (p q : Progress) (ps : List (Option ℤ)) → s.word ≡ words.Emit → q.working ≡ [] → TryAlikeFrom (s ∷ rest) p q → TryAlikeFrom rest (record p { working = []; emitted = ps }) q
    idle_tries s rest p q ps is made (inl h) = inl (alike_behind s rest p.tries q.tries h)
    idle_tries s rest p q ps is made (inr h) = inr (unset_behind s rest p.tries q.tries (rw is refl) (λ t. sets_none t s.word (emit_alone s is)) h.0, refl, made)

-- ---- steps that choose

-- what the map has for the choice of a step, and its rule goes by
abbrev made_choice : ℕ → Mode → Bool → Step → Choose
made_choice size mode to_leaf s = record { mode = mode; to_leaf = to_leaf; count = nat_abs (count_for size s.first); level = nat_abs s.second }

-- in the map
made_choose : (v : World) (size : ℕ) (q : Progress) (s : Step) (mode : Mode) (to_leaf : Bool) → imported_step size s ≡ choose_part mode to_leaf size s → after_step v size q (step_of (imported_step size s)) ≡ record q { working = chosen_from (choosing_of v size q.tries (made_choice size mode to_leaf s)) size q.working }
unfolding after_step choose_part
made_choose v size q s mode to_leaf is = ap (λ part. after_step v size q (step_of part)) is

-- a step that is not idle seeks something
seeks_some : (size : ℕ) (s : Step) → 0 < size → chooses s.word ≡ true → is_idle size s ≡ false → int_le (sought size s.first) (pos 0) ≡ false
unfolding is_idle sought count_for
seeks_some size s some is busy =
    let e : (int_lt s.first (pos 0) && int_le (cond (int_lt s.first (pos 0)) (s.first +ℤ pos size) s.first) (pos 0)) ≡ false = rw is at busy in
    elim (cases_Bool (int_lt s.first (pos 0))) [
      | inl below ↦ (let f : int_le (s.first +ℤ pos size) (pos 0) ≡ false = rw below at e in grind (arith, ints, below, f))
      | inr above ↦ grind (arith, ints, above, some)
    ]

-- as many as the map's step
seeks_same : (size : ℕ) (s : Step) (mode : Mode) (to_leaf : Bool) → 0 < size → chooses s.word ≡ true → is_idle size s ≡ false → nat_abs (sought size s.first) ≡ numrep_of (made_choice size mode to_leaf s) size
unfolding sought count_for
seeks_same size s mode to_leaf some is busy = numbers size s.first some (seeks_some size s some is busy)
  where
    numbers : (size : ℕ) (n : ℤ) → 0 < size → int_le (cond (int_le n (pos 0)) (n +ℤ pos size) n) (pos 0) ≡ false → nat_abs (cond (int_le n (pos 0)) (n +ℤ pos size) n) ≡ cond (eqb (nat_abs (cond (int_lt n (pos 0)) (n +ℤ pos size) n)) 0) size (nat_abs (cond (int_lt n (pos 0)) (n +ℤ pos size) n))
    numbers size n some e = grind (arith, ints, nat_tests, some, e)

-- the cluster's own choice is the map's, in the other world
own_is : (bs : List Bucket) (v : World) (size : ℕ) (p q : Tries) (s : Step) (mode : Mode) (to_leaf : Bool) → p.leaf ≡ q.leaf → p.total ≡ q.total → nat_abs (sought size s.first) ≡ numrep_of (made_choice size mode to_leaf s) size → own_choosing (beside v bs) size p mode to_leaf s ≡ own_of (choosing_of v size q (made_choice size mode to_leaf s)) bs (nat_abs (sought size s.first)) p.vary p.stable
own_is bs v size p q s mode to_leaf leaf total numrep =
    let with : ℕ → ℕ → ℕ → Choosing = λ l t n. record {
      world = beside v bs;
      choose = record { mode = mode; to_leaf = to_leaf; count = nat_abs (sought size s.first); level = nat_abs s.second };
      tries = record { total = t; leaf = l; vary = p.vary; stable = p.stable };
      numrep = n;
    } in
    ap (λ l. with l p.total (nat_abs (sought size s.first))) leaf
    ∙ ap (λ t. with q.leaf t (nat_abs (sought size s.first))) total
    ∙ ap (with q.leaf q.total) numrep

-- both choose the same of the same
chosen_same : (R : ℤ → Type 0) (bs : List Bucket) (v : World) (size : ℕ) (p q : Progress) (s : Step) (rest : List Step) (mode : Mode) (to_leaf : Bool) → IsBeside R bs v → 0 < size → chooses s.word ≡ true → is_idle size s ≡ false → (mode ≡ Firstn → to_leaf ≡ true → is_leaf_choice s ≡ true) → TryAlikeFrom (s ∷ rest) p q → p.working ≡ q.working → All (IsIn R) q.working → own_chosen (beside v bs) size p mode to_leaf s ≡ chosen_from (choosing_of v size q.tries (made_choice size mode to_leaf s)) size q.working
unfolding own_chosen
chosen_same R bs v size p q s rest mode to_leaf beside_it some is busy leafy (inl h) same inside =
    let k = choosing_of v size q.tries (made_choice size mode to_leaf s) in
    let numrep = seeks_same size s mode to_leaf some is busy in
    let packs : PacksBy k p.tries.vary p.tries.stable = λ m t. (let look = leaf_ahead s rest (leafy m t) in (sym (h.vary look), sym (h.stable look))) in
    ap (λ c. cond c [] (chosen_from (own_choosing (beside v bs) size p.tries mode to_leaf s) size p.working)) (seeks_some size s some is busy)
    ∙ ap (λ (c : Choosing). chosen_from c size p.working) (own_is bs v size p.tries q.tries s mode to_leaf h.leaf h.total numrep)
    ∙ ap (chosen_from (own_of k bs (nat_abs (sought size s.first)) p.tries.vary p.tries.stable) size) same
    ∙ sym (working_same R k bs (nat_abs (sought size s.first)) p.tries.vary p.tries.stable size [] q.working beside_it packs inside)
  where
    leaf_ahead : (s : Step) (rest : List Step) → is_leaf_choice s ≡ true → list_any is_leaf_choice (s ∷ rest) ≡ true
    leaf_ahead s rest e = rw e refl
chosen_same R bs v size p q s rest mode to_leaf beside_it some is busy leafy (inr h) same inside =
    none_chosen (beside v bs) size p mode to_leaf s h.1
    ∙ sym (ap (chosen_from (choosing_of v size q.tries (made_choice size mode to_leaf s)) size) h.2)

-- how both try behind a choice
choose_tries : (w v : World) (size : ℕ) (s : Step) (rest : List Step) (p q : Progress) (mode : Mode) (to_leaf : Bool) (c : Choose) → chooses s.word ≡ true → TryAlikeFrom (s ∷ rest) p q → TryAlikeFrom rest (after_choose w size p mode to_leaf s) (record q { working = chosen_from (choosing_of v size q.tries c) size q.working })
choose_tries w v size s rest p q mode to_leaf c is (inl h) = inl (alike_behind s rest p.tries q.tries h)
choose_tries w v size s rest p q mode to_leaf c is (inr h) =
    let alone = chooses_alone s.word is in
    inr (unset_behind s rest p.tries q.tries alone.takes (λ t. sets_none t s.word alone.sets) h.0, none_chosen w size p mode to_leaf s h.1, ap (chosen_from (choosing_of v size q.tries c) size) h.2)

-- a choice in a block that gives something is idle only where a step takes anew
busy_choice : (size : ℕ) (s : Step) (rest : List Step) → chooses s.word ≡ true → idle_ahead size (s ∷ rest) ≡ false → (idle_ahead size rest ≡ false) × (takes_ahead rest ≡ false → is_idle size s ≡ false)
busy_choice size s rest is alive =
    let e : (leaves_nothing size s rest || idle_ahead size rest) ≡ false = sym (idle_choice size s rest is) ∙ alive in
    grind (arith, e)

-- behind one in a block that gives something
choose_live : (R : ℤ → Type 0) (bs : List Bucket) (v : World) (size : ℕ) (s : Step) (rest : List Step) (p q : Progress) → IsBeside R bs v → 0 < size → chooses s.word ≡ true → RunAlike R size false (s ∷ rest) p q → All (IsIn R) (after_step v size q (step_of (imported_step size s))).working → RunAlike R size false rest (after_own (beside v bs) size p s) (after_step v size q (step_of (imported_step size s)))
unfolding imported_step
choose_live R bs v size s rest p q beside_it some is h inside =
    let choice = choice_of s.word s is in
    let alone = chooses_alone s.word is in
    let own = choice.does (beside v bs) size p in
    let made = made_choose v size q s choice.mode choice.to_leaf (choice.part size) in
    let live = h.live refl in
    let busy = busy_choice size s rest is live.alive in
    moved R size false rest _ _ _ _ own made (record {
      tries = choose_tries (beside v bs) v size s rest p q choice.mode choice.to_leaf (made_choice size choice.mode choice.to_leaf s) is h.tries;
      emitted = h.emitted;
      few = h.few;
      inside = subst (λ (o : Progress). All (IsIn R) o.working) made inside;
      live = λ _. record {
        alive = busy.0;
        working = λ none. chosen_same R bs v size p q s rest choice.mode choice.to_leaf beside_it some is (busy.1 none) choice.leafy h.tries (live.working (takes_on s rest alone.emits alone.takes ∙ none)) h.inside;
      };
      none = λ idle. not_idle idle;
    })

-- and in one that gives nothing
choose_idle : (R : ℤ → Type 0) (w : World) (size : ℕ) (s : Step) (rest : List Step) (p q : Progress) → chooses s.word ≡ true → RunAlike R size true (s ∷ rest) p q → RunAlike R size true rest (after_own w size p s) q
choose_idle R w size s rest p q is h =
    let choice = choice_of s.word s is in
    let own = choice.does w size p in
    moved R size true rest _ _ _ _ own refl (record {
      tries = idle_tries w size s rest p q choice.mode choice.to_leaf is h.tries;
      emitted = h.emitted;
      few = h.few;
      inside = h.inside;
      live = λ live. no_block live;
      none = λ _. (choose_gives w size s rest p choice.mode choice.to_leaf is (h.none refl).0, (h.none refl).1);
    })
  where
    idle_tries : (w : World) (size : ℕ) (s : Step) (rest : List Step) (p q : Progress) (mode : Mode) (to_leaf : Bool) → chooses s.word ≡ true → TryAlikeFrom (s ∷ rest) p q → TryAlikeFrom rest (after_choose w size p mode to_leaf s) q
    idle_tries w size s rest p q mode to_leaf is (inl h) = inl (alike_behind s rest p.tries q.tries h)
    idle_tries w size s rest p q mode to_leaf is (inr h) =
        let alone = chooses_alone s.word is in
        inr (unset_behind s rest p.tries q.tries alone.takes (λ t. sets_none t s.word alone.sets) h.0, none_chosen w size p mode to_leaf s h.1, h.2)

-- ---- steps that set something

-- behind one that stays
set_stays : (R : ℤ → Type 0) (w v : World) (size : ℕ) (idle : Bool) (s : Step) (rest : List Step) (p q : Progress) → is_setting s.word ≡ true → step_fits (imported_step size s) ≡ true → RunAlike R size idle (s ∷ rest) p q → RunAlike R size idle rest (after_own w size p s) (after_step v size q (step_of (imported_step size s)))
set_stays R w v size idle s rest p q is fits h =
    let part = setting_part size s is in
    let alone = sets_alone s.word is in
    let made = made_set s.word s.first v size q is in
    let within : step_fits (other_step s.word s.first) ≡ true = rw part at fits in
    let same = alone.working w size p s in
    moved R size idle rest _ _ _ _ refl (ap (λ o. after_step v size q (step_of o)) part) (record {
      tries = tries_set w v size s rest p q is within made.working h.tries;
      emitted = alone.emitted w size p s ∙ h.emitted ∙ sym made.emitted;
      few = subst (λ (ys : List (Option ℤ)). length ys ≤ size) (sym made.emitted) h.few;
      inside = subst (All (IsIn R)) (sym made.working) h.inside;
      live = λ live. (let old = h.live live in record {
        alive = sym (idle_on size s rest alone.emits alone.chooses) ∙ old.alive;
        working = λ none. same ∙ old.working (takes_on s rest alone.emits alone.takes ∙ none) ∙ sym made.working;
      });
      none = λ e. (set_gives size s rest p.working (after_own w size p s).working is same (h.none e).0, made.working ∙ (h.none e).1);
    })

-- ---- all steps

-- the steps that stay take what is in a set, and are within the limits
pub record AreSound (R : ℤ → Type 0) (kept : List StepPart) : Type 0 where
  pub takes : All (TakesIn R) (map step_of kept)
  pub fits : list_all step_fits kept ≡ true

-- and so are those behind one
pub record IsSoundFirst (R : ℤ → Type 0) (first : StepPart) (kept : List StepPart) : Type 0 where
  pub takes : TakesIn R (step_of first)
  pub fits : step_fits first ≡ true
  pub behind : AreSound R kept

-- the first of them and those behind it
sound_first : (R : ℤ → Type 0) (first : StepPart) (kept : List StepPart) → AreSound R (first ∷ kept) → IsSoundFirst R first kept
sound_first R first kept h =
    let fits = and_parts _ _ h.fits in
    record {
      takes = All-head (TakesIn R) (step_of first) (map step_of kept) h.takes;
      fits = fits.0;
      behind = record { takes = All-tail (TakesIn R) (step_of first) (map step_of kept) h.takes; fits = fits.1 };
    }

-- what the steps of the map's rule emit from here on
abbrev made_emitted : World → ℕ → Progress → List StepPart → List (Option ℤ)
made_emitted v size q kept = (fold (after_step v size) q (map step_of kept)).emitted

-- and those of the cluster's own
abbrev own_emitted : World → ℕ → Progress → List Step → List (Option ℤ)
own_emitted w size p steps = (fold (after_own w size) p steps).emitted

-- from the same on both emit the same
pub runs_same : (R : ℤ → Type 0) (bs : List Bucket) (v : World) (size : ℕ) (steps : List Step) (idle : Bool) (p q : Progress) → IsBeside R bs v → 0 < size → has_known_words steps ≡ true → AreSound R (kept_steps size idle steps) → RunAlike R size idle steps p q → own_emitted (beside v bs) size p steps ≡ made_emitted v size q (kept_steps size idle steps)
unfolding kept_steps
runs_same R bs v size [] idle p q beside_it some known sound h = h.emitted
runs_same R bs v size (s ∷ rest) idle p q beside_it some known sound h =
    let known_words = and_parts _ _ known in
    let w = beside v bs in
    let part = imported_step size s in
    let next = after_own w size p s in
    let made = after_step v size q (step_of part) in
    let stays : (behind : Bool) → keeps size idle s rest ≡ true → idle_behind size idle s rest ≡ behind → (All (IsIn R) made.working → step_fits part ≡ true → RunAlike R size behind rest next made) → own_emitted w size p (s ∷ rest) ≡ made_emitted v size q (kept_steps size idle (s ∷ rest)) =
    λ behind is_so e then.
    let kept = kept_with size idle behind s rest is_so e in
    let first = sound_first R part (kept_steps size behind rest) (subst (AreSound R) kept sound) in
    let inside = step_in R v v.weights size q (step_of part) beside_it.within first.takes h.inside in
    runs_same R bs v size rest behind next made beside_it some known_words.1 first.behind (then inside first.fits)
    ∙ ap (made_emitted v size q) (sym kept)
    in
    let goes : (behind : Bool) → keeps size idle s rest ≡ false → idle_behind size idle s rest ≡ behind → RunAlike R size behind rest next q → own_emitted w size p (s ∷ rest) ≡ made_emitted v size q (kept_steps size idle (s ∷ rest)) =
    λ behind not_so e then.
    let kept = kept_without size idle behind s rest not_so e in
    runs_same R bs v size rest behind next q beside_it some known_words.1 (subst (AreSound R) kept sound) then
    ∙ ap (made_emitted v size q) (sym kept)
    in
    elim (kind_of s.word known_words.0).is [
      | inl taken ↦
          let no_set : is_setting s.word ≡ false = rw taken refl in
          let e : emits s.word ≡ false = rw taken refl in
          elim (cases_Bool idle) [
            | inl is_so ↦ goes true (other_keeps size idle s rest no_set ∙ ap not is_so) (same_block size idle s rest e ∙ is_so) (take_idle R w size s rest p q taken (subst (λ b. RunAlike R size b (s ∷ rest) p q) is_so h))
            | inr not_so ↦ stays false (other_keeps size idle s rest no_set ∙ ap not not_so) (same_block size idle s rest e ∙ not_so) (λ inside fits. take_live R w v size s rest p q taken (subst (λ b. RunAlike R size b (s ∷ rest) p q) not_so h) inside)
          ]
      | inr others ↦ elim others [
        | inl emit ↦
            let no_set = emit_alone s emit in
            let e = next_block size idle s rest emit in
            elim (cases_Bool idle) [
              | inl is_so ↦ goes (idle_ahead size rest) (other_keeps size idle s rest no_set ∙ ap not is_so) e (emit_idle R w size s rest p q emit (subst (λ b. RunAlike R size b (s ∷ rest) p q) is_so h))
              | inr not_so ↦ stays (idle_ahead size rest) (other_keeps size idle s rest no_set ∙ ap not not_so) e (λ inside fits. emit_live R w v size s rest p q emit (subst (λ b. RunAlike R size b (s ∷ rest) p q) not_so h))
            ]
        | inr more ↦ elim more [
          | inl chosen ↦
              let alone = chooses_alone s.word chosen in
              let e = same_block size idle s rest alone.emits in
              elim (cases_Bool idle) [
                | inl is_so ↦ goes true (other_keeps size idle s rest alone.sets ∙ ap not is_so) (e ∙ is_so) (choose_idle R w size s rest p q chosen (subst (λ b. RunAlike R size b (s ∷ rest) p q) is_so h))
                | inr not_so ↦ stays false (other_keeps size idle s rest alone.sets ∙ ap not not_so) (e ∙ not_so) (λ inside fits. choose_live R bs v size s rest p q beside_it some chosen (subst (λ b. RunAlike R size b (s ∷ rest) p q) not_so h) inside)
              ]
          | inr sets ↦
              let alone = sets_alone s.word sets in
              let e = same_block size idle s rest alone.emits in
              let keep = setting_keeps size idle s rest sets in
              elim (cases_Bool (lives size idle rest)) [
                | inl alive ↦ stays idle (keep ∙ alive) e (λ inside fits. set_stays R w v size idle s rest p q sets fits h)
                | inr none ↦
                    let few : length p.emitted ≤ size = subst (λ (ys : List (Option ℤ)). length ys ≤ size) (sym h.emitted) h.few in
                    let emitted = alone.emitted w size p s in
                    let room : length next.emitted ≤ size = subst (λ (ys : List (Option ℤ)). length ys ≤ size) (sym emitted) few in
                    let end = dead w size rest idle next none known_words.1 room (λ is_so. set_gives size s rest p.working next.working sets (alone.working w size p s) (h.none is_so).0) in
                    let kept : kept_steps size idle (s ∷ rest) ≡ [] = kept_without size idle idle s rest (keep ∙ none) e ∙ end.kept in
                    end.emitted ∙ emitted ∙ h.emitted ∙ ap (made_emitted v size q) (sym kept)
              ]
        ]
      ]
    ]
