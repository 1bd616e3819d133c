-- Blocks that give nothing, and steps behind which nothing is given.
use Rattle.std.proofs.Common.{◌≡◌, ℕ, ◌≤◌, ℤ, pos, ◌+ℤ◌, ◌&&◌, ◌||◌, Bool, true, false, not, cond, List, [], ◌∷◌, ◌++◌, length, take, Option, ◌⊎◌, inl, inr, sym, ap, refl, ◌∙◌, subst, arith, append-nil, take_all}
use Rattle.std.specs.List.{fold}
use Rattle.std.specs.Prelude.{int_lt, int_le}
use Rattle.std.proofs.lemmas.Bool.{cases_Bool, and_parts, both_ways}
use Rattle.std.proofs.lemmas.Int.{ints}
use Rattle.crush.specs.declared.step.Mode.{Mode}
use Rattle.crush.specs.Run.{Progress, chosen_from}
use Rattle.crush.specs.World.{World}
use Rattle.cephmap.specs.declared.rule.Step.{Step}
use Rattle.cephmap.specs.declared.rule.StepWord.{StepWord}
use Rattle.cephmap.specs.declared.rule.StepWord.TheVariants as words
use Rattle.cephimport.specs.FitRules.{is_known_word, has_known_words}
use Rattle.cephimport.specs.Steps.{is_setting, emits, chooses, count_for, imported_step, is_idle, takes_ahead, leaves_nothing, idle_ahead, idle_behind, lives, keeps, kept_steps}
use Rattle.import_laws.specs.Own.{sought, own_choosing, own_chosen, after_word, after_own}
use Rattle.import_laws.proofs.StepForms.{kind_of, choice_of, chooses_alone, sets_alone, idle_on, takes_on, takes_here, none_ahead, idle_choice}

-- a block gives nothing from here on: a step ahead sees to it, or nothing is worked on and no step takes
abbrev pub GivesNothing : ℕ → List Step → List (Option ℤ) → Type 0
GivesNothing size rest working = (idle_ahead size rest ≡ true) ⊎ ((takes_ahead rest ≡ false) × (working ≡ []))

-- one of two tests passes
either_true : (a b : Bool) → (a || b) ≡ true → (a ≡ true) ⊎ (b ≡ true)
either_true true b e = inl refl
either_true false b e = inr e

-- nothing chosen of nothing
pub none_chosen : (w : World) (size : ℕ) (p : Progress) (mode : Mode) (to_leaf : Bool) (s : Step) → p.working ≡ [] → own_chosen w size p mode to_leaf s ≡ []
unfolding own_chosen
none_chosen w size p mode to_leaf s none = elim (cases_Bool (int_le (sought size s.first) (pos 0))) [
  | inl few ↦ rw few refl
  | inr some ↦ rw some (ap (chosen_from (own_choosing w size p.tries mode to_leaf s) size) none)
]

-- an idle step seeks nothing
pub idle_seeks : (size : ℕ) (s : Step) → is_idle size s ≡ true → int_le (sought size s.first) (pos 0) ≡ true
unfolding is_idle sought count_for
idle_seeks size s idle =
    let none : int_le (cond (int_lt s.first (pos 0)) (s.first +ℤ pos size) s.first) (pos 0) ≡ true = (and_parts _ _ idle).1 in
    let below : int_lt s.first (pos 0) ≡ true = (and_parts _ _ (and_parts _ _ idle).0).1 in
    grind (arith, ints, none, below)

-- so it chooses nothing
idle_chosen : (w : World) (size : ℕ) (p : Progress) (mode : Mode) (to_leaf : Bool) (s : Step) → is_idle size s ≡ true → own_chosen w size p mode to_leaf s ≡ []
unfolding own_chosen
idle_chosen w size p mode to_leaf s idle = rw (idle_seeks size s idle) refl

-- behind a step that takes, a block that gives nothing gives nothing still
pub take_gives : (size : ℕ) (s : Step) (rest : List Step) (working working' : List (Option ℤ)) → s.word ≡ words.Take → GivesNothing size (s ∷ rest) working → GivesNothing size rest working'
take_gives size s rest working working' is (inl idle) =
    let e : emits s.word ≡ false = rw is refl in
    let c : chooses s.word ≡ false = rw is refl in
    inl (sym (idle_on size s rest e c) ∙ idle)
take_gives size s rest working working' is (inr none) = absurd (cc (takes_here s rest is, none.0))

-- and behind one that sets something
pub set_gives : (size : ℕ) (s : Step) (rest : List Step) (working working' : List (Option ℤ)) → is_setting s.word ≡ true → working' ≡ working → GivesNothing size (s ∷ rest) working → GivesNothing size rest working'
set_gives size s rest working working' is same (inl idle) = let alone = sets_alone s.word is in inl (sym (idle_on size s rest alone.emits alone.chooses) ∙ idle)
set_gives size s rest working working' is same (inr none) = let alone = sets_alone s.word is in inr (sym (takes_on s rest alone.emits alone.takes) ∙ none.0, same ∙ none.1)

-- and behind one that chooses
pub choose_gives : (w : World) (size : ℕ) (s : Step) (rest : List Step) (p : Progress) (mode : Mode) (to_leaf : Bool) → chooses s.word ≡ true → GivesNothing size (s ∷ rest) p.working → GivesNothing size rest (own_chosen w size p mode to_leaf s)
choose_gives w size s rest p mode to_leaf is (inl idle) = elim (either_true (leaves_nothing size s rest) (idle_ahead size rest) (sym (idle_choice size s rest is) ∙ idle)) [
  | inl here ↦ (let parts = and_parts (is_idle size s) (not (takes_ahead rest)) here in elim (cases_Bool (takes_ahead rest)) [
    | inl taken ↦ absurd (both_ways (not (takes_ahead rest)) (ap not taken) parts.1)
    | inr none ↦ inr (none, idle_chosen w size p mode to_leaf s parts.0)
  ])
  | inr later ↦ inl later
]
choose_gives w size s rest p mode to_leaf is (inr none) =
    let alone = chooses_alone s.word is in
    inr (sym (takes_on s rest alone.emits alone.takes) ∙ none.0, none_chosen w size p mode to_leaf s none.1)

-- at its end nothing is worked on
pub end_gives : (size : ℕ) (s : Step) (rest : List Step) (working : List (Option ℤ)) → s.word ≡ words.Emit → GivesNothing size (s ∷ rest) working → working ≡ []
end_gives size s rest working is (inl idle) = absurd (cc ((none_ahead size s rest is).0, idle))
end_gives size s rest working is (inr none) = none.1

-- so nothing is emitted
pub nothing_emitted : (size : ℕ) (emitted working : List (Option ℤ)) → length emitted ≤ size → working ≡ [] → take size (emitted ++ working) ≡ emitted
nothing_emitted size emitted working few none =
    ap (λ ys. take size (emitted ++ ys)) none ∙ ap (take size) (append-nil emitted) ∙ take_all size emitted few

-- what a step within such a block leaves
pub record LeavesNothing (w : World) (size : ℕ) (p : Progress) (s : Step) (rest : List Step) : Type 0 where
  pub gives : GivesNothing size rest (after_own w size p s).working
  pub emitted : (after_own w size p s).emitted ≡ p.emitted
  pub stays : emits s.word ≡ false

-- each step but an emit
pub inner_step : (w : World) (size : ℕ) (p : Progress) (s : Step) (rest : List Step) → is_known_word s.word ≡ true → (s.word ≡ words.Emit → ⊥) → GivesNothing size (s ∷ rest) p.working → LeavesNothing w size p s rest
unfolding after_word
inner_step w size p s rest known inner gives = elim (kind_of s.word known).is [
  | inl taken ↦ record { gives = take_gives size s rest p.working (after_own w size p s).working taken gives; emitted = ap (λ word. (after_word word w size p s).emitted) taken; stays = rw taken refl }
  | inr others ↦ elim others [
    | inl emit ↦ absurd (inner emit)
    | inr rest_of ↦ elim rest_of [
      | inl chosen ↦ (let choice = choice_of s.word s chosen in
          let does = choice.does w size p in
          record {
            gives = subst (GivesNothing size rest) (sym (ap (λ (q : Progress). q.working) does)) (choose_gives w size s rest p choice.mode choice.to_leaf chosen gives);
            emitted = ap (λ (q : Progress). q.emitted) does;
            stays = (chooses_alone s.word chosen).emits;
          })
      | inr sets ↦ (let alone = sets_alone s.word sets in
          record {
            gives = set_gives size s rest p.working (after_own w size p s).working sets (alone.working w size p s) gives;
            emitted = alone.emitted w size p s;
            stays = alone.emits;
          })
    ]
  ]
]

-- neither of two tests passes
either_false : (a b : Bool) → (a || b) ≡ false → (a ≡ false) × (b ≡ false)
either_false true b e = absurd (cc)
either_false false b e = (refl, e)

-- a step that sets nothing lives but in an idle block
not_alive : (a idle : Bool) → (not a && not idle) ≡ false → a ≡ false → idle ≡ true
not_alive true idle e not_so = absurd (cc)
not_alive false true e not_so = refl
not_alive false false e not_so = absurd (cc)

-- behind a step that does not emit the block is what it was
pub same_block : (size : ℕ) (idle : Bool) (s : Step) (rest : List Step) → emits s.word ≡ false → idle_behind size idle s rest ≡ idle
unfolding idle_behind
same_block size idle s rest e = rw e refl

-- behind an emit the next one begins
pub next_block : (size : ℕ) (idle : Bool) (s : Step) (rest : List Step) → s.word ≡ words.Emit → idle_behind size idle s rest ≡ idle_ahead size rest
unfolding idle_behind
next_block size idle s rest e = rw e refl

-- a step that sets something stays where a later one lives
pub setting_keeps : (size : ℕ) (idle : Bool) (s : Step) (rest : List Step) → is_setting s.word ≡ true → keeps size idle s rest ≡ lives size idle rest
unfolding keeps
setting_keeps size idle s rest is = rw is refl

-- another one where its block gives anything
pub other_keeps : (size : ℕ) (idle : Bool) (s : Step) (rest : List Step) → is_setting s.word ≡ false → keeps size idle s rest ≡ not idle
unfolding keeps
other_keeps size idle s rest not_so = rw not_so refl

-- a step that does not stay
pub kept_without : (size : ℕ) (idle behind : Bool) (s : Step) (rest : List Step) → keeps size idle s rest ≡ false → idle_behind size idle s rest ≡ behind → kept_steps size idle (s ∷ rest) ≡ kept_steps size behind rest
unfolding kept_steps
kept_without size idle behind s rest not_so e = rw not_so (rw e refl)

-- a step that stays
pub kept_with : (size : ℕ) (idle behind : Bool) (s : Step) (rest : List Step) → keeps size idle s rest ≡ true → idle_behind size idle s rest ≡ behind → kept_steps size idle (s ∷ rest) ≡ imported_step size s ∷ kept_steps size behind rest
unfolding kept_steps
kept_with size idle behind s rest is_so e = rw is_so (rw e refl)

-- what steps give that do not live: nothing, in the cluster's own map and in the map
pub record GiveNothing (w : World) (size : ℕ) (idle : Bool) (p : Progress) (steps : List Step) : Type 0 where
  pub emitted : (fold (after_own w size) p steps).emitted ≡ p.emitted
  pub kept : kept_steps size idle steps ≡ []

-- the steps behind one
behind_one : (w : World) (size : ℕ) (idle behind : Bool) (p : Progress) (s : Step) (rest : List Step) → keeps size idle s rest ≡ false → idle_behind size idle s rest ≡ behind → (after_own w size p s).emitted ≡ p.emitted → GiveNothing w size behind (after_own w size p s) rest → GiveNothing w size idle p (s ∷ rest)
behind_one w size idle behind p s rest not_so e same later = record {
  emitted = later.emitted ∙ same;
  kept = kept_without size idle behind s rest not_so e ∙ later.kept;
}

-- a word that emits is that one
emit_word : (word : StepWord) → emits word ≡ true → word ≡ words.Emit
emit_word words.Nothing e = absurd (cc)
emit_word words.Take e = absurd (cc)
emit_word words.ChooseFirstN e = absurd (cc)
emit_word words.ChooseIndep e = absurd (cc)
emit_word words.Emit e = refl
emit_word words.ChooseLeafFirstN e = absurd (cc)
emit_word words.ChooseLeafIndep e = absurd (cc)
emit_word words.SetChooseTries e = absurd (cc)
emit_word words.SetChooseLeafTries e = absurd (cc)
emit_word words.SetChooseLocalTries e = absurd (cc)
emit_word words.SetChooseLocalFallbackTries e = absurd (cc)
emit_word words.SetChooseLeafVaryR e = absurd (cc)
emit_word words.SetChooseLeafStable e = absurd (cc)

-- and no other one is
not_an_emit : (word : StepWord) → emits word ≡ false → word ≡ words.Emit → ⊥
not_an_emit word not_so is = let is_so : emits word ≡ true = rw is refl in both_ways _ not_so is_so

-- a step by itself, and whether a later one lives
pub lives_parts : (size : ℕ) (idle : Bool) (s : Step) (rest : List Step) → lives size idle (s ∷ rest) ≡ false → ((not (is_setting s.word) && not idle) ≡ false) × (lives size (idle_behind size idle s rest) rest ≡ false)
unfolding lives
lives_parts size idle s rest e = either_false _ _ e

-- where no step lives they give nothing
pub dead : (w : World) (size : ℕ) (steps : List Step) (idle : Bool) (p : Progress) → lives size idle steps ≡ false → has_known_words steps ≡ true → length p.emitted ≤ size → (idle ≡ true → GivesNothing size steps p.working) → GiveNothing w size idle p steps
unfolding kept_steps after_word
dead w size [] idle p none known few gives = record { emitted = refl; kept = refl }
dead w size (s ∷ rest) idle p none known few gives =
    let parts = lives_parts size idle s rest none in
    let known_words = and_parts _ _ known in
    let next = after_own w size p s in
    elim (cases_Bool (is_setting s.word)) [
      | inl sets ↦
          let alone = sets_alone s.word sets in
          let same = same_block size idle s rest alone.emits in
          let later : lives size idle rest ≡ false = rw same at parts.1 in
          let emitted : next.emitted ≡ p.emitted = alone.emitted w size p s in
          let room : length next.emitted ≤ size = subst (λ (ys : List (Option ℤ)). length ys ≤ size) (sym emitted) few in
          behind_one w size idle idle p s rest (setting_keeps size idle s rest sets ∙ later) same emitted
          (dead w size rest idle next later known_words.1 room (λ is. set_gives size s rest p.working next.working sets (alone.working w size p s) (gives is)))
      | inr other ↦
          let is : idle ≡ true = not_alive _ _ parts.0 other in
          let dropped : keeps size idle s rest ≡ false = other_keeps size idle s rest other ∙ ap not is in
          elim (cases_Bool (emits s.word)) [
            | inl e ↦
                let emit = emit_word s.word e in
                let empty = end_gives size s rest p.working emit (gives is) in
                let same = next_block size idle s rest emit in
                let later : lives size (idle_ahead size rest) rest ≡ false = rw same at parts.1 in
                let emitted : next.emitted ≡ p.emitted = ap (λ word. (after_word word w size p s).emitted) emit ∙ nothing_emitted size p.emitted p.working few empty in
                let room : length next.emitted ≤ size = subst (λ (ys : List (Option ℤ)). length ys ≤ size) (sym emitted) few in
                behind_one w size idle (idle_ahead size rest) p s rest dropped same emitted
                (dead w size rest (idle_ahead size rest) next later known_words.1 room (λ ahead. inl ahead))
            | inr inner ↦
                let not_emit = not_an_emit s.word inner in
                let step = inner_step w size p s rest known_words.0 not_emit (gives is) in
                let same = same_block size idle s rest inner in
                let later : lives size idle rest ≡ false = rw same at parts.1 in
                let room : length next.emitted ≤ size = subst (λ (ys : List (Option ℤ)). length ys ≤ size) (sym step.emitted) few in
                behind_one w size idle idle p s rest dropped same step.emitted
                (dead w size rest idle next later known_words.1 room (λ _. step.gives))
          ]
    ]
