-- The steps of a rule are those of its blocks.
use Rattle.std.proofs.Common.{◌≡◌, Bool, cond, ◌<◌, true, false, List, [], ◌∷◌, ◌++◌, length, All, refl, sym, ap, ◌∙◌, inl, inr, arith, append_assoc}
use Rattle.std.specs.List.{slice_split, onto_first, AllByRecursion}
use Rattle.std.proofs.lemmas.Bool.{and_parts, cases_Bool, false≢true}
use Rattle.std.proofs.lemmas.List.Elements.{All-from_recursion, recursion_from_All}
use Rattle.std.proofs.lemmas.List.Splits.{slice_split-cons_yes, slice_split-cons_no, slice_split_none, slice_split_at, length-slice_split}
use Rattle.std.proofs.lemmas.List.Sums.{AllPass-from_list_all, list_all-from_AllPass}
use Rattle.crush.specs.declared.step.RuleKind.{RuleKind}
use Rattle.crush.specs.declared.step.Step.TheVariants as step
use Rattle.crush.specs.declared.step.Step.{Step}
use Rattle.crush.specs.Grammar.{is_emit, is_block, sets_tries, is_piece, are_blocks, is_rule}
use Rattle.crush.proofs.LastSteps.{is_rule-at_last}
use Rattle.crush_laws.specs.Rules.{steps_of_blocks, IsGrammatical, RulesAreBlocks}

-- a step that emits is an emit
emit-is : (x : Step) → is_emit x ≡ true → x ≡ step.Emit
emit-is (step.SetChooseTries _) e = absurd (false≢true e)
emit-is (step.SetChooseleafTries _) e = absurd (false≢true e)
emit-is (step.SetChooseleafVaryR _) e = absurd (false≢true e)
emit-is (step.SetChooseleafStable _) e = absurd (false≢true e)
emit-is (step.Take _) e = absurd (false≢true e)
emit-is (step.Choose _) e = absurd (false≢true e)
emit-is step.Emit e = refl

-- no step of a block emits
block-plain : (kind : RuleKind) (block : List Step) → is_block kind block ≡ true → AllByRecursion (λ x. is_emit x ≡ false) block
block-plain kind (step.Take _ ∷ step.Choose _ ∷ []) e = (refl, (refl, tt))
block-plain kind (step.Take _ ∷ step.Choose _ ∷ step.Choose _ ∷ []) e = (refl, (refl, (refl, tt)))
block-plain kind (step.Take _ ∷ step.Choose _ ∷ step.Choose _ ∷ step.Choose _ ∷ []) e = (refl, (refl, (refl, (refl, tt))))
block-plain kind _ e = absurd (false≢true e)

-- nor does a step that sets tries before it
piece-by : (kind : RuleKind) (x : Step) (rest : List Step) (sets : Bool) → sets_tries x ≡ sets → cond sets (is_piece kind rest) (is_block kind (x ∷ rest)) ≡ true → (is_piece kind rest ≡ true → AllByRecursion (λ y. is_emit y ≡ false) rest) → AllByRecursion (λ y. is_emit y ≡ false) (x ∷ rest)
piece-by kind x rest true sets e below = (no_emit x sets, below e)
  where
    no_emit : (y : Step) → sets_tries y ≡ true → is_emit y ≡ false
    no_emit (step.SetChooseTries _) h = refl
    no_emit (step.SetChooseleafTries _) h = refl
    no_emit (step.SetChooseleafVaryR _) h = refl
    no_emit (step.SetChooseleafStable _) h = refl
    no_emit (step.Take _) h = refl
    no_emit (step.Choose _) h = refl
    no_emit step.Emit h = absurd (false≢true h)
piece-by kind x rest false sets e below = block-plain kind (x ∷ rest) e

-- so no step of a piece emits
piece-plain : (kind : RuleKind) (piece : List Step) → is_piece kind piece ≡ true → AllByRecursion (λ x. is_emit x ≡ false) piece
unfolding is_piece
piece-plain kind [] e = absurd (false≢true e)
piece-plain kind (x ∷ rest) e = piece-by kind x rest (sets_tries x) refl e (piece-plain kind rest)

-- the pieces between the emits, each with its emit, are the steps
steps_of_blocks-split : (xs : List Step) → steps_of_blocks (slice_split is_emit xs) ≡ xs ++ step.Emit ∷ []
steps_of_blocks-split [] = refl
steps_of_blocks-split (x ∷ xs) = elim (cases_Bool (is_emit x)) [
  | inl emits ↦ rw (slice_split-cons_yes is_emit x xs emits, emit-is x emits, steps_of_blocks-split xs)
  | inr plain ↦ rw (slice_split-cons_no is_emit x xs plain) (onto (slice_split is_emit xs) (omega (arith, length-slice_split is_emit xs)) (steps_of_blocks-split xs))
]
  where
    onto : (parts : List (List Step)) → 0 < length parts → steps_of_blocks parts ≡ xs ++ step.Emit ∷ [] → steps_of_blocks (onto_first x parts) ≡ x ∷ (xs ++ step.Emit ∷ [])
    onto [] some e = absurd (omega arith)
    onto (part ∷ parts) some e = ap (λ l. x ∷ l) e

-- the steps of blocks without the last emit
front_of : List Step → List (List Step) → List Step
front_of b [] = b
front_of b (c ∷ cs) = b ++ step.Emit ∷ front_of c cs

-- the steps of blocks end with the last emit
steps_of_blocks-front : (b : List Step) (bs : List (List Step)) → steps_of_blocks (b ∷ bs) ≡ front_of b bs ++ step.Emit ∷ []
unfolding front_of
steps_of_blocks-front b [] = refl
steps_of_blocks-front b (c ∷ cs) = rw (steps_of_blocks-front c cs, append_assoc)

-- parted at the emits they are the blocks
split-front : (kind : RuleKind) (b : List Step) (bs : List (List Step)) → AllByRecursion (λ c. is_piece kind c ≡ true) (b ∷ bs) → slice_split is_emit (front_of b bs) ≡ b ∷ bs
unfolding front_of
split-front kind b [] lawful = slice_split_none is_emit b (All-from_recursion (λ x. is_emit x ≡ false) b (piece-plain kind b lawful.0))
split-front kind b (c ∷ cs) lawful =
    let first = slice_split_at is_emit b step.Emit (front_of c cs) (All-from_recursion (λ x. is_emit x ≡ false) b (piece-plain kind b lawful.0)) refl in
    first ∙ ap (λ parts. b ∷ parts) (split-front kind c cs lawful.1)

-- steps with a last one
with-last : (y : Step) (ys : List Step) → (rest : List Step) × (x : Step) × (y ∷ ys ≡ rest ++ x ∷ [])
with-last y [] = ([], y, refl)
with-last y (z ∷ zs) = let rest = with-last z zs in (y ∷ rest.0, rest.1, ap (λ l. y ∷ l) rest.2)

-- steps that pass are those of blocks
grammatical : (kind : RuleKind) (steps : List Step) → is_rule kind steps ≡ true → IsGrammatical kind steps
unfolding are_blocks
grammatical kind [] rule = absurd (false≢true rule)
grammatical kind (y ∷ ys) rule =
    let last = with-last y ys in
    let both = and_parts (is_emit last.1) (are_blocks kind last.0) (sym (is_rule-at_last kind (y ∷ ys) last.0 last.1 last.2) ∙ rule) in
    record {
      blocks = slice_split is_emit last.0;
      some = omega (arith, length-slice_split is_emit last.0);
      lawful = AllPass-from_list_all (is_piece kind) (slice_split is_emit last.0) both.1;
      made = rw (last.2, emit-is last.1 both.0) (sym (steps_of_blocks-split last.0));
    }

-- the steps of blocks pass
lawful-rule : (kind : RuleKind) (blocks : List (List Step)) → 0 < length blocks → All (λ block. is_piece kind block ≡ true) blocks → is_rule kind (steps_of_blocks blocks) ≡ true
unfolding are_blocks
lawful-rule kind [] some lawful = absurd (omega arith)
lawful-rule kind (b ∷ bs) some lawful =
    let front = front_of b bs in
    let parts = split-front kind b bs (recursion_from_All (λ block. is_piece kind block ≡ true) (b ∷ bs) lawful) in
    is_rule-at_last kind (steps_of_blocks (b ∷ bs)) front step.Emit (steps_of_blocks-front b bs) ∙ rw parts (list_all-from_AllPass (is_piece kind) (b ∷ bs) lawful)

-- the test of the grammar holds of the steps of blocks alone
pub rules_are_blocks : RulesAreBlocks
rules_are_blocks kind steps = (grammatical kind steps, λ h. rw h.made (lawful-rule kind h.blocks h.some h.lawful))
