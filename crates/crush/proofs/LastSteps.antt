-- A rule by its last step, which is an emit.
use Rattle.std.proofs.Common.{◌≡◌, ◌-◌, ◌&&◌, List, [], ◌∷◌, ◌++◌, length, take, Some, refl, arith, length-append}
use Rattle.std.specs.List.{slice_get}
use Rattle.std.proofs.lemmas.Grind.{common_steps}
use Rattle.crush.specs.declared.step.RuleKind.{RuleKind}
use Rattle.crush.specs.declared.step.Step.{Step}
use Rattle.crush.specs.Grammar.{is_emit, are_blocks, is_rule}

-- the last step is where the length says
get_last : (rest : List Step) (x : Step) → slice_get (rest ++ x ∷ []) (length rest) ≡ Some x
get_last [] x = refl
get_last (y ∷ ys) x = get_last ys x

-- and the steps before it are the rest
take_rest : (rest : List Step) (x : Step) → take (length rest) (rest ++ x ∷ []) ≡ rest
take_rest rest x = grind (arith, common_steps)

-- a rule ends with an emit, and has blocks before it
pub is_rule-push : (kind : RuleKind) (rest : List Step) (x : Step) → is_rule kind (rest ++ x ∷ []) ≡ (is_emit x && are_blocks kind rest)
is_rule-push kind rest x =
    let n : length (rest ++ x ∷ []) - 1 ≡ length rest = omega (arith, length-append rest (x ∷ [])) in
    rw (n, get_last rest x, take_rest rest x)

-- the same of steps that were parted at the last
pub is_rule-at_last : (kind : RuleKind) (steps rest : List Step) (x : Step) → steps ≡ rest ++ x ∷ [] → is_rule kind steps ≡ (is_emit x && are_blocks kind rest)
is_rule-at_last kind steps rest x e = rw e (is_rule-push kind rest x)
