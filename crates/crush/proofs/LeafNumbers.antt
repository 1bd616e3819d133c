-- The replica number from which on a leaf is sought.
use Rattle.std.proofs.Common.{◌≡◌, ℕ, ◌+◌, ◌-◌, ◌/◌, ◌^◌, ◌<◌, ◌≤◌, Bool, cond, sym, ap, ◌∙◌, arith}
use Rattle.std.proofs.Math.Nat.{div-eq_of_lt, div-one, pow-le-pow_right}
use Rattle.std.proofs.lemmas.Bool.{ne_eqb}
use Rattle.crush.specs.declared.choose.Tries.{Tries}
use Rattle.crush.specs.Firstn.{settled_by, varied_by, leaf_number}

-- a number that is halved as often as it has bits, or more often, comes to nothing
halved_away : (r times : ℕ) → r < 2 ^ 32 → 32 ≤ times → r / 2 ^ times ≡ 0
halved_away r times small many =
    let least : 2 ^ 32 ≤ 2 ^ times = pow-le-pow_right (omega arith) many in
    div-eq_of_lt (omega (arith, least))

-- so it varies nothing
pub varied_away : (vary r times : ℕ) → r < 2 ^ 32 → (vary ≡ 0 → ⊥) → times ≡ vary - 1 → 32 ≤ times → 0 ≡ varied_by vary r
varied_away vary r times small some is many =
    sym (ap (λ (b : Bool). cond b 0 (r / 2 ^ (vary - 1))) (ne_eqb vary 0 some) ∙ ap (λ n. r / 2 ^ n) (sym is) ∙ halved_away r times small many)

-- by jewel's tunables a leaf is sought from the number of its bucket on
pub newest_number : (t : Tries) (count r : ℕ) → t.vary ≡ 1 → t.stable ≡ 1 → r ≡ leaf_number t count r
unfolding leaf_number
newest_number t count r one steady =
    let whole : varied_by t.vary r ≡ r = ap (λ v. varied_by v r) one ∙ div-one r in
    let same : 0 + varied_by t.vary r ≡ varied_by t.vary r = omega arith in
    let none : settled_by t.stable count ≡ 0 = ap (λ (b : Bool). cond b count 0) (ne_eqb t.stable 0 (λ none. omega (arith, none, steady))) in
    sym (ap (λ s. s + varied_by t.vary r) none ∙ same ∙ whole)
