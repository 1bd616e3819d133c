-- What a sink over a writer keeps back, behind what is out.
use Rattle.std.proofs.Common.{◌≡◌, ◌∙◌, ℕ, ◌≤◌, List, [], ◌++◌, length, take, sym, ap, append_assoc, append-nil, arith}
use Rattle.std.proofs.Math.Seq.{take-length}

-- more is kept
pub kept_more : (gone kept bytes now : List ℕ) (n : ℕ) → now ≡ kept ++ bytes → n ≡ length bytes
    → (n ≤ length bytes) × (gone ++ now ≡ (gone ++ kept) ++ take n bytes)
kept_more gone kept bytes now n grown all = (
  omega (arith, all),
  ap (λ k. gone ++ k) grown ∙ sym (append_assoc gone kept bytes) ∙ ap (λ b. (gone ++ kept) ++ b) (sym (ap (λ k. take k bytes) all ∙ take-length bytes)),
)

-- all that was kept is out
pub all_gone : (gone kept now left : List ℕ) → now ≡ gone ++ kept → left ≡ [] → now ++ left ≡ gone ++ kept
all_gone gone kept now left out none = ap (λ l. now ++ l) none ∙ append-nil now ∙ out
