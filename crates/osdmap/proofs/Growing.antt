-- A list of which one entry after another is changed where it stands.
use Rattle.std.proofs.Common.{◌≡◌, ◌∙◌, ℕ, suc, add-one, ◌+◌, ◌<◌, List, [], ◌∷◌, map, take, drop, length, get_or, set, sym, ap, arith}
use Rattle.std.proofs.lemmas.List.{get_or-drop, map-append, take_more, take_more_set, drop-set-lt}
use Rattle.std.proofs.Math.Seq.{drop-cons}

-- lists that are the same from a place on are so at it
same_here : {X : Type 0} (old xs : List X) (at : ℕ) (d : X) → drop at xs ≡ drop at old → get_or xs at d ≡ get_or old at d
same_here old xs at d rest =
    ap (λ n. get_or xs n d) (omega arith) ∙ sym (get_or-drop at xs 0 d) ∙ ap (λ ys. get_or ys 0 d) rest ∙ get_or-drop at old 0 d ∙ ap (λ n. get_or old n d) (omega arith)

-- one pool more grows where it stands
pub grew_more : {X : Type 0} (f : X → X) (old xs : List X) (at : ℕ) (x y : X) → take at xs ≡ map f (take at old) → drop at xs ≡ drop at old → length xs ≡ length old → at < length xs
    → x ≡ get_or xs at x → y ≡ f x → take (at + 1) (set xs at y) ≡ map f (take (at + 1) old)
grew_more f old xs at x y grew rest long inside here is =
    take_more_set xs at y inside ∙ rw (grew, is, here, same_here old xs at x rest) (sym (map-append f (take at old) (get_or old at x ∷ [])) ∙ ap (map f) (sym (take_more old at x (omega arith))))

-- those behind it are as they were
pub rest_same : {X : Type 0} (old xs : List X) (at : ℕ) (y d : X) → drop at xs ≡ drop at old → length xs ≡ length old → at < length xs → drop (at + 1) (set xs at y) ≡ drop (at + 1) old
rest_same old xs at y d rest long inside =
    let tails : get_or xs at d ∷ drop (suc at) xs ≡ get_or old at d ∷ drop (suc at) old = sym (drop-cons xs at d inside) ∙ rest ∙ drop-cons old at d (omega arith) in
    drop-set-lt (at + 1) xs at y (omega arith) ∙ ap (λ n. drop n xs) (add-one at) ∙ ap (drop 1) tails ∙ ap (λ n. drop n old) (sym (add-one at))
