-- A list into which others are put from the back: what its front and the others make, and what stands behind already.
use Rattle.std.proofs.Common.{◌≡◌, ◌∙◌, ℕ, zero, suc, ◌+◌, ◌-◌, ◌≤◌, ◌<◌, List, [], ◌∷◌, ◌++◌, take, drop, length, set, refl, sym, ap, arith}
use Rattle.std.specs.List.{fold}
use Rattle.std.proofs.Math.Seq.{drop-length}
use Rattle.std.proofs.Math.ListN.{length-set}
use Rattle.std.proofs.lemmas.List.{length-append, length-take, take-append-drop, append-nil, append_assoc, take-set-le, drop-set}
use Rattle.keylist.specs.Order.{IsRising}
use Rattle.keylist.specs.Puts.{put, ComesLast}
use Rattle.keylist.proofs.KeyedMaps.{length-puts_least}

-- a shorter beginning of a beginning
take_within : {X : Type 0} (n m : ℕ) (xs : List X) → n ≤ m → take n (take m xs) ≡ take n xs
take_within zero m xs few = refl
take_within (suc n) zero xs few = absurd (omega arith)
take_within (suc n) (suc m) [] few = refl
take_within (suc n) (suc m) (x ∷ xs) few = ap (λ ys. x ∷ ys) (take_within n m xs (omega arith))

pub record Merging {X : Type 0} (key : X → ℕ) (whole list : List X) (olds at : ℕ) (news : List X) : Type 0 where
  pub made : fold (put key) (take olds list) news ++ drop at list ≡ whole
  pub long : at ≡ length (fold (put key) (take olds list) news)
  pub old_rises : IsRising key (take olds list)
  pub new_rises : IsRising key news
  pub inside : at ≤ length list
  pub few : olds ≤ length list

module _ {X : Type 0} (key : X → ℕ) where
  -- at first the whole list is in front, and nothing behind
  pub merging_first : (old list new : List X) (len at : ℕ) → len ≡ length old → take len list ≡ old → length list ≡ at → at ≡ length (fold (put key) old new)
      → IsRising key old → IsRising key new → Merging key (fold (put key) old new) list len at new
  merging_first old list new len at long front reach count old_rises new_rises = record {
    made = rw (front, sym reach, drop-length list) (append-nil (fold (put key) old new));
    long = rw front count;
    old_rises = rw front old_rises;
    new_rises = new_rises;
    inside = omega arith;
    few = omega (arith, length-puts_least key old new);
  }

  module _ (whole list news : List X) (olds at : ℕ) (m : Merging key whole list olds at news) where
    -- at last nothing is left to be put, and the front joins what stands behind
    pub merging_last : news ≡ [] → list ≡ whole
    merging_last none =
        let same : at ≡ olds = m.long ∙ rw (none, length-take olds list) (omega (arith, m.few)) in
        sym (take-append-drop olds list) ∙ (rw (none, same) at m.made)

    module _ (x : X) (left : ℕ) (rest : List X) (comes : ComesLast key (take olds list) news x left rest) where
      shown : take left (take olds list) ≡ take left list
      shown = take_within left olds list (omega (arith, comes.some, length-take olds list))

      longer : at ≡ length (fold (put key) (take left list) rest) + 1
      longer = m.long ∙ ap length comes.made ∙ length-append _ (x ∷ []) ∙ rw shown refl

      -- there is a place for what comes last
      pub at_some : 0 < at
      at_some = omega (arith, longer)

      left_few : left ≤ length list
      left_few = omega (arith, comes.some, length-take olds list)

      left_below : left ≤ at - 1
      left_below = omega (arith, longer, length-puts_least key (take left list) rest, length-take left list, left_few)

      -- which is put there
      pub merging_next : Merging key whole (set list (at - 1) x) left (at - 1) rest
      merging_next =
          let front : take left (set list (at - 1) x) ≡ take left list = take-set-le left list (at - 1) x left_below in
          let back : drop (at - 1) (set list (at - 1) x) ≡ x ∷ drop at list =
          drop-set list (at - 1) x (omega (arith, m.inside, at_some)) ∙ ap (λ n. x ∷ drop n list) (omega (arith, at_some)) in
          let made : fold (put key) (take olds list) news ≡ fold (put key) (take left list) rest ++ x ∷ [] = comes.made ∙ rw shown refl in
          record {
            made = rw (front, back) (sym (append_assoc (fold (put key) (take left list) rest) (x ∷ []) (drop at list)) ∙ ap (λ ys. ys ++ drop at list) (sym made) ∙ m.made);
            long = rw front (omega (arith, longer));
            old_rises = rw (front, ← shown) comes.old_rises;
            new_rises = comes.new_rises;
            inside = rw length-set (omega (arith, m.inside));
            few = rw length-set left_few;
          }

      -- so that less is left
      pub fewer : left + length rest < olds + length news
      fewer = omega (arith, comes.fewer, length-take olds list)
