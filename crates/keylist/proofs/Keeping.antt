-- A list from which entries are taken away from the front on: those that stay stand in front, the others are still to be looked at.
use Rattle.std.proofs.Common.{◌≡◌, ◌∙◌, ℕ, zero, suc, Option, Some, slice_get, ◌+◌, ◌≤◌, ◌<◌, Bool, true, false, cond, List, [], ◌∷◌, ◌++◌, take, drop, length, set, get_or, refl, sym, ap, arith, add-one, append_assoc}
use Rattle.std.proofs.Math.Seq.{drop-cons, drop-length}
use Rattle.std.proofs.Math.ListN.{length-set}
use Rattle.std.proofs.lemmas.List.{drop-set-lt, take_more_set, append-nil}
use Rattle.std.specs.List.Sorted.{IsNonDecreasingBy}
use Rattle.keylist.specs.Order.{IsRising}
use Rattle.keylist.specs.Walks.{rest_from, begins_at}
use Rattle.keylist.proofs.KeyedOrder.{rising_tail}
use Rattle.keylist.proofs.Walking.{staying, next_stays, none_below, rest_ascends}
use Rattle.std.proofs.lemmas.Bool.{ne_eqb}
use Rattle.std.proofs.lemmas.Option.{same_Some}

-- so many stay of those before a place; the rest of the others is to be looked for from there on
pub record Keeping {K G : Type 0} (own : K → ℕ) (key : G → ℕ) (whole list : List K) (rest : List G) (so_far at : ℕ) : Type 0 where
  pub kept : take so_far list ++ staying key own rest (drop at list) ≡ whole
  pub within : so_far ≤ at
  pub rising : IsRising own (drop at list)
  pub order : IsNonDecreasingBy key rest

module _ {K G : Type 0} (own : K → ℕ) (key : G → ℕ) where
  module _ (whole list : List K) (rest : List G) (kept at : ℕ) (k : Keeping own key whole list rest kept at) (inside : at < length list) where
    module _ (e : K) (is : get_or list at e ≡ e) where
      -- what is to be looked at begins with the entry
      split : drop at list ≡ e ∷ drop (at + 1) list
      split = drop-cons list at e inside ∙ rw (is, add-one) refl

      abbrev pub later : List G
      later = rest_from key rest (own e)

      abbrev pub goes : Bool
      goes = begins_at key later (own e)

      whole_is : take kept list ++ (cond goes [] (e ∷ []) ++ staying key own later (drop (at + 1) list)) ≡ whole
      whole_is = ap (λ es. take kept list ++ es) (sym (ap (λ es. staying key own rest es) split ∙ next_stays key own rest e (drop (at + 1) list) (rw split at k.rising) k.order)) ∙ k.kept

      -- the same once the entry at the place stays or goes
      pub keeping_next : Keeping own key whole (cond goes list (set list kept e)) later (cond goes kept (kept + 1)) (at + 1)
      keeping_next = elim goes as (λ b. take kept list ++ (cond b [] (e ∷ []) ++ staying key own later (drop (at + 1) list)) ≡ whole → Keeping own key whole (cond b list (set list kept e)) later (cond b kept (kept + 1)) (at + 1)) [
        | true ↦ λ is_whole. record {
          kept = is_whole;
          within = omega (arith, k.within);
          rising = rising_tail own e _ (rw split at k.rising);
          order = rest_ascends key rest (own e) k.order;
        }
        | false ↦ λ is_whole. record {
          kept = rw (take_more_set list kept e (omega (arith, k.within, inside)), drop-set-lt (at + 1) list kept e (omega (arith, k.within)), append_assoc) is_whole;
          within = omega (arith, k.within);
          rising = rw (drop-set-lt (at + 1) list kept e (omega (arith, k.within))) (rising_tail own e _ (rw split at k.rising));
          order = rest_ascends key rest (own e) k.order;
        }
      ] whole_is

  -- what rises goes on rising from a place on
  rising_drop : (n : ℕ) (xs : List K) → IsRising own xs → IsRising own (drop n xs)
  rising_drop zero xs rises = rises
  rising_drop (suc n) [] rises = rises
  rising_drop (suc n) (x ∷ xs) rises = rising_drop n xs (rising_tail own x xs rises)

  -- those whose keys are below the first of the others stay
  stay_below : (g : G) (gs : List G) (n : ℕ) (xs : List K) → IsNonDecreasingBy key (g ∷ gs) → ((k : ℕ) (d : K) → k < n → own (get_or xs k d) < key g)
      → n ≤ length xs → take n xs ++ staying key own (g ∷ gs) (drop n xs) ≡ staying key own (g ∷ gs) xs
  stay_below g gs zero xs up below within = refl
  stay_below g gs (suc n) [] up below within = refl
  stay_below g gs (suc n) (x ∷ xs) up below within =
      let less : own x < key g = below 0 x (omega arith) in
      rw (ne_eqb (key g) (own x) (λ same. omega arith), none_below key g gs (own x) up less)
      (ap (λ es. x ∷ es) (stay_below g gs n xs up (λ k d low. below (suc k) d (omega arith)) (omega arith)))

  -- so the walk may begin behind them
  pub keeping_from : (list : List K) (gone : List G) (g : G) (start : ℕ) → slice_get gone 0 ≡ Some g → IsRising own list → IsNonDecreasingBy key gone → start ≤ length list
      → ((k : ℕ) (d : K) → k < start → own (get_or list k d) < key g) → Keeping own key (staying key own gone list) list gone start start
  keeping_from list [] g start first rises up within below = absurd (cc first)
  keeping_from list (h ∷ gs) g start first rises up within below =
      let same : h ≡ g = same_Some h g first in
      record {
        kept = stay_below h gs start list up (λ k d low. rw same (below k d low)) within;
        within = omega arith;
        rising = rising_drop start list rises;
        order = up;
      }

  -- at last those that stay stand in front
  pub keeping_last : (whole list : List K) (rest : List G) (kept at : ℕ) → Keeping own key whole list rest kept at → at ≡ length list → take kept list ≡ whole
  keeping_last whole list rest kept at k end = sym (append-nil _) ∙ rw (end, drop-length list) at k.kept

-- an entry put in its place, or not, leaves as many
pub length_kept : {K : Type 0} (goes : Bool) (list : List K) (at : ℕ) (e : K) → length (cond goes list (set list at e)) ≡ length list
length_kept true list at e = refl
length_kept false list at e = length-set list at e
