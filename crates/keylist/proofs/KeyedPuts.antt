-- Entries put into a list one after another.
use Rattle.std.proofs.Common.{◌≡◌, ℕ, ◌<◌, List, [], ◌∷◌, ◌++◌, take, length, get_or, refl, arith, eq-eqb, inl, inr}
use Rattle.std.specs.List.{fold, All}
use Rattle.std.proofs.lemmas.Bool.{lt-ltb, le-ltb, ne_eqb, cases_order}
use Rattle.std.proofs.Math.Seq.{take-append_seam, take-length, get_or-append_seam}
use Rattle.std.proofs.lemmas.Grind.{fold-append}
use Rattle.std.proofs.lemmas.List.{length-append, get_or_append_left}
use Rattle.std.proofs.lemmas.List.Elements.{All-nil, All-cons, All-head, All-tail, All-append, All-weaker}
use Rattle.keylist.specs.Order.{IsRising}
use Rattle.keylist.specs.Puts.{put, ComesLast}

module _ {X : Type 0} (key : X → ℕ) where
  -- ---- where an entry goes

  pub put_past : (x : X) (xs : List X) (e : X) → key x < key e → put key (x ∷ xs) e ≡ x ∷ put key xs e
  unfolding put
  put_past x xs e before = rw (lt-ltb (key x) (key e) before) refl

  pub put_over : (x : X) (xs : List X) (e : X) → key x ≡ key e → put key (x ∷ xs) e ≡ e ∷ xs
  unfolding put
  put_over x xs e same = rw (le-ltb (key x) (key e) (omega arith), eq-eqb (key x) (key e) same) refl

  pub put_before : (x : X) (xs : List X) (e : X) → key e < key x → put key (x ∷ xs) e ≡ e ∷ x ∷ xs
  unfolding put
  put_before x xs e after = rw (le-ltb (key x) (key e) (omega arith), ne_eqb (key x) (key e) (λ same. omega arith)) refl

  -- ---- what holds of each

  pub All-put : (P : X → Type 0) (xs : List X) (e : X) → All P xs → P e → All P (put key xs e)
  unfolding put
  All-put P [] e all here = All-cons P e [] here all
  All-put P (x ∷ xs) e all here = elim (cases_order (key x) (key e)) [
    | inl same ↦ rw (put_over x xs e same) (All-cons P e xs here (All-tail P x xs all))
    | inr (inl below) ↦ rw (put_past x xs e below) (All-cons P x (put key xs e) (All-head P x xs all) (All-put P xs e (All-tail P x xs all) here))
    | inr (inr above) ↦ rw (put_before x xs e above) (All-cons P e (x ∷ xs) here all)
  ]

  pub All-puts : (P : X → Type 0) (xs new : List X) → All P xs → All P new → All P (fold (put key) xs new)
  All-puts P xs [] all more = all
  All-puts P xs (e ∷ es) all more = All-puts P (put key xs e) es (All-put P xs e all (All-head P e es more)) (All-tail P e es more)

  -- ---- what comes last

  -- an entry below the last goes before it
  put_under : (xs : List X) (x e : X) → key e < key x → put key (xs ++ x ∷ []) e ≡ put key xs e ++ x ∷ []
  unfolding put
  put_under [] x e below = put_before x [] e below
  put_under (y ∷ ys) x e below = elim (cases_order (key y) (key e)) [
    | inl same ↦ rw (put_over y (ys ++ x ∷ []) e same, put_over y ys e same) refl
    | inr (inl past) ↦ rw (put_past y (ys ++ x ∷ []) e past, put_past y ys e past, put_under ys x e below) refl
    | inr (inr before) ↦ rw (put_before y (ys ++ x ∷ []) e before, put_before y ys e before) refl
  ]

  -- so do several
  puts_under : (xs new : List X) (x : X) → All (λ y. key y < key x) new → fold (put key) (xs ++ x ∷ []) new ≡ fold (put key) xs new ++ x ∷ []
  puts_under xs [] x under = refl
  puts_under xs (y ∷ ys) x under =
      rw (put_under xs x y (All-head (λ z. key z < key x) y ys under)) (puts_under (put key xs y) ys x (All-tail (λ z. key z < key x) y ys under))

  -- an entry above all goes behind them
  put_behind : (xs : List X) (e : X) → All (λ y. key y < key e) xs → put key xs e ≡ xs ++ e ∷ []
  unfolding put
  put_behind [] e under = refl
  put_behind (y ∷ ys) e under =
      rw (put_past y ys e (All-head (λ z. key z < key e) y ys under), put_behind ys e (All-tail (λ z. key z < key e) y ys under)) refl

  -- or instead of the last, where it has its key
  put_instead : (xs : List X) (x e : X) → All (λ y. key y < key e) xs → key x ≡ key e → put key (xs ++ x ∷ []) e ≡ xs ++ e ∷ []
  put_instead [] x e under same = put_over x [] e same
  put_instead (y ∷ ys) x e under same =
      rw (put_past y (ys ++ x ∷ []) e (All-head (λ z. key z < key e) y ys under), put_instead ys x e (All-tail (λ z. key z < key e) y ys under) same) refl

  -- ---- rising keys, seen from the end

  pub rising_under : (xs : List X) (x : X) → IsRising key (xs ++ x ∷ []) → All (λ y. key y < key x) xs
  rising_under xs x rises i d inside =
      let last : get_or (xs ++ x ∷ []) (length xs) d ≡ x = get_or-append_seam xs x [] d in
      let here : get_or (xs ++ x ∷ []) i d ≡ get_or xs i d = get_or_append_left xs (x ∷ []) d i inside in
      rw (last, here) at (rises i (length xs) d inside (rw length-append (omega arith)))

  pub rising_front : (xs ys : List X) → IsRising key (xs ++ ys) → IsRising key xs
  rising_front xs ys rises i j d below inside =
      rw (get_or_append_left xs ys d i (omega arith), get_or_append_left xs ys d j inside) at (rises i j d below (rw length-append (omega arith)))

  -- what is left of a list without its last
  front : (xs : List X) (x : X) → take (length xs) (xs ++ x ∷ []) ≡ xs
  front xs x = take-append_seam xs (x ∷ [])

  -- ---- the three ways

  below_last : (xs : List X) (x z : X) → key x < key z → All (λ y. key y < key x) xs → All (λ y. key y < key z) (xs ++ x ∷ [])
  below_last xs x z less under =
      All-append (λ y. key y < key z) xs (x ∷ []) (All-weaker (λ y. key y < key x) (λ y. key y < key z) (λ y low. omega arith) xs under)
      (All-cons (λ y. key y < key z) x [] less (All-nil (λ y. key y < key z)))

  -- where the last is the old list's
  pub old_last : (olds news : List X) (x y : X) → key y < key x → IsRising key (olds ++ x ∷ []) → IsRising key (news ++ y ∷ [])
      → ComesLast key (olds ++ x ∷ []) (news ++ y ∷ []) x (length olds) (news ++ y ∷ [])
  old_last olds news x y below old_rises new_rises = record {
    made = rw (front olds x) (puts_under olds (news ++ y ∷ []) x (below_last news y x below (rising_under news y new_rises)));
    old_rises = rw (front olds x) (rising_front olds (x ∷ []) old_rises);
    new_rises = new_rises;
    some = rw length-append (omega arith);
    fewer = omega (arith, length-append olds (x ∷ []), length-append news (y ∷ []));
  }

  -- where both have the key
  pub both_last : (olds news : List X) (x y : X) → key x ≡ key y → IsRising key (olds ++ x ∷ []) → IsRising key (news ++ y ∷ [])
      → ComesLast key (olds ++ x ∷ []) (news ++ y ∷ []) y (length olds) news
  both_last olds news x y same old_rises new_rises =
      let news_under = rising_under news y new_rises in
      let olds_under : All (λ z. key z < key y) olds = All-weaker (λ z. key z < key x) (λ z. key z < key y) (λ z low. omega arith) olds (rising_under olds x old_rises) in
      let news_low : All (λ z. key z < key x) news = All-weaker (λ z. key z < key y) (λ z. key z < key x) (λ z low. omega arith) news news_under in
      record {
        made = rw (front olds x, fold-append (put key) (olds ++ x ∷ []) news (y ∷ []), puts_under olds news x news_low)
            (put_instead (fold (put key) olds news) x y (All-puts (λ z. key z < key y) olds news olds_under news_under) same);
        old_rises = rw (front olds x) (rising_front olds (x ∷ []) old_rises);
        new_rises = rising_front news (y ∷ []) new_rises;
        some = omega (arith, length-append olds (x ∷ []));
        fewer = omega (arith, length-append olds (x ∷ []), length-append news (y ∷ []));
      }

  -- where it is the new list's
  pub new_last : (old news : List X) (y : X) → All (λ z. key z < key y) old → IsRising key old → IsRising key (news ++ y ∷ [])
      → ComesLast key old (news ++ y ∷ []) y (length old) news
  new_last old news y under old_rises new_rises = record {
    made = rw (take-length old, fold-append (put key) old news (y ∷ [])) (put_behind (fold (put key) old news) y (All-puts (λ z. key z < key y) old news under (rising_under news y new_rises)));
    old_rises = rw (take-length old) old_rises;
    new_rises = rising_front news (y ∷ []) new_rises;
    some = omega arith;
    fewer = rw length-append (omega arith);
  }

  -- where the last of the old list is below it
  pub new_above : (olds news : List X) (x y : X) → key x < key y → IsRising key (olds ++ x ∷ []) → IsRising key (news ++ y ∷ [])
      → ComesLast key (olds ++ x ∷ []) (news ++ y ∷ []) y (length (olds ++ x ∷ [])) news
  new_above olds news x y below old_rises new_rises =
      new_last (olds ++ x ∷ []) news y (below_last olds x y below (rising_under olds x old_rises)) old_rises new_rises

  -- where there is no old list
  pub new_alone : (old news : List X) (y : X) → length old ≡ 0 → IsRising key (news ++ y ∷ []) → ComesLast key old (news ++ y ∷ []) y 0 news
  new_alone [] news y empty new_rises = new_last [] news y (All-nil (λ z. key z < key y)) (λ i j d below inside. absurd (omega arith)) new_rises
  new_alone (x ∷ old) news y empty new_rises = absurd (omega arith)
