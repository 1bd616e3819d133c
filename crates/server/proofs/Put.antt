-- What is out of texts that are put one after the other.
use Rattle.std.proofs.Common.{◌≡◌, ◌∙◌, ℕ, List, [], ◌∷◌, ◌++◌, append_assoc, append-nil, ap, sym, subst, refl, ◌+◌, ◌<◌, length, map, take, drop, drop-cons, get_or, suc, Result, Ok, Err}
use Rattle.std.proofs.lemmas.List.{take_more, take-append-drop}
use Rattle.std.specs.Result.{OnErr}
use Rattle.std.specs.List.{concat}
use Rattle.session.specs.Sinks.{HasPut}

-- all the bytes of two lists of texts
pub concat-append : (one two : List (List ℕ)) → concat (one ++ two) ≡ concat one ++ concat two
concat-append [] two = refl
concat-append (text ∷ one) two = ap (λ bytes. text ++ bytes) (concat-append one two) ∙ sym (append_assoc text (concat one) (concat two))

-- one more is put whole
pub put_more : (before now after text : List ℕ) (done : List (List ℕ)) → now ≡ before ++ concat done → after ≡ now ++ text
    → after ≡ before ++ concat (done ++ text ∷ [])
put_more before now after text done is put =
    rw (put, is, concat-append done (text ∷ []), append-nil text, append_assoc before (concat done) text) refl

-- the next is cut off
pub put_part : (before now after text : List ℕ) (done others : List (List ℕ)) → now ≡ before ++ concat done
    → ((rest : List ℕ) × HasPut now text rest after) → ((rest : List ℕ) × HasPut before (concat (done ++ text ∷ others)) rest after)
put_part before now after text done others is (rest, (part, cut, put)) = (
  rest ++ concat others,
  (
    concat done ++ part,
    rw (concat-append done (text ∷ others), cut, append_assoc part rest (concat others), append_assoc (concat done) part (rest ++ concat others)) refl,
    rw (put, is, append_assoc before (concat done) part) refl,
  ),
)

-- what is made of lists that are joined
map-append : {X Y : Type 0} (f : X → Y) (xs ys : List X) → map f (xs ++ ys) ≡ map f xs ++ map f ys
map-append f [] ys = refl
map-append f (x ∷ xs) ys = ap (λ zs. f x ∷ zs) (map-append f xs ys)

-- one text more of those that are to be put
pub put_next : {X : Type 0} (bytes : X → List ℕ) (texts : List X) (at : ℕ) (text : X) (before now after : List ℕ) → at < length texts
    → text ≡ get_or texts at text → now ≡ before ++ concat (map bytes (take at texts)) → after ≡ now ++ bytes text
    → after ≡ before ++ concat (map bytes (take (at + 1) texts))
put_next bytes texts at text before now after within is so_far put =
    put_more before now after (bytes text) (map bytes (take at texts)) so_far put
    ∙ ap (λ all. before ++ concat all) (sym (map-append bytes (take at texts) (text ∷ [])))
    ∙ ap (λ one. before ++ concat (map bytes (take at texts ++ one ∷ []))) is
    ∙ ap (λ all. before ++ concat (map bytes all)) (sym (take_more texts at text within))

-- or it is cut off, at whatever error is told
pub put_cut : {X : Type 0} {T E : Type 0} (r : Result T E) (bytes : X → List ℕ) (texts : List X) (at : ℕ) (text : X) (before now after : List ℕ)
    → at < length texts → text ≡ get_or texts at text → now ≡ before ++ concat (map bytes (take at texts))
    → ((rest : List ℕ) × HasPut now (bytes text) rest after)
    → OnErr r ((rest : List ℕ) × HasPut before (concat (map bytes texts)) rest after)
put_cut (Ok done) bytes texts at text before now after within is so_far out = tt
put_cut (Err e) bytes texts at text before now after within is so_far out =
    let all : take at texts ++ text ∷ drop (suc at) texts ≡ texts =
    ap (λ one. take at texts ++ one ∷ drop (suc at) texts) is ∙ ap (λ ys. take at texts ++ ys) (sym (drop-cons texts at text within))
    ∙ take-append-drop at texts in
    let cut = put_part before now after (bytes text) (map bytes (take at texts)) (map bytes (drop (suc at) texts)) so_far out in
    let same : map bytes (take at texts) ++ bytes text ∷ map bytes (drop (suc at) texts) ≡ map bytes texts =
    sym (map-append bytes (take at texts) (text ∷ drop (suc at) texts)) ∙ ap (map bytes) all in
    subst (λ list. (rest : List ℕ) × HasPut before (concat list) rest after) same cut
