-- What is made of a list whose entries are numbered, one after the other, as a loop does.
use Rattle.std.proofs.Common.{◌≡◌, ℕ, ◌+◌, ◌<◌, ◌≤◌, List, [], ◌∷◌, ◌++◌, length, take, get_or, refl, sym, ap, ◌∙◌, zero-add, arith}
use Rattle.std.specs.Prelude.{Option}
use Rattle.std.specs.List.{filter_map, cons_option, enumerate_from}
use Rattle.std.proofs.lemmas.List.{take_more, take_all}
use Rattle.std.proofs.lemmas.List.Elements.{filter_map-append}
use Rattle.std.proofs.lemmas.List.FromFn.{length-enumerate_from, get_or-enumerate_from}

-- at each place of a numbered list stands the place and the entry of the list there
numbered_at : {X : Type 0} (xs : List X) (i : ℕ) (x : X) → i < length xs → x ≡ get_or xs i x → get_or (enumerate_from 0 xs) i (i, x) ≡ (i, x)
numbered_at {X} xs i x lt is =
    get_or-enumerate_from 0 xs i (i, x) lt ∙ ap (λ (n : ℕ). (n, get_or xs i x)) (zero-add i) ∙ ap (λ (y : X). (i, y)) (sym is)

-- the numbered entries up to one are those before it, and that one with its place
pub take_numbered : {X : Type 0} (xs : List X) (i : ℕ) (x : X) → i < length xs → x ≡ get_or xs i x → take (i + 1) (enumerate_from 0 xs) ≡ take i (enumerate_from 0 xs) ++ (i, x) ∷ []
take_numbered {X} xs i x lt is =
    let n : i < length (enumerate_from 0 xs) = rw length-enumerate_from lt in
    take_more (enumerate_from 0 xs) i (i, x) n ∙ ap (λ (q : ℕ × X). take i (enumerate_from 0 xs) ++ q ∷ []) (numbered_at xs i x lt is)

-- one entry more: what was made of those before it, and what is made of it, is made of all up to it
pub one_more : {X Y : Type 0} (f : ℕ × X → Option Y) (xs : List X) (i : ℕ) (x : X) (before after : List Y) → i < length xs → x ≡ get_or xs i x
    → before ≡ filter_map f (take i (enumerate_from 0 xs)) → after ≡ before ++ cons_option (f (i, x)) [] → after ≡ filter_map f (take (i + 1) (enumerate_from 0 xs))
one_more {X} {Y} f xs i x before after lt is so_far e =
    e ∙ ap (λ (ys : List Y). ys ++ cons_option (f (i, x)) []) so_far ∙ sym (filter_map-append f (take i (enumerate_from 0 xs)) ((i, x) ∷ [])) ∙ ap (filter_map f) (sym (take_numbered xs i x lt is))

-- what was made of as many entries as there are is made of the whole list
pub is_whole : {X Y : Type 0} (f : ℕ × X → Option Y) (xs : List X) (i : ℕ) (all : List Y) → length xs ≤ i → all ≡ filter_map f (take i (enumerate_from 0 xs)) → all ≡ filter_map f (enumerate_from 0 xs)
is_whole f xs i all le h =
    let n : length (enumerate_from 0 xs) ≤ i = rw length-enumerate_from le in
    h ∙ ap (filter_map f) (take_all i (enumerate_from 0 xs) n)
