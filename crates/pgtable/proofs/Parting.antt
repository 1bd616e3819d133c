-- Parts of a pool in rooms: side by side they are its groups, and their runs add up to its.
use Rattle.std.proofs.Common.{◌≡◌, ◌∙◌, ◌++◌, sym, ap, subst, inl, inr, ℕ, suc, ◌+◌, ◌-◌, ◌<◌, ◌≤◌, ◌^◌, min, List, [], ◌∷◌, length, map, get_or, Option, Some, None, Result, Ok, Err, IfOk, IfSome, IsSome, OnOk, arith}
use Rattle.std.specs.List.{range_with_len}
use Rattle.std.proofs.lemmas.Bool.{cases_order, false≢true}
use Rattle.std.proofs.lemmas.List.{get_or_default, map-append}
use Rattle.std.proofs.lemmas.List.FromFn.{length-map-range_with_len}
use Rattle.std.proofs.lemmas.List.Sums.{sum_by-cons}
use Rattle.crush.proofs.Rounds.{range_append}
use Rattle.crush.specs.Run.{Ran}
use Rattle.grouptable.specs.Sets.{GroupSets}
use Rattle.maptypes.specs.Pools.{PoolFacts}
use Rattle.maptypes.specs.Sets.{Places}
use Rattle.osdmap.specs.Maps.{ClusterMap}
use Rattle.osdmap.specs.Placement.{mapped_set}
use Rattle.pgtable.specs.Rooms.{start_of, len_of, part_of, IsPart, RunMore}
use Rattle.pgtable.specs.Tables.{RunsMore}
use Rattle.pgtable.specs.declared.rooms.Room.{Room}

-- parts begin where those before them end
pub starts_rise : (a b size count : ℕ) → a ≤ b → start_of a size count ≤ start_of b size count
starts_rise a b size count less =
    let d = b - a in
    let is : b ≡ a + d = omega arith in
    rw is (omega arith)

-- what is true of what there is at a place is so of what was found there
pub some_at : {X : Type 0} (a b : Option X) (x : X) (P : X → Type 0) → IfSome a P → a ≡ b → b ≡ Some x → P x
some_at a b x P is same there = rw (same, there) at is

-- what is true of the first places is true of one more
pub one_more : (P : ℕ → Type 0) (n : ℕ) → ((k : ℕ) → k < n → P k) → P n → (k : ℕ) → k < n + 1 → P k
one_more P n before here k inside =
    elim (cases_order k n) [
      | inl same ↦ rw same here
      | inr (inl less) ↦ before k less
      | inr (inr past) ↦ absurd (omega arith)
    ]

-- what follows where there is a result
pub on_ok : {X E : Type 0} (r : Result X E) (P Q : Type 0) → OnOk r P → (P → Q) → OnOk r Q
on_ok (Ok x) P Q is f = f is
on_ok (Err e) P Q is f = tt

-- what follows from what holds of a value follows of every value that an answer has
pub if_ok : {X E : Type 0} (r : Result X E) (P Q : X → Type 0) → IfOk r P → ((x : X) → P x → Q x) → IfOk r Q
if_ok (Ok x) P Q is f = f x is
if_ok (Err e) P Q is f = tt

-- what was found at a place is what is read there
pub made_at : (rooms : List Room) (k : ℕ) (room : Room) (d : Room) → k < length rooms → room ≡ get_or rooms k room → IsSome room.made → IsSome (get_or rooms k d).made
made_at rooms k room d inside is some =
    let read : room ≡ get_or rooms k d = is ∙ get_or_default rooms k room d inside in
    rw read at some

-- a range in two parts
joined : (f : ℕ → Places) (a n b : ℕ) → b ≡ a + n → map f (range_with_len 0 a) ++ map f (range_with_len a n) ≡ map f (range_with_len 0 b)
joined f a n b is =
    let none_before : 0 + a ≡ a = omega arith in
    let parts = subst (λ z. range_with_len 0 (a + n) ≡ range_with_len 0 a ++ range_with_len z n) none_before (range_append 0 a n) in
    rw is (sym (ap (map f) parts ∙ map-append f (range_with_len 0 a) (range_with_len a n)))

module _ (m : ClusterMap) (p : PoolFacts) (k size : ℕ) where
  -- the parts before a room and its part are those before the next one
  pub next_part : map (mapped_set m p) (range_with_len 0 (start_of k size p.pg_num)) ++ (part_of m p k size).sets ≡ map (mapped_set m p) (range_with_len 0 (start_of (k + 1) size p.pg_num))
  next_part = joined (mapped_set m p) (start_of k size p.pg_num) (len_of k size p.pg_num) (start_of (k + 1) size p.pg_num) (omega (arith, starts_rise k (k + 1) size p.pg_num (omega arith)))

  -- its sets and those before them are no more than it has
  pub part_few : p.pg_num ≤ 65536 → length (map (mapped_set m p) (range_with_len 0 (start_of k size p.pg_num))) + length (part_of m p k size).sets ≤ 65536
  part_few few =
      let count = length-map-range_with_len (mapped_set m p) (start_of k size p.pg_num) (len_of k size p.pg_num) in
      let before = length-map-range_with_len (mapped_set m p) 0 (start_of k size p.pg_num) in
      omega (arith, count, before, few)

-- the part of a room that has made it took a run for each of its groups
pub part_ran : {X : Type 0} (items : X → GroupSets) (m : ClusterMap) (p : PoolFacts) (k size : ℕ) (old new : Ran) (made : Option X) → IsSome made → IfSome made (λ x. IsPart m p k size old new (items x)) → RunsMore (len_of k size p.pg_num) old new
part_ran items m p k size old new None some is = absurd (false≢true some)
part_ran items m p k size old new (Some x) some is = is.runs

-- the runs of rooms from one on, where those before a room have placed so many groups, add up to the groups from its first to behind the last
pub rooms_ran : (upto : ℕ → ℕ) → ((a b : ℕ) → a ≤ b → upto a ≤ upto b) → (j : ℕ) (olds news : List Room) → length news ≡ length olds → ((k i : ℕ) (d : Room) → k < length olds → i ≡ j + k → RunsMore (upto (i + 1) - upto i) (get_or olds k d).work (get_or news k d).work) → (last : ℕ) → last ≡ j + length olds → RunMore (upto last - upto j) (map (λ (r : Room). r.work) olds) (map (λ (r : Room). r.work) news)
rooms_ran upto rise j [] [] same each last is = let end : last ≡ j = omega (arith, is) in rw end (omega arith)
rooms_ran upto rise j [] (n ∷ ns) same each last is = absurd (omega arith)
rooms_ran upto rise j (o ∷ os) [] same each last is = absurd (omega arith)
rooms_ran upto rise j (o ∷ os) (n ∷ ns) same each last is =
    let runs : Ran → ℕ = λ w. w.runs in
    let work : Room → Ran = λ r. r.work in
    let first : n.work.runs ≡ min (o.work.runs + (upto (j + 1) - upto j)) (2 ^ 64 - 1) = each 0 j o (omega arith) (omega arith) in
    let rest = rooms_ran upto rise (j + 1) os ns (omega arith) (λ k i d inside at. each (suc k) i d (omega arith) (omega (arith, at))) last (omega (arith, is)) in
    let old = sum_by-cons runs o.work (map work os) in
    let new = sum_by-cons runs n.work (map work ns) in
    let low = rise j (j + 1) (omega arith) in
    let high = rise (j + 1) last (omega (arith, is)) in
    omega (arith, first, rest, old, new, low, high)

-- the runs of parts from one on add up to those of the groups from its first to behind the last
pub parts_ran : (size count j : ℕ) (olds news : List Room) → length news ≡ length olds → ((k i : ℕ) (d : Room) → k < length olds → i ≡ j + k → RunsMore (len_of i size count) (get_or olds k d).work (get_or news k d).work) → (last : ℕ) → last ≡ j + length olds → RunMore (start_of last size count - start_of j size count) (map (λ (r : Room). r.work) olds) (map (λ (r : Room). r.work) news)
parts_ran size count = rooms_ran (λ k. start_of k size count) (λ a b. starts_rise a b size count)
