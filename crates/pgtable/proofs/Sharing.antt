-- Shares of groups in rooms: side by side they are all of these groups, and their runs add up to theirs.
use Rattle.std.proofs.Common.{◌≡◌, ◌∙◌, ◌++◌, sym, ap, ℕ, ◌+◌, ◌-◌, ◌≤◌, List, length, drop, take, Option, Some, None, IfSome, IsSome, arith}
use Rattle.std.specs.List.{All, between}
use Rattle.std.proofs.lemmas.Bool.{false≢true}
use Rattle.std.proofs.lemmas.List.{map-append, take-append-drop, take-take}
use Rattle.std.proofs.lemmas.List.Edits.{length-between}
use Rattle.std.proofs.lemmas.List.Elements.{All-drop, All-take}
use Rattle.std.proofs.lemmas.Slice.{between_is}
use Rattle.crush.specs.Run.{Ran}
use Rattle.maptypes.specs.Pools.{PoolFacts}
use Rattle.maptypes.specs.Sets.{Places}
use Rattle.osdmap.specs.Maps.{ClusterMap}
use Rattle.osdmap.specs.Placement.{mapped_set}
use Rattle.pgtable.specs.Patches.{with_sets}
use Rattle.pgtable.specs.Rooms.{start_of, len_of}
use Rattle.pgtable.specs.Shares.{share_of, IsShare}
use Rattle.pgtable.specs.Tables.{RunsMore}
use Rattle.pgtable.proofs.Parting.{starts_rise}

-- what stands before a place and from it up to another stands before that
pub before_and_from : {X : Type 0} (a b : ℕ) (xs : List X) → a ≤ b → take a xs ++ between a b xs ≡ take b xs
before_and_from a b xs up =
    ap (λ ys. take a xs ++ ys) (between_is xs a b) ∙ ap (λ ys. ys ++ drop a (take b xs)) (sym (take-take a b xs up)) ∙ take-append-drop a (take b xs)

-- the shares before a room and its share are those before the next one
pub next_share : (m : ClusterMap) (p : PoolFacts) (k size : ℕ) (numbers : List ℕ)
    → with_sets m p (take (start_of k size (length numbers)) numbers) ++ with_sets m p (share_of k size numbers) ≡ with_sets m p (take (start_of (k + 1) size (length numbers)) numbers)
next_share m p k size numbers =
    let f : ℕ → ℕ × Places = λ n. (n, mapped_set m p n) in
    let a = start_of k size (length numbers) in
    let b = start_of (k + 1) size (length numbers) in
    sym (map-append f (take a numbers) (share_of k size numbers)) ∙ ap (with_sets m p) (before_and_from a b numbers (starts_rise k (k + 1) size (length numbers) (omega arith)))

-- what holds of all groups holds of those of a share
pub share_all : (P : ℕ → Type 0) (k size : ℕ) (numbers : List ℕ) → All P numbers → All P (share_of k size numbers)
share_all P k size numbers all =
    let a = start_of k size (length numbers) in
    let b = start_of (k + 1) size (length numbers) in
    All-take P (b - a) (drop a numbers) (All-drop P a numbers all)

-- a room that has made its share took a run for each of its groups
pub share_ran : {X : Type 0} (items : X → List (ℕ × Places)) (m : ClusterMap) (p : PoolFacts) (k size : ℕ) (numbers : List ℕ) (old new : Ran) (made : Option X) → IsSome made
    → IfSome made (λ x. IsShare m p (share_of k size numbers) old new (items x)) → RunsMore (len_of k size (length numbers)) old new
share_ran items m p k size numbers old new None some is = absurd (false≢true some)
share_ran items m p k size numbers old new (Some x) some is =
    let long = length-between numbers (start_of k size (length numbers)) (start_of (k + 1) size (length numbers)) (omega arith) in
    rw long at is.runs
