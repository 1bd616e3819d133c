-- What stands above an item, as a path that is there: the tests of paths hold where there is one.
use Rattle.std.proofs.Common.{◌≡◌, ◌↔◌, ℕ, zero, suc, ◌<◌, ◌≤◌, Bool, true, false, ◌||◌, List, [], ◌∷◌, ◌++◌, length, map, get_or, Option, Some, None, ℤ, IsSomeAnd, IsTrue, is_some, refl, ap, ◌∙◌, arith}
use Rattle.std.specs.List.{list_any, flat_map}
use Rattle.std.specs.Option.{option_map_or}
use Rattle.std.specs.Ordering.{int_eq}
use Rattle.std.proofs.lemmas.Bool.{and_parts, and_from, false≢true}
use Rattle.std.proofs.lemmas.Bool.Decides.{Decides-int_eq}
use Rattle.std.proofs.lemmas.List.Folds.{Any-from_list_any, list_any-append}
use Rattle.keylist.proofs.Counts.{find-place}
use Rattle.buckets.specs.declared.bucket.Bucket.{Bucket}
use Rattle.crush.specs.Forest.{bucket_at}
use Rattle.crush.specs.Paths.{has_item, is_item_of, is_path, chains, is_above}

-- an item is one of the bucket of an id
abbrev pub IsItemOf : List Bucket → ℤ → ℤ → Type 0
IsItemOf buckets bucket item = IsSomeAnd (bucket_at buckets bucket) (λ b. IsTrue (has_item item b))

-- a path from a bucket down to an item, through the buckets between
abbrev pub IsPath : List Bucket → ℤ → List ℤ → ℤ → Type 0
IsPath buckets top [] item = IsItemOf buckets top item
IsPath buckets top (next ∷ between) item = IsItemOf buckets top next × IsPath buckets next between item

-- some path leads from a bucket down to an item
pub record IsAbove (buckets : List Bucket) (top item : ℤ) : Type 0 where
  pub between : List ℤ
  pub path : IsPath buckets top between item

-- what is there, with its fact
pub some-and : {X : Type 0} (P : X → Type 0) (o : Option X) → IsSomeAnd o P → (x : X) × (o ≡ Some x) × P x
some-and P None h = absurd h
some-and P (Some x) h = (x, refl, h)

-- and back
pub and-some : {X : Type 0} (P : X → Type 0) (o : Option X) (x : X) → o ≡ Some x → P x → IsSomeAnd o P
and-some P o x e h = rw e h

-- a test of what is there
some-tested : {X : Type 0} (p : X → Bool) (o : Option X) → (option_map_or p o false ≡ true) ↔ IsSomeAnd o (λ x. IsTrue (p x))
some-tested p None = (λ e. absurd (false≢true e), λ h. absurd h)
some-tested p (Some x) = (λ e. e, λ h. h)

-- a list with an element that passes, after others or before others
any-later : {X : Type 0} (p : X → Bool) (xs ys : List X) → list_any p ys ≡ true → list_any p (xs ++ ys) ≡ true
any-later p xs ys some = list_any-append p xs ys ∙ later (list_any p xs) some
  where
    later : (first : Bool) → list_any p ys ≡ true → (first || list_any p ys) ≡ true
    later true h = refl
    later false h = h

-- the same, before others
any-first : {X : Type 0} (p : X → Bool) (xs ys : List X) → list_any p xs ≡ true → list_any p (xs ++ ys) ≡ true
any-first p xs ys some = list_any-append p xs ys ∙ ap (λ b. b || list_any p ys) some

-- a piece of a joined list with an element that passes
any-piece : {X Y : Type 0} (p : Y → Bool) (f : X → List Y) (xs : List X) (k : ℕ) (x : X) → k < length xs → get_or xs k x ≡ x → list_any p (f x) ≡ true → list_any p (flat_map f xs) ≡ true
any-piece p f [] k x in_range here some = absurd (omega arith)
any-piece p f (y ∷ xs) zero x in_range here some = any-first p (f y) (flat_map f xs) (rw here some)
any-piece p f (y ∷ xs) (suc k) x in_range here some = any-later p (f y) (flat_map f xs) (any-piece p f xs k x (omega arith) here some)

-- a test of mapped elements is the test of the elements, mapped
any-mapped : {X Y : Type 0} (p : Y → Bool) (f : X → Y) (xs : List X) → list_any p (map f xs) ≡ list_any (λ x. p (f x)) xs
any-mapped p f [] = refl
any-mapped p f (x ∷ xs) = ap (λ b. p (f x) || b) (any-mapped p f xs)

-- the ids of a path are those of buckets
AreBuckets : List Bucket → List ℤ → Type 0
AreBuckets buckets [] = Unit {0}
AreBuckets buckets (id ∷ ids) = IsSomeAnd (bucket_at buckets id) (λ b. Unit {0}) × AreBuckets buckets ids

-- so the list of them is among the chains
listed : (buckets : List Bucket) (p : List ℤ → Bool) (n : ℕ) (ids : List ℤ) → length ids ≤ n → AreBuckets buckets ids → p ids ≡ true → list_any p (chains buckets n) ≡ true
unfolding chains AreBuckets
listed buckets p zero [] few there passes = rw passes
listed buckets p zero (id ∷ ids) few there passes = absurd (omega arith)
listed buckets p (suc n) [] few there passes = rw passes
listed buckets p (suc n) (id ∷ ids) few there passes =
    let found = some-and (λ b. Unit {0}) (bucket_at buckets id) there.0 in
    let at = find-place (λ c. int_eq c.id id) buckets found.0 found.1 in
    let same : found.0.id ≡ id = (Decides-int_eq found.0.id id).0 at.3 in
    let rest = listed buckets (λ more. p (found.0.id ∷ more)) n ids (omega arith) there.1 (ap (λ i. p (i ∷ ids)) same ∙ passes) in
    let piece = any-mapped p (λ more. found.0.id ∷ more) (chains buckets n) ∙ rest in
    any-later p ([] ∷ []) (flat_map (λ b. map (λ more. b.id ∷ more) (chains buckets n)) buckets)
    (any-piece p (λ b. map (λ more. b.id ∷ more) (chains buckets n)) buckets at.0 found.0 at.1 at.2 piece)

-- so are the ids of its buckets
path-buckets : (buckets : List Bucket) (between : List ℤ) (top item : ℤ) → IsPath buckets top between item → AreBuckets buckets (top ∷ between)
unfolding AreBuckets
path-buckets buckets [] top item held =
    let there = some-and (λ b. IsTrue (has_item item b)) (bucket_at buckets top) held in
    (and-some (λ b. Unit {0}) (bucket_at buckets top) there.0 there.1 tt, tt)
path-buckets buckets (next ∷ between) top item (held, path) =
    let there = some-and (λ b. IsTrue (has_item next b)) (bucket_at buckets top) held in
    (and-some (λ b. Unit {0}) (bucket_at buckets top) there.0 there.1 tt, path-buckets buckets between next item path)

-- the test of a path decides the path
pub path-tested : (buckets : List Bucket) (between : List ℤ) (top item : ℤ) → (is_path buckets top between item ≡ true) ↔ IsPath buckets top between item
path-tested buckets [] top item = some-tested (has_item item) (bucket_at buckets top)
path-tested buckets (next ∷ between) top item =
    let first = some-tested (has_item next) (bucket_at buckets top) in
    let rest = path-tested buckets between next item in (
      λ e. let both = and_parts (is_item_of buckets top next) (is_path buckets next between item) e in (first.0 both.0, rest.0 both.1),
      λ (held, path). and_from (is_item_of buckets top next) (is_path buckets next between item) (first.1 held) (rest.1 path),
    )

-- where the test of what stands above finds a path, there is one
pub above-found : (buckets : List Bucket) (top item : ℤ) → is_above buckets top item ≡ true → IsAbove buckets top item
above-found buckets top item e =
    let at = Any-from_list_any (λ between. is_path buckets top between item) (chains buckets 15) e in
    record { between = at.1; path = (path-tested buckets at.1 top item).0 at.4 }

-- and where there is a path of no more buckets than there are types, it finds one
pub path-listed : (buckets : List Bucket) (between : List ℤ) (top item : ℤ) → length between ≤ 15 → IsPath buckets top between item → is_above buckets top item ≡ true
unfolding AreBuckets
path-listed buckets between top item few path =
    listed buckets (λ ids. is_path buckets top ids item) 15 between few (path-buckets buckets between top item path).1 ((path-tested buckets between top item).1 path)

-- a path leads down from a bucket of the forest
path-known : (buckets : List Bucket) (between : List ℤ) (top item : ℤ) → IsPath buckets top between item → is_some (bucket_at buckets top) ≡ true
path-known buckets [] top item path = ap is_some (some-and _ (bucket_at buckets top) path).1
path-known buckets (next ∷ between) top item path = ap is_some (some-and _ (bucket_at buckets top) path.0).1

-- so what stands above an item is one
pub above-known : (buckets : List Bucket) (top item : ℤ) → is_above buckets top item ≡ true → is_some (bucket_at buckets top) ≡ true
above-known buckets top item above = let found = above-found buckets top item above in path-known buckets found.between top item found.path
