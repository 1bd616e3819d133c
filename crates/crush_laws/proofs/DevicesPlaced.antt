-- What a rule places are devices: the last choice of each block takes them.
use Rattle.std.proofs.Common.{◌≡◌, ℕ, ℤ, pos, negsuc, Bool, true, false, ◌&&◌, ◌||◌, nat_lt, eqb, cond, List, [], ◌∷◌, ◌++◌, All, MatchOption, Option, Some, None, sym, ap, refl, ◌∙◌, subst, arith}
use Rattle.std.specs.List.{find, filter_map, fold, AllByRecursion}
use Rattle.std.specs.Ordering.{int_eq}
use Rattle.std.proofs.lemmas.Bool.{and_parts, eqb-true, ltb-true, false≢true}
use Rattle.std.proofs.lemmas.Bool.Decides.{Decides-int_eq}
use Rattle.std.proofs.lemmas.List.Elements.{All-append, All-take, recursion_from_All}
use Rattle.std.proofs.lemmas.List.Sums.{fold-append}
use Rattle.buckets.specs.declared.bucket.Bucket.{Bucket}
use Rattle.crush.specs.declared.choose.Picked.{Picked}
use Rattle.crush.specs.declared.step.Choose.{Choose}
use Rattle.crush.specs.declared.step.RuleKind.{RuleKind}
use Rattle.crush.specs.declared.step.Step.{Step}
use Rattle.crush.specs.declared.step.Step.TheVariants as step
use Rattle.crush.specs.Choosing.{Choosing}
use Rattle.crush.specs.Descent.{item_below, device_below, leaf_below}
use Rattle.crush.specs.Forest.{bucket_at, level_of}
use Rattle.crush.specs.Grammar.{serves, is_last, is_block, sets_tries, is_piece}
use Rattle.crush.specs.Run.{after_entry, chosen_from, choosing_of, Progress, no_progress, after_step, run_of}
use Rattle.crush.specs.WellFormed.{is_known, IsForest}
use Rattle.crush.specs.World.{World, world_of}
use Rattle.crush_laws.specs.Choices.{takes_devices}
use Rattle.crush_laws.specs.Descents.{LeadsAstray, LeadsToWanted}
use Rattle.crush_laws.specs.Forests.{IsDeviceNumber}
use Rattle.crush_laws.specs.Rules.{steps_of_blocks}
use Rattle.crush_laws.specs.Runs.{HoldsDevice, RunPlacesDevices}
use Rattle.crush.proofs.ChoicesWithin.{LeadsIn}
use Rattle.crush_laws.proofs.DescentEnds.{descent_ends}
use Rattle.crush.proofs.DescentsWithin.{device_by, found_by, leaf_by}
use Rattle.crush.proofs.Folds.{fold_keeps}
use Rattle.crush_laws.proofs.LeafSearches.{other_holds}
use Rattle.crush_laws.proofs.RuleBlocks.{rules_are_blocks}
use Rattle.crush.proofs.ReadsReached.{known_device}
use Rattle.crush.proofs.RunsWithin.{IsIn, bucket_in}
use Rattle.keylist.proofs.Counts.{find-place}

-- a known item of type 0 has the number of a device
number_known : (buckets : List Bucket) (id : ℤ) → IsForest buckets → is_known buckets 4096 id ≡ true → level_of buckets id ≡ 0 → IsDeviceNumber id
number_known buckets (pos n) forest known none = ltb-true n 4096 known
number_known buckets (negsuc n) forest known none =
    let device = known_device buckets (negsuc n) forest known none in
    let same : negsuc n ≡ pos device.osd = device.is in
    absurd (cc)

-- a bucket that a look-up finds is found by its own id
own_id : (buckets : List Bucket) (id : ℤ) (b : Bucket) → bucket_at buckets id ≡ Some b → bucket_at buckets b.id ≡ Some b
own_id buckets id b e =
    let place = find-place (λ c. int_eq c.id id) buckets b e in
    let same : b.id ≡ id = (Decides-int_eq b.id id).0 place.3 in
    ap (bucket_at buckets) same ∙ e

-- what a descent to type 0 came to
ended : (w : World) (r : Bucket → ℕ) (b : Bucket) (o : Option Picked) (p : Picked) → IsForest w.buckets → MatchOption o (LeadsAstray w r 0 b) (λ p. LeadsToWanted w r 0 b p.item) → o ≡ Some p → IsDeviceNumber p.item
ended w r b None p forest h e = absurd (cc)
ended w r b (Some q) p forest h e =
    let same : q ≡ p = cc in
    let P : Picked → Type 0 = λ s. IsDeviceNumber s.item in
    subst P same (number_known w.buckets q.item forest h.known h.of_type)

-- a descent to type 0 ends at a device
item_number : (w : World) (r : Bucket → ℕ) (id : ℤ) (b : Bucket) (p : Picked) → IsForest w.buckets → bucket_at w.buckets id ≡ Some b → item_below w r 0 b ≡ Some p → IsDeviceNumber p.item
item_number w r id b p forest there e = ended w r b (item_below w r 0 b) p forest (descent_ends w r 0 b forest (own_id w.buckets id b there)) e

-- so does each try for a leaf
found_number : (w : World) (accepts : ℤ → Bool) (id : ℤ) (b : Bucket) (rs : List (Bucket → ℕ)) (leaf : ℤ) → IsForest w.buckets → bucket_at w.buckets id ≡ Some b → find accepts (filter_map (device_below w b) rs) ≡ Some leaf → IsDeviceNumber leaf
found_number w accepts id b [] leaf forest there e = absurd (cc)
found_number w accepts id b (r ∷ rs) leaf forest there e =
    found_by IsDeviceNumber accepts (device_below w b r) (filter_map (device_below w b) rs) leaf
    (λ d is. let found = device_by (item_below w r 0 b) d is in subst IsDeviceNumber found.2 (item_number w r id b found.0 forest there found.1))
    (found_number w accepts id b rs leaf forest there) e

-- a leaf is a device
leaf_number : (w : World) (accepts : ℤ → Bool) (rs : List (Bucket → ℕ)) (item leaf : ℤ) → IsForest w.buckets → leaf_below w accepts rs item ≡ Some leaf → IsDeviceNumber leaf
unfolding leaf_below
leaf_number w accepts rs item leaf forest e =
    leaf_by IsDeviceNumber (bucket_at w.buckets item) _ leaf (λ b there found. found_number w accepts item b rs leaf forest there found) e

-- a step that takes devices leads to devices
leads_to_devices : (k : Choosing) (id : ℤ) (b : Bucket) → IsForest k.world.buckets → takes_devices k.choose ≡ true → bucket_at k.world.buckets id ≡ Some b → LeadsIn IsDeviceNumber k b
leads_to_devices k id b forest takes there = record {
  leaf = λ r p accepts rs leaf is e. leaf_number k.world accepts rs p.item leaf forest e;
  bare = λ r p is none.
      let zero : k.choose.level ≡ 0 = eqb-true _ _ (other_holds k.choose.to_leaf (eqb k.choose.level 0) takes none) in
      item_number k.world r id b p forest there (ap (λ level. item_below k.world r level b) (sym zero) ∙ is);
}

-- so what it adds for an entry of the working list are devices
entry_devices : (k : Choosing) (size : ℕ) (found : List (Option ℤ)) (entry : Option ℤ) → IsForest k.world.buckets → takes_devices k.choose ≡ true → All (IsIn IsDeviceNumber) found → All (IsIn IsDeviceNumber) (after_entry k size found entry)
entry_devices k size found None forest takes all = all
entry_devices k size found (Some item) forest takes all = bucket_in IsDeviceNumber k size found (bucket_at k.world.buckets item) (λ b there. leads_to_devices k item b forest takes there) all

-- so what it makes of a working list are devices, whatever the list
working_devices : (k : Choosing) (size : ℕ) (working : List (Option ℤ)) → IsForest k.world.buckets → takes_devices k.choose ≡ true → All (IsIn IsDeviceNumber) (chosen_from k size working)
working_devices k size working forest takes =
    fold_keeps (All (IsIn IsDeviceNumber)) (after_entry k size) (λ found entry all. entry_devices k size found entry forest takes all) [] working (λ i d within. absurd (omega arith))

-- a last choice by its parts
last_by : (leafy served : Bool) (level : ℕ) → (served && cond leafy (nat_lt 0 level) (eqb level 0)) ≡ true → (leafy || eqb level 0) ≡ true
last_by true served level e = refl
last_by false true level e = e
last_by false false level e = absurd (false≢true e)

-- so its last choice takes devices
last_takes : (kind : RuleKind) (c : Choose) → is_last kind c ≡ true → takes_devices c ≡ true
last_takes kind c e = last_by c.to_leaf (serves kind c.mode) c.level e

-- after a block without its emit the working list has devices, and nothing more was emitted
record EndsAtDevices (before after : Progress) : Type 0 where
  working : All (IsIn IsDeviceNumber) after.working
  emitted : after.emitted ≡ before.emitted

-- a block ends so
block_ends : (w : World) (size : ℕ) (kind : RuleKind) (block : List Step) (p : Progress) → IsForest w.buckets → is_block kind block ≡ true → EndsAtDevices p (fold (after_step w size) p block)
unfolding after_step
block_ends w size kind (step.Take id ∷ step.Choose a ∷ []) p forest e =
    record { working = working_devices (choosing_of w size p.tries a) size (Some id ∷ []) forest (last_takes kind a e); emitted = refl }
block_ends w size kind (step.Take id ∷ step.Choose a ∷ step.Choose b ∷ []) p forest e =
    let first = chosen_from (choosing_of w size p.tries a) size (Some id ∷ []) in
    record { working = working_devices (choosing_of w size p.tries b) size first forest (last_takes kind b (and_parts _ _ e).1); emitted = refl }
block_ends w size kind (step.Take id ∷ step.Choose a ∷ step.Choose b ∷ step.Choose c ∷ []) p forest e =
    let first = chosen_from (choosing_of w size p.tries a) size (Some id ∷ []) in
    let second = chosen_from (choosing_of w size p.tries b) size first in
    record { working = working_devices (choosing_of w size p.tries c) size second forest (last_takes kind c (and_parts _ _ e).1); emitted = refl }
block_ends w size kind _ p forest e = absurd (false≢true e)

-- a step that sets tries emits nothing
tries_kept : (w : World) (size : ℕ) (p : Progress) (x : Step) → sets_tries x ≡ true → (after_step w size p x).emitted ≡ p.emitted
unfolding after_step
tries_kept w size p (step.SetChooseTries n) h = refl
tries_kept w size p (step.SetChooseleafTries n) h = refl
tries_kept w size p (step.SetChooseleafVaryR n) h = refl
tries_kept w size p (step.SetChooseleafStable n) h = refl
tries_kept w size p (step.Take id) h = refl
tries_kept w size p (step.Choose c) h = refl
tries_kept w size p step.Emit h = absurd (false≢true h)

-- so steps that set tries before a block change neither
piece_by : (w : World) (size : ℕ) (kind : RuleKind) (x : Step) (rest : List Step) (p : Progress) (sets : Bool) → IsForest w.buckets → sets_tries x ≡ sets → cond sets (is_piece kind rest) (is_block kind (x ∷ rest)) ≡ true → ((q : Progress) → is_piece kind rest ≡ true → EndsAtDevices q (fold (after_step w size) q rest)) → EndsAtDevices p (fold (after_step w size) p (x ∷ rest))
piece_by w size kind x rest p false forest e piece below = block_ends w size kind (x ∷ rest) p forest piece
piece_by w size kind x rest p true forest e piece below =
    let next = below (after_step w size p x) piece in
    record { working = next.working; emitted = next.emitted ∙ tries_kept w size p x e }

-- a piece ends as its block does
piece_ends : (w : World) (size : ℕ) (kind : RuleKind) (piece : List Step) (p : Progress) → IsForest w.buckets → is_piece kind piece ≡ true → EndsAtDevices p (fold (after_step w size) p piece)
unfolding is_piece
piece_ends w size kind [] p forest e = absurd (false≢true e)
piece_ends w size kind (x ∷ rest) p forest e = piece_by w size kind x rest p (sets_tries x) forest refl e (λ q passes. piece_ends w size kind rest q forest passes)

-- an emit joins them to the devices emitted before
emit_ends : (w : World) (size : ℕ) (p q : Progress) → EndsAtDevices p q → All (IsIn IsDeviceNumber) p.emitted → All (IsIn IsDeviceNumber) (after_step w size q step.Emit).emitted
unfolding after_step
emit_ends w size p q ends before =
    let P : List (Option ℤ) → Type 0 = All (IsIn IsDeviceNumber) in
    All-take (IsIn IsDeviceNumber) size (q.emitted ++ q.working) (All-append (IsIn IsDeviceNumber) q.emitted q.working (subst P (sym ends.emitted) before) ends.working)

-- block after block
blocks_end : (w : World) (size : ℕ) (kind : RuleKind) (blocks : List (List Step)) (p : Progress) → IsForest w.buckets → AllByRecursion (λ block. is_piece kind block ≡ true) blocks → All (IsIn IsDeviceNumber) p.emitted → All (IsIn IsDeviceNumber) (fold (after_step w size) p (steps_of_blocks blocks)).emitted
blocks_end w size kind [] p forest lawful before = before
blocks_end w size kind (block ∷ blocks) p forest lawful before =
    let f = after_step w size in
    let q = fold f p block in
    let next = emit_ends w size p q (piece_ends w size kind block p forest lawful.0) before in
    let P : Progress → Type 0 = λ s. All (IsIn IsDeviceNumber) s.emitted in
    subst P (sym (fold-append f p block (step.Emit ∷ steps_of_blocks blocks))) (blocks_end w size kind blocks (f q step.Emit) forest lawful.1 next)

-- a place that holds nothing but a device
place_holds : (place : Option ℤ) → IsIn IsDeviceNumber place → HoldsDevice place
place_holds None h = tt
place_holds (Some id) h = h

-- so all places of a run hold devices or none
pub run_places_devices : RunPlacesDevices
unfolding run_of
run_places_devices buckets kind steps weights x size forest lawful =
    let w = world_of buckets weights x in
    let blocks = (rules_are_blocks kind steps).0 lawful.grammar in
    let pieces = recursion_from_All (λ block. is_piece kind block ≡ true) blocks.blocks blocks.lawful in
    let P : List Step → Type 0 = λ given. All (IsIn IsDeviceNumber) (fold (after_step w size) no_progress given).emitted in
    let all = subst P (sym blocks.made) (blocks_end w size kind blocks.blocks no_progress forest pieces (λ i d within. absurd (omega arith))) in
    λ k d within. place_holds _ (all k d within)
