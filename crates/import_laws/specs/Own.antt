-- CRUSH over a cluster's own map, as Ceph runs it (Ceph, mapper.c, crush_do_rule; OSDMap.cc, _pg_to_raw_osds): its
-- buckets with the weights in force, also where these are 0, its own tunables, and counts by the size of a pool.
use Rattle.std.specs.Prelude.{ℕ, ◌+◌, ℤ, pos, ◌+ℤ◌, int_lt, int_le, nat_abs, Bool, true, false, not, List, [], ◌∷◌, ◌++◌, map, take, Option, Some, if◌then◌else◌}
use Rattle.std.specs.Ordering.{int_eq}
use Rattle.std.specs.List.{fold, filter, filter_map, enumerate_from}
use Rattle.std.specs.Option.{option_map}
use Rattle.buckets.specs.declared.bucket.Item.{Item}
use Rattle.buckets.specs.declared.bucket.Bucket.{Bucket}
use Rattle.crush.specs.declared.choose.Tries.{Tries}
use Rattle.crush.specs.declared.step.Mode.{Mode}
use Rattle.crush.specs.declared.step.Mode.TheVariants.{Firstn, Indep}
use Rattle.crush.specs.Choosing.{Choosing}
use Rattle.crush.specs.Run.{Progress, chosen_from}
use Rattle.crush.specs.World.{World}
use Rattle.cephmap.specs.declared.bucket.Bucket.{Bucket as OwnBucket}
use Rattle.cephmap.specs.declared.bucket.Slot.{Slot}
use Rattle.cephmap.specs.declared.crush.Crush.{Crush}
use Rattle.cephmap.specs.declared.crush.Tunables.{Tunables}
use Rattle.cephmap.specs.declared.crush.WeightSet.{WeightSet}
use Rattle.cephmap.specs.declared.rule.Step.{Step}
use Rattle.cephmap.specs.declared.rule.StepWord.{StepWord}
use Rattle.cephmap.specs.declared.rule.StepWord.TheVariants as words
use Rattle.cephimport.specs.Buckets.{kind_by_weights, weight_in_force}

-- ---- buckets

-- an item of a bucket, by its place: it may weigh 0
abbrev pub own_item : List WeightSet → OwnBucket → ℕ → ℤ → Item
own_item sets b i id = record { id = id; weight = weight_in_force sets b i }

-- the items at places from one on
abbrev pub own_items : List WeightSet → OwnBucket → List (ℕ × ℤ) → List Item
own_items sets b places = map (λ p. own_item sets b p.0 p.1) places

-- a bucket of the cluster
abbrev pub own_bucket : List WeightSet → OwnBucket → Bucket
own_bucket sets b = record {
  id = b.id;
  level = b.level;
  kind = kind_by_weights b.weights;
  items = own_items sets b (enumerate_from 0 b.items);
}

-- the buckets of all slots
abbrev pub own_buckets_in : List WeightSet → List (Slot OwnBucket) → List Bucket
own_buckets_in sets slots = filter_map (λ s. option_map (own_bucket sets) s.holds) slots

-- all buckets of a CRUSH map: an id that is not below 0 is a device's (Ceph, crush.h)
abbrev pub own_buckets : Crush → List Bucket
own_buckets c = filter (λ b. int_lt b.id (pos 0)) (own_buckets_in c.weight_sets c.buckets)

-- ---- rules

-- how steps try until they set something else: `choose_total_tries` counts the tries after the first one. Leaves are
-- sought once (`chooseleaf_descend_once`), and no bucket is tried again by itself, since maps with others stay out.
abbrev pub own_tries : Tunables → Tries
own_tries t = record {
  total = t.choose_total_tries + 1;
  leaf = 1;
  vary = t.chooseleaf_vary_r;
  stable = t.chooseleaf_stable;
}

-- before the first step
abbrev pub own_start : Tunables → Progress
own_start t = record { tries = own_tries t; working = []; emitted = [] }

-- how many items a step seeks in a pool of a size: a number of 0 or less is that of the size less as many
unfoldable pub sought : ℕ → ℤ → ℤ
sought size n = if int_le n (pos 0) then n +ℤ pos size else n

-- what a choose step goes by; types are not negative, since maps with others stay out
abbrev pub own_choosing : World → ℕ → Tries → Mode → Bool → Step → Choosing
own_choosing w size tries mode to_leaf s = record {
  world = w;
  choose = record {
    mode = mode;
    to_leaf = to_leaf;
    count = nat_abs (sought size s.first);
    level = nat_abs s.second;
  };
  tries = tries;
  numrep = nat_abs (sought size s.first);
}

-- what a choose step makes of the working list: nothing where it seeks none
unfoldable pub own_chosen : World → ℕ → Progress → Mode → Bool → Step → List (Option ℤ)
own_chosen w size p mode to_leaf s =
    if int_le (sought size s.first) (pos 0) then []
    else chosen_from (own_choosing w size p.tries mode to_leaf s) size p.working

-- after a choose step
abbrev pub after_choose : World → ℕ → Progress → Mode → Bool → Step → Progress
after_choose w size p mode to_leaf s = record p { working = own_chosen w size p mode to_leaf s }

-- a step that sets tries counts where its number is above 0
abbrev pub above_none : ℤ → ℕ → ℕ
above_none n old = if int_lt (pos 0) n then nat_abs n else old

-- and one that sets how leaves are sought where it is not below 0
abbrev pub not_below : ℤ → ℕ → ℕ
not_below n old = if int_le (pos 0) n then nat_abs n else old

-- a leaf below a device is the device
abbrev pub seeks_below : Step → Bool
seeks_below s = not (int_eq s.second (pos 0))

-- after a step, by its word; a step of another word does nothing
unfoldable pub after_word : StepWord → World → ℕ → Progress → Step → Progress
after_word words.Take w size p s = record p { working = Some s.first ∷ [] }
after_word words.ChooseFirstN w size p s = after_choose w size p Firstn false s
after_word words.ChooseIndep w size p s = after_choose w size p Indep false s
after_word words.ChooseLeafFirstN w size p s = after_choose w size p Firstn (seeks_below s) s
after_word words.ChooseLeafIndep w size p s = after_choose w size p Indep true s
after_word words.Emit w size p s = record p { working = []; emitted = take size (p.emitted ++ p.working) }
after_word words.SetChooseTries w size p s =
    record p { tries = record p.tries { total = above_none s.first p.tries.total } }
after_word words.SetChooseLeafTries w size p s =
    record p { tries = record p.tries { leaf = above_none s.first p.tries.leaf } }
after_word words.SetChooseLeafVaryR w size p s =
    record p { tries = record p.tries { vary = not_below s.first p.tries.vary } }
after_word words.SetChooseLeafStable w size p s =
    record p { tries = record p.tries { stable = not_below s.first p.tries.stable } }
after_word _ w size p s = p

-- after a step
abbrev pub after_own : World → ℕ → Progress → Step → Progress
after_own w size p s = after_word s.word w size p s

-- the places that the steps of a rule give in a pool of this size
unfoldable pub own_run : World → Tunables → List Step → ℕ → List (Option ℤ)
own_run w t steps size = (fold (after_own w size) (own_start t) steps).emitted
