-- What the numbers of parts within their limits come to.
use Rattle.std.proofs.Common.{◌≡◌, ℕ, ◌≤◌, ℤ, pos, negsuc, nat_abs, true, List, map, length, IsTrue, refl, arith}
use mathlib.Core.Bool.{false≢true}
use Rattle.std.specs.List.{list_all}
use Rattle.std.proofs.lemmas.List.{length-map}
use Rattle.std.proofs.lemmas.List.Folds.{list_all-map}
use Rattle.std.proofs.lemmas.Bool.Decides.{nat_tests}
use Rattle.mapparts.specs.declared.parts.BucketPart.{BucketPart}
use Rattle.mapparts.specs.declared.parts.ItemPart.{ItemPart}
use Rattle.mapparts.specs.declared.parts.RulePart.{RulePart}
use Rattle.mapparts.specs.declared.parts.ChoosePart.{ChoosePart}
use Rattle.mapparts.specs.declared.parts.StepPart.{StepPart}
use Rattle.mapparts.specs.declared.parts.StepPart.TheVariants.{SetChooseTries, SetChooseleafTries, SetChooseleafVaryR, SetChooseleafStable, Take, Choose as Chooses, Emit}
use Rattle.mapparts.specs.declared.parts.OsdPart.{OsdPart}
use Rattle.mapparts.specs.Parts.{is_between, has_between, is_osd_id, item_fits, bucket_fits, step_fits, rule_fits, osd_fits, bucket_fits_in, is_osd_id_in, item_fits_in, osd_fits_in, rule_fits_in, step_fits_in}
use Rattle.maptypes.specs.Values.{item_of, bucket_of, step_of}
use Rattle.buckets.specs.Kinds.{most_items}
use Rattle.crush.specs.WellFormed.{forest_limits_ok}
use Rattle.buckets.specs.Limits.{is_within}
use Rattle.buckets.specs.Buckets.{is_bucket_id, item_limits_ok, bucket_limits_ok}
use Rattle.crush.specs.Grammar.{step_limits_ok, rule_limits_ok}
use Rattle.mapparts.proofs.Within.{word_between, natural_between}
use Rattle.keylist.proofs.Each.{all_more}

-- the id of an OSD has two bytes
pub osd_id_short : (z : ℤ) → is_osd_id z ≡ true → IsTrue (is_between (pos 0) (pos 65535) z)
unfolding is_osd_id_in is_between
osd_id_short (pos n) h = grind (arith, nat_tests)
osd_id_short (negsuc n) h = absurd (false≢true h)

-- a number is a byte where its upper bound is
pub byte_between : (low high : ℕ) (z : ℤ) → high ≤ 255 → is_between (pos low) (pos high) z ≡ true → IsTrue (is_between (pos 0) (pos 255) z)
unfolding is_between
byte_between low high (pos n) byte h = grind (arith, nat_tests)
byte_between low high (negsuc n) byte h = absurd (false≢true h)

-- a bucket's id is one of an item
bucket_is_item : (z : ℤ) → is_bucket_id z ≡ true → IsTrue (is_between (negsuc 65535) (pos 4095) z)
unfolding is_between
bucket_is_item (pos n) h = grind (arith, nat_tests)
bucket_is_item (negsuc n) h = grind (arith, nat_tests)

-- the id of an item that fits has 32 bits
pub item_id : (i : ItemPart) → item_fits i ≡ true → IsTrue (is_between (negsuc 65535) (pos 4095) i.id)
unfolding item_fits_in
item_id i h = grind arith

-- so has its weight
pub item_weight : (i : ItemPart) → item_fits i ≡ true → IsTrue (is_between (pos 0) (pos 4294967295) i.weight)
unfolding item_fits_in
item_weight i h = word_between 1 4294967295 i.weight (omega arith) (grind arith)

-- the weight of an item that fits is above 0
item_weight_fits : (i : ItemPart) → item_fits i ≡ true → is_between (pos 1) (pos 4294967295) i.weight ≡ true
unfolding item_fits_in
item_weight_fits i h = grind arith

-- the id of a bucket that fits has 32 bits
pub bucket_id : (b : BucketPart) → bucket_fits b ≡ true → IsTrue (is_between (negsuc 65535) (pos 4095) b.id)
unfolding bucket_fits_in
bucket_id b h = bucket_is_item b.id (grind arith)

-- its type has 16 bits
pub bucket_level : (b : BucketPart) → bucket_fits b ≡ true → IsTrue (is_between (pos 0) (pos 255) b.level)
unfolding bucket_fits_in
bucket_level b h = byte_between 1 15 b.level (omega arith) (grind arith)

-- the tries of a step that fits have 8 bits
pub some_tries : (n : ℤ) → step_fits (SetChooseTries n) ≡ true → IsTrue (is_between (pos 0) (pos 255) n)
unfolding step_fits_in
some_tries n h = byte_between 1 200 n (omega arith) h

-- so have those for a leaf
pub leaf_tries : (n : ℤ) → step_fits (SetChooseleafTries n) ≡ true → IsTrue (is_between (pos 0) (pos 255) n)
unfolding step_fits_in
leaf_tries n h = byte_between 1 200 n (omega arith) h

-- so has the number by which replica numbers of leaves vary
pub leaf_vary : (n : ℤ) → step_fits (SetChooseleafVaryR n) ≡ true → IsTrue (is_between (pos 0) (pos 255) n)
unfolding step_fits_in
leaf_vary n h = byte_between 0 4 n (omega arith) h

-- and whether they are stable
pub leaf_stable : (n : ℤ) → step_fits (SetChooseleafStable n) ≡ true → IsTrue (is_between (pos 0) (pos 255) n)
unfolding step_fits_in
leaf_stable n h = byte_between 0 1 n (omega arith) h

-- what a step that fits takes has 32 bits
pub take_id : (id : ℤ) → step_fits (Take id) ≡ true → IsTrue (is_between (negsuc 65535) (pos 4095) id)
unfolding step_fits_in
take_id id h = bucket_is_item id h

-- how many it chooses has 8 bits
pub choose_count : (c : ChoosePart) → step_fits (Chooses c) ≡ true → IsTrue (is_between (pos 0) (pos 255) c.count)
unfolding step_fits_in
choose_count c h = byte_between 0 20 c.count (omega arith) (grind arith)

-- so has the type that it chooses
pub choose_level : (c : ChoosePart) → step_fits (Chooses c) ≡ true → IsTrue (is_between (pos 0) (pos 255) c.level)
unfolding step_fits_in
choose_level c h = byte_between 0 15 c.level (omega arith) (grind arith)

-- the id of a rule that fits is at most 255
pub rule_id_fits : (r : RulePart) → rule_fits r ≡ true → is_between (pos 0) (pos 255) r.id ≡ true
unfolding rule_fits_in
rule_id_fits r h = grind arith

-- the reweight of an OSD that fits is at most 65,536
pub osd_weight_fits : (o : OsdPart) → osd_fits o ≡ true → is_between (pos 0) (pos 65536) o.weight ≡ true
unfolding osd_fits_in
osd_weight_fits o h = grind arith

-- the id of a rule that fits has 32 bits
pub rule_id : (r : RulePart) → rule_fits r ≡ true → IsTrue (is_between (pos 0) (pos 4294967295) r.id)
unfolding rule_fits_in
rule_id r h = word_between 0 255 r.id (omega arith) (grind arith)

-- so has the id of an OSD
pub osd_id : (o : OsdPart) → osd_fits o ≡ true → IsTrue (is_between (pos 0) (pos 4294967295) o.id)
unfolding osd_fits_in
osd_id o h = word_between 0 4095 o.id (omega arith) (grind arith)

-- and its reweight
pub osd_weight : (o : OsdPart) → osd_fits o ≡ true → IsTrue (is_between (pos 0) (pos 4294967295) o.weight)
unfolding osd_fits_in
osd_weight o h = word_between 0 65536 o.weight (omega arith) (grind arith)

-- the lists within
pub bucket_items : (b : BucketPart) → bucket_fits b ≡ true → list_all item_fits b.items ≡ true
unfolding bucket_fits_in
bucket_items b h = grind arith

-- each step of a rule that fits does
pub rule_steps : (r : RulePart) → rule_fits r ≡ true → list_all step_fits r.steps ≡ true
unfolding rule_fits_in
rule_steps r h = grind arith

-- ---- values within the limits

-- an item that fits is within the limits of the forest
item_within : (i : ItemPart) → item_fits i ≡ true → item_limits_ok (item_of i) ≡ true
unfolding item_fits_in is_between
item_within i h =
    let weight = (natural_between 1 4294967295 i.weight (item_weight_fits i h)).least in
    grind (arith, nat_tests, weight)

-- a number between two limits is, without its sign, within them
level_within : (low high : ℕ) (z : ℤ) → is_between (pos low) (pos high) z ≡ true → is_within low high (nat_abs z) ≡ true
level_within low high z h =
    let number = natural_between low high z h in
    grind (arith, nat_tests, number.least, number.most)

-- items that fit are within the limits
items_within : (items : List ItemPart) → list_all item_fits items ≡ true → list_all item_limits_ok (map item_of items) ≡ true
items_within items h = rw (list_all-map item_limits_ok item_of items) (all_more item_fits (λ i. item_limits_ok (item_of i)) items item_within h)

-- a list of so many has as many when each is made into something
count_within : {X Y : Type 0} (f : X → Y) (low high : ℕ) (xs : List X) → has_between low high xs ≡ true → is_within low high (length (map f xs)) ≡ true
unfolding has_between
count_within f low high xs h = rw (length-map xs f) h

-- a bucket that fits is within the limits of the forest
bucket_within : (b : BucketPart) → bucket_fits b ≡ true → bucket_limits_ok (bucket_of b) ≡ true
unfolding bucket_fits_in
bucket_within b h =
    let id : is_bucket_id b.id ≡ true = grind arith in
    let level = level_within 1 15 b.level (grind arith) in
    let count = count_within item_of 1 (most_items b.kind) b.items (grind arith) in
    let items = items_within b.items (grind arith) in
    grind (arith, id, level, count, items)

-- buckets that fit are, together, within the limits of a forest
pub forest_limits : (buckets : List BucketPart) (max_osd : ℕ) → list_all bucket_fits buckets ≡ true → has_between 1 4096 buckets ≡ true → 1 ≤ max_osd → max_osd ≤ 4096
    → forest_limits_ok (map bucket_of buckets) max_osd ≡ true
forest_limits buckets max_osd fits count some few =
    let counted = count_within bucket_of 1 4096 buckets count in
    let each : list_all bucket_limits_ok (map bucket_of buckets) ≡ true = rw (list_all-map bucket_limits_ok bucket_of buckets) (all_more bucket_fits (λ b. bucket_limits_ok (bucket_of b)) buckets bucket_within fits) in
    grind (arith, nat_tests, counted, each)

-- a step that fits is within the limits of a rule
step_within : (s : StepPart) → step_fits s ≡ true → step_limits_ok (step_of s) ≡ true
unfolding step_fits_in
step_within (SetChooseTries n) h = level_within 1 200 n h
step_within (SetChooseleafTries n) h = level_within 1 200 n h
step_within (SetChooseleafVaryR n) h = let most = (natural_between 0 4 n h).most in grind (arith, nat_tests, most)
step_within (SetChooseleafStable n) h = let most = (natural_between 0 1 n h).most in grind (arith, nat_tests, most)
step_within (Take id) h = h
step_within (Chooses c) h =
    let count = (natural_between 0 20 c.count (grind arith)).most in
    let level = (natural_between 0 15 c.level (grind arith)).most in
    grind (arith, nat_tests, count, level)
step_within Emit h = refl

-- the steps of a rule that fits are within them
pub rule_limits : (r : RulePart) → rule_fits r ≡ true → rule_limits_ok (map step_of r.steps) ≡ true
unfolding rule_fits_in
rule_limits r h =
    let count = count_within step_of 1 16 r.steps (grind arith) in
    let each : list_all step_limits_ok (map step_of r.steps) ≡ true = rw (list_all-map step_limits_ok step_of r.steps) (all_more step_fits (λ s. step_limits_ok (step_of s)) r.steps step_within (rule_steps r h)) in
    grind (arith, count, each)
