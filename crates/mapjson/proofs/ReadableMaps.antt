-- What is written of parts within the limits of a map is read back.
use Rattle.std.proofs.Common.{◌≡◌, ℕ, zero, suc, ◌/◌, ◌%◌, ◌^◌, ◌==◌, ◌<◌, ◌≤◌, nat_lt, ◌++◌, ◌≤ℤ◌, ℤ, pos, negsuc, int_le, Bool, true, false, List, [], ◌∷◌, map, if◌then◌else◌, refl, arith}
use Rattle.std.specs.Prelude.{⊤}
use Rattle.std.specs.List.{list_all}
use Rattle.std.proofs.lemmas.Bool.Decides.{nat_tests}
use Rattle.std.proofs.lemmas.Bool.{and_parts}
use Rattle.std.proofs.lemmas.Int.{ints}
use Rattle.std.proofs.lemmas.Nat.{mod_below}
use Rattle.std.specs.Fmt.{digits, digits_onto, digit_glyph, decimal}
use Rattle.json.proofs.Printed.Utf8.{are_ascii}
use Rattle.serde_json.specs.Data.{Data}
use Rattle.serde_json.specs.View.{items_of}
use Rattle.buckets.specs.declared.bucket.BucketKind.{BucketKind}
use Rattle.buckets.specs.Kinds.{most_items}
use Rattle.buckets.specs.declared.bucket.BucketKind.TheVariants.{Uniform, List as Listed, Tree, Straw2}
use Rattle.crush.specs.declared.step.Mode.{Mode}
use Rattle.crush.specs.declared.step.Mode.TheVariants.{Firstn, Indep}
use Rattle.crush.specs.declared.step.RuleKind.{RuleKind}
use Rattle.crush.specs.declared.step.RuleKind.TheVariants.{Replicated, Erasure}
use Rattle.mapparts.specs.declared.parts.MapParts.{MapParts}
use Rattle.mapparts.specs.declared.parts.BucketPart.{BucketPart}
use Rattle.mapparts.specs.declared.parts.ItemPart.{ItemPart}
use Rattle.mapparts.specs.declared.parts.RulePart.{RulePart}
use Rattle.mapparts.specs.declared.parts.StepPart.{StepPart}
use Rattle.mapparts.specs.declared.parts.StepPart.TheVariants.{SetChooseTries, SetChooseleafTries, SetChooseleafVaryR, SetChooseleafStable, Take, Choose, Emit}
use Rattle.mapparts.specs.declared.parts.PoolPart.{PoolPart}
use Rattle.mapparts.specs.declared.parts.OsdPart.{OsdPart}
use Rattle.mapparts.specs.declared.parts.ExceptionPart.{ExceptionPart}
use Rattle.mapparts.specs.declared.parts.PairPart.{PairPart}
use Rattle.maptypes.specs.declared.pg.Pg.{Pg}
use Rattle.buckets.specs.Buckets.{is_bucket_id}
use Rattle.maptypes.specs.GroupText.{group_text}
use Rattle.maptypes.specs.Values.{pg_of}
use Rattle.mapparts.specs.Parts.{is_osd_id, pair_fits, exception_fits, exceptions_fit, is_between, has_between, item_fits, bucket_fits, step_fits, rule_fits, pool_fits, osd_fits, head_fits, lists_fit, has_few_groups, parts_fit, bucket_fits_in, entries_fit_in, exception_fits_in, head_fits_in, is_osd_id_in, item_fits_in, osd_fits_in, pair_fits_in, parts_fit_in, pool_fits_in, rule_fits_in, step_fits_in}
use Rattle.mapjson.specs.Written.{number_data, kind_word, item_data, bucket_data, use_word, choose_word, step_data, rule_data, pool_data, osd_data, pair_data, exception_data, map_data}
use Rattle.mapjson.proofs.Readable.{IsReadable, ItemsReadable}

-- ---- values

-- a bound from below, and one from above, of integers of 64 bits
abbrev IsLow : ℤ → Type 0
IsLow (pos n) = ⊤
IsLow (negsuc n) = n < 2 ^ 63

-- a bound that is below 2^64
abbrev IsHigh : ℤ → Type 0
IsHigh (pos n) = n < 2 ^ 64
IsHigh (negsuc n) = ⊤

-- a number within bounds of 64 bits is readable
number_within : (low high z : ℤ) → IsLow low → IsHigh high → int_le low z ≡ true → int_le z high ≡ true → IsReadable (number_data z)
number_within low (pos h) (pos n) l u above below = let most : pos n ≤ℤ pos h = grind (arith, ints) in omega (arith, ints)
number_within low (negsuc h) (pos n) l u above below = let most : pos n ≤ℤ negsuc h = grind (arith, ints) in absurd (omega (arith, ints))
number_within (negsuc b) high (negsuc n) l u above below = let least : negsuc b ≤ℤ negsuc n = grind (arith, ints) in omega (arith, ints)
number_within (pos b) high (negsuc n) l u above below = let least : pos b ≤ℤ negsuc n = grind (arith, ints) in absurd (omega (arith, ints))

-- the same by the test
pub number_between : (low high z : ℤ) → IsLow low → IsHigh high → is_between low high z ≡ true → IsReadable (number_data z)
unfolding is_between
number_between low high z l u h = let p = and_parts (int_le low z) _ h in number_within low high z l u p.0 p.1

-- a list is readable where each entry that passes a test is
pub entries_within : {X : Type 0} (fits : X → Bool) (entry : X → Data) → ((x : X) → fits x ≡ true → IsReadable (entry x)) → (xs : List X) → list_all fits xs ≡ true → ItemsReadable (items_of (map entry xs))
entries_within fits entry each [] h = tt
entries_within fits entry each (x ∷ xs) h = let p = and_parts (fits x) _ h in (each x p.0, entries_within fits entry each xs p.1)

-- ---- the forest

-- the word of a kind of bucket is ASCII
kind_ascii : (k : BucketKind) → are_ascii (kind_word k) ≡ true
kind_ascii Uniform = refl
kind_ascii Listed = refl
kind_ascii Tree = refl
kind_ascii Straw2 = refl

-- an item within its limits is readable
item_readable : (i : ItemPart) → item_fits i ≡ true → IsReadable (item_data i)
unfolding item_fits_in
item_readable i h =
    let p = and_parts (is_between (negsuc 65535) (pos 4095) i.id) _ h in
    (number_between (negsuc 65535) (pos 4095) i.id (omega arith) (omega arith) p.0, (number_between (pos 1) (pos 4294967295) i.weight tt (omega arith) p.1, tt))

-- the id of a bucket is readable
id_readable : (z : ℤ) → is_bucket_id z ≡ true → IsReadable (number_data z)
unfolding is_between
id_readable (pos n) h = number_between (negsuc 65535) (negsuc 0) (pos n) (omega arith) tt (grind (arith, nat_tests))
id_readable (negsuc n) h = number_between (negsuc 65535) (negsuc 0) (negsuc n) (omega arith) tt (grind (arith, nat_tests))

-- a bucket within its limits is readable
pub bucket_readable : (b : BucketPart) → bucket_fits b ≡ true → IsReadable (bucket_data b)
unfolding bucket_fits_in bucket_data
bucket_readable b h =
    let items = and_parts _ (list_all item_fits b.items) h in
    let few = and_parts _ (has_between 0 4096 b.items) items.0 in
    let many = and_parts _ (has_between 1 (most_items b.kind) b.items) few.0 in
    let head = and_parts (is_bucket_id b.id) (is_between (pos 1) (pos 15) b.level) many.0 in (
      (
        refl,
        id_readable b.id head.0,
        (
          refl,
          entries_within item_fits item_data item_readable b.items items.1,
          (refl, kind_ascii b.kind, (refl, number_between (pos 1) (pos 15) b.level tt (omega arith) head.1, tt)),
        ),
      ),
      refl,
    )

-- ---- rules

-- the word of what a rule is for is ASCII
use_ascii : (k : RuleKind) → are_ascii (use_word k) ≡ true
use_ascii Replicated = refl
use_ascii Erasure = refl

-- the word of a choose step is ASCII
choose_ascii : (mode : Mode) (to_leaf : Bool) → are_ascii (choose_word mode to_leaf) ≡ true
choose_ascii Firstn false = refl
choose_ascii Indep false = refl
choose_ascii Firstn true = refl
choose_ascii Indep true = refl

-- a step within its limits is readable
step_readable : (s : StepPart) → step_fits s ≡ true → IsReadable (step_data s)
unfolding step_fits_in step_data
step_readable (SetChooseTries tries) h = (refl, (number_between (pos 1) (pos 200) tries tt (omega arith) h, tt))
step_readable (SetChooseleafTries tries) h = (refl, (number_between (pos 1) (pos 200) tries tt (omega arith) h, tt))
step_readable (SetChooseleafVaryR vary) h = (refl, (number_between (pos 0) (pos 4) vary tt (omega arith) h, tt))
step_readable (SetChooseleafStable stable) h = (refl, (number_between (pos 0) (pos 1) stable tt (omega arith) h, tt))
step_readable (Take id) h = (refl, (id_readable id h, tt))
step_readable (Choose c) h =
    let p = and_parts (is_between (pos 0) (pos 20) c.count) _ h in (
      choose_ascii c.mode c.to_leaf,
      (number_between (pos 0) (pos 20) c.count tt (omega arith) p.0, (number_between (pos 0) (pos 15) c.level tt (omega arith) p.1, tt)),
    )
step_readable Emit h = (refl, tt)

-- a rule within its limits is readable
pub rule_readable : (r : RulePart) → rule_fits r ≡ true → IsReadable (rule_data r)
unfolding rule_fits_in rule_data
rule_readable r h =
    let steps = and_parts _ (list_all step_fits r.steps) h in
    let id = and_parts (is_between (pos 0) (pos 255) r.id) (has_between 1 16 r.steps) steps.0 in (
      (
        refl,
        number_between (pos 0) (pos 255) r.id tt (omega arith) id.0,
        (refl, use_ascii r.kind, (refl, entries_within step_fits step_data step_readable r.steps steps.1, tt)),
      ),
      refl,
    )

-- ---- pools and OSDs

-- a pool within its limits is readable
pub pool_readable : (p : PoolPart) → pool_fits p ≡ true → IsReadable (pool_data p)
unfolding pool_fits_in pool_data
pool_readable p h =
    let size = and_parts _ (is_between (pos 1) (pos 20) p.size) h in
    let rule = and_parts _ (is_between (pos 0) (pos 255) p.rule) size.0 in
    let groups = and_parts (is_between (pos 1) (pos 65535) p.id) _ rule.0 in
    let numbers = and_parts (is_between (pos 1) (pos 65536) p.pg_num) (is_between (pos 1) (pos 65536) p.pgp_num) groups.1 in (
      (
        refl,
        number_between (pos 1) (pos 65535) p.id tt (omega arith) groups.0,
        (
          refl,
          use_ascii p.kind,
          (
            refl,
            number_between (pos 1) (pos 65536) p.pg_num tt (omega arith) numbers.0,
            (
              refl,
              number_between (pos 1) (pos 65536) p.pgp_num tt (omega arith) numbers.1,
              (
                refl,
                number_between (pos 0) (pos 255) p.rule tt (omega arith) rule.1,
                (refl, number_between (pos 1) (pos 20) p.size tt (omega arith) size.1, tt),
              ),
            ),
          ),
        ),
      ),
      refl,
    )

-- an OSD within its limits is readable
osd_readable : (o : OsdPart) → osd_fits o ≡ true → IsReadable (osd_data o)
unfolding osd_fits_in osd_data
osd_readable o h =
    let id = and_parts (is_between (pos 0) (pos 4095) o.id) _ h in (
      (
        refl,
        tt,
        (
          refl,
          number_between (pos 0) (pos 4095) o.id tt (omega arith) id.0,
          (refl, tt, (refl, number_between (pos 0) (pos 65536) o.weight tt (omega arith) id.1, tt)),
        ),
      ),
      refl,
    )

-- ---- exceptions

-- two texts of ASCII behind one another are ASCII
ascii-append : (xs ys : List ℕ) → are_ascii xs ≡ true → are_ascii ys ≡ true → are_ascii (xs ++ ys) ≡ true
ascii-append [] ys front back = back
ascii-append (x ∷ xs) ys front back = let p = and_parts (nat_lt x 128) _ front in rw (p.0, ascii-append xs ys p.1 back) refl

-- a digit in front of ASCII is ASCII
ascii-glyph : (d : ℕ) (cs : List ℕ) → d < 16 → are_ascii cs ≡ true → are_ascii (digit_glyph false d ∷ cs) ≡ true
ascii-glyph d cs small others = grind (arith, others)

-- a last digit, or more before it
ascii-last : (k base n : ℕ) (cs : List ℕ) (b : Bool) → are_ascii cs ≡ true → are_ascii (digits_onto k base false n cs) ≡ true → are_ascii (if b then cs else digits_onto k base false n cs) ≡ true
ascii-last k base n cs true last more = last
ascii-last k base n cs false last more = more

-- digits in front of ASCII are ASCII
ascii-digits_onto : (k base n : ℕ) (cs : List ℕ) → 0 < base → base ≤ 16 → are_ascii cs ≡ true → are_ascii (digits_onto k base false n cs) ≡ true
ascii-digits_onto zero base n cs some few others = others
ascii-digits_onto (suc k) base n cs some few others =
    let last = ascii-glyph (n % base) cs (omega (arith, mod_below n base some)) others in
    ascii-last k base (n / base) (digit_glyph false (n % base) ∷ cs) (n / base == 0) last (ascii-digits_onto k base (n / base) (digit_glyph false (n % base) ∷ cs) some few last)

-- the text of a group is ASCII
pub group_ascii : (g : Pg) → are_ascii (group_text g) ≡ true
unfolding digits
group_ascii g =
    ascii-append (decimal g.pool) _ (ascii-digits_onto 64 10 g.pool [] (omega arith) (omega arith) refl)
    (ascii-digits_onto 64 16 g.number [] (omega arith) (omega arith) refl)

-- the id of an OSD is readable
pub osd_id_readable : (z : ℤ) → is_osd_id z ≡ true → IsReadable (number_data z)
unfolding is_osd_id_in
osd_id_readable z h = number_between (pos 0) (pos 4095) z tt (omega arith) h

-- a pair within its limits is readable
pub pair_readable : (p : PairPart) → pair_fits p ≡ true → IsReadable (pair_data p)
unfolding pair_fits_in
pair_readable p h = let each = and_parts (is_osd_id p.from) (is_osd_id p.to) h in (osd_id_readable p.from each.0, (osd_id_readable p.to each.1, tt))

-- an exception within its limits is readable where its entries are
exception_readable : {X : Type 0} (fits : X → Bool) (entry : X → Data) → ((x : X) → fits x ≡ true → IsReadable (entry x)) → (e : ExceptionPart X) → exception_fits fits e ≡ true → IsReadable (exception_data entry e)
unfolding exception_fits_in exception_data
exception_readable fits entry each e h = (group_ascii (pg_of e.pg), (entries_within fits entry each e.entries (and_parts _ (list_all fits e.entries) h).1, tt))

-- exceptions within their limits are readable where their entries are
pub exceptions_readable : {X : Type 0} (fits : X → Bool) (entry : X → Data) → ((x : X) → fits x ≡ true → IsReadable (entry x)) → (es : List (ExceptionPart X)) → exceptions_fit fits es ≡ true → ItemsReadable (items_of (map (exception_data entry) es))
unfolding entries_fit_in
exceptions_readable fits entry each es h =
    entries_within (exception_fits fits) (exception_data entry) (exception_readable fits entry each) es (and_parts _ (list_all (exception_fits fits) es) h).1

-- ---- the map

-- the parts of a map within the limits are readable
pub map_readable : (p : MapParts) → parts_fit p ≡ true → IsReadable (map_data p)
unfolding parts_fit_in head_fits_in map_data
map_readable p h =
    let items = and_parts _ (exceptions_fit pair_fits p.pg_upmap_items) h in
    let explicit = and_parts _ (exceptions_fit is_osd_id p.pg_upmap) items.0 in
    let osds = and_parts _ (list_all osd_fits p.osds) explicit.0 in
    let groups = and_parts _ (has_few_groups p.pools) osds.0 in
    let pools = and_parts _ (list_all pool_fits p.pools) groups.0 in
    let rules = and_parts _ (list_all rule_fits p.rules) pools.0 in
    let buckets = and_parts _ (list_all bucket_fits p.buckets) rules.0 in
    let head = and_parts (head_fits p) (lists_fit p) buckets.0 in
    let max_osd = and_parts _ (is_between (pos 1) (pos 4096) p.max_osd) head.0 in
    let version = and_parts (is_between (pos 1) (pos 2) p.version) (is_between (pos 1) (pos 2147483648) p.epoch) max_osd.0 in (
      (
        refl,
        entries_within bucket_fits bucket_data bucket_readable p.buckets buckets.1,
        (
          refl,
          number_between (pos 1) (pos 2147483648) p.epoch tt (omega arith) version.1,
          (
            refl,
            number_between (pos 1) (pos 4096) p.max_osd tt (omega arith) max_osd.1,
            (
              refl,
              entries_within osd_fits osd_data osd_readable p.osds osds.1,
              (
                refl,
                exceptions_readable is_osd_id number_data osd_id_readable p.pg_upmap explicit.1,
                (
                  refl,
                  exceptions_readable pair_fits pair_data pair_readable p.pg_upmap_items items.1,
                  (
                    refl,
                    entries_within pool_fits pool_data pool_readable p.pools pools.1,
                    (
                      refl,
                      entries_within rule_fits rule_data rule_readable p.rules rules.1,
                      (refl, number_between (pos 1) (pos 2) p.version tt (omega arith) version.0, tt),
                    ),
                  ),
                ),
              ),
            ),
          ),
        ),
      ),
      refl,
    )
