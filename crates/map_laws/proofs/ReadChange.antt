-- A change that a text states is one that a text may state.
use Rattle.std.proofs.Common.{◌≡◌, ◌∙◌, ℕ, ℤ, pos, nat_abs, Bool, true, false, not, ◌&&◌, List, [], ◌∷◌, map, IsPermutation, Option, Some, None, Ok, Err, refl, sym, ap, subst, if◌then◌else◌, arith}
use Rattle.std.specs.Prelude.{⊤, nat_le, option_map, IfOk, Result}
use Rattle.std.specs.List.{list_all}
use Rattle.std.specs.Option.{option_map_or, option_or}
use Rattle.std.proofs.lemmas.Bool.{and_parts}
use Rattle.std.proofs.lemmas.List.Sorted.{IsPermutation-map, length_permutation}
use Rattle.serde_json.specs.Data.{Data}
use Rattle.buckets.specs.Kinds.{most_items}
use Rattle.keylist.proofs.Distinct.{list_all-moved}
use Rattle.refusal.specs.declared.refused.Refusal.{Refusal}
use Rattle.refusal.specs.declared.refused.Refusal.TheVariants.{BadJson, BadLimit, BadPool}
use Rattle.refusal.specs.Outcomes.{refused_unless}
use Rattle.mapparts.specs.declared.profile.Profile.{Profile}
use Rattle.mapparts.specs.declared.profile.Profile.TheVariants.{Plain, Stock}
use Rattle.mapparts.specs.declared.parts.BucketPart.{BucketPart}
use Rattle.mapparts.specs.declared.parts.ItemPart.{ItemPart}
use Rattle.mapparts.specs.declared.parts.RulePart.{RulePart}
use Rattle.mapparts.specs.declared.parts.StepPart.{StepPart}
use Rattle.mapparts.specs.declared.parts.StepPart.TheVariants.{SetChooseTries, SetChooseleafTries, SetChooseleafVaryR, SetChooseleafStable, Take, Choose as Chooses, Emit}
use Rattle.mapparts.specs.declared.parts.PoolPart.{PoolPart}
use Rattle.mapparts.specs.declared.parts.GrowPart.{GrowPart}
use Rattle.mapparts.specs.declared.parts.CrushParts.{CrushParts}
use Rattle.mapparts.specs.declared.parts.ExceptionPart.{ExceptionPart}
use Rattle.mapparts.specs.declared.parts.PairPart.{PairPart}
use Rattle.mapparts.specs.declared.pg_parts.PgParts.{PgParts}
use Rattle.mapparts.specs.Parts.{is_between, has_between, is_osd_id, item_fits, bucket_fits, step_fits, rule_fits, crush_fits, pool_fits, growth_fits, pg_fits, pair_fits, exception_fits, bucket_fits_in, crush_fits_in, entries_fit_in, exception_fits_in, is_osd_id_in, item_fits_in, pair_fits_in, rule_fits_in, step_fits_in, pool_fits_in, growth_fits_in}
use Rattle.mapparts.specs.Profiles.{limits_of, is_plain_kind, is_plain_word}
use Rattle.mapparts.specs.declared.limits.Limits.{Limits}
use Rattle.mapparts.proofs.Wider.{change_fits_all}
use Rattle.mapparts.proofs.Within.{natural_between, pool_fits_each, growth_fits_each}
use Rattle.maptypes.specs.CrushMaps.{CrushFacts}
use Rattle.maptypes.specs.Values.{item_of, bucket_of, step_of, rule_of, pool_of, growth_of, pg_of, pair_of, exception_of}
use Rattle.maptypes.specs.declared.change.ChangeParts.{ChangeParts}
use Rattle.osdmap.specs.PartsOf.{item_part, bucket_part, step_part, rule_part, pool_part, pg_part, pair_part, exception_part}
use Rattle.jsonstream.specs.Json.{◌>>=◌, json_of, stated_by}
use Rattle.mapparts.specs.declared.change.PoolChanges.{PoolChanges}
use Rattle.mapparts.specs.declared.change.OsdChanges.{OsdChanges}
use Rattle.mapparts.specs.declared.change.ExceptionChanges.{ExceptionChanges}
use Rattle.mapparts.specs.declared.change.RawChange.{RawChange}
use Rattle.mapparts.specs.declared.change.ReweightPart.{ReweightPart}
use Rattle.partjson.specs.StatedChanges.{stated_change}
use Rattle.partjson.specs.Profiles.{brings_kinds, change_allowed, change_in}
use Rattle.mapparts.specs.Changes.{is_pool_id, reweight_fits, change_fits, are_even, change_fits_in, reweight_fits_in}
use Rattle.mapjson.specs.ChangeTexts.{reweight_within, new_crush_fault, IsCrushStated, change_fault_in, fault_of_stated_change, IsChangeStated}
use Rattle.mapjson.specs.PartsOfChange.{growth_part, reweight_part, crush_parts, change_parts}
use Rattle.mapjson.specs.WrittenChanges.{fits_text}
use Rattle.mapjson.proofs.ChangeFits.{change_fits_each}
use Rattle.map_laws.specs.ChangeLaws.{FitsProfile, ReadChangesFit}
use Rattle.mapjson.proofs.OwnValues.{natural_fits}
use Rattle.map_laws.proofs.ReadBack.{kept_or}

-- ---- lists that are put in order

-- as many entries in another order
count_moved : {X : Type 0} (low high : ℕ) (xs ys : List X) → IsPermutation xs ys → has_between low high ys ≡ has_between low high xs
unfolding has_between
count_moved low high xs ys moved = ap (λ n. nat_le low n && nat_le n high) (length_permutation xs ys moved)

module _ {P E : Type 0} (value : P → E) (part : E → P) (fits : P → Bool) (back : (p : P) → fits p ≡ true → part (value p) ≡ p) where
  -- parts that fit are those of their values
  parts_back : (ps : List P) → list_all fits ps ≡ true → map part (map value ps) ≡ ps
  parts_back [] h = refl
  parts_back (p ∷ ps) h = let each = and_parts (fits p) (list_all fits ps) h in rw (back p each.0, parts_back ps each.1) refl

  -- the parts of values in another order are the parts in another order
  parts_moved : (ps : List P) (es : List E) → list_all fits ps ≡ true → IsPermutation (map value ps) es → IsPermutation ps (map part es)
  parts_moved ps es fit moved = subst (λ qs. IsPermutation qs (map part es)) (parts_back ps fit) (IsPermutation-map part (map value ps) es moved)

-- ---- parts that fit are those of their values

-- a number between two natural ones is its own absolute value
natural_back : (low high : ℕ) (z : ℤ) → is_between (pos low) (pos high) z ≡ true → pos (nat_abs z) ≡ z
natural_back low high z h = sym (natural_between low high z h).is

-- so is a number that an OSD may have
osd_back : (z : ℤ) → is_osd_id z ≡ true → pos (nat_abs z) ≡ z
unfolding is_osd_id_in
osd_back z h = natural_back 0 4095 z h

-- and one that a pool may have
pool_id_back : (z : ℤ) → is_pool_id z ≡ true → pos (nat_abs z) ≡ z
unfolding is_pool_id
pool_id_back z h = natural_back 1 65535 z h

-- an item whose weight is within its limits is the part of the item that it states
item_back : (i : ItemPart) → item_fits i ≡ true → item_part (item_of i) ≡ i
unfolding item_fits_in
item_back i h =
    let weight = natural_back 1 4294967295 i.weight (and_parts _ (is_between (pos 1) (pos 4294967295) i.weight) h).1 in
    λ t. record { id = i.id; weight = weight t }

-- so is a bucket with its level and items
bucket_back : (b : BucketPart) → bucket_fits b ≡ true → bucket_part (bucket_of b) ≡ b
unfolding bucket_fits_in
bucket_back b h =
    let items = and_parts _ (list_all item_fits b.items) h in
    let few = and_parts _ (has_between 0 4096 b.items) items.0 in
    let many = and_parts _ (has_between 1 (most_items b.kind) b.items) few.0 in
    let level = natural_back 1 15 b.level (and_parts _ (is_between (pos 1) (pos 15) b.level) many.0).1 in
    let own = parts_back item_of item_part item_fits item_back b.items items.1 in
    λ t. record { id = b.id; level = level t; kind = b.kind; items = own t }

-- so is each step of a rule
step_back : (s : StepPart) → step_fits s ≡ true → step_part (step_of s) ≡ s
unfolding step_fits_in
step_back (SetChooseTries n) h = ap (λ z. SetChooseTries z) (natural_back 1 200 n h)
step_back (SetChooseleafTries n) h = ap (λ z. SetChooseleafTries z) (natural_back 1 200 n h)
step_back (SetChooseleafVaryR n) h = ap (λ z. SetChooseleafVaryR z) (natural_back 0 4 n h)
step_back (SetChooseleafStable n) h = ap (λ z. SetChooseleafStable z) (natural_back 0 1 n h)
step_back (Take id) h = refl
step_back (Chooses c) h =
    let each = and_parts (is_between (pos 0) (pos 20) c.count) (is_between (pos 0) (pos 15) c.level) h in
    let count = natural_back 0 20 c.count each.0 in
    let level = natural_back 0 15 c.level each.1 in
    λ t. Chooses (record { mode = c.mode; to_leaf = c.to_leaf; count = count t; level = level t })
step_back Emit h = refl

-- so is a rule with its number and steps
rule_back : (r : RulePart) → rule_fits r ≡ true → rule_part (rule_of r) ≡ r
unfolding rule_fits_in
rule_back r h =
    let steps = and_parts _ (list_all step_fits r.steps) h in
    let id = natural_back 0 255 r.id (and_parts (is_between (pos 0) (pos 255) r.id) _ steps.0).0 in
    let own = parts_back step_of step_part step_fits step_back r.steps steps.1 in
    λ t. record { id = id t; kind = r.kind; steps = own t }

-- so is a pool with its numbers
pool_back : (p : PoolPart) → pool_fits p ≡ true → pool_part (pool_of p) ≡ p
pool_back p h =
    let each = pool_fits_each p h in
    let id = natural_back 1 65535 p.id each.id in
    let pg_num = natural_back 1 65536 p.pg_num each.pg_num in
    let pgp_num = natural_back 1 65536 p.pgp_num each.pgp_num in
    let rule = natural_back 0 255 p.rule each.rule in
    let size = natural_back 1 20 p.size each.size in
    λ t. record { id = id t; kind = p.kind; pg_num = pg_num t; pgp_num = pgp_num t; rule = rule t; size = size t }

-- so is the growth of a pool
growth_back : (g : GrowPart) → growth_fits g ≡ true → growth_part (growth_of g) ≡ g
growth_back g h =
    let each = growth_fits_each g h in
    let pool = natural_back 1 65535 g.pool each.pool in
    let pg_num = natural_back 1 65536 g.pg_num each.pg_num in
    let pgp_num = natural_back 1 65536 g.pgp_num each.pgp_num in
    λ t. record { pool = pool t; pg_num = pg_num t; pgp_num = pgp_num t }

-- so is the new weight of an OSD
reweight_back : (w : ReweightPart) → reweight_fits w ≡ true → reweight_part (reweight_within w) ≡ w
unfolding reweight_fits_in
reweight_back w h =
    let each = and_parts (is_osd_id w.osd) (is_between (pos 0) (pos 4294967295) w.weight) h in
    let osd = osd_back w.osd each.0 in
    let weight = natural_back 0 4294967295 w.weight each.1 in
    λ t. record { osd = osd t; weight = weight t }

-- a group that is named whole is the part of the group that it states
whole_group : (pool number : Option ℕ) → pg_fits (record { pool = pool; number = number }) ≡ true → pg_part (pg_of (record { pool = pool; number = number })) ≡ record { pool = pool; number = number }
unfolding pg_fits
whole_group (Some pool) (Some number) h = refl
whole_group (Some pool) None h = absurd (grind (arith, h))
whole_group None number h = absurd (grind (arith, h))

-- so each group within its limits is
group_back : (g : PgParts) → pg_fits g ≡ true → pg_part (pg_of g) ≡ g
group_back g h = whole_group g.pool g.number h

-- so is a pair of OSDs
pair_back : (p : PairPart) → pair_fits p ≡ true → pair_part (pair_of p) ≡ p
unfolding pair_fits_in
pair_back p h =
    let each = and_parts (is_osd_id p.from) (is_osd_id p.to) h in
    let from = osd_back p.from each.0 in
    let to = osd_back p.to each.1 in
    λ t. record { from = from t; to = to t }

-- so is an exception, where it is so of each of its entries
exception_back : {P E : Type 0} (value : P → E) (part : E → P) (fits : P → Bool) → ((p : P) → fits p ≡ true → part (value p) ≡ p)
    → (e : ExceptionPart P) → exception_fits fits e ≡ true → exception_part part (exception_of value e) ≡ e
unfolding exception_fits_in
exception_back value part fits back e h =
    let entries = and_parts _ (list_all fits e.entries) h in
    let pg = group_back e.pg (and_parts (pg_fits e.pg) _ entries.0).0 in
    let own = parts_back value part fits back e.entries entries.1 in
    λ t. record { pg = pg t; entries = own t }

-- ---- the CRUSH map

-- the same buckets and rules in another order
abbrev IsCrushMoved : Option CrushParts → Option CrushParts → Type 0
IsCrushMoved None None = ⊤
IsCrushMoved None (Some q) = ⊥
IsCrushMoved (Some p) None = ⊥
IsCrushMoved (Some p) (Some q) = IsPermutation p.buckets q.buckets × IsPermutation p.rules q.rules

-- so are those of the CRUSH map that parts within the limits state
crush_moved : (crush : Option CrushParts) (k : Option CrushFacts) → option_map_or crush_fits crush true ≡ true → IsCrushStated crush k → IsCrushMoved crush (option_map crush_parts k)
unfolding crush_fits_in
crush_moved None None fit is = tt
crush_moved None (Some k) fit is = absurd (cc)
crush_moved (Some p) None fit is = absurd is
crush_moved (Some p) (Some k) fit is =
    let rules = and_parts _ (list_all rule_fits p.rules) fit in
    let buckets = and_parts _ (list_all bucket_fits p.buckets) rules.0 in (
      parts_moved bucket_of bucket_part bucket_fits bucket_back p.buckets k.buckets buckets.1 is.buckets.same,
      parts_moved rule_of rule_part rule_fits rule_back p.rules k.rules rules.1 is.rules.same,
    )

-- they are within any limits alike
crush_limits : (l : Limits) (a b : Option CrushParts) → IsCrushMoved a b → option_map_or (crush_fits_in l) b true ≡ option_map_or (crush_fits_in l) a true
unfolding crush_fits_in
crush_limits l None None moved = refl
crush_limits l None (Some q) moved = absurd moved
crush_limits l (Some p) None moved = absurd moved
crush_limits l (Some p) (Some q) moved = rw (
  count_moved 1 l.buckets p.buckets q.buckets moved.0,
  count_moved 1 l.rules p.rules q.rules moved.1,
  list_all-moved (bucket_fits_in l) p.buckets q.buckets moved.0,
  list_all-moved (rule_fits_in l) p.rules q.rules moved.1,
) refl

-- and have kinds and steps of a profile alike
crush_kinds : (profile : Profile) (a b : Option CrushParts) → IsCrushMoved a b → brings_kinds profile b ≡ brings_kinds profile a
crush_kinds profile None None moved = refl
crush_kinds profile None (Some q) moved = absurd moved
crush_kinds profile (Some p) None moved = absurd moved
crush_kinds Plain (Some p) (Some q) moved = rw (
  list_all-moved (λ (b : BucketPart). is_plain_kind b.kind) p.buckets q.buckets moved.0,
  list_all-moved (λ (r : RulePart). list_all is_plain_word r.steps) p.rules q.rules moved.1,
) refl
crush_kinds Stock (Some p) (Some q) moved = refl

-- ---- the change

-- the same of each family, each list in another order
record PoolsMoved (c d : PoolChanges ℤ PoolPart GrowPart) : Type 0 where
  gone : IsPermutation c.gone d.gone
  come : IsPermutation c.come d.come
  grow : IsPermutation c.grow d.grow

record OsdsMoved (c d : OsdChanges ℤ) : Type 0 where
  down : IsPermutation c.down d.down
  up : IsPermutation c.up d.up

record ExceptionsMoved {P : Type 0} (c d : ExceptionChanges PgParts (ExceptionPart P)) : Type 0 where
  gone : IsPermutation c.gone d.gone
  come : IsPermutation c.come d.come

-- the same parts, each list in another order
record AreMoved (c d : RawChange) : Type 0 where
  base : d.base ≡ c.base
  pools : PoolsMoved c.pools d.pools
  crush : IsCrushMoved c.crush d.crush
  osds : OsdsMoved c.osds d.osds
  weights : IsPermutation c.weights d.weights
  explicit : ExceptionsMoved c.explicit d.explicit
  items : ExceptionsMoved c.items d.items

-- a list is within any limits like the same in another order
entries_moved : {X : Type 0} (fits : X → Bool) (l : Limits) (xs ys : List X) → IsPermutation xs ys → entries_fit_in fits l ys ≡ entries_fit_in fits l xs
unfolding entries_fit_in
entries_moved fits l xs ys moved = rw (count_moved 0 l.entries xs ys moved, list_all-moved fits xs ys moved) refl

-- they are within any limits alike
limits_moved : (l : Limits) (c d : RawChange) → AreMoved c d → change_fits_in l d ≡ change_fits_in l c
unfolding change_fits_in
limits_moved l c d m = rw (
  m.base,
  count_moved 0 l.entries c.pools.gone d.pools.gone m.pools.gone,
  list_all-moved is_pool_id c.pools.gone d.pools.gone m.pools.gone,
  crush_limits l c.crush d.crush m.crush,
  entries_moved (pool_fits_in l) l c.pools.come d.pools.come m.pools.come,
  entries_moved (growth_fits_in l) l c.pools.grow d.pools.grow m.pools.grow,
  entries_moved (is_osd_id_in l) l c.osds.down d.osds.down m.osds.down,
  entries_moved (is_osd_id_in l) l c.osds.up d.osds.up m.osds.up,
  entries_moved (reweight_fits_in l) l c.weights d.weights m.weights,
  entries_moved pg_fits l c.explicit.gone d.explicit.gone m.explicit.gone,
  entries_moved pg_fits l c.items.gone d.items.gone m.items.gone,
  entries_moved (exception_fits_in (is_osd_id_in l) l) l c.explicit.come d.explicit.come m.explicit.come,
  entries_moved (exception_fits_in (pair_fits_in l) l) l c.items.come d.items.come m.items.come,
) refl

-- the parts of the change that parts within the limits state are those parts
parts_stated : (profile : Profile) (r : RawChange) (base : ℕ) (c : ChangeParts) → change_fits r ≡ true → IsChangeStated profile r base c → AreMoved r (change_parts base c)
unfolding entries_fit_in
parts_stated profile r base c limits is =
    let fits = change_fits_each r limits in
    record {
      base = ap (λ n. pos n) is.base_is ∙ natural_back 0 18446744073709551615 r.base fits.base;
      pools = record {
        gone = parts_moved nat_abs pos is_pool_id pool_id_back r.pools.gone c.pools.gone fits.pools.gone is.ordered.pools.gone.same;
        come = parts_moved pool_of pool_part pool_fits pool_back r.pools.come c.pools.come fits.pools.come is.ordered.pools.come.same;
        grow = parts_moved growth_of growth_part growth_fits growth_back r.pools.grow c.pools.grow fits.pools.grow is.ordered.pools.grow.same;
      };
      crush = crush_moved r.crush c.crush fits.crush is.crush;
      osds = record {
        down = parts_moved nat_abs pos is_osd_id osd_back r.osds.down c.osds.down fits.osds.down is.ordered.osds.down.same;
        up = parts_moved nat_abs pos is_osd_id osd_back r.osds.up c.osds.up fits.osds.up is.ordered.osds.up.same;
      };
      weights = parts_moved reweight_within reweight_part reweight_fits reweight_back r.weights c.weights fits.weights is.ordered.weights.same;
      explicit = record {
        gone = parts_moved pg_of pg_part pg_fits group_back r.explicit.gone c.explicit.gone fits.explicit.gone is.ordered.explicit.gone.same;
        come = parts_moved (exception_of nat_abs) (exception_part pos) (exception_fits is_osd_id) (exception_back nat_abs pos is_osd_id osd_back) r.explicit.come c.explicit.come (and_parts _ (list_all (exception_fits is_osd_id) r.explicit.come) fits.explicit.come).1 is.ordered.explicit.come.same;
      };
      items = record {
        gone = parts_moved pg_of pg_part pg_fits group_back r.items.gone c.items.gone fits.items.gone is.ordered.items.gone.same;
        come = parts_moved (exception_of pair_of) (exception_part pair_part) (exception_fits pair_fits) (exception_back pair_of pair_part pair_fits pair_back) r.items.come c.items.come (and_parts _ (list_all (exception_fits pair_fits) r.items.come) fits.items.come).1 is.ordered.items.come.same;
      };
    }

-- ---- the text

-- what has no fault is within the limits
faultless_fits : (profile : Profile) (r : RawChange) → change_fault_in profile r ≡ None → change_fits_in (limits_of profile) r ≡ true
faultless_fits profile r h = by_tests (change_fits_in (limits_of profile) r) (option_or (new_crush_fault r.crush) (refused_unless (are_even r.pools) BadPool)) h
  where
    by_tests : (fits : Bool) (other : Option Refusal) → (if not fits then Some BadLimit else other) ≡ None → fits ≡ true
    by_tests true other h = refl
    by_tests false other h = absurd (cc)

-- what a profile allows of a change has kinds of it
kinds_allowed : (profile : Profile) (x r : RawChange) → kept_or (change_allowed profile x) ≡ Ok r → brings_kinds profile r.crush ≡ true
kinds_allowed profile x r h = by_kinds (brings_kinds profile x.crush) refl h
  where
    by_kinds : (b : Bool) → brings_kinds profile x.crush ≡ b → kept_or (if b then Some x else None) ≡ Ok r → brings_kinds profile r.crush ≡ true
    by_kinds true kinds e = let same : x ≡ r = cc in subst (λ y. brings_kinds profile y.crush ≡ true) same kinds
    by_kinds false kinds e = absurd (cc)

-- so has what is kept of a change, where there is one
kinds_of_part : (profile : Profile) (o : Option RawChange) (r : RawChange) → kept_or (o >>= change_allowed profile) ≡ Ok r → brings_kinds profile r.crush ≡ true
kinds_of_part profile None r h = absurd (cc)
kinds_of_part profile (Some x) r h = kinds_allowed profile x r h

-- so has what is kept of the change that a value states, where there is one
kinds_of_value : (profile : Profile) (o : Option Data) (r : RawChange) → option_map_or (λ d. kept_or (stated_change d >>= change_allowed profile)) o (Err BadJson) ≡ Ok r → brings_kinds profile r.crush ≡ true
kinds_of_value profile None r h = absurd (cc)
kinds_of_value profile (Some d) r h = kinds_of_part profile (stated_change d) r h

-- the limits do not hang on the base
fits_at_zero : (l : Limits) (base : ℕ) (c : ChangeParts) → change_fits_in l (change_parts base c) ≡ true → change_fits_in l (change_parts 0 c) ≡ true
unfolding change_fits_in
fits_at_zero l base c fits = grind (arith, fits, natural_fits 0 18446744073709551615 0 (omega arith) (omega arith))

-- a change that is stated without a fault is one that a text may state
stated_fits : (profile : Profile) (r : RawChange) (base : ℕ) (c : ChangeParts) → change_fault_in profile r ≡ None → brings_kinds profile r.crush ≡ true → IsChangeStated profile r base c → FitsProfile profile c
unfolding fits_text
stated_fits profile r base c faultless kinds is =
    let within = faultless_fits profile r faultless in
    let moved = parts_stated profile r base c (change_fits_all profile r within) is in
    let own_kinds = crush_kinds profile r.crush (option_map crush_parts c.crush) moved.crush ∙ kinds in
    let own_limits = fits_at_zero (limits_of profile) base c (limits_moved (limits_of profile) r (change_parts base c) moved ∙ within) in
    record { profile_is = is.ordered.profile; fits = rw (own_kinds, own_limits) refl }

-- so is one that a text states
by_result : (profile : Profile) (bytes : List ℕ) (answer : ℕ × ChangeParts) (r : Result RawChange Refusal) → stated_by (change_in profile) bytes ≡ r
    → fault_of_stated_change profile r ≡ None → IfOk r (λ c. IsChangeStated profile c answer.0 answer.1) → FitsProfile profile answer.1
by_result profile bytes answer (Ok r) e faultless is = stated_fits profile r answer.0 answer.1 faultless (kinds_of_value profile (json_of bytes) r e) is
by_result profile bytes answer (Err why) e faultless is = absurd (cc)

-- each change that a text without a fault states has the profile by which it was read, and is one that a text may state
-- by it
pub read_changes_fit : ReadChangesFit
read_changes_fit profile bytes answer faultless states = by_result profile bytes answer (stated_by (change_in profile) bytes) refl faultless states
