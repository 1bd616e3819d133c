-- Of two maps, or two changes, whose texts state their own parts: where the texts are the same, they are.
use Rattle.std.proofs.Common.{◌≡◌, ◌∙◌, ℕ, suc, pos, nat_abs, List, [], ◌∷◌, map, Option, Some, None, Result, Ok, refl, sym, ap, arith}
use Rattle.std.specs.Prelude.{option_map}
use Rattle.std.specs.List.{range_with_len, All}
use Rattle.refusal.specs.declared.refused.Refusal.{Refusal}
use Rattle.mapparts.specs.declared.parts.MapParts.{MapParts}
use Rattle.mapparts.specs.declared.change.ExceptionChanges.{ExceptionChanges}
use Rattle.maptypes.specs.declared.change.ChangeParts.{ChangeParts}
use Rattle.maptypes.specs.declared.exception.Exception.{Exception}
use Rattle.maptypes.specs.declared.pg.Pg.{Pg}
use Rattle.maptypes.specs.CrushMaps.{CrushFacts}
use Rattle.maptypes.specs.Values.{bucket_of, rule_of, pool_of, growth_of, pg_of, pair_of, exception_of}
use Rattle.osdmap.specs.Maps.{ClusterMap, HoldsTogether}
use Rattle.osdmap.specs.Stated.{presence_in, weight_in}
use Rattle.osdmap.specs.PartsOf.{bucket_part, rule_part, pool_part, pg_part, pair_part, exception_part, parts_of}
use Rattle.jsonstream.specs.Json.{stated_by}
use Rattle.mapparts.specs.declared.change.RawChange.{RawChange}
use Rattle.partjson.specs.StatedMaps.{stated_map}
use Rattle.partjson.specs.StatedChanges.{stated_change}
use Rattle.mapjson.specs.ChangeTexts.{reweight_within}
use Rattle.mapjson.specs.PartsOfChange.{growth_part, reweight_part, crush_parts, exceptions_part, change_parts}
use Rattle.mapjson.specs.Written.{written}
use Rattle.mapjson.specs.WrittenChanges.{written_change}
use Rattle.mapjson.proofs.OwnValues.{map_own, bucket_own, rule_own, pool_own, number_own, pair_own, exception_own}
use Rattle.mapjson.proofs.OwnOsds.{own_presences, own_weights}

-- lists are the same where what states their entries is
one_list : {X Y : Type 0} (f : Y → X) (g : X → Y) → ((x : X) → f (g x) ≡ x) → (xs ys : List X) → map g xs ≡ map g ys → xs ≡ ys
one_list f g own xs ys e = sym (map_own f g own xs) ∙ ap (map f) e ∙ map_own f g own ys

-- so they are where each two entries are of which a function makes the same
pub one_each : {X Y : Type 0} (f : X → Y) (P : X → Type 0) → ((x y : X) → P x → P y → f x ≡ f y → x ≡ y) → (xs ys : List X) → All P xs → All P ys → map f xs ≡ map f ys → xs ≡ ys
one_each f P one [] [] first second e = refl
one_each f P one [] (y ∷ ys) first second e = absurd (cc)
one_each f P one (x ∷ xs) [] first second e = absurd (cc)
one_each f P one (x ∷ xs) (y ∷ ys) first second e =
    let head : f x ≡ f y = cc in
    let tail : map f xs ≡ map f ys = cc in
    let here = one x y (first 0 x (omega arith)) (second 0 y (omega arith)) head in
    let rest = one_each f P one xs ys (λ i d inside. first (suc i) d (omega (arith, inside))) (λ i d inside. second (suc i) d (omega (arith, inside))) tail in
    λ i. here i ∷ rest i

-- what one text states is the same
one_stated : {X : Type 0} (stated : List ℕ → Result X Refusal) (xs ys : List ℕ) (x y : X) → stated xs ≡ Ok x → stated ys ≡ Ok y → xs ≡ ys → x ≡ y
one_stated stated xs ys x y first second e = let same : ◌≡◌ {A = Result _ Refusal} (Ok x) (Ok y) = sym first ∙ ap stated e ∙ second in cc

-- ---- maps

module _ (m n : ClusterMap) (holds : HoldsTogether m) (also : HoldsTogether n) (same : parts_of m ≡ parts_of n) where
  epoch_same : m.epoch ≡ n.epoch
  unfolding parts_of
  epoch_same = ap (λ (p : MapParts). nat_abs p.epoch) same

  buckets_same : m.buckets ≡ n.buckets
  unfolding parts_of
  buckets_same = one_list bucket_of bucket_part bucket_own m.buckets n.buckets (ap (λ (p : MapParts). p.buckets) same)

  rules_same : m.rules ≡ n.rules
  unfolding parts_of
  rules_same = one_list rule_of rule_part rule_own m.rules n.rules (ap (λ (p : MapParts). p.rules) same)

  pools_same : m.pools ≡ n.pools
  unfolding parts_of
  pools_same = one_list pool_of pool_part pool_own m.pools n.pools (ap (λ (p : MapParts). p.pools) same)

  presences_same : m.presences ≡ n.presences
  unfolding parts_of
  presences_same =
      own_presences m holds ∙ ap (λ (p : MapParts). map (presence_in p.osds) (range_with_len 0 (nat_abs p.max_osd))) same ∙ sym (own_presences n also)

  weights_same : m.weights ≡ n.weights
  unfolding parts_of
  weights_same =
      own_weights m holds ∙ ap (λ (p : MapParts). map (weight_in p.osds) (range_with_len 0 (nat_abs p.max_osd))) same ∙ sym (own_weights n also)

  explicit_same : m.explicit ≡ n.explicit
  unfolding parts_of
  explicit_same =
      one_list (exception_of nat_abs) (exception_part pos) (exception_own nat_abs pos number_own) m.explicit n.explicit (ap (λ (p : MapParts). p.pg_upmap) same)

  items_same : m.items ≡ n.items
  unfolding parts_of
  items_same =
      one_list (exception_of pair_of) (exception_part pair_part) (exception_own pair_of pair_part pair_own) m.items n.items (ap (λ (p : MapParts). p.pg_upmap_items) same)

  one_of_parts : m ≡ n
  one_of_parts = λ i. record {
    epoch = epoch_same i;
    buckets = buckets_same i;
    rules = rules_same i;
    pools = pools_same i;
    presences = presences_same i;
    weights = weights_same i;
    explicit = explicit_same i;
    items = items_same i;
  }

-- maps with one text are one
pub one_map : (m n : ClusterMap) → HoldsTogether m → HoldsTogether n → stated_by stated_map (written m) ≡ Ok (parts_of m) → stated_by stated_map (written n) ≡ Ok (parts_of n)
    → written m ≡ written n → m ≡ n
one_map m n holds also first second e =
    one_of_parts m n holds also (one_stated (stated_by stated_map) (written m) (written n) (parts_of m) (parts_of n) first second e)

-- ---- changes

-- CRUSH maps with the same parts are one
crush_same : (k j : CrushFacts) → crush_parts k ≡ crush_parts j → k ≡ j
crush_same k j e =
    let buckets = one_list bucket_of bucket_part bucket_own k.buckets j.buckets (ap (λ p. p.buckets) e) in
    let rules = one_list rule_of rule_part rule_own k.rules j.rules (ap (λ p. p.rules) e) in
    λ i. record { buckets = buckets i; rules = rules i }

-- so it is where there may be none
one_crush : (k j : Option CrushFacts) → option_map crush_parts k ≡ option_map crush_parts j → k ≡ j
one_crush None None e = λ i. None
one_crush None (Some j) e = absurd (cc)
one_crush (Some k) None e = absurd (cc)
one_crush (Some k) (Some j) e = let same : crush_parts k ≡ crush_parts j = cc in ap (λ c. Some c) (crush_same k j same)

module _ (base : ℕ) (c d : ChangeParts) (profile : c.profile ≡ d.profile) (same : change_parts base c ≡ change_parts base d) where
  numbers_same : (xs ys : List ℕ) → map pos xs ≡ map pos ys → xs ≡ ys
  numbers_same = one_list nat_abs pos number_own

  exceptions_same : {E P : Type 0} (of : P → E) (part : E → P) → ((e : E) → of (part e) ≡ e) → (x y : ExceptionChanges Pg (Exception E)) → exceptions_part part x ≡ exceptions_part part y → x ≡ y
  exceptions_same of part own x y e =
      let gone = one_list pg_of pg_part (λ g i. g) x.gone y.gone (ap (λ z. z.gone) e) in
      let come = one_list (exception_of of) (exception_part part) (exception_own of part own) x.come y.come (ap (λ z. z.come) e) in
      λ i. record { gone = gone i; come = come i }

  change_of_parts : c ≡ d
  change_of_parts =
      let gone = numbers_same c.pools.gone d.pools.gone (ap (λ (r : RawChange). r.pools.gone) same) in
      let come = one_list pool_of pool_part pool_own c.pools.come d.pools.come (ap (λ (r : RawChange). r.pools.come) same) in
      let grow = one_list growth_of growth_part (λ g i. g) c.pools.grow d.pools.grow (ap (λ (r : RawChange). r.pools.grow) same) in
      let crush = one_crush c.crush d.crush (ap (λ (r : RawChange). r.crush) same) in
      let down = numbers_same c.osds.down d.osds.down (ap (λ (r : RawChange). r.osds.down) same) in
      let ups = numbers_same c.osds.up d.osds.up (ap (λ (r : RawChange). r.osds.up) same) in
      let weights = one_list reweight_within reweight_part (λ w i. w) c.weights d.weights (ap (λ (r : RawChange). r.weights) same) in
      let explicit = exceptions_same nat_abs pos number_own c.explicit d.explicit (ap (λ (r : RawChange). r.explicit) same) in
      let items = exceptions_same pair_of pair_part pair_own c.items d.items (ap (λ (r : RawChange). r.items) same) in
      λ i. record {
        profile = profile i;
        pools = record { gone = gone i; come = come i; grow = grow i };
        crush = crush i;
        osds = record { down = down i; up = ups i };
        weights = weights i;
        explicit = explicit i;
        items = items i;
      }

-- changes of one profile with one base and one text are one
pub one_change : (base : ℕ) (c d : ChangeParts) → c.profile ≡ d.profile → stated_by stated_change (written_change base c) ≡ Ok (change_parts base c)
    → stated_by stated_change (written_change base d) ≡ Ok (change_parts base d) → written_change base c ≡ written_change base d → c ≡ d
one_change base c d profile first second e =
    change_of_parts base c d profile (one_stated (stated_by stated_change) (written_change base c) (written_change base d) (change_parts base c) (change_parts base d) first second e)
