-- What is written of a map is read as that map.
use Rattle.std.proofs.Common.{◌≡◌, ◌⊎◌, inl, inr, ℕ, nat_abs, map, List, Option, Result, Bool, true, false, not, if◌then◌else◌, Some, None, Ok, Err, IfOk, refl, sym, ap, subst, ◌∙◌}
use Rattle.std.specs.List.{list_all}
use Rattle.std.specs.Option.{option_map_or}
use Rattle.std.proofs.lemmas.Bool.{and_parts}
use Rattle.serde_json.specs.Data.{Data}
use Rattle.mapparts.specs.declared.parts.MapParts.{MapParts}
use Rattle.refusal.specs.declared.refused.Refusal.{Refusal}
use Rattle.refusal.specs.declared.refused.Refusal.TheVariants.{Memory as OutOfMemory, BadJson, BadField, BadLimit, BadForest, BadRule, BadPool, BadOsd, BadException}
use Rattle.osdmap.specs.Maps.{ClusterMap}
use Rattle.crush.specs.WellFormed.{forest_ok}
use Rattle.maptypes.specs.Exceptions.{target, sides, is_set, are_pairs}
use Rattle.mapparts.specs.Parts.{is_osd_id, pair_fits, osd_fits, pool_fits, has_few_groups, exception_fits, exceptions_fit, parts_fit, entries_fit_in, parts_fit_in}
use Rattle.maptypes.specs.Values.{pool_of, pair_of}
use Rattle.osdmap.specs.Stated.{buckets_of, rules_ok, pools_ok, osds_ok, is_listed, exceptions_ok, explicit_of, all_exceptions_ok, map_fault, IsStated}
use Rattle.osdmap.specs.PartsOf.{parts_of}
use Rattle.jsonstream.specs.Json.{◌>>=◌, json_of, stated_by}
use Rattle.mapparts.specs.declared.profile.Profile.TheVariants.{Stock}
use Rattle.partjson.specs.StatedMaps.{stated_map}
use Rattle.partjson.specs.Profiles.{map_allowed, map_in}
use Rattle.mapjson.specs.Written.{AreNamed, map_data, written}
use Rattle.mapjson.proofs.Readable.{read-compact_text, IsUtf8-compact_text}
use Rattle.mapjson.proofs.ReadableMaps.{map_readable}
use Rattle.mapjson.proofs.Named.{exceptions_named}
use Rattle.mapjson.specs.MapTexts.{fault_of_stated, map_text_fault, StatesMap}
use Rattle.map_laws.specs.Laws.{StatesOneMap}
use Rattle.map_laws.specs.TextLaws.{IsTextOf}
use Rattle.mapjson.proofs.Texted.{states_parts}
use Rattle.mapjson.proofs.Versions.{own_version}

-- ---- the text by itself, whether or not it was ever written

-- what is written of parts within the limits states them, where their groups are read back
written_states : (m : ClusterMap) → parts_fit (parts_of m) ≡ true → AreNamed (parts_of m).pg_upmap → AreNamed (parts_of m).pg_upmap_items → stated_by stated_map (written m) ≡ Ok (parts_of m)
unfolding written
written_states m fits explicit items =
    let p = parts_of m in
    let readable = map_readable p fits in
    states_parts p (map_data p) _ explicit items (own_version m) refl (IsUtf8-compact_text (map_data p) readable) (read-compact_text (map_data p) readable)

-- what is kept of what a value states
abbrev pub kept_or : {X : Type 0} → Option X → Result X Refusal
kept_or o = option_map_or (λ x. Ok x) o (Err BadField)

-- a part that is kept of one that is there
kept_part : {X : Type 0} (keep : X → Option X) (o : Option X) (x : X) → kept_or o ≡ Ok x → kept_or (o >>= keep) ≡ kept_or (keep x)
kept_part keep None x e = absurd (cc)
kept_part keep (Some y) x e = let same : y ≡ x = cc in ap (λ z. kept_or (keep z)) same

-- and of the value of a text
kept_value : {X : Type 0} (stated : Data → Option X) (keep : X → Option X) (o : Option Data) (x : X) → option_map_or (λ d. kept_or (stated d)) o (Err BadJson) ≡ Ok x → option_map_or (λ d. kept_or (stated d >>= keep)) o (Err BadJson) ≡ kept_or (keep x)
kept_value stated keep None x e = absurd (cc)
kept_value stated keep (Some d) x e = kept_part keep (stated d) x e

-- of a text that states something
pub kept_of : {X : Type 0} (stated : Data → Option X) (keep : X → Option X) (bytes : List ℕ) (x : X) → stated_by stated bytes ≡ Ok x → stated_by (λ d. stated d >>= keep) bytes ≡ kept_or (keep x)
kept_of stated keep bytes x e = kept_value stated keep (json_of bytes) x e

-- so it does where each kind of bucket is allowed
written_states_in : (m : ClusterMap) → parts_fit (parts_of m) ≡ true → AreNamed (parts_of m).pg_upmap → AreNamed (parts_of m).pg_upmap_items → stated_by (map_in Stock) (written m) ≡ Ok (parts_of m)
written_states_in m fits explicit items = kept_of stated_map (map_allowed Stock) (written m) (parts_of m) (written_states m fits explicit items)

-- parts with no fault are within the limits, and their exceptions are of groups that are there
lawful_fits : (p : MapParts) → map_fault p ≡ None → (parts_fit p ≡ true) × (all_exceptions_ok p ≡ true)
unfolding map_fault
lawful_fits p h = by_tests (parts_fit p) (forest_ok (buckets_of p) (nat_abs p.max_osd)) (rules_ok p) (pools_ok p) (osds_ok p) (all_exceptions_ok p) h
  where
    by_tests : (l f r q o x : Bool)
        → (if not l then Some BadLimit else if not f then Some BadForest else if not r then Some BadRule else if not q then Some BadPool else if not o then Some BadOsd else if not x then Some BadException else None) ≡ None
        → (l ≡ true) × (x ≡ true)
    by_tests false f r q o x h = absurd cc
    by_tests true false r q o x h = absurd cc
    by_tests true true false q o x h = absurd cc
    by_tests true true true false o x h = absurd cc
    by_tests true true true true false x h = absurd cc
    by_tests true true true true true false h = absurd cc
    by_tests true true true true true true h = (refl, refl)

-- the groups of parts with no fault are read back
lawful_named : (p : MapParts) → parts_fit p ≡ true → all_exceptions_ok p ≡ true → AreNamed p.pg_upmap × AreNamed p.pg_upmap_items
unfolding parts_fit_in entries_fit_in all_exceptions_ok
lawful_named p fits ok =
    let items = and_parts _ (exceptions_fit pair_fits p.pg_upmap_items) fits in
    let explicit = and_parts _ (exceptions_fit is_osd_id p.pg_upmap) items.0 in
    let counted = (and_parts _ (list_all osd_fits p.osds) explicit.0).0 in
    let pools = (and_parts _ (list_all pool_fits p.pools) (and_parts _ (has_few_groups p.pools) counted).0).1 in
    let each = and_parts (exceptions_ok target is_set (map pool_of p.pools) (is_listed p.osds) (explicit_of p)) _ ok in (
      exceptions_named target is_set (is_listed p.osds) nat_abs is_osd_id p.pools pools p.pg_upmap (and_parts _ (list_all (exception_fits is_osd_id) p.pg_upmap) explicit.1).1 (and_parts _ _ each.0).1,
      exceptions_named sides are_pairs (is_listed p.osds) pair_of pair_fits p.pools pools p.pg_upmap_items (and_parts _ (list_all (exception_fits pair_fits) p.pg_upmap_items) items.1).1 (and_parts _ _ each.1).1,
    )

-- what is written of a map whose own parts state it, without a fault, states that map alone
pub written_back : (m : ClusterMap) → map_fault (parts_of m) ≡ None → IsStated (parts_of m) m → StatesOneMap → IsTextOf (written m) m
written_back m lawful is one =
    let ok = lawful_fits (parts_of m) lawful in
    let named = lawful_named (parts_of m) ok.0 ok.1 in
    let states = written_states_in m ok.0 named.0 named.1 in
    record {
      faultless = ap (fault_of_stated Stock) states ∙ lawful;
      states = subst (λ r. IfOk r (λ parts. IsStated parts m)) (sym states) is;
      alone = λ n stated. one (parts_of m) n m (subst (λ r. IfOk r (λ parts. IsStated parts n)) states stated) is;
    }

-- who reads such a text has the map
pub read_is : (text : List ℕ) (m : ClusterMap) (bytes : List ℕ) (n : ClusterMap) → IsTextOf text m → bytes ≡ text → StatesMap Stock bytes n → n ≡ m
read_is text m bytes n of is stated = of.alone n (rw is at stated)

-- and where there is none memory was short
pub only_memory : (text : List ℕ) (m : ClusterMap) (bytes : List ℕ) (e : Refusal) → IsTextOf text m → bytes ≡ text → (e ≡ OutOfMemory) ⊎ (map_text_fault Stock bytes ≡ Some e) → e ≡ OutOfMemory
only_memory text m bytes e of is told = elim told [
  | inl short ↦ short
  | inr wrong ↦ let w : None ≡ Some e = sym of.faultless ∙ (rw is at wrong) in absurd (cc)
]
