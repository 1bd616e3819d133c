-- What is written of a change: it nests six deep at most, and states the change's parts.
use Rattle.std.proofs.Common.{◌≡◌, ℕ, ◌≤◌, List, [], ◌∷◌, ◌++◌, Option, Some, None, Ok, Err, refl, sym, ap, subst, ◌∙◌, arith, append_assoc}
use Rattle.std.specs.Prelude.{⊤}
use Rattle.std.specs.Option.{option_map_or}
use Rattle.std.specs.Str.{IsUtf8}
use Rattle.serde_json.specs.Data.{Data, no_members, depth, members_depth}
use Rattle.serde_json.specs.Read.{read, max_depth}
use Rattle.json.specs.Print.{print}
use Rattle.json.specs.Token.{Token, begin_object, end_object}
use Rattle.serde_json.proofs.Texts.{print-outline}
use Rattle.mapjson.specs.Pieces.{tokens_of, member_tokens, IsReadBack, AreReadBack}
use Rattle.mapjson.proofs.Pieces.{object_read, both_read, member_tokens-append, members_tokens-all, enclosed}
use Rattle.mapjson.proofs.Readable.{built}
use Rattle.mapparts.specs.declared.parts.GrowPart.{GrowPart}
use Rattle.mapparts.specs.declared.parts.CrushParts.{CrushParts}
use Rattle.mapparts.specs.declared.pg_parts.PgParts.{PgParts}
use Rattle.maptypes.specs.declared.change.ChangeParts.{ChangeParts}
use Rattle.mapparts.specs.declared.change.RawChange.{RawChange}
use Rattle.mapparts.specs.declared.change.ReweightPart.{ReweightPart}
use Rattle.refusal.specs.declared.refused.Refusal.TheVariants.{BadJson, BadField}
use Rattle.jsonstream.specs.Json.{whole_number, stated_by}
use Rattle.jsonstream.proofs.Texts.{json_of_some}
use Rattle.partjson.specs.StatedMaps.{stated_bucket, stated_rule, stated_pool, stated_growth, stated_pg, stated_pair}
use Rattle.partjson.specs.StatedChanges.{reweight_of, crush_of, stated_change}
use Rattle.mapjson.specs.Written.{number_data, list_data, members, object_of, bucket_data, rule_data, pool_data, IsNamed, group_data, pair_data, exception_data}
use Rattle.mapjson.specs.PartsOfChange.{change_parts}
use Rattle.mapjson.specs.WrittenChanges.{reweight_data, growth_data, crush_data, crush_member, first_members, last_members, change_data, HasNamed, written_change}
use Rattle.mapjson.proofs.ReadBack.{number_back, entries_back, list_back, bucket_back, rule_back, pool_back, pair_back, exceptions_back}
use Rattle.mapjson.proofs.Shallow.{number_flat, list_flat, bucket_flat, rule_flat, pool_flat, pair_flat, exception_flat}

-- a change's value, by its CRUSH map
abbrev pub with_member_of : RawChange → Option CrushParts → Data
with_member_of c crush = object_of (first_members c ++ (crush_member crush ++ last_members c))

-- ---- how deep

-- a list nests at most five levels where its entries nest at most four
list_within : {X : Type 0} (n : ℕ) (entry : X → Data) → n ≤ 4 → ((x : X) → depth (entry x) ≤ n) → (xs : List X) → depth (list_data entry xs) ≤ 5
list_within n entry few h xs = omega (arith, few, list_flat n entry h xs)

-- members of values that nest at most five levels
abbrev AreFlat : List (List ℕ × Data) → Type 0
AreFlat [] = ⊤
AreFlat (m ∷ ms) = (depth m.1 ≤ 5) × AreFlat ms

-- so is what two lists of them make
flat_both : (ms ns : List (List ℕ × Data)) → AreFlat ms → AreFlat ns → AreFlat (ms ++ ns)
flat_both [] ns first second = second
flat_both (m ∷ ms) ns first second = (first.0, flat_both ms ns first.1 second)

-- they nest at most five levels together
members_flat : (ms : List (List ℕ × Data)) → AreFlat ms → members_depth (members ms) ≤ 5
members_flat [] flat = omega arith
members_flat (m ∷ ms) flat = omega (arith, flat.0, members_flat ms flat.1)

-- a reweight nests one level
reweight_flat : (w : ReweightPart) → depth (reweight_data w) ≤ 1
reweight_flat w = omega arith

-- a growth nests one level
growth_flat : (g : GrowPart) → depth (growth_data g) ≤ 1
growth_flat g = omega arith

-- a group nests no level
group_flat : (g : PgParts) → depth (group_data g) ≤ 0
group_flat g = omega arith

-- a CRUSH map nests five levels
crush_flat : (k : CrushParts) → depth (crush_data k) ≤ 5
unfolding crush_data
crush_flat k = omega (arith, list_flat 3 bucket_data bucket_flat k.buckets, list_flat 3 rule_data rule_flat k.rules)

-- that of a change, where there is one
crush_member_flat : (crush : Option CrushParts) → AreFlat (crush_member crush)
crush_member_flat None = tt
crush_member_flat (Some k) = (crush_flat k, tt)

-- the members before it
first_flat : (c : RawChange) → AreFlat (first_members c)
first_flat c = (omega (arith, number_flat c.base), (list_within 0 number_data (omega arith) number_flat c.osds.down, (list_within 1 growth_data (omega arith) growth_flat c.pools.grow, tt)))

-- and behind it
last_flat : (c : RawChange) → AreFlat (last_members c)
last_flat c = (list_within 3 (exception_data pair_data) (omega arith) (exception_flat 1 pair_data pair_flat) c.items.come, (list_within 1 pool_data (omega arith) pool_flat c.pools.come, (list_within 2 (exception_data number_data) (omega arith) (exception_flat 0 number_data number_flat) c.explicit.come, (list_within 0 group_data (omega arith) group_flat c.items.gone, (list_within 0 number_data (omega arith) number_flat c.pools.gone, (list_within 0 group_data (omega arith) group_flat c.explicit.gone, (list_within 0 number_data (omega arith) number_flat c.osds.up, (list_within 1 reweight_data (omega arith) reweight_flat c.weights, tt))))))))

-- a change nests six levels at most, with a CRUSH map or without
flat_with : (c : RawChange) (crush : Option CrushParts) → depth (with_member_of c crush) ≤ 6
flat_with c crush =
    let rest = flat_both (crush_member crush) (last_members c) (crush_member_flat crush) (last_flat c) in
    let all = flat_both (first_members c) (crush_member crush ++ last_members c) (first_flat c) rest in
    omega (arith, members_flat (first_members c ++ (crush_member crush ++ last_members c)) all)

-- so its text reads back
pub change_flat : (c : RawChange) → depth (change_data c) ≤ 6
unfolding change_data
change_flat c = flat_with c c.crush

-- ---- read back

-- a reweight reads back as itself
reweight_back : (w : ReweightPart) → reweight_of (reweight_data w) ≡ Some w
unfolding reweight_of
reweight_back w = rw (number_back w.osd, number_back w.weight)

-- a growth reads back as itself
growth_back : (g : GrowPart) → stated_growth (growth_data g) ≡ Some g
unfolding stated_growth
growth_back g = rw (number_back g.pool, number_back g.pg_num, number_back g.pgp_num)

-- a CRUSH map reads back as itself
crush_back : (k : CrushParts) → crush_of (crush_data k) ≡ Some k
unfolding crush_of crush_data
crush_back k = rw (list_back stated_bucket bucket_data bucket_back k.buckets, list_back stated_rule rule_data rule_back k.rules)

-- a change of named groups reads back as itself, with a CRUSH map or without
back_with : (c : RawChange) (crush : Option CrushParts) → HasNamed c → stated_change (with_member_of c crush) ≡ Some (record c { crush = crush })
unfolding stated_change
back_with c None named = rw (
  number_back c.base,
  list_back whole_number number_data number_back c.osds.down,
  list_back stated_growth growth_data growth_back c.pools.grow,
  exceptions_back stated_pair pair_data pair_back c.items.come named.items.come,
  list_back stated_pool pool_data pool_back c.pools.come,
  exceptions_back whole_number number_data number_back c.explicit.come named.explicit.come,
  entries_back stated_pg group_data IsNamed (λ g is. is) c.items.gone named.items.gone,
  list_back whole_number number_data number_back c.pools.gone,
  entries_back stated_pg group_data IsNamed (λ g is. is) c.explicit.gone named.explicit.gone,
  list_back whole_number number_data number_back c.osds.up,
  list_back reweight_of reweight_data reweight_back c.weights,
)
back_with c (Some k) named = rw (
  number_back c.base,
  list_back whole_number number_data number_back c.osds.down,
  list_back stated_growth growth_data growth_back c.pools.grow,
  crush_back k,
  exceptions_back stated_pair pair_data pair_back c.items.come named.items.come,
  list_back stated_pool pool_data pool_back c.pools.come,
  exceptions_back whole_number number_data number_back c.explicit.come named.explicit.come,
  entries_back stated_pg group_data IsNamed (λ g is. is) c.items.gone named.items.gone,
  list_back whole_number number_data number_back c.pools.gone,
  entries_back stated_pg group_data IsNamed (λ g is. is) c.explicit.gone named.explicit.gone,
  list_back whole_number number_data number_back c.osds.up,
  list_back reweight_of reweight_data reweight_back c.weights,
)

-- what is written of the parts of a change states them
pub change_back : (c : RawChange) → HasNamed c → stated_change (change_data c) ≡ Some c
unfolding change_data
change_back c named = back_with c c.crush named

-- ---- its keys

-- the members of a change stand in the order of their keys, with a CRUSH map or without
order_with : (c : RawChange) (crush : Option CrushParts) → let ms = first_members c ++ (crush_member crush ++ last_members c) in built no_members (members ms) ≡ members ms
order_with c None = refl
order_with c (Some k) = refl

-- so a change is read as itself where its members are
pub change_read : (c : RawChange) → AreReadBack (first_members c) → AreReadBack (crush_member c.crush) → AreReadBack (last_members c) → IsReadBack (change_data c)
unfolding change_data
change_read c first crush last =
    object_read (first_members c ++ (crush_member c.crush ++ last_members c)) (both_read (first_members c) _ first (both_read (crush_member c.crush) (last_members c) crush last)) (order_with c c.crush)

-- ---- its tokens

-- the tokens of a change are those of its members
pub change_tokens : (c : RawChange) (ts : List Token)
    → ((((ts ++ begin_object ∷ []) ++ member_tokens (first_members c)) ++ member_tokens (crush_member c.crush)) ++ member_tokens (last_members c)) ++ end_object ∷ []
    ≡ ts ++ tokens_of (change_data c)
unfolding change_data
change_tokens c ts =
    let front = ts ++ begin_object ∷ [] in
    let first = member_tokens (first_members c) in
    let crush = member_tokens (crush_member c.crush) in
    let last = member_tokens (last_members c) in
    let rest = crush_member c.crush ++ last_members c in
    let all : member_tokens (first_members c ++ rest) ≡ first ++ (crush ++ last) =
    member_tokens-append (first_members c) rest ∙ ap (λ us. first ++ us) (member_tokens-append (crush_member c.crush) (last_members c)) in
    ap (λ us. us ++ end_object ∷ []) (append_assoc (front ++ first) crush last ∙ append_assoc front first (crush ++ last) ∙ ap (λ us. front ++ us) (sym all))
    ∙ enclosed ts (member_tokens (first_members c ++ rest)) begin_object end_object
    ∙ ap (λ us. ts ++ begin_object ∷ us) (sym (members_tokens-all (first_members c ++ rest)))

-- ---- its text

-- the tokens of a change's parts make the change's text
pub is_written_change : (base : ℕ) (c : ChangeParts) (bytes : List ℕ) (ts : List Token) → bytes ≡ print ts → ts ≡ tokens_of (change_data (change_parts base c)) → bytes ≡ written_change base c
unfolding written_change
is_written_change base c bytes ts text same = text ∙ ap print same ∙ print-outline (change_data (change_parts base c))

-- a text that is read as the value of some parts states them, where their groups are read back
pub states_change_parts : (c : RawChange) (d : Data) (bytes : List ℕ) → HasNamed c → d ≡ change_data c → IsUtf8 bytes → (depth d ≤ max_depth → read bytes ≡ Some d) → stated_by stated_change bytes ≡ Ok c
states_change_parts c d bytes named is utf8 reads =
    let shallow : depth d ≤ max_depth = subst (λ v. depth v ≤ max_depth) (sym is) (omega (arith, change_flat c)) in
    ap (λ o. option_map_or (λ v. option_map_or (λ x. Ok x) (stated_change v) (Err BadField)) o (Err BadJson)) (json_of_some bytes d utf8 (reads shallow))
    ∙ ap (λ o. option_map_or (λ x. Ok x) o (Err BadField)) (ap stated_change is ∙ change_back c named)
