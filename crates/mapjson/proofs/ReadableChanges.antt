-- What is written of a change within its limits is read back.
use Rattle.std.proofs.Common.{◌≡◌, ℤ, pos, true, Option, Some, None, refl, arith}
use Rattle.std.specs.List.{list_all}
use Rattle.std.specs.Option.{option_map_or}
use Rattle.std.proofs.lemmas.Bool.{and_parts}
use Rattle.mapparts.specs.declared.parts.GrowPart.{GrowPart}
use Rattle.mapparts.specs.declared.parts.CrushParts.{CrushParts}
use Rattle.mapparts.specs.declared.pg_parts.PgParts.{PgParts}
use Rattle.mapparts.specs.Parts.{is_osd_id, is_between, pair_fits, bucket_fits, rule_fits, pool_fits, growth_fits, crush_fits, crush_fits_in}
use Rattle.mapparts.proofs.Within.{growth_fits_each}
use Rattle.maptypes.specs.Values.{pg_of}
use Rattle.mapparts.specs.declared.change.RawChange.{RawChange}
use Rattle.mapparts.specs.declared.change.ReweightPart.{ReweightPart}
use Rattle.keylist.proofs.Each.{all_so}
use Rattle.mapjson.specs.Written.{number_data, members, bucket_data, rule_data, pool_data, group_data, pair_data}
use Rattle.mapparts.specs.Changes.{is_pool_id, reweight_fits, change_fits, reweight_fits_in}
use Rattle.mapjson.specs.WrittenChanges.{reweight_data, growth_data, crush_data, last_members, change_data}
use Rattle.mapjson.proofs.Readable.{IsReadable, MembersReadable}
use Rattle.mapjson.proofs.ReadableMaps.{number_between, entries_within, bucket_readable, rule_readable, pool_readable, group_ascii, osd_id_readable, pair_readable, exceptions_readable}
use Rattle.mapjson.proofs.ChangeFits.{ChangeFits, change_fits_each}
use Rattle.mapjson.proofs.ChangeBack.{with_member_of}

-- the id of a pool is readable
pool_id_readable : (z : ℤ) → is_pool_id z ≡ true → IsReadable (number_data z)
unfolding is_pool_id
pool_id_readable z h = number_between (pos 1) (pos 65535) z tt (omega arith) h

-- a reweight within its limits is readable
reweight_readable : (w : ReweightPart) → reweight_fits w ≡ true → IsReadable (reweight_data w)
unfolding reweight_fits_in
reweight_readable w h =
    let each = and_parts (is_osd_id w.osd) (is_between (pos 0) (pos 4294967295) w.weight) h in
    (osd_id_readable w.osd each.0, (number_between (pos 0) (pos 4294967295) w.weight tt (omega arith) each.1, tt))

-- a growth within its limits is readable
growth_readable : (g : GrowPart) → growth_fits g ≡ true → IsReadable (growth_data g)
growth_readable g h =
    let each = growth_fits_each g h in (
      number_between (pos 1) (pos 65535) g.pool tt (omega arith) each.pool,
      (
        number_between (pos 1) (pos 65536) g.pg_num tt (omega arith) each.pg_num,
        (number_between (pos 1) (pos 65536) g.pgp_num tt (omega arith) each.pgp_num, tt),
      ),
    )

-- a group is readable, whatever its numbers
group_readable : (g : PgParts) → true ≡ true → IsReadable (group_data g)
group_readable g h = group_ascii (pg_of g)

-- a CRUSH map within its limits is readable
crush_readable : (k : CrushParts) → crush_fits k ≡ true → IsReadable (crush_data k)
unfolding crush_fits_in crush_data
crush_readable k h =
    let rules = and_parts _ (list_all rule_fits k.rules) h in
    let buckets = and_parts _ (list_all bucket_fits k.buckets) rules.0 in (
      (
        refl,
        entries_within bucket_fits bucket_data bucket_readable k.buckets buckets.1,
        (refl, entries_within rule_fits rule_data rule_readable k.rules rules.1, tt),
      ),
      refl,
    )

-- so are the members behind it
last_readable : (c : RawChange) → ChangeFits c → MembersReadable (members (last_members c))
last_readable c fits = (
  refl,
  exceptions_readable pair_fits pair_data pair_readable c.items.come fits.items.come,
  (
    refl,
    entries_within pool_fits pool_data pool_readable c.pools.come fits.pools.come,
    (
      refl,
      exceptions_readable is_osd_id number_data osd_id_readable c.explicit.come fits.explicit.come,
      (
        refl,
        entries_within (λ g. true) group_data group_readable c.items.gone (all_so (λ g. true) (λ g. refl) c.items.gone),
        (
          refl,
          entries_within is_pool_id number_data pool_id_readable c.pools.gone fits.pools.gone,
          (
            refl,
            entries_within (λ g. true) group_data group_readable c.explicit.gone (all_so (λ g. true) (λ g. refl) c.explicit.gone),
            (
              refl,
              entries_within is_osd_id number_data osd_id_readable c.osds.up fits.osds.up,
              (refl, entries_within reweight_fits reweight_data reweight_readable c.weights fits.weights, tt),
            ),
          ),
        ),
      ),
    ),
  ),
)

-- a change within its limits is readable, with a CRUSH map or without
readable_with : (c : RawChange) → ChangeFits c → (crush : Option CrushParts) → option_map_or crush_fits crush true ≡ true → IsReadable (with_member_of c crush)
readable_with c fits None fit = (
  (
    refl,
    number_between (pos 0) (pos 18446744073709551615) c.base tt (omega arith) fits.base,
    (
      refl,
      entries_within is_osd_id number_data osd_id_readable c.osds.down fits.osds.down,
      (refl, entries_within growth_fits growth_data growth_readable c.pools.grow fits.pools.grow, last_readable c fits),
    ),
  ),
  refl,
)
readable_with c fits (Some k) fit = (
  (
    refl,
    number_between (pos 0) (pos 18446744073709551615) c.base tt (omega arith) fits.base,
    (
      refl,
      entries_within is_osd_id number_data osd_id_readable c.osds.down fits.osds.down,
      (
        refl,
        entries_within growth_fits growth_data growth_readable c.pools.grow fits.pools.grow,
        (refl, crush_readable k fit, last_readable c fits),
      ),
    ),
  ),
  refl,
)

-- what is written of a change within its limits can be read
pub change_readable : (c : RawChange) → change_fits c ≡ true → IsReadable (change_data c)
unfolding change_data
change_readable c h = let fits = change_fits_each c h in readable_with c fits c.crush fits.crush
