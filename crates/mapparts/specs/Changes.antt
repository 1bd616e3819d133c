-- The parts of changes as a text states them: their limits, and what is wrong with them.
use Rattle.std.specs.Prelude.{ℤ, pos, ◌&&◌, Bool, true, List}
use Rattle.std.specs.List.{list_all}
use Rattle.std.specs.Option.{option_map_or}
use Rattle.mapparts.specs.declared.change.PoolChanges.{PoolChanges}
use Rattle.mapparts.specs.declared.change.OsdChanges.{OsdChanges}
use Rattle.mapparts.specs.declared.change.ExceptionChanges.{ExceptionChanges}
use Rattle.mapparts.specs.declared.change.RawChange.{RawChange}
use Rattle.mapparts.specs.declared.change.ReweightPart.{ReweightPart}
use Rattle.mapparts.specs.declared.parts.PoolPart.{PoolPart}
use Rattle.mapparts.specs.declared.parts.GrowPart.{GrowPart}
use Rattle.mapparts.specs.declared.parts.ExceptionPart.{ExceptionPart}
use Rattle.mapparts.specs.declared.pg_parts.PgParts.{PgParts}
use Rattle.mapparts.specs.declared.limits.Limits.{Limits}
use Rattle.mapparts.specs.Limits.{stock, max_base, max_pool_id, max_stated_reweight}
use Rattle.mapparts.specs.Parts.{crush_fits_in, entries_fit_in, exception_fits_in, growth_fits_in, grows_evenly, has_enough_groups, is_between, has_between, is_osd_id_in, pair_fits_in, pg_fits_in, pool_fits_in}

-- ---- limits

-- a pool's id
unfoldable pub is_pool_id : ℤ → Bool
is_pool_id z = is_between (pos 1) (pos max_pool_id) z

-- an OSD and its new reweight, of 32 bits
unfoldable pub reweight_fits_in : Limits → ReweightPart → Bool
reweight_fits_in l w = is_osd_id_in l w.osd && is_between (pos 0) (pos max_stated_reweight) w.weight

-- no more ids of pools than a list may have entries
abbrev pub pool_ids_fit_in : Limits → List ℤ → Bool
pool_ids_fit_in l ids = has_between 0 l.entries ids && list_all is_pool_id ids

-- the lists of each family
abbrev pub pool_changes_fit_in : Limits → PoolChanges ℤ PoolPart GrowPart → Bool
pool_changes_fit_in l c =
    pool_ids_fit_in l c.gone && entries_fit_in (pool_fits_in l) l c.come && entries_fit_in (growth_fits_in l) l c.grow

-- the lists of OSDs
abbrev pub osd_changes_fit_in : Limits → OsdChanges ℤ → Bool
osd_changes_fit_in l c = entries_fit_in (is_osd_id_in l) l c.down && entries_fit_in (is_osd_id_in l) l c.up

-- the lists of exceptions of one kind
abbrev pub exception_changes_fit_in : {P : Type 0} → (P → Bool) → Limits → ExceptionChanges PgParts (ExceptionPart P)
    → Bool
exception_changes_fit_in within l c =
    entries_fit_in (pg_fits_in l) l c.gone && entries_fit_in (exception_fits_in within l) l c.come

-- every number and every length of the change
unfoldable pub change_fits_in : Limits → RawChange → Bool
change_fits_in l c =
    is_between (pos 0) (pos max_base) c.base
    && pool_changes_fit_in l c.pools && option_map_or (crush_fits_in l) c.crush true
    && osd_changes_fit_in l c.osds && entries_fit_in (reweight_fits_in l) l c.weights
    && exception_changes_fit_in (is_osd_id_in l) l c.explicit && exception_changes_fit_in (pair_fits_in l) l c.items

-- ---- the same by the limits of all clusters

-- the new reweight of an OSD
abbrev pub reweight_fits : ReweightPart → Bool
reweight_fits = reweight_fits_in stock

-- a list of a change
abbrev pub entries_fit : {X : Type 0} → (X → Bool) → List X → Bool
entries_fit fits xs = entries_fit_in fits stock xs

-- the lists of pools
abbrev pub pool_changes_fit : PoolChanges ℤ PoolPart GrowPart → Bool
pool_changes_fit = pool_changes_fit_in stock

-- the lists of OSDs
abbrev pub osd_changes_fit : OsdChanges ℤ → Bool
osd_changes_fit = osd_changes_fit_in stock

-- the lists of exceptions of one kind
abbrev pub exception_changes_fit : {P : Type 0} → (P → Bool) → ExceptionChanges PgParts (ExceptionPart P) → Bool
exception_changes_fit fits c = exception_changes_fit_in fits stock c

-- every number and every length of the change
abbrev pub change_fits : RawChange → Bool
change_fits = change_fits_in stock

-- ---- what is wrong

-- no pool that comes or grows has more groups for placement than groups
abbrev pub are_even : PoolChanges ℤ PoolPart GrowPart → Bool
are_even c = list_all has_enough_groups c.come && list_all grows_evenly c.grow
