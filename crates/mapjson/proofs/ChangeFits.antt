-- What a change within its limits comes to.
use Rattle.std.proofs.Common.{◌≡◌, ℤ, pos, Bool, true, IsTrue, All, List, slice_index_or, arith}
use Rattle.std.specs.List.{list_all}
use Rattle.std.specs.Option.{option_map_or}
use Rattle.mapparts.specs.Parts.{crush_fits, growth_fits, is_between, is_osd_id, pool_fits, pg_fits, pair_fits, exceptions_fit, is_osd_id_in, entries_fit_in}
use Rattle.mapparts.proofs.Within.{word_between}
use Rattle.mapparts.specs.declared.change.PoolChanges.{PoolChanges}
use Rattle.mapparts.specs.declared.change.OsdChanges.{OsdChanges}
use Rattle.mapparts.specs.declared.change.ExceptionChanges.{ExceptionChanges}
use Rattle.mapparts.specs.declared.change.RawChange.{RawChange}
use Rattle.mapparts.specs.declared.parts.PoolPart.{PoolPart}
use Rattle.mapparts.specs.declared.parts.GrowPart.{GrowPart}
use Rattle.mapparts.specs.declared.parts.ExceptionPart.{ExceptionPart}
use Rattle.mapparts.specs.declared.pg_parts.PgParts.{PgParts}
use Rattle.mapparts.specs.Changes.{is_pool_id, reweight_fits, entries_fit, pool_changes_fit, osd_changes_fit, exception_changes_fit, change_fits, change_fits_in}
use Rattle.std.proofs.lemmas.Bool.{and_parts}
use Rattle.mapjson.proofs.Tests.{all_from_test}

-- what is asked of each list of what a change does with pools
pub record PoolsFit (c : PoolChanges ℤ PoolPart GrowPart) : Type 0 where
  pub gone : list_all is_pool_id c.gone ≡ true
  pub come : list_all pool_fits c.come ≡ true
  pub grow : list_all growth_fits c.grow ≡ true

-- with OSDs
pub record OsdsFit (c : OsdChanges ℤ) : Type 0 where
  pub down : list_all is_osd_id c.down ≡ true
  pub up : list_all is_osd_id c.up ≡ true

-- and with exceptions of one kind
pub record ExceptionsFit {P : Type 0} (fits : P → Bool) (c : ExceptionChanges PgParts (ExceptionPart P)) : Type 0 where
  pub gone : list_all pg_fits c.gone ≡ true
  pub come : exceptions_fit fits c.come ≡ true

-- what is asked of the base and of each family
pub record FamiliesFit (c : RawChange) : Type 0 where
  pub base : is_between (pos 0) (pos 18446744073709551615) c.base ≡ true
  pub pools : pool_changes_fit c.pools ≡ true
  pub crush : option_map_or crush_fits c.crush true ≡ true
  pub osds : osd_changes_fit c.osds ≡ true
  pub weights : entries_fit reweight_fits c.weights ≡ true
  pub explicit : exception_changes_fit is_osd_id c.explicit ≡ true
  pub items : exception_changes_fit pair_fits c.items ≡ true

-- and of each list
pub record ChangeFits (c : RawChange) : Type 0 where
  pub base : is_between (pos 0) (pos 18446744073709551615) c.base ≡ true
  pub pools : PoolsFit c.pools
  pub crush : option_map_or crush_fits c.crush true ≡ true
  pub osds : OsdsFit c.osds
  pub weights : list_all reweight_fits c.weights ≡ true
  pub explicit : ExceptionsFit is_osd_id c.explicit
  pub items : ExceptionsFit pair_fits c.items

-- each list of pools within the limits is
pub pools_fit_each : (c : PoolChanges ℤ PoolPart GrowPart) → pool_changes_fit c ≡ true → PoolsFit c
unfolding entries_fit_in
pools_fit_each c h = record { gone = grind arith; come = grind arith; grow = grind arith }

-- so is each of OSDs
pub osds_fit_each : (c : OsdChanges ℤ) → osd_changes_fit c ≡ true → OsdsFit c
unfolding entries_fit_in
osds_fit_each c h = record { down = grind arith; up = grind arith }

-- and each of exceptions
pub exceptions_fit_each : {P : Type 0} (fits : P → Bool) (c : ExceptionChanges PgParts (ExceptionPart P)) → exception_changes_fit fits c ≡ true → ExceptionsFit fits c
unfolding entries_fit_in
exceptions_fit_each fits c h = record { gone = grind arith; come = grind arith }

-- a change within the limits has each of its families within them
pub families_fit : (c : RawChange) → change_fits c ≡ true → FamiliesFit c
unfolding change_fits_in
families_fit c h =
    let items = and_parts _ (exception_changes_fit pair_fits c.items) h in
    let explicit = and_parts _ (exception_changes_fit is_osd_id c.explicit) items.0 in
    let weights = and_parts _ (entries_fit reweight_fits c.weights) explicit.0 in
    let osds = and_parts _ (osd_changes_fit c.osds) weights.0 in
    let crush = and_parts _ (option_map_or crush_fits c.crush true) osds.0 in
    let pools = and_parts _ (pool_changes_fit c.pools) crush.0 in
    record {
      base = pools.0;
      pools = pools.1;
      crush = crush.1;
      osds = osds.1;
      weights = weights.1;
      explicit = explicit.1;
      items = items.1;
    }

-- so it has each of its lists
pub change_fits_each : (c : RawChange) → change_fits c ≡ true → ChangeFits c
unfolding entries_fit_in
change_fits_each c h =
    let fits = families_fit c h in
    record {
      base = fits.base;
      pools = pools_fit_each c.pools fits.pools;
      crush = fits.crush;
      osds = osds_fit_each c.osds fits.osds;
      weights = (and_parts _ (list_all reweight_fits c.weights) fits.weights).1;
      explicit = exceptions_fit_each is_osd_id c.explicit fits.explicit;
      items = exceptions_fit_each pair_fits c.items fits.items;
    }

-- numbers of a kind that are words
words_from : (fits : ℤ → Bool) (numbers : List ℤ) → ((z : ℤ) → fits z ≡ true → IsTrue (is_between (pos 0) (pos 4294967295) z))
    → list_all fits numbers ≡ true → All (λ z. IsTrue (is_between (pos 0) (pos 4294967295) z)) numbers
words_from fits numbers word h k d l = word (slice_index_or numbers k d) (all_from_test fits numbers h k d l)

-- the id of a pool is a word
pool_id_is_word : (z : ℤ) → is_pool_id z ≡ true → IsTrue (is_between (pos 0) (pos 4294967295) z)
unfolding is_pool_id
pool_id_is_word z h = word_between 1 65535 z (omega arith) h

-- the id of an OSD is a word
osd_is_word : (z : ℤ) → is_osd_id z ≡ true → IsTrue (is_between (pos 0) (pos 4294967295) z)
unfolding is_osd_id_in
osd_is_word z h = word_between 0 4095 z (omega arith) h

-- ids of pools are words
pub pool_ids_are_words : (ids : List ℤ) → list_all is_pool_id ids ≡ true → All (λ z. IsTrue (is_between (pos 0) (pos 4294967295) z)) ids
pool_ids_are_words ids h = words_from is_pool_id ids pool_id_is_word h

-- OSDs are words
pub osds_are_words : (osds : List ℤ) → list_all is_osd_id osds ≡ true → All (λ z. IsTrue (is_between (pos 0) (pos 4294967295) z)) osds
osds_are_words osds h = words_from is_osd_id osds osd_is_word h
