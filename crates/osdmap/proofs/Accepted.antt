-- A change that nothing refuses passes each test.
use Rattle.std.proofs.Common.{◌≡◌, refl, Bool, true, false, not, Option, Some, None}
use Rattle.std.specs.Prelude.{if◌then◌else◌}
use Rattle.maptypes.specs.declared.change.ChangeParts.{ChangeParts}
use Rattle.refusal.specs.declared.refused.Refusal.{Refusal}
use Rattle.osdmap.specs.Maps.{ClusterMap}
use Rattle.osdmap.specs.Changes.{names_osds, weighs_rightly, names_pools, brings_new, brings_forest, brings_rightly, names_groups, excepts_soundly, change_fault}
use Rattle.maptypes.specs.Named.{names_once}

pub record Accepted (m : ClusterMap) (c : ChangeParts) : Type 0 where
  pub osds : names_osds m c ≡ true
  pub weights : weighs_rightly c ≡ true
  pub pools : names_pools m c ≡ true
  pub new : brings_new m c ≡ true
  pub forest : brings_forest m c ≡ true
  pub rightly : brings_rightly m c ≡ true
  pub groups : names_groups m c ≡ true
  pub sound : excepts_soundly m c ≡ true
  pub once : names_once c ≡ true

-- where a list of tests refuses nothing, its first test passes and the rest refuse nothing
pub passes : (b : Bool) (r : Refusal) (rest : Option Refusal) → (if not b then Some r else rest) ≡ None → (b ≡ true) × (rest ≡ None)
passes true r rest h = (refl, h)
passes false r rest h = absurd (cc)

-- a change that is not refused passes each test
pub accepted : (m : ClusterMap) (c : ChangeParts) → change_fault m c ≡ None → Accepted m c
accepted m c h =
    let osds = passes (names_osds m c) _ _ h in
    let weights = passes (weighs_rightly c) _ _ osds.1 in
    let pools = passes (names_pools m c) _ _ weights.1 in
    let new = passes (brings_new m c) _ _ pools.1 in
    let forest = passes (brings_forest m c) _ _ new.1 in
    let rightly = passes (brings_rightly m c) _ _ forest.1 in
    let groups = passes (names_groups m c) _ _ rightly.1 in
    let sound = passes (excepts_soundly m c) _ _ groups.1 in
    let once = passes (names_once c) _ _ sound.1 in
    record {
      osds = osds.0;
      weights = weights.0;
      pools = pools.0;
      new = new.0;
      forest = forest.0;
      rightly = rightly.0;
      groups = groups.0;
      sound = sound.0;
      once = once.0;
    }
