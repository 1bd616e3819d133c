-- The change that a JSON text (RFC 8259) states.
use Rattle.std.specs.Prelude.{◌≡◌, ℕ, ℤ, nat_abs, not, List, map, Option, Some, None, option_and_then, Result, Ok, Err, IfOk, if◌then◌else◌}
use Rattle.std.specs.Option.{option_or, IsSomeAnd}
use Rattle.buckets.specs.Limits.{max_devices}
use Rattle.refusal.specs.Outcomes.{refused_unless}
use Rattle.mapparts.specs.declared.parts.CrushParts.{CrushParts}
use Rattle.maptypes.specs.CrushMaps.{CrushFacts, crush_fault, IsCrushOf}
use Rattle.mapparts.specs.declared.parts.PoolPart.{PoolPart}
use Rattle.mapparts.specs.declared.parts.GrowPart.{GrowPart}
use Rattle.mapparts.specs.declared.parts.ExceptionPart.{ExceptionPart}
use Rattle.mapparts.specs.declared.pg_parts.PgParts.{PgParts}
use Rattle.mapparts.specs.Changes.{change_fits_in, are_even}
use Rattle.maptypes.specs.Values.{growth_of as within_growth, pool_of, pg_of, pair_of, exception_of}
use Rattle.maptypes.specs.declared.change.ChangeParts.{ChangeParts}
use Rattle.maptypes.specs.declared.change.Reweight.{Reweight}
use Rattle.maptypes.specs.declared.exception.Exception.{Exception}
use Rattle.maptypes.specs.declared.pg.Pg.{Pg}
use Rattle.refusal.specs.declared.refused.Refusal.{Refusal}
use Rattle.refusal.specs.declared.refused.Refusal.TheVariants.{BadLimit, BadPool}
use Rattle.maptypes.specs.Growth.{Growth}
use Rattle.maptypes.specs.Ordered.{IsOrdered}
use Rattle.maptypes.specs.Pools.{PoolFacts}
use Rattle.mapparts.specs.Profiles.{limits_of}
use Rattle.mapparts.specs.declared.change.PoolChanges.{PoolChanges}
use Rattle.mapparts.specs.declared.change.OsdChanges.{OsdChanges}
use Rattle.mapparts.specs.declared.change.ExceptionChanges.{ExceptionChanges}
use Rattle.mapparts.specs.declared.change.RawChange.{RawChange}
use Rattle.mapparts.specs.declared.change.ReweightPart.{ReweightPart}
use Rattle.jsonstream.specs.Json.{stated_by}
use Rattle.mapparts.specs.declared.profile.Profile.{Profile}
use Rattle.partjson.specs.Profiles.{change_in, unbased_in}

-- ---- the change

-- a reweight that is within the limits
abbrev pub reweight_within : ReweightPart → Reweight
reweight_within w = record { osd = nat_abs w.osd; weight = nat_abs w.weight }

-- what a change that is within the limits does with pools, with OSDs, and with exceptions of one kind
abbrev pub pools_within : PoolChanges ℤ PoolPart GrowPart → PoolChanges ℕ PoolFacts Growth
pools_within c = record { gone = map nat_abs c.gone; come = map pool_of c.come; grow = map within_growth c.grow }

-- what a change that is within the limits does with OSDs
abbrev pub osds_within : OsdChanges ℤ → OsdChanges ℕ
osds_within c = record { down = map nat_abs c.down; up = map nat_abs c.up }

-- what it does with exceptions of one kind
abbrev pub exceptions_within : {P E : Type 0} → (P → E) → ExceptionChanges PgParts (ExceptionPart P)
    → ExceptionChanges Pg (Exception E)
exceptions_within entry c = record { gone = map pg_of c.gone; come = map (exception_of entry) c.come }

-- its parts, beside its profile and its CRUSH map
abbrev pub parts_within : Profile → RawChange → Option CrushFacts → ChangeParts
parts_within profile c crush = record {
  profile = profile;
  pools = pools_within c.pools;
  crush = crush;
  osds = osds_within c.osds;
  weights = map reweight_within c.weights;
  explicit = exceptions_within nat_abs c.explicit;
  items = exceptions_within pair_of c.items;
}

-- what is wrong with the CRUSH map of a change, where it has one: it is judged over 4,096 devices
abbrev pub new_crush_fault : Option CrushParts → Option Refusal
new_crush_fault crush = option_and_then (λ p. crush_fault p.buckets p.rules max_devices) crush

-- the CRUSH map is the one that the parts state, or neither is there
abbrev pub IsCrushStated : Option CrushParts → Option CrushFacts → Type 0
IsCrushStated None k = k ≡ None
IsCrushStated (Some p) k = IsSomeAnd k (IsCrushOf p.buckets p.rules)

-- a number or a length is outside the limits of a profile, else the CRUSH map is none, else a pool has more groups for
-- placement than groups
abbrev pub change_fault_in : Profile → RawChange → Option Refusal
change_fault_in profile c =
    if not (change_fits_in (limits_of profile) c) then Some BadLimit
    else option_or (new_crush_fault c.crush) (refused_unless (are_even c.pools) BadPool)

-- the base and the parts are those of a change by a profile
pub record IsChangeOf (profile : Profile) (c : RawChange) (base : ℕ) (parts : ChangeParts) : Type 0 where
  pub base_is : base ≡ nat_abs c.base
  pub crush : IsCrushStated c.crush parts.crush
  pub parts_are : parts ≡ parts_within profile c parts.crush

-- a text that states no change, or one with a fault
abbrev pub fault_of_stated_change : Profile → Result RawChange Refusal → Option Refusal
fault_of_stated_change profile (Ok c) = change_fault_in profile c
fault_of_stated_change profile (Err refusal) = Some refusal

-- why a text is refused as a change, by the kinds of buckets that it may state and the limits
abbrev pub change_text_fault : Profile → List ℕ → Option Refusal
change_text_fault profile bytes = fault_of_stated_change profile (stated_by (change_in profile) bytes)

-- the base is the one that a change states, and the parts are those that it states, in order
pub record IsChangeStated (profile : Profile) (c : RawChange) (base : ℕ) (parts : ChangeParts) : Type 0 where
  pub base_is : base ≡ nat_abs c.base
  pub crush : IsCrushStated c.crush parts.crush
  pub ordered : IsOrdered (parts_within profile c parts.crush) parts

-- so are those that a text states
abbrev pub StatesChange : Profile → List ℕ → ℕ × ChangeParts → Type 0
StatesChange profile bytes answer =
    IfOk (stated_by (change_in profile) bytes) (λ c. IsChangeStated profile c answer.0 answer.1)

-- ---- without a base

-- why a text is refused as a change without a base
abbrev pub unbased_text_fault : Profile → List ℕ → Option Refusal
unbased_text_fault profile bytes = fault_of_stated_change profile (stated_by (unbased_in profile) bytes)

-- the parts are those that a text states without a base, in order
abbrev pub StatesUnbased : Profile → List ℕ → ChangeParts → Type 0
StatesUnbased profile bytes parts =
    IfOk (stated_by (unbased_in profile) bytes) (λ c. IsChangeStated profile c (nat_abs c.base) parts)
