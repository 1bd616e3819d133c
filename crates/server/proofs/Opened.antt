-- What a monitor is opened with.
use Rattle.std.proofs.Common.{◌≡◌, ◌∙◌, ℕ, ◌≤◌, ◌^◌, true, false, not, if◌then◌else◌, Bool, List, Some, None, IfOk, Result, Ok, Err, refl, sym, arith}
use Rattle.mapparts.specs.declared.parts.MapParts.{MapParts}
use Rattle.mapparts.specs.Parts.{parts_fit, parts_fit_in}
use Rattle.mapparts.specs.Limits.{plain}
use Rattle.mapparts.proofs.Within.{natural_between}
use Rattle.refusal.specs.declared.refused.Refusal.{Refusal}
use Rattle.refusal.specs.declared.refused.Refusal.TheVariants.{BadLimit}
use Rattle.osdmap.specs.Maps.{ClusterMap}
use Rattle.osdmap.specs.Stated.{map_fault, plain_map_fault, IsStated}
use Rattle.osdmap.proofs.Built.{parts_fit_each, fault_limit}
use Rattle.jsonstream.specs.Json.{stated_by}
use Rattle.mapparts.specs.declared.profile.Profile.{Profile}
use Rattle.mapparts.specs.declared.profile.Profile.TheVariants.{Plain, Stock}
use Rattle.partjson.specs.Profiles.{map_in}
use Rattle.mapjson.specs.MapTexts.{map_fault_in, fault_of_stated, map_text_fault, StatesMap}
use Rattle.monitor.specs.Opening.{can_open}

-- parts with no fault by the limits of plain clusters have none
no_plain_fault : (p : MapParts) → plain_map_fault p ≡ None → map_fault p ≡ None
no_plain_fault p none = go (parts_fit_in plain p) none
  where
    go : (b : Bool) → (if not b then Some BadLimit else map_fault p) ≡ None → map_fault p ≡ None
    go true none = none
    go false none = absurd (cc)

-- so have parts with none by those of a profile
no_fault : (profile : Profile) (p : MapParts) → map_fault_in profile p ≡ None → map_fault p ≡ None
no_fault Plain p none = no_plain_fault p none
no_fault Stock p none = none

-- parts with no fault are within the limits
within_limits : (p : MapParts) → map_fault p ≡ None → parts_fit p ≡ true
within_limits p none = go (parts_fit p) refl
  where
    go : (b : Bool) → parts_fit p ≡ b → parts_fit p ≡ true
    go true is = is
    go false is = let wrong : Some BadLimit ≡ None = sym (fault_limit p is) ∙ none in absurd (cc)

-- so is the epoch of the map that they state
epoch_within : (profile : Profile) (m : ClusterMap) (r : Result MapParts Refusal) → fault_of_stated profile r ≡ None → IfOk r (λ p. IsStated p m)
    → (1 ≤ m.epoch) × (m.epoch ≤ 2147483648)
epoch_within profile m (Ok p) none is =
    let fits = natural_between 1 2147483648 p.epoch (parts_fit_each p (within_limits p (no_fault profile p none))).epoch in
    (omega (arith, is.epoch, fits.least), omega (arith, is.epoch, fits.most))
epoch_within profile m (Err e) none is = let wrong : Some e ≡ None = none in absurd (cc)

-- a map that a text states can be opened, with so many changes and seats
pub can_open_stated : (profile : Profile) (bytes : List ℕ) (m : ClusterMap) (journal seats : ℕ) → map_text_fault profile bytes ≡ None
    → StatesMap profile bytes m → 1 ≤ journal → journal ≤ 65536 → 1 ≤ seats → seats ≤ 1024 → can_open m.epoch journal seats (2 ^ 40) ≡ true
can_open_stated profile bytes m journal seats none states least most some few =
    let within = epoch_within profile m (stated_by (map_in profile) bytes) none states in
    grind (arith, within.0, within.1)
