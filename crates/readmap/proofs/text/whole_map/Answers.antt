use Rattle.std.proofs.Common.{◌≡◌, ◌⊎◌, inl, inr}
use Rattle.std.specs.Prelude.{Some}
use Rattle.refusal.specs.declared.refused.Refusal.{Refusal}
use Rattle.refusal.specs.declared.refused.Refusal.TheVariants.{Memory as OutOfMemory}
use Rattle.mapparts.specs.declared.parts.MapParts.{MapParts}
use Rattle.mapparts.specs.declared.profile.Profile.{Profile}
use Rattle.mapjson.specs.MapTexts.{map_fault_in}
use Rattle.cephimport.specs.Whole.{profile_of}
use Rattle.readmap.specs.Texts.{untold_by, IsNoMap}
use Rattle.readmap.proofs.text.whole_map.Goals as goal

by_fault : (parts : MapParts) (refusal : Refusal) → map_fault_in (profile_of parts.buckets parts.rules) parts ≡ Some refusal → IsNoMap parts (untold_by refusal)
by_fault parts OutOfMemory h = tt
by_fault parts refusal h = h

is_refused : (parts : MapParts) (profile : Profile) (refusal : Refusal) → profile ≡ profile_of parts.buckets parts.rules
    → (refusal ≡ OutOfMemory) ⊎ (map_fault_in profile parts ≡ Some refusal) → IsNoMap parts (untold_by refusal)
is_refused parts profile refusal e (inl h) = rw h tt
is_refused parts profile refusal e (inr h) = by_fault parts refusal (rw e at h)

pub returns-in-Err : goal.returns-in-Err
returns-in-Err c =
    rw c.untold_by.ensures (is_refused c.args.parts c.profile_of-profile.result c.in-Err.refusal (rw (c.deref.ensures, c.deref-2.ensures) at c.profile_of-profile.ensures) c.in-Err.ensures)
