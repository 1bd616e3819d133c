-- What a command does with the exceptions of a group (Ceph, OSDMonitor.cc: prepare_command_impl, `osd pg-upmap` ..).
use Rattle.std.specs.Prelude.{[], ◌∷◌}
use Rattle.mapparts.specs.declared.change.ExceptionChanges.{ExceptionChanges}
use Rattle.mapparts.specs.declared.profile.Profile.{Profile}
use Rattle.maptypes.specs.declared.change.ChangeParts.{ChangeParts}
use Rattle.maptypes.specs.declared.pg.Pg.{Pg}
use Rattle.maptypes.specs.Named.{no_parts}
use Rattle.verdict.specs.declared.order.Order.{Order}
use Rattle.verdict.specs.declared.order.Order.TheVariants.{SetPlaces, DropPlaces, SetPairs, DropPairs}

-- the group whose exceptions come or go
abbrev pub group_of_order : Order → Pg
group_of_order (SetPlaces explicit) = explicit.pg
group_of_order (DropPlaces pg) = pg
group_of_order (SetPairs items) = items.pg
group_of_order (DropPairs pg) = pg

-- one exception comes
abbrev pub comes : {G E : Type 0} → E → ExceptionChanges G E
comes exception = record { gone = []; come = exception ∷ [] }

-- the exception of one group goes
abbrev pub goes : {G E : Type 0} → G → ExceptionChanges G E
goes group = record { gone = group ∷ []; come = [] }

-- the change that a command is, by the limits of a profile
abbrev pub change_of_order : Profile → Order → ChangeParts
change_of_order profile (SetPlaces explicit) = record (no_parts profile) { explicit = comes explicit }
change_of_order profile (DropPlaces pg) = record (no_parts profile) { explicit = goes pg }
change_of_order profile (SetPairs items) = record (no_parts profile) { items = comes items }
change_of_order profile (DropPairs pg) = record (no_parts profile) { items = goes pg }
