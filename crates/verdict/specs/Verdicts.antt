-- What a script does to a map, command by command, up to the first that is in doubt.
use Rattle.std.specs.Prelude.{ℕ, ◌+◌, ◌-◌, ◌^◌, ◌==◌, Bool, ◌||◌, List, [], ◌∷◌, Option, Some, None, Result, Ok, Err, is_some, option_and_then, if◌then◌else◌}
use Rattle.std.specs.Option.{option_map_or, option_or}
use Rattle.mapparts.specs.declared.profile.Profile.{Profile}
use Rattle.maptypes.specs.declared.change.ChangeParts.{ChangeParts}
use Rattle.maptypes.specs.declared.pg.Pg.{Pg}
use Rattle.maptypes.specs.Exceptions.{said_of}
use Rattle.refusal.specs.declared.refused.Refusal.{Refusal}
use Rattle.refusal.specs.declared.refused.Refusal.TheVariants.{JournalFull, Memory as OutOfMemory}
use Rattle.osdmap.specs.Maps.{ClusterMap, pool_at}
use Rattle.osdmap.specs.Changes.{change_fault, apply}
use Rattle.osdmap.specs.Placement.{group_fault, mapped_set}
use Rattle.upmap_cleanup.specs.Kept.{remnant_at}
use Rattle.upmap_cleanup.specs.declared.kept.Remnant.{Remnant}
use Rattle.upmap_cleanup.specs.declared.kept.Remnant.TheVariants as left
use Rattle.verdict.specs.declared.doubt.Doubt.{Doubt}
use Rattle.verdict.specs.declared.doubt.Doubt.TheVariants as doubt
use Rattle.verdict.specs.declared.doubt.Stop.{Stop}
use Rattle.verdict.specs.declared.doubt.Stop.TheVariants as stop
use Rattle.verdict.specs.declared.judging.Doubted.{Doubted}
use Rattle.verdict.specs.declared.judging.Taken.{Taken}
use Rattle.verdict.specs.declared.order.Order.{Order}
use Rattle.verdict.specs.declared.script.Said.{Said}
use Rattle.verdict.specs.Orders.{group_of_order, change_of_order}

-- why there is no answer, by a refusal
abbrev pub stop_by : Refusal → Stop
stop_by OutOfMemory = stop.Memory
stop_by refusal = stop.Doubt (doubt.Refused refusal)

-- ---- one command

-- the mapped set of a group: where all its OSDs are up, its up set
abbrev pub set_at : ClusterMap → Pg → List (Option ℕ)
set_at m pg = option_map_or (λ p. mapped_set m p pg.number) (pool_at m.pools pg.pool) []

-- the map after a command
abbrev pub map_with_order : Profile → ClusterMap → Order → ClusterMap
map_with_order profile m o = apply m (record { epoch = m.epoch + 1; change = change_of_order profile o })

-- what a map refuses of a change: the epochs are at their end, or what refuses the change itself
abbrev pub refusal_of : ClusterMap → ChangeParts → Option Refusal
refusal_of m c = if m.epoch == 2 ^ 64 - 1 then Some JournalFull else change_fault m c

-- what a map refuses of a command: its group is not there, or what the map refuses of its change
unfoldable pub order_fault : Profile → ClusterMap → Order → Option Refusal
order_fault profile m o = option_or (group_fault m (group_of_order o)) (refusal_of m (change_of_order profile o))

-- whether a group has exceptions
abbrev pub is_excepted : ClusterMap → Pg → Bool
is_excepted m pg = is_some (said_of m.explicit pg) || is_some (said_of m.items pg)

-- why a monitor would not leave what it finds
abbrev pub doubt_by : Remnant → Option Doubt
doubt_by left.All = None
doubt_by left.Fewer = Some doubt.Fewer
doubt_by (left.Gone cause) = Some (doubt.Gone cause)

-- why a monitor would not leave the exceptions of a group, where it has some
unfoldable pub left_doubt : ClusterMap → Pg → Option Doubt
left_doubt m pg = elim (group_fault m pg) [
  | Some refusal ↦ Some (doubt.Refused refusal)
  | None ↦ (if is_excepted m pg then option_and_then doubt_by (remnant_at m pg) else None)
]

-- why a command is not to be given
abbrev pub order_doubt : Profile → ClusterMap → Order → Option Doubt
order_doubt profile m o = elim (order_fault profile m o) [
  | Some refusal ↦ Some (doubt.Refused refusal)
  | None ↦ left_doubt (map_with_order profile m o) (group_of_order o)
]

-- what a command does, before whose line so many stand: its group, and where that lies before it and after it
abbrev pub taken_by : Profile → ClusterMap → ℕ → Order → Taken
taken_by profile m line o = record {
  line = line;
  pg = group_of_order o;
  before = set_at m (group_of_order o);
  after = set_at (map_with_order profile m o) (group_of_order o);
}

-- what a line does, or why it is not to be given
abbrev pub said_verdict : Profile → ClusterMap → Said → Result Taken Doubt
said_verdict profile m s = elim s.order [
  | None ↦ Err doubt.Unknown
  | Some o ↦ elim (order_doubt profile m o) [
    | Some why ↦ Err why
    | None ↦ Ok (taken_by profile m s.line o)
  ]
]

-- the map behind a line: as it was, where the line is no command or the map refuses it
abbrev pub map_behind : Profile → ClusterMap → Said → ClusterMap
map_behind profile m s = elim s.order [
  | None ↦ m
  | Some o ↦ (if is_some (order_fault profile m o) then m else map_with_order profile m o)
]

-- ---- all of them

-- what a script does: what its commands do up to the first doubt, that doubt, and the map then
pub record Judged : Type 0 where
  pub taken : List Taken
  pub doubt : Option Doubted
  pub map : ClusterMap

-- a command, and then others
abbrev pub taken_first : Taken → Judged → Judged
taken_first t j = record j { taken = t ∷ j.taken }

-- what lines do from a map on
unfoldable pub judged : Profile → ClusterMap → List Said → Judged
judged profile m [] = record { taken = []; doubt = None; map = m }
judged profile m (s ∷ ss) = elim (said_verdict profile m s) [
  | Err why ↦
      record { taken = []; doubt = Some (record { line = s.line; why = why }); map = map_behind profile m s }
  | Ok t ↦ taken_first t (judged profile (map_behind profile m s) ss)
]
