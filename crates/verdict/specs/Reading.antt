-- What was read and found, as it is stored.
use Rattle.std.specs.Prelude.{◌≡◌, ◌<◌, ◌+◌, ◌==◌, ℕ, List, [], ◌∷◌, ◌++◌, length, Option, None, Some, IfSome}
use Rattle.std.specs.List.{slice_split}
use Rattle.std.specs.Option.{option_copied}
use Rattle.verdict.specs.Scripts.{Stated}
use Rattle.verdict.specs.Verdicts.{Judged}
use Rattle.verdict.specs.declared.script.Cut.{Cut}
use Rattle.verdict.specs.declared.script.Stated.{Stated as ReadStated}
use Rattle.osdmap.specs.Maps.{ClusterMap}
use Rattle.verdict.specs.declared.doubt.Stop.{Stop}
use Rattle.verdict.specs.declared.doubt.Stop.TheVariants as stop
use Rattle.verdict.specs.declared.judging.Taken.{Taken}
use Rattle.verdict.specs.declared.judging.Verdict.{Verdict}

-- what a text states, as it was read
abbrev pub stated_of : ReadStated → Stated
stated_of stated = record { pg = stated.pg; osds = stated.osds.items }

-- the parts of what is left of a text, where something is
abbrev pub parts_left : ℕ → Option (List ℕ) → List (List ℕ)
parts_left at None = []
parts_left at (Some text) = slice_split (λ c. c == at) text

-- how much is left of a text
abbrev pub left_size : Option (List ℕ) → ℕ
left_size None = 0
left_size (Some text) = length text + 1

-- a text is cut at the first byte of a kind, what is left of it is shorter
pub record IsCut (at : ℕ) (text : List ℕ) (c : Cut) : Type 0 where
  pub parts : slice_split (λ b. b == at) text ≡ c.first.now ∷ parts_left at (option_copied c.rest)
  pub shorter : IfSome (option_copied c.rest) (λ rest. length rest < length text)

-- what commands did, and then what others do
abbrev pub taken_before : List Taken → Judged → Judged
taken_before taken j = record j { taken = taken ++ j.taken }

-- a verdict is what a script does
pub record IsVerdict (v : Verdict) (j : Judged) : Type 0 where
  pub taken : v.taken.items ≡ j.taken
  pub doubt : v.doubt ≡ j.doubt
  pub map : v.map.map ≡ j.map

-- a script ends at a line that is in doubt, and not as memory ran out
abbrev pub IsEnded : Verdict → List Taken → ℕ → ClusterMap → Stop → Type 0
IsEnded v taken line m stop.Memory = ⊥
IsEnded v taken line m (stop.Doubt why) =
    IsVerdict v (record { taken = taken; doubt = Some (record { line = line; why = why }); map = m })
