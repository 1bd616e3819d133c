-- The texts of a journal: that of its first map, and one for each incremental since.
use Rattle.std.specs.Prelude.{◌≡◌, ◌-◌, ◌++◌, ℕ, List, [], codes, map, Ok}
use Rattle.mapparts.specs.declared.profile.Profile.{Profile}
use Rattle.mapparts.specs.declared.profile.Profile.TheVariants.{Plain, Stock}
use Rattle.maptypes.specs.Incrementals.{Step}
use Rattle.osdmap.specs.Maps.{ClusterMap, HoldsTogether}
use Rattle.osdmap.specs.PartsOf.{parts_of}
use Rattle.jsonstream.specs.Json.{stated_by}
use Rattle.partjson.specs.StatedMaps.{stated_map}
use Rattle.partjson.specs.StatedChanges.{stated_change}
use Rattle.mapjson.specs.Written.{written}
use Rattle.mapjson.specs.WrittenChanges.{written_change}
use Rattle.mapjson.specs.PartsOfChange.{change_parts}
use Rattle.epochlog.specs.Journals.{Journal}
use Rattle.journalstore.specs.Texts.{Entry, Texts}

-- the word of a profile, and a space
abbrev pub word_of : Profile → List ℕ
word_of Plain = codes "plain "
word_of Stock = codes "stock "

-- the change of an incremental as JSON, whose base is the epoch before
abbrev pub change_text : Step → List ℕ
change_text step = written_change (step.epoch - 1) step.change

-- the text of an incremental: the word of its change's profile, and the change
abbrev pub row_text : Step → List ℕ
row_text step = word_of step.change.profile ++ change_text step

-- its epoch and its text
abbrev pub step_entry : Step → Entry
step_entry step = (step.epoch, row_text step)

-- the first map as JSON, and each incremental
abbrev pub journal_texts : Journal → Texts
journal_texts j = record { first = (j.first.epoch, written j.first); changes = map step_entry j.steps }

-- a map of which all holds that does of maps, and whose text states its parts
pub record IsTextedMap (m : ClusterMap) : Type 0 where
  pub holds : HoldsTogether m
  pub states : stated_by stated_map (written m) ≡ Ok (parts_of m)

-- an incremental whose text states its change
abbrev pub IsTextedStep : Step → Type 0
IsTextedStep step = stated_by stated_change (change_text step) ≡ Ok (change_parts (step.epoch - 1) step.change)

-- texts with those of incrementals behind them
abbrev pub with_steps : Texts → List Step → Texts
with_steps t steps = record t { changes = t.changes ++ map step_entry steps }

-- the journal of a map and no incremental
abbrev pub begun : ClusterMap → Journal
begun m = record { first = m; steps = [] }
