-- What a question finds in a map, and what it answers to a member.
use Rattle.std.specs.Prelude.{◌≡◌, ℕ, List, None, Result, Ok, Err, String, string_bytes}
use Rattle.std.specs.declared.vec.Vec.{Vec}
use Rattle.std.specs.declared.alloc.Global.{Global}
use Rattle.refusal.specs.declared.refused.Refusal.{Refusal}
use Rattle.refusal.specs.Outcomes.{Gives}
use Rattle.maptypes.specs.declared.pg.Pg.{Pg}
use Rattle.osdmap.specs.Maps.{ClusterMap}
use Rattle.mapjson.specs.Written.{written}
use Rattle.state.specs.Answers.{FindsUp, FindsCount, FindsGroups}
use Rattle.monitor.specs.declared.member.Member.{Member}
use Rattle.monitor.specs.declared.question.Question.{Question}
use Rattle.monitor.specs.declared.question.Question.TheVariants.{Up, Count, Groups, Epoch, Dump}
use Rattle.monitor.specs.declared.question.Answer.{Answer}
use Rattle.monitor.specs.declared.question.Answer.TheVariants as answer
use Rattle.monitor.specs.Histories.{Looks}
use Rattle.monitor.specs.Members.{Monitored, TakesTurn, StaysAlone}

-- the epoch
abbrev pub FindsEpoch : ClusterMap → Result ℕ Refusal → Type 0
FindsEpoch m r = r ≡ Ok m.epoch

-- the written form of the map, in a list of any form
abbrev pub FindsText : {X : Type 0} → (X → List ℕ) → ClusterMap → Result X Refusal → Type 0
FindsText listed m r = Gives r None (λ text. listed text ≡ written m)

-- what is asked for, by the kind of the question; an answer tells the group or the OSD that was asked for
abbrev pub Finds : ClusterMap → Question → Result Answer Refusal → Type 0
Finds m (Up pg) (Ok (answer.Up epoch of set)) = (of ≡ pg) × FindsUp m pg (Ok (epoch, set))
Finds m (Up pg) (Err e) = FindsUp m pg (Err e)
Finds m (Count osd) (Ok (answer.Count epoch of count)) = (of ≡ osd) × FindsCount m osd (Ok (epoch, count))
Finds m (Count osd) (Err e) = FindsCount m osd (Err e)
Finds m (Groups osd) (Ok (answer.Groups epoch of groups)) =
    (of ≡ osd) × FindsGroups (λ (groups : Vec Pg Global). groups.items) m osd (Ok (epoch, groups))
Finds m (Groups osd) (Err e) = FindsGroups (λ (groups : Vec Pg Global). groups.items) m osd (Err e)
Finds m Epoch (Ok (answer.Epoch epoch)) = FindsEpoch m (Ok epoch)
Finds m Dump (Ok (answer.Dump text)) = FindsText string_bytes m (Ok text)
Finds m Dump (Err e) = FindsText (λ (text : String Global). string_bytes text) m (Err e)
Finds m question other = ⊥

-- the answer is a map's text, of these bytes
abbrev pub IsDump : Answer → List ℕ → Type 0
IsDump told bytes = (text : String Global) × (told ≡ answer.Dump text) × (string_bytes text ≡ bytes)

-- a question of a member is answered, in a turn at the lock, by what is found in the map after the history that it has
-- seen then; it makes no change, and with none beside it, it sees no more than before
pub record AnswersBy {X : Type 0} (monitor : Monitored) (before after : Member)
    (finds : ClusterMap → Result X Refusal → Type 0) (r : Result X Refusal) : Type 0 where
  pub turn : TakesTurn monitor before after r
  pub looks : Looks monitor.first before.pass.history after.pass.history finds r
  pub own : after.own ≡ before.own
  pub tally : after.tally ≡ before.tally
  pub alone : StaysAlone monitor before.pass after.pass
