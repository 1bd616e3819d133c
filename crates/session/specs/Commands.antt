-- The lines of a script, and the command of a line.
use Rattle.std.specs.Prelude.{ℕ, ◌==◌, ◌^◌, ◌+◌, ◌&&◌, Bool, true, List, [], ◌∷◌, length, take, drop, codes, nat_le, position, Option, Some, None, if◌then◌else◌}
use Rattle.std.specs.List.{onto_first}
use Rattle.std.specs.Option.{option_map, option_and_then}
use Rattle.std.specs.Str.{bytes_eq}
use Rattle.balancer.specs.Limits.{max_moves}
use Rattle.mapparts.specs.declared.profile.Profile.{Profile}
use Rattle.mapparts.specs.Profiles.{is_stock}
use Rattle.mapparts.specs.Digits.{below, number_in}
use Rattle.maptypes.specs.GroupText.{group_in}
use Rattle.monitor.specs.declared.question.Question.{Question}
use Rattle.monitor.specs.declared.question.Question.TheVariants.{Up, Count, Groups, Epoch, Dump}
use Rattle.session.specs.declared.command.Command.{Command as Read}
use Rattle.session.specs.declared.command.Command.TheVariants.{Ask, Ups, Change, Apply, Await, Balance, Follower, FollowerUps}
use Rattle.session.specs.declared.command.Beside.{Beside as ReadBeside}
use Rattle.session.specs.declared.parse.Words.{Words as ReadWords}
use Rattle.session.specs.declared.command.Task.{Task}
use Rattle.session.specs.declared.command.Task.TheVariants as task

-- the byte of a newline
abbrev pub is_newline : ℕ → Bool
is_newline c = c == 10

-- the lines of a script: each ends at a newline, and the last also where the script ends
unfoldable pub lines_in : List ℕ → List (List ℕ)
lines_in [] = []
lines_in (c ∷ cs) = if is_newline c then [] ∷ lines_in cs else onto_first c (lines_in cs)

-- ---- numbers

-- the number that a text is in decimal, without a sign or leading zeros, and below a limit
abbrev pub number_below : ℕ → List ℕ → Option ℕ
number_below limit text = option_and_then (below limit) (number_in 10 text)

-- the number of an OSD, of 32 bits
abbrev pub osd_in : List ℕ → Option ℕ
osd_in text = number_below (2 ^ 32) text

-- the number of an epoch, of 64 bits
abbrev pub epoch_in : List ℕ → Option ℕ
epoch_in text = number_below (2 ^ 64) text

-- the first word of a text, and what stands behind its space
pub record Words : Type 0 where
  pub first : List ℕ
  pub rest : List ℕ

-- the words before and behind the first space
abbrev pub two_words : List ℕ → Option Words
two_words text =
    option_map (λ end. record { first = take end text; rest = drop (end + 1) text }) (position (λ c. c == 32) text)

-- the words, as they were read
abbrev pub words_of : ReadWords → Words
words_of words = record { first = words.first.now; rest = words.rest.now }

-- the number of a pool, of 32 bits
abbrev pub pool_number : List ℕ → Option ℕ
pool_number text = number_below (2 ^ 32) text

-- a number of moves, from 1 to that
abbrev pub limit_in : List ℕ → Option ℕ
limit_in text =
    option_and_then (λ n. if nat_le 1 n && nat_le n max_moves then Some n else None) (number_below (2 ^ 32) text)

-- how far two OSDs must be apart: 256 or more, of 32 bits
abbrev pub apart_in : List ℕ → Option ℕ
apart_in text = option_and_then (λ n. if nat_le 256 n then Some n else None) (number_below (2 ^ 32) text)

-- ---- commands

-- what a plan is to count beside its pool: how far two OSDs must be apart, and a JSON text of what OSDs carry
pub record Beside : Type 0 where
  pub apart : ℕ
  pub loads : List ℕ

-- what a line asks for: a question to the monitor; the up sets of all groups of a pool; a change that a JSON text
-- states, with its base or without; to wait until the epoch is at least a number; to balance a pool, by so many moves
-- at most, with what is to be counted beside it; a task of the session's follower; or the sets of a pool's groups from
-- the follower
pub data Command : Type 0 where
  ask : Question → Command
  ups : ℕ → Command
  change : List ℕ → Command
  apply : List ℕ → Command
  wait : ℕ → Command
  balance : ℕ → ℕ → Option Beside → Command
  follower : Task → Command
  fups : ℕ → Command

-- what is to be counted beside a pool, as it was read
abbrev pub beside_of : ReadBeside → Beside
beside_of b = record { apart = b.apart; loads = b.loads.now }

-- the command that was read of a line
abbrev pub command_of : Read → Command
command_of (Ask question) = ask question
command_of (Ups pool) = ups pool
command_of (Change text) = change text.now
command_of (Apply text) = apply text.now
command_of (Await epoch) = wait epoch
command_of (Balance plan) = balance plan.pool plan.limit (option_map beside_of plan.beside)
command_of (Follower t) = follower t
command_of (FollowerUps pool) = fups pool

-- what stands behind a word and its space
abbrev pub behind : List ℕ → List ℕ → Option (List ℕ)
behind word line = if bytes_eq (take (length word) line) word then Some (drop (length word) line) else None

-- the question of a line: `epoch`, `dump`, `up ` and a group, `count ` or `groups ` and an OSD
unfoldable pub question_in : List ℕ → Option Question
question_in line =
    if bytes_eq line (codes "epoch") then Some Epoch
    else if bytes_eq line (codes "dump") then Some Dump
    else elim (behind (codes "up ") line) [
      | Some group ↦ option_map Up (group_in group)
      | None ↦ elim (behind (codes "count ") line) [
        | Some osd ↦ option_map Count (osd_in osd)
        | None ↦ option_and_then (λ osd. option_map Groups (osd_in osd)) (behind (codes "groups ") line)
      ]
    ]

-- the task of a line: `follow`, `fdump`, `fup ` or `fkept ` and a group
unfoldable pub task_in : List ℕ → Option Task
task_in line =
    if bytes_eq line (codes "follow") then Some task.CatchUp
    else if bytes_eq line (codes "fdump") then Some task.Dump
    else elim (behind (codes "fup ") line) [
      | Some group ↦ option_map task.Up (group_in group)
      | None ↦ option_and_then (λ group. option_map task.Kept (group_in group)) (behind (codes "fkept ") line)
    ]

-- what a text says is to be counted beside a pool: a number, a space and a text
unfoldable pub beside_in : List ℕ → Option Beside
beside_in text =
    option_and_then
    (λ words. option_map (λ apart. record { apart = apart; loads = words.rest }) (apart_in words.first))
    (two_words text)

-- the plan for a pool that a text says: a number of moves, and what stands behind a space is to be counted beside it
unfoldable pub plan_for : ℕ → List ℕ → Option Command
plan_for pool text = elim (two_words text) [
  | None ↦ option_map (λ limit. balance pool limit None) (limit_in text)
  | Some words ↦
      option_and_then (λ limit. option_map (λ beside. balance pool limit (Some beside)) (beside_in words.rest))
      (limit_in words.first)
]

-- the plan of a text: a pool, a space and the plan for it
unfoldable pub plan_in : List ℕ → Option Command
plan_in text =
    option_and_then (λ words. option_and_then (λ pool. plan_for pool words.rest) (pool_number words.first))
    (two_words text)

-- what a line asks of the sets of a pool: `ups ` or `fups ` and a pool
unfoldable pub sets_in : List ℕ → Option Command
sets_in line = elim (behind (codes "ups ") line) [
  | Some pool ↦ option_map ups (pool_number pool)
  | None ↦ option_and_then (λ pool. option_map fups (pool_number pool)) (behind (codes "fups ") line)
]

-- the command of a line: a question, `change ` or `apply ` and a text, `await ` and an epoch, `balance ` and a plan,
-- the sets of a pool, or a task; none where it is none of them
unfoldable pub command_in : List ℕ → Option Command
command_in line = elim (question_in line) [
  | Some question ↦ Some (ask question)
  | None ↦ elim (behind (codes "change ") line) [
    | Some text ↦ Some (change text)
    | None ↦ elim (behind (codes "apply ") line) [
      | Some text ↦ Some (apply text)
      | None ↦ elim (behind (codes "await ") line) [
        | Some epoch ↦ option_map wait (epoch_in epoch)
        | None ↦ elim (behind (codes "balance ") line) [
          | Some plan ↦ plan_in plan
          | None ↦ elim (sets_in line) [
            | Some command ↦ Some command
            | None ↦ option_map follower (task_in line)
          ]
        ]
      ]
    ]
  ]
]

-- whether a script of maps of a profile may have a task of the follower: a script of plain maps has no `fkept`
abbrev pub is_task_in : Profile → Task → Bool
is_task_in profile task.CatchUp = true
is_task_in profile (task.Up pg) = true
is_task_in profile task.Dump = true
is_task_in profile (task.Kept pg) = is_stock profile

-- the command, where a script of maps of this profile may have it: a script of plain maps has no `apply`, no `ups` and
-- no `fups`
abbrev pub known_in : Profile → Option Command → Option Command
known_in profile None = None
known_in profile (Some (ask question)) = Some (ask question)
known_in profile (Some (ups pool)) = if is_stock profile then Some (ups pool) else None
known_in profile (Some (change text)) = Some (change text)
known_in profile (Some (apply text)) = if is_stock profile then Some (apply text) else None
known_in profile (Some (wait epoch)) = Some (wait epoch)
known_in profile (Some (balance pool limit beside)) = Some (balance pool limit beside)
known_in profile (Some (follower t)) = if is_task_in profile t then Some (follower t) else None
known_in profile (Some (fups pool)) = if is_stock profile then Some (fups pool) else None

-- the command of a line in such a script
abbrev pub command_by : Profile → List ℕ → Option Command
command_by profile line = known_in profile (command_in line)
