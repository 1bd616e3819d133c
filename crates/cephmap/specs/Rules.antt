-- Rules in the CRUSH map.
use Rattle.std.specs.Prelude.{ℕ, Result, Ok, Err, ◌==◌, nat_lt, if◌then◌else◌}
use Rattle.std.specs.Int.{w32}
use Rattle.cephbytes.specs.declared.refused.Refused.{Refused}
use Rattle.cephbytes.specs.declared.refused.Refused.TheVariants.{Unknown}
use Rattle.cephbytes.specs.Encoding.{Front, ◌>>=◌, gives, number, signed, many, meant}
use Rattle.cephmap.specs.declared.rule.StepWord.{StepWord}
use Rattle.cephmap.specs.declared.rule.StepWord.TheVariants as words
use Rattle.cephmap.specs.declared.rule.Step.{Step}
use Rattle.cephmap.specs.declared.rule.Rule.{Rule}

-- the word of a number below 8: steps that take, choose and emit
abbrev pub choose_word_of : ℕ → Result StepWord Refused
choose_word_of n =
    if n == 0 then Ok words.Nothing
    else (if n == 1 then Ok words.Take
    else (if n == 2 then Ok words.ChooseFirstN
    else (if n == 3 then Ok words.ChooseIndep
    else (if n == 4 then Ok words.Emit
    else (if n == 6 then Ok words.ChooseLeafFirstN
    else (if n == 7 then Ok words.ChooseLeafIndep
    else Err Unknown))))))

-- the word of a number from 8 on: steps that set
abbrev pub set_word_of : ℕ → Result StepWord Refused
set_word_of n =
    if n == 8 then Ok words.SetChooseTries
    else (if n == 9 then Ok words.SetChooseLeafTries
    else (if n == 10 then Ok words.SetChooseLocalTries
    else (if n == 11 then Ok words.SetChooseLocalFallbackTries
    else (if n == 12 then Ok words.SetChooseLeafVaryR
    else (if n == 13 then Ok words.SetChooseLeafStable
    else Err Unknown)))))

-- the word of a number
abbrev pub step_word_of : ℕ → Result StepWord Refused
step_word_of n = if nat_lt n 8 then choose_word_of n else set_word_of n

-- a step: its word and two arguments
unfoldable pub step : Front Step
step = do
  n ← number 4
  word ← meant (step_word_of n)
  first ← signed w32
  second ← signed w32
  gives (record { word = word; first = first; second = second })

-- a rule: how many steps it has, its mask, and its steps
unfoldable pub rule : Front Rule
rule = do
  size ← number 4
  set ← number 1
  kind ← number 1
  least ← number 1
  most ← number 1
  steps ← many 12 step size
  gives (record { set = set; kind = kind; least = least; most = most; steps = steps })
