-- What the lines of a script say.
use Rattle.std.specs.Prelude.{ℕ, ◌==◌, ◌^◌, ◌+◌, ◌*◌, ◌/◌, ◌%◌, ◌&&◌, ◌||◌, Bool, true, List, [], ◌∷◌, ◌++◌, length, map, take, drop, codes, nat_le, position, slice_index, Option, Some, None, option_and_then, if◌then◌else◌}
use Rattle.std.specs.List.{slice_split, range_with_len}
use Rattle.std.specs.Option.{option_map}
use Rattle.std.specs.Str.{bytes_eq}
use Rattle.mapparts.specs.Digits.{below, number_in}
use Rattle.crush.specs.Limits.{max_size}
use Rattle.maptypes.specs.declared.exception.Pair.{Pair}
use Rattle.maptypes.specs.declared.pg.Pg.{Pg}
use Rattle.maptypes.specs.GroupText.{group_in}
use Rattle.verdict.specs.Asking.{asks_alone}
use Rattle.verdict.specs.declared.order.Order.{Order}
use Rattle.verdict.specs.declared.order.Order.TheVariants.{SetPlaces, DropPlaces, SetPairs, DropPairs}
use Rattle.verdict.specs.declared.script.Said.{Said}

-- the lines of a script, each but the last ended by a newline
abbrev pub lines_of : List ℕ → List (List ℕ)
lines_of text = slice_split (λ c. c == 10) text

-- the words of a line, between single spaces
abbrev pub words_in_line : List ℕ → List (List ℕ)
words_in_line text = slice_split (λ c. c == 32) text

-- what stands behind a beginning
abbrev pub rest_behind : List ℕ → List ℕ → Option (List ℕ)
rest_behind start line = if bytes_eq (take (length start) line) start then Some (drop (length start) line) else None

-- the number of an OSD, of 16 bits
abbrev pub osd_of_word : List ℕ → Option ℕ
osd_of_word word = option_and_then (below (2 ^ 16)) (number_in 10 word)

-- the OSDs that some words are; none where one of them is no number of an OSD
unfoldable pub osds_in : List (List ℕ) → Option (List ℕ)
osds_in [] = Some []
osds_in (word ∷ words) = option_and_then (λ osd. option_map (λ osds. osd ∷ osds) (osds_in words)) (osd_of_word word)

-- two OSDs of a list: the one that goes, and the one that comes in its place
abbrev pub pair_by_twos : List ℕ → ℕ → Pair
pair_by_twos osds place = record { from = slice_index osds (2 * place); to = slice_index osds (2 * place + 1) }

-- the pairs that OSDs are by twos
abbrev pub pairs_of : List ℕ → List Pair
pairs_of osds = map (pair_by_twos osds) (range_with_len 0 (length osds / 2))

-- whether OSDs stand by twos, and are no more pairs than a map has room for
unfoldable pub stand_by_twos : List ℕ → Bool
stand_by_twos osds = (length osds % 2 == 0) && nat_le (length osds / 2) max_size

-- ---- commands

-- what a text states of a group: it, and OSDs behind it
pub record Stated : Type 0 where
  pub pg : Pg
  pub osds : List ℕ

-- a group, a space, and OSDs
unfoldable pub stated_in : List ℕ → Option Stated
stated_in text =
    option_and_then
    (λ end. option_and_then
    (λ pg. option_map (λ osds. record { pg = pg; osds = osds }) (osds_in (words_in_line (drop (end + 1) text))))
    (group_in (take end text)))
    (position (λ c. c == 32) text)

-- an explicit set comes, of no more places than a map has room for
abbrev pub places_order : Stated → Option Order
places_order s =
    if nat_le (length s.osds) max_size then Some (SetPlaces (record { pg = s.pg; entries = s.osds })) else None

-- pairs come, whose OSDs stand by twos
abbrev pub pairs_order : Stated → Option Order
pairs_order s =
    if stand_by_twos s.osds then Some (SetPairs (record { pg = s.pg; entries = pairs_of s.osds })) else None

-- the command of a line
unfoldable pub order_in : List ℕ → Option Order
order_in line = elim (rest_behind (codes "ceph osd pg-upmap-items ") line) [
  | Some text ↦ option_and_then pairs_order (stated_in text)
  | None ↦ elim (rest_behind (codes "ceph osd rm-pg-upmap-items ") line) [
    | Some text ↦ option_map DropPairs (group_in text)
    | None ↦ elim (rest_behind (codes "ceph osd pg-upmap ") line) [
      | Some text ↦ option_and_then places_order (stated_in text)
      | None ↦
          option_and_then (λ text. option_map DropPlaces (group_in text))
          (rest_behind (codes "ceph osd rm-pg-upmap ") line)
    ]
  ]
]

-- ---- lines

-- a line that gives no command: an empty one, a comment, or one that asks alone
unfoldable pub is_passed : List ℕ → Bool
is_passed [] = true
is_passed (c ∷ cs) = (c == 35) || asks_alone (c ∷ cs)

-- what a line says, before which so many stand, where it gives a command or is none that is known
abbrev pub said_at : ℕ → List ℕ → List Said
said_at line text = if is_passed text then [] else record { line = line; order = order_in text } ∷ []

-- what lines say, before the first of which so many stand
unfoldable pub said_from : ℕ → List (List ℕ) → List Said
said_from line [] = []
said_from line (text ∷ texts) = said_at line text ++ said_from (line + 1) texts

-- what the lines of a script say, in order
abbrev pub said_in : List ℕ → List Said
said_in text = said_from 0 (lines_of text)
