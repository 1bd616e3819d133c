-- The text of a group's set: its places in order, with commas between them, in brackets.
use Rattle.std.specs.Prelude.{ℕ, List, [], ◌∷◌, ◌++◌, codes, Option, Some, None}
use Rattle.std.specs.Fmt.{decimal}

-- an OSD, or a word where there is none
abbrev pub osd_text : List ℕ → Option ℕ → List ℕ
osd_text word (Some osd) = decimal osd
osd_text word None = word

-- a place: its OSD, or `none`
abbrev pub place_text : Option ℕ → List ℕ
place_text place = osd_text (codes "none") place

-- texts behind others, each with a comma before it
abbrev pub more_texts : {X : Type 0} → (X → List ℕ) → List X → List ℕ
more_texts text [] = []
more_texts text (x ∷ xs) = 44 ∷ text x ++ more_texts text xs

-- texts with commas between them
abbrev pub list_text : {X : Type 0} → (X → List ℕ) → List X → List ℕ
list_text text [] = []
list_text text (x ∷ xs) = text x ++ more_texts text xs

-- a set
abbrev pub set_text : List (Option ℕ) → List ℕ
set_text places = codes "[" ++ list_text place_text places ++ codes "]"
