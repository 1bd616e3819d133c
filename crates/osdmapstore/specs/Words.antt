-- Which words may sign a change.
use Rattle.std.specs.Prelude.{Bool, ◌&&◌, ℕ, List, length, nat_le, nat_lt}
use Rattle.std.specs.List.{list_all}

-- the code of a visible character of ASCII
abbrev pub is_visible : ℕ → Bool
is_visible byte = nat_lt 32 byte && nat_lt byte 127

-- from one to 64 such characters: what stands between `by=` and the space at the end of a note
abbrev pub is_word : List ℕ → Bool
is_word text = nat_lt 0 (length text) && (nat_le (length text) 64 && list_all is_visible text)
