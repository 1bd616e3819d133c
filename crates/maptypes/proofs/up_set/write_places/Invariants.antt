use Rattle.std.proofs.Common.{◌≡◌, ℕ, List, ◌++◌, drop}
use Rattle.std.specs.Fmt.{HasWritten, IsPlainFormatter}
use Rattle.maptypes.specs.SetText.{more_texts, list_text, place_text}
use Rattle.maptypes.proofs.up_set.write_places.Given as goal

-- what is written so far, with the places that are left
abbrev pub invariant-loop-place : goal.invariant-loop-place
invariant-loop-place g l =
    IsPlainFormatter l.fn.f
    → (done : List ℕ) × HasWritten g.W.Write.write_str_gives l.fn.f done l.f
    × (done ++ more_texts place_text (drop l.place-index l.others) ≡ list_text place_text l.fn.places)
