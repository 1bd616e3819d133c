use Rattle.std.proofs.Common.{◌≡◌, ◌++◌, drop}
use Rattle.std.specs.String.{string_bytes}
use Rattle.maptypes.specs.SetText.{more_texts, place_text}
use Rattle.session.proofs.text.push_places.Given as goal

-- the text so far, with the places that are left
abbrev pub invariant-loop-place : goal.invariant-loop-place
invariant-loop-place l =
    string_bytes l.text ++ more_texts place_text (drop l.place-index l.others) ≡ string_bytes l.initial.text ++ more_texts place_text l.others
