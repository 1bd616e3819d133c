-- What a write does to a sink.
use Rattle.std.specs.Prelude.{◌≡◌, ℕ, ◌≤◌, ◌==◌, Bool, true, ◌&&◌, not, List, ◌++◌, length, take, Result, Ok, Err, MatchResult}
use Rattle.session.specs.declared.sink.WriteFailed.{WriteFailed}

-- whether a write failed, or took nothing of a text that is not empty
abbrev pub is_refused : List ℕ → Result ℕ WriteFailed → Bool
is_refused bytes (Ok n) = n == 0 && not (length bytes == 0)
is_refused bytes (Err failed) = true

-- a write puts the first bytes, as many as it answers, behind those before; a failed one none
abbrev pub PutsFirst : List ℕ → List ℕ → List ℕ → Result ℕ WriteFailed → Type 0
PutsFirst before bytes after r =
    MatchResult r (λ n. (n ≤ length bytes) × (after ≡ before ++ take n bytes)) (λ _. after ≡ before)

-- all the bytes but the rest are put behind those before
abbrev pub HasPut : List ℕ → List ℕ → List ℕ → List ℕ → Type 0
HasPut before bytes rest after = (part : List ℕ) × (bytes ≡ part ++ rest) × (after ≡ before ++ part)
