-- Texts, and what they are as JSON.
use Rattle.std.proofs.Common.{◌≡◌, ℕ, Bool, true, false, if◌then◌else◌, List, Option, Some, None, refl, ◌∙◌, ap}
use Rattle.std.specs.Str.{is_utf8, IsUtf8}
use Rattle.std.proofs.lemmas.Str.{IsUtf8-from_is_utf8, is_utf8-from_IsUtf8}
use Rattle.serde_json.specs.Data.{Data}
use Rattle.serde_json.specs.Read.{read}
use Rattle.jsonstream.specs.Json.{json_of}

-- a text of UTF-8 that reads as a value is its JSON
pub json_of_some : (bytes : List ℕ) (d : Data) → IsUtf8 bytes → read bytes ≡ Some d → json_of bytes ≡ Some d
json_of_some bytes d utf8 reads =
    ap (λ b. if b then read bytes else None) (is_utf8-from_IsUtf8 bytes utf8) ∙ reads

-- nothing comes of a test that leads to nothing where it holds
none_if : (b : Bool) (o : Option Data) → (b ≡ true → o ≡ None) → (if b then o else None) ≡ None
none_if true o h = h refl
none_if false o h = refl

-- a text that is not UTF-8, or reads as nothing, is no JSON
pub json_of_none : (bytes : List ℕ) → (IsUtf8 bytes → read bytes ≡ None) → json_of bytes ≡ None
json_of_none bytes h = none_if (is_utf8 bytes) (read bytes) (λ e. h (IsUtf8-from_is_utf8 bytes e))
