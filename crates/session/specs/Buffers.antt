-- A buffer of bytes.
use Rattle.std.specs.Prelude.{ℕ, Bool, List}
use Rattle.session.specs.declared.sink.Buffer.{Buffer}

-- the bytes put
abbrev pub bytes_of : Buffer → List ℕ
bytes_of b = b.bytes.items

-- whether it has found no memory
abbrev pub is_short : Buffer → Bool
is_short b = b.failed
