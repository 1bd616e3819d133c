-- Ceph's binary encoding (include/encoding.h): what stands at the front of bytes, and the bytes behind it, or the
-- first fault from the left.
use Rattle.std.specs.Prelude.{◌≡◌, ◌++◌, ℕ, zero, suc, ◌+◌, ◌*◌, ℤ, List, [], ◌∷◌, length, take, drop, nat_lt, ◌==◌, Result, Ok, Err, if◌then◌else◌, slice_index}
use Rattle.std.specs.Int.{Width, byte_len, cast_signed, w32, to_le_bytes}
use Rattle.cephbytes.specs.declared.refused.Refused.{Refused}
use Rattle.cephbytes.specs.declared.refused.ReadError.{ReadError}
use Rattle.cephbytes.specs.declared.refused.ReadError.TheVariants as errors
use Rattle.cephbytes.specs.declared.cursor.Width.{Width as Bytes}
use Rattle.cephbytes.specs.declared.cursor.Width.TheVariants.{One, Two, Four, Eight}
use Rattle.cephbytes.specs.declared.refused.Refused.TheVariants.{Short, TooNew, Trailing, Unknown}

-- what reads a thing at the front of bytes: the thing with the bytes behind it, or what refuses it
abbrev pub Front : Type 0 → Type 0
Front X = List ℕ → Result (X × List ℕ) Refused

-- what is behind a thing that was read
abbrev pub behind : {X Y : Type 0} → (X → Front Y) → Result (X × List ℕ) Refused → Result (Y × List ℕ) Refused
behind g (Ok p) = g p.0 p.1
behind g (Err e) = Err e

-- one thing, and behind it another by what the first is
infixl 10 ◌>>=◌
abbrev pub ◌>>=◌ : {X Y : Type 0} → Front X → (X → Front Y) → Front Y
f >>= g = λ bs. behind g (f bs)

-- nothing is read
abbrev pub gives : {X : Type 0} → X → Front X
gives x bs = Ok (x, bs)

-- what a number stands for, or the fault of one that stands for nothing
abbrev pub meant : {X : Type 0} → Result X Refused → Front X
meant (Ok x) bs = Ok (x, bs)
meant (Err e) bs = Err e

-- so many bytes are left, or else none is read
abbrev pub left : ℕ → Front (Unit {0})
left n bs = if nat_lt (length bs) n then Err Short else Ok (tt, bs)

-- the number in the n bytes from place i, the lowest first
abbrev pub little_from : ℕ → ℕ → List ℕ → ℕ
little_from i zero bs = 0
little_from i (suc n) bs = slice_index bs i + 256 * little_from (suc i) n bs

-- a number of so many bytes, the lowest first
abbrev pub number : ℕ → Front ℕ
number n bs = if nat_lt (length bs) n then Err Short else Ok (little_from 0 n bs, drop n bs)

-- a number with a sign, in two's complement
abbrev pub signed : Width → Front ℤ
signed w = do
  x ← number (byte_len w)
  gives (cast_signed w x)

-- so many bytes
abbrev pub taken : ℕ → Front (List ℕ)
taken n bs = if nat_lt (length bs) n then Err Short else Ok (take n bs, drop n bs)

-- so many bytes are passed
abbrev pub skip : ℕ → Front (Unit {0})
skip n bs = if nat_lt (length bs) n then Err Short else Ok (tt, drop n bs)

-- a text behind its length
unfoldable pub text : Front (List ℕ)
text = do
  n ← number 4
  taken n

-- how many things stand here, of which each has at least so many bytes: no more than the bytes that are left have room
-- for
unfoldable pub count : ℕ → Front ℕ
count each = do
  n ← number 4
  _ ← left (n * each)
  gives n

-- a section: its version, the least version that its reader must know, its length, and so many bytes of its own
pub record Own : Type 0 where
  pub version : ℕ
  pub own : List ℕ

-- a thing that a reader of this version may read
abbrev pub known : ℕ → ℕ → Front (Unit {0})
known least knows bs = if nat_lt knows least then Err TooNew else Ok (tt, bs)

-- a section, where its reader knows the least version
unfoldable pub section : ℕ → Front Own
section knows = do
  version ← number 1
  least ← number 1
  _ ← known least knows
  own ← text
  gives (record { version = version; own = own })

-- what is behind all that was read: nothing
abbrev pub at_end : List ℕ → Result (Unit {0}) Refused
at_end bs = if length bs == 0 then Ok tt else Err Trailing

-- nothing is left
abbrev pub ended : Front (Unit {0})
ended bs = meant (at_end bs) bs

-- a version from the first to the last that are known
abbrev pub known_version : ℕ → ℕ → ℕ → Result (Unit {0}) Refused
known_version first last version =
    if nat_lt version first then Err Unknown else (if nat_lt last version then Err TooNew else Ok tt)

-- what a function returned, seen by view
abbrev pub seen : {X Y : Type 0} → (X → Y) → Result X Refused → Result Y Refused
seen view (Ok x) = Ok (view x)
seen view (Err e) = Err e

-- a call over a cursor: it reads what stands at the front and leaves the rest; what is refused leaves the cursor where
-- it was
abbrev pub Moves : {X Y : Type 0} → (X → Y) → Front Y → List ℕ → Result X Refused → List ℕ → Type 0
Moves view front old (Ok x) new = front old ≡ Ok (view x, new)
Moves view front old (Err e) new = (front old ≡ Err e) × (new ≡ old)

-- what is read at the front of bytes that were taken: the end that is not read is passed
abbrev pub inside : {X : Type 0} → Front X → List ℕ → Front X
inside body own bs = behind (λ x _. gives x bs) (body own)

-- a section and what is read at the front of its own bytes
abbrev pub within : {X : Type 0} → (ℕ → Front X) → Own → Front X
within body s = inside (body s.version) s.own

-- a section by what is read at the front of its own bytes, which goes by its version
abbrev pub section_of : {X : Type 0} → ℕ → (ℕ → Front X) → Front X
section_of knows body = do
  s ← section knows
  within body s

-- how many bytes a number has
abbrev pub bytes_of : Bytes → ℕ
bytes_of One = 1
bytes_of Two = 2
bytes_of Four = 4
bytes_of Eight = 8

-- so many of a kind
unfoldable pub entries : {X : Type 0} → Front X → ℕ → Front (List X)
entries one zero bs = Ok ([], bs)
entries one (suc n) bs = behind (λ x. entries one n >>= λ xs. gives (x ∷ xs)) (one bs)

-- a list behind its length
unfoldable pub list_of : {X : Type 0} → Front X → Front (List X)
list_of one = do
  n ← number 4
  entries one n

-- so many of a kind, for which there is room where each has at least so many bytes
unfoldable pub many : {X : Type 0} → ℕ → Front X → ℕ → Front (List X)
many each one n = do
  _ ← left (n * each)
  entries one n

-- a list behind its length, for which there is room
unfoldable pub listed : {X : Type 0} → ℕ → Front X → Front (List X)
listed each one = do
  n ← number 4
  many each one n

-- What a function returned, seen by view, is what reading gives, unless memory ran out.
abbrev pub Fails : {Y : Type 0} → ReadError → Result Y Refused → Type 0
Fails errors.Memory read = Unit {0}
Fails (errors.Refused e) read = read ≡ Err e

-- a function returned what reading gives, seen by view, or failed as reading does
abbrev pub Gives : {X Y : Type 0} → (X → Y) → Result X ReadError → Result Y Refused → Type 0
Gives view (Ok x) read = read ≡ Ok (view x)
Gives view (Err e) read = Fails e read

-- a text as it is written
abbrev pub written : List ℕ → List ℕ
written words = to_le_bytes w32 (length words) ++ words
