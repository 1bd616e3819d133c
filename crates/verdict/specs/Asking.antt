-- Lines of a script that ask alone, or set a flag that no map has: what the tools write before commands.
use Rattle.std.specs.Prelude.{ℕ, ◌==◌, Bool, true, false, ◌&&◌, ◌||◌, List, ◌++◌, length, take, drop, codes, nat_le, Option, Some, None, if◌then◌else◌}
use Rattle.std.specs.List.{fold}
use Rattle.std.specs.Str.{bytes_eq}
use Rattle.verdict.specs.declared.asking.Quote.{Quote}
use Rattle.verdict.specs.declared.asking.Quote.TheVariants as quote

-- a byte that means no more than itself in no quotes: a small letter, a digit, a space or a point
abbrev pub is_plain_byte : ℕ → Bool
is_plain_byte c = (nat_le 97 c && nat_le c 122) || (nat_le 48 c && nat_le c 57) || (c == 32) || (c == 46)

-- where the next byte of a line stands, behind one; none where that may mean more than itself
unfoldable pub quote_after : Option Quote → ℕ → Option Quote
quote_after None c = None
quote_after (Some quote.No) c =
    if c == 39 then Some quote.Single else if c == 34 then Some quote.Double
    else if is_plain_byte c then Some quote.No else None
quote_after (Some quote.Single) c = if c == 39 then Some quote.No else Some quote.Single
quote_after (Some quote.Double) c =
    if c == 34 then Some quote.No
    else if (c == 36) || (c == 96) || (c == 92) || (c == 33) then None else Some quote.Double

-- whether quotes end where a text does
abbrev pub is_closed : Option Quote → Bool
is_closed None = false
is_closed (Some quote.No) = true
is_closed (Some quote.Single) = false
is_closed (Some quote.Double) = false

-- whether a text is words whose bytes all stand for themselves
abbrev pub is_quoted : List ℕ → Bool
is_quoted text = is_closed (fold quote_after (Some quote.No) text)

-- whether a line begins so
abbrev pub begins : List ℕ → List ℕ → Bool
begins start line = bytes_eq (take (length start) line) start

-- whether a line calls what only asks
abbrev pub calls_asking : List ℕ → Bool
calls_asking line =
    begins (codes "has ") line || begins (codes "same ") line || begins (codes "stand ") line
    || begins (codes "lie ") line

-- whether a line keeps what is told where the script ends
abbrev pub keeps_words : List ℕ → Bool
keeps_words line = begins (codes "at=") line && is_quoted (drop (length (codes "at=")) line)

-- whether a line is one of those by which each script asks, or turns the balancer off, or sets or drops a flag: of
-- these no map has anything
abbrev pub is_asking : List ℕ → Bool
is_asking line =
    bytes_eq line (codes "set -e") || bytes_eq line (codes "now=$(ceph osd dump)")
    || bytes_eq line
    (codes "has() { printf \"%s\\n\" \"$now\" | grep -q -e \"$1\" || "
    ++ codes "{ echo \"$2: nothing is done\" >&2; exit 1; }; }")
    || bytes_eq line
    (codes "same() { [ \"$(printf \"%s\\n\" \"$now\" | grep -E -o -e \"$1\" | sha256sum)\" = \"$2  -\" ] || "
    ++ codes "{ echo \"$3: nothing is done\" >&2; exit 1; }; }")
    || bytes_eq line (codes "ceph balancer off") || bytes_eq line (codes "ceph osd set norebalance")
    || bytes_eq line (codes "ceph osd unset norebalance")

-- whether a line is one of those by which the script of a hold tells how the cluster stands
abbrev pub is_telling : List ℕ → Bool
is_telling line =
    bytes_eq line
    (codes "stand() { [ \"$(printf \"%s\\n\" \"$now\" | grep -E -o -e \"$1\" | sha256sum)\" = \"$2  -\" ] || "
    ++ codes "exit 1; }")
    || bytes_eq line
    (codes "lie() { now=$(ceph pg map \"$1\") || exit 1; shift; for osd in \"$@\"; do "
    ++ codes "printf \"%s\\n\" \"$now\" | grep -E -q \"up [[]([0-9]+,)*$osd[],]\" || exit 1; done; }")
    || bytes_eq line (codes "trap 'exit 1' HUP INT TERM")
    || bytes_eq line (codes "trap '[ $? = 0 ] || echo \"stopped: $at\" >&2' EXIT")
    || bytes_eq line (codes "was=$(ceph osd dump | grep \"^flags .*norebalance\" || true)")
    || bytes_eq line (codes "[ -z \"$was\" ] || exit 0")
    || bytes_eq line (codes "[ -z \"$KEEP_NOREBALANCE\" ] || exit 0")
    || bytes_eq line
    (codes "[ -z \"$was\" ] || "
    ++ codes "echo \"norebalance was set before: give the last part KEEP_NOREBALANCE=1\" >&2")

-- whether a line gives the map no change
abbrev pub asks_alone : List ℕ → Bool
asks_alone line =
    is_asking line || is_telling line || (calls_asking line && is_quoted line) || keeps_words line
