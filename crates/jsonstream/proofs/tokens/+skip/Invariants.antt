use Rattle.std.proofs.Common.{◌≡◌, ℕ, ◌+◌, ◌*◌, ◌≤◌, length}
use Rattle.json.specs.Json.{items, members, value}
use Rattle.serde_json.specs.Data.{Members}
use Rattle.serde_json.specs.Read.{of_items, of_members, converted}
use Rattle.jsonstream.specs.Stream.{rest_of_list, rest_of_object, tokens_left}
use Rattle.jsonstream.proofs.tokens.+skip.Given as goal

abbrev pub decreases-finish : goal.decreases-finish
decreases-finish l = 2 * l.depth

abbrev pub decreases-skip_list : goal.decreases-skip_list
decreases-skip_list l = 2 * l.depth + 1

abbrev pub decreases-skip_object : goal.decreases-skip_object
decreases-skip_object l = 2 * l.depth + 1

abbrev pub invariant-skip_list-items : goal.invariant-skip_list-items
invariant-skip_list-items l =
    (n : ℕ) × (length l.reader ≤ n)
    × (tokens_left (rest_of_list l.depth l.initial.reader) ≡ tokens_left (converted of_items (items (value l.depth) n l.reader)))
    × (length l.reader ≤ length l.initial.reader)

abbrev pub decreases-skip_list-items : goal.decreases-skip_list-items
decreases-skip_list-items l = length l.reader

abbrev pub invariant-skip_object-members : goal.invariant-skip_object-members
invariant-skip_object-members l =
    (n : ℕ) × (found : Members) × (length l.reader ≤ n)
    × (tokens_left (rest_of_object l.depth l.initial.reader) ≡ tokens_left (converted (λ ms. of_members ms found) (members (value l.depth) n l.reader)))
    × (length l.reader ≤ length l.initial.reader)

abbrev pub decreases-skip_object-members : goal.decreases-skip_object-members
decreases-skip_object-members l = length l.reader
