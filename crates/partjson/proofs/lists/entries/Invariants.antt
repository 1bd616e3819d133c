use Rattle.std.proofs.Common.{◌≡◌, ℕ, ◌≤◌, length, option_map}
use Rattle.json.specs.Json.{items, value, parse_map}
use Rattle.serde_json.specs.Read.{of_items, converted}
use Rattle.jsonstream.specs.Stream.{rest_of_list}
use Rattle.jsonstream.specs.Json.{entries_of}
use Rattle.jsonstream.proofs.Entries.{joined}
use Rattle.partjson.proofs.lists.entries.Given as goal

abbrev pub invariant-items : goal.invariant-items
invariant-items g l =
    (n : ℕ) × (length l.reader ≤ n)
    × (parse_map (entries_of g.T.FromJson.stated) (rest_of_list l.depth l.initial.reader) ≡ parse_map (joined g.T.FromJson.stated (option_map (λ v. v.items) l.found)) (converted of_items (items (value l.depth) n l.reader)))

abbrev pub decreases-items : goal.decreases-items
decreases-items g l = length l.reader
