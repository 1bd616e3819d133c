use Rattle.std.proofs.Common.{◌≡◌, ℕ, ◌≤◌, length}
use Rattle.json.specs.Json.{members, value}
use Rattle.serde_json.specs.Data.{Members}
use Rattle.serde_json.specs.Read.{of_members, converted}
use Rattle.jsonstream.specs.Stream.{rest_of_object}
use Rattle.partjson.specs.Fields.{Holds}
use Rattle.partjson.proofs.objects.members.Given as goal

abbrev pub invariant-members : goal.invariant-members
invariant-members g l =
    (n : ℕ) × (found : Members) × (length l.reader ≤ n)
    × (rest_of_object l.depth l.initial.reader ≡ converted (λ ms. of_members ms found) (members (value l.depth) n l.reader))
    × Holds g.F.Fields.names g.F.Fields.hold (g.F.Fields.names l.initial.fields) l.fields l.known found

abbrev pub decreases-members : goal.decreases-members
decreases-members g l = length l.reader
