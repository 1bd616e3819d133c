use Rattle.std.proofs.Common.{All, ◌≡◌, [], ◌∷◌, ◌++◌, map, filter_map}
use Rattle.std.specs.List.{range_with_len}
use Rattle.json.specs.Token.{begin_array}
use Rattle.osdmap.specs.PartsOf.{part_listed}
use Rattle.mapjson.specs.Written.{osd_data}
use Rattle.mapjson.specs.Pieces.{all_tokens, IsReadBack}
use Rattle.mapjson.proofs.written.map.osds.Given as goal

-- the tokens so far are those of the OSDs below
abbrev pub invariant-loop-id : goal.invariant-loop-id
invariant-loop-id l =
    let listed = filter_map (part_listed l.map.map) (range_with_len 0 l.id) in
    (l.out.tokens ≡ (l.fn.out.tokens ++ begin_array ∷ []) ++ all_tokens (map osd_data listed))
    × (l.out.before ≡ l.fn.out.before)
    × All (λ x. IsReadBack (osd_data x)) listed
