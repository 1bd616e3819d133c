use Rattle.std.proofs.Common.{◌≡◌, ◌++◌, map, drop}
use Rattle.std.specs.List.{AllWithin}
use Rattle.json.specs.Tree.{items_tokens}
use Rattle.serde_json.specs.View.{items_of}
use Rattle.serde_json.specs.Written.{items_outline}
use Rattle.mapjson.specs.Written.{list_data}
use Rattle.mapjson.specs.Pieces.{tokens_of, IsReadBack}
use Rattle.mapjson.proofs.written.value.list.Given as goal

-- the tokens so far and those of what is left are those of the list
abbrev pub invariant-loop-entry : goal.invariant-loop-entry
invariant-loop-entry g l =
    (l.out.tokens ++ items_tokens (items_outline (items_of (map g.T.WriteJson.written (map g.T.WriteJson.part (drop l.entry-index l.entries)))))
    ≡ l.fn.out.tokens ++ tokens_of (list_data g.T.WriteJson.written (map g.T.WriteJson.part l.entries)))
    × (l.out.before ≡ l.fn.out.before)
    × AllWithin g.T.WriteJson.named l.entries 0 l.entry-index
    × AllWithin (λ x. IsReadBack (g.T.WriteJson.written (g.T.WriteJson.part x))) l.entries 0 l.entry-index
