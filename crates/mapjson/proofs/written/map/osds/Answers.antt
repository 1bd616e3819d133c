use Rattle.std.proofs.Common.{All, ◌≡◌, ◌++◌, ◌∷◌, [], map, filter_map, option_map, length, sym, ap, subst, ◌∙◌, arith, append_assoc}
use Rattle.std.specs.List.{range_with_len}
use Rattle.std.proofs.lemmas.Result.{on_ok_weaker}
use Rattle.json.specs.Token.{begin_array, end_array}
use Rattle.osdmap.specs.PartsOf.{part_listed, osd_parts}
use Rattle.mapjson.specs.Written.{osd_data}
use Rattle.mapjson.specs.Pieces.{all_tokens, tokens_of_some, IsReadBack}
use Rattle.mapjson.proofs.Listed.{more}
use Rattle.mapjson.proofs.Pieces.{items_tokens-all, enclosed, tokens_more, read_more, list_read}
use Rattle.mapjson.proofs.written.map.osds.Goals as goal

pub loop-id-preserved : goal.loop-id-preserved
loop-id-preserved c =
    let l = c.loop-id in
    let listing = part_listed c.args.map.now.map in
    let listed = filter_map listing (range_with_len 0 l.id) in
    let front = c.args.out.now.tokens ++ begin_array ∷ [] in
    let last = tokens_of_some (option_map osd_data (listing l.id)) in (
      c.in_ok-osd.ensures.tokens ∙ ap (λ ts. ts ++ last) l.invariant.0 ∙ append_assoc front (all_tokens (map osd_data listed)) last
          ∙ ap (λ ts. front ++ ts) (sym (tokens_more osd_data listed (listing l.id)) ∙ ap (λ xs. all_tokens (map osd_data xs)) (sym (more listing l.id))),
      c.osd.ensures.before ∙ l.invariant.1,
      subst (All (λ x. IsReadBack (osd_data x))) (sym (more listing l.id)) (read_more osd_data listed (listing l.id) l.invariant.2 c.in_ok-osd.ensures.back),
    )

pub returns-clause-tokens : goal.returns-clause-tokens
returns-clause-tokens c =
    let l = c.loop-id in
    let m = c.args.map.now.map in
    let ended : l.id ≡ length m.presences = omega arith in
    let all : filter_map (part_listed m) (range_with_len 0 l.id) ≡ osd_parts m = ap (λ n. filter_map (part_listed m) (range_with_len 0 n)) ended in
    on_ok_weaker c.end_array.result (λ e.
    e ∙ ap (λ ts. ts ++ end_array ∷ []) (l.invariant.0 ∙ ap (λ xs. (c.args.out.now.tokens ++ begin_array ∷ []) ++ all_tokens (map osd_data xs)) all)
    ∙ enclosed c.args.out.now.tokens (all_tokens (map osd_data (osd_parts m))) begin_array end_array
    ∙ ap (λ ts. c.args.out.now.tokens ++ begin_array ∷ ts) (sym (items_tokens-all (map osd_data (osd_parts m))))) c.end_array.ensures.ok

pub returns-clause-back : goal.returns-clause-back
returns-clause-back c =
    let l = c.loop-id in
    let m = c.args.map.now.map in
    let ended : l.id ≡ length m.presences = omega arith in
    let all : filter_map (part_listed m) (range_with_len 0 l.id) ≡ osd_parts m = ap (λ n. filter_map (part_listed m) (range_with_len 0 n)) ended in
    on_ok_weaker c.end_array.result (λ e. list_read osd_data (osd_parts m) (subst (All (λ x. IsReadBack (osd_data x))) all l.invariant.2)) c.end_array.ensures.ok
