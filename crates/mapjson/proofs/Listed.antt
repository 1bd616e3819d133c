-- Lists that are written entry by entry.
use Rattle.std.proofs.Common.{◌≡◌, ℕ, ◌+◌, [], ◌++◌, filter_map, Option, sym, ap, ◌∙◌, arith}
use Rattle.std.specs.List.{range_with_len, cons_option}
use Rattle.std.proofs.lemmas.List.Elements.{filter_map-append}
use Rattle.crush.proofs.Rounds.{range-more}

-- what is listed of one number more
pub more : {X : Type 0} (h : ℕ → Option X) (n : ℕ) → filter_map h (range_with_len 0 (n + 1)) ≡ filter_map h (range_with_len 0 n) ++ cons_option (h n) []
more h n =
    let e : 0 + n ≡ n = omega arith in
    ap (filter_map h) (sym (range-more 0 n)) ∙ filter_map-append h (range_with_len 0 n) _ ∙ ap (λ k. filter_map h (range_with_len 0 n) ++ cons_option (h k) []) e
