use Rattle.std.proofs.Common.{◌≤◌, ◌/◌, ◌%◌, [], ◌∷◌, ◌++◌, false, ap, sym, ◌∙◌, arith}
use Rattle.std.proofs.lemmas.Bool.Decides.{nat_tests}
use Rattle.std.specs.Fmt.{digit_glyph}
use Rattle.std.specs.String.{string_bytes}
use Rattle.session.proofs.Pushed.{two_digits, on_ok, both_behind}
use Rattle.session.proofs.text.push_short.Goals as goal

pub returns : goal.returns
returns c =
    let high : 10 ≤ c.args.number = grind (arith, nat_tests, c.if-number-lt10.false) in
    let tens = digit_glyph false (c.args.number / 10) ∷ [] in
    let ones = digit_glyph false (c.args.number % 10) ∷ [] in
    on_ok _ _ c.push_digit-3.result
    (λ last. both_behind (string_bytes c.args.text.now) (string_bytes c.push_digit-2.new.text) (string_bytes c.push_digit-3.new.text) tens ones c.in_ok-push_digit.ensures last
    ∙ ap (λ ds. string_bytes c.args.text.now ++ ds) (sym (two_digits c.args.number high c.requires)))
    c.push_digit-3.ensures
