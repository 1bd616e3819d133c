use Rattle.std.proofs.Common.{◌≤◌, ◌/◌, ◌%◌, [], ◌∷◌, ◌++◌, false, ap, sym, ◌∙◌, arith}
use Rattle.std.proofs.lemmas.Bool.Decides.{nat_tests}
use Rattle.std.specs.Fmt.{digits, digit_glyph}
use Rattle.std.specs.String.{string_bytes}
use Rattle.session.proofs.Pushed.{sixteenths, on_ok, both_behind}
use Rattle.session.proofs.text.+push_hexadecimal.Goals as goal

pub returns : goal.returns
returns t c =
    let high : 16 ≤ c.args.number = grind (arith, nat_tests, c.if-number-lt16.false) in
    let front = digits 16 false (c.args.number / 16) in
    let last_one = digit_glyph false (c.args.number % 16) ∷ [] in
    on_ok _ _ c.push_digit-2.result
    (λ last. both_behind (string_bytes c.args.text.now) (string_bytes c.push_hexadecimal.new.text) (string_bytes c.push_digit-2.new.text) front last_one c.in_ok-push_hexadecimal.ensures last
    ∙ ap (λ ds. string_bytes c.args.text.now ++ ds) (sym (sixteenths c.args.number c.ranges.number.fits high)))
    c.push_digit-2.ensures
