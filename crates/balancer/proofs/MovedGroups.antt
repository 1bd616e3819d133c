-- Which groups are moved, as it is stored.
use Rattle.std.proofs.Common.{◌≡◌, ◌∙◌, sym, ap, ℕ, ◌<◌, Bool, false, List, get_or, arith}
use Rattle.std.proofs.lemmas.List.{get_or_default}
use Rattle.balancer.specs.declared.moves.Move.{Move}
use Rattle.balancer.specs.Plans.{AreMoved, is_moved}

-- what is stored of a group tells whether some move moves it
pub known_moved : (moves got : List Move) (count n : ℕ) (moved : List Bool) (b : Bool) → got ≡ moves → AreMoved got count moved → n < count → b ≡ get_or moved n b → is_moved moves n ≡ b
known_moved moves got count n moved b same are below e =
    let long = are.all in
    ap (λ (ms : List Move). is_moved ms n) (sym same) ∙ sym (are.each n below) ∙ get_or_default moved n false b (omega arith) ∙ sym e
