-- Twenty places in a row, of which the first few are a list.
use Rattle.std.specs.Prelude.{◌≡◌, ℕ, ◌-◌, ◌≤◌, List, length, drop, replicate}

-- the first `len` of twenty places are the list, and behind them each place is blank
pub record IsFilled {T : Type 0} (blank : T) (len : ℕ) (places : List T) : Type 0 where
  pub few : len ≤ 20
  pub twenty : length places ≡ 20
  pub none_behind : drop len places ≡ replicate (20 - len) blank
