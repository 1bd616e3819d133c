-- The guard that is left differs from the old one, with another value, in the proofs of its facts alone.
use Rattle.std.proofs.Common.{◌≡◌, refl}
use Rattle.std.proofs.Math.Bridge.{le_prop}
use mathlib.Core.List.{is_set}
use native.Mathlib.Nat.{ℕ_set}
use Rattle.atomic_table.specs.Seated.{TableId}
use Rattle.ticketlock.specs.declared.write_guard.WriteGuard.{WriteGuard}
use Rattle.ticketlock.specs.Standing.{IsAt}
use Rattle.ticketlock.proofs.write_guard.WriteGuard.value_mut.Goals as goal

-- two proofs that two tables are one are one
table_set : IsSet TableId
table_set = hlevel (ℕ_set, is_set)

-- two guards of the same fields are one
same : {T : Type 0} (a : WriteGuard T) (w : T) (p : a.home.right ≡ 2) (q : IsAt a.words.now a.turn.place)
    → ◌≡◌ {A = WriteGuard T} (record { words = a.words; turn = a.turn; home = a.home; value = w; writes = p; own = q }) (record a { value = w })
same a w p q i = record { words = a.words; turn = a.turn; home = a.home; value = w; writes = ℕ_set _ _ p a.writes i; own = (table_set _ _ q.0 a.own.0 i, le_prop q.1 a.own.1 i) }

pub returns : goal.returns
returns g c = ((refl, λ w. same c.args.self.now w _ _), record { writes_back = tt; value = refl })
