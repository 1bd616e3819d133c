-- What a write guard holds once the borrow of its value ends.
use Rattle.std.specs.Prelude.{[]}
use Rattle.std.specs.Borrow.{Fml, MutBor, follows}
use mir.Syntax.{named}
use denote.RattleType.{RattleType}
use Rattle.ticketlock.specs.declared.fact.Fact as fact
use Rattle.ticketlock.specs.declared.write_guard.WriteGuard.{WriteGuard}
use Rattle.ticketlock.specs.contracts.write_guard.WriteGuard as guard

module _ (T : RattleType) (f : fact.Ghosts T.Denot) where
  -- the guard ends with the last value written through r. Its lifetime is the second of the signature
  abbrev pub LendsValue : MutBor (WriteGuard T.Denot) → MutBor T.Denot → Fml
  LendsValue s r = follows (guard.the_row (record { mir = named 1; lft = [] }) T f) T s.ghost_name r.ghost_name
      (λ w. record s.now { value = w })
