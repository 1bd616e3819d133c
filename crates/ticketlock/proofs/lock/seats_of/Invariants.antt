use Rattle.std.proofs.Common.{◌≡◌, ◌-◌, ◌+◌, All, vec_len}
use Rattle.ticketlock.specs.Places.{spared, unseeing}
use Rattle.ticketlock.specs.Standing.{IsAt, sight_of}
use Rattle.ticketlock.specs.Callers.{IsNewAt}
use Rattle.ticketlock.proofs.lock.seats_of.Given as goal

abbrev pub invariant-loop-i : goal.invariant-loop-i
invariant-loop-i l = record {
  own : IsAt l.words l.place;
  sight : sight_of l.place ≡ unseeing (spared (l.count - l._i));
  many : vec_len l.seats + 1 ≡ l._i;
  fresh : All (IsNewAt l.words) l.seats.items;
}
