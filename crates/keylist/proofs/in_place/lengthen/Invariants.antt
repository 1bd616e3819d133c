use Rattle.std.proofs.Common.{◌≡◌, take, vec_len, vec_capacity}
use Rattle.keylist.proofs.in_place.lengthen.Given as goal

-- the front stays, and the list is as long as it was counted
abbrev pub invariant-loop : goal.invariant-loop
invariant-loop g l = record {
  front : take (vec_len l.fn.list) l.list.items ≡ l.fn.list.items;
  long : vec_len l.list ≡ l.counter;
  room : vec_capacity l.list ≡ vec_capacity l.fn.list;
}
