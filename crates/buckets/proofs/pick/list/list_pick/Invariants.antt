use Rattle.std.proofs.Common.{◌≡◌, ◌+◌, ◌*◌, take}
use Rattle.buckets.specs.Items.{weight_of}
use Rattle.buckets.specs.Listed.{wins_at, last_place, list_place}
use Rattle.buckets.proofs.pick.list.list_pick.Given as goal

abbrev pub invariant-loop-block : goal.invariant-loop-block
invariant-loop-block l = record {
  weighed : l.upto ≡ weight_of (take (l.head + 4 * l.block) l.items);
  rest : last_place (wins_at l.x l.id l.r l.items) (l.head + 4 * l.block) ≡ list_place l.x l.id l.r l.items;
}

abbrev pub invariant-loop-at : goal.invariant-loop-at
invariant-loop-at l = record {
  weighed : l.upto ≡ weight_of (take (l.from + l.at) l.items);
  rest : last_place (wins_at l.x l.id l.r l.items) (l.from + l.at) ≡ list_place l.x l.id l.r l.items;
}

abbrev pub invariant-loop-place : goal.invariant-loop-place
invariant-loop-place l = record {
  weighed : l.upto ≡ weight_of (take l.place l.items);
  rest : last_place (wins_at l.x l.id l.r l.items) l.place ≡ list_place l.x l.id l.r l.items;
}
