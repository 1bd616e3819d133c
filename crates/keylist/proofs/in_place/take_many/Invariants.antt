use Rattle.std.proofs.Common.{◌≡◌, vec_len, vec_capacity}
use Rattle.keylist.proofs.Walking.{staying}
use Rattle.keylist.proofs.Keeping.{Keeping}
use Rattle.keylist.proofs.in_place.take_many.Given as goal

-- those that stay stand in front, the rest of the list is as it was
abbrev pub invariant-loop-at : goal.invariant-loop-at
invariant-loop-at g l = record {
  keeping : Keeping g.K.Keyed.key_of g.G.Keyed.key_of (staying g.G.Keyed.key_of g.K.Keyed.key_of l.fn.gone l.fn.list.items) l.list.items l.rest l.kept l.at;
  long : vec_len l.list ≡ vec_len l.fn.list;
  room : vec_capacity l.list ≡ vec_capacity l.fn.list;
}
