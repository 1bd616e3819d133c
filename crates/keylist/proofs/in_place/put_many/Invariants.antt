use Rattle.std.proofs.Common.{◌≡◌, ◌+◌, length, vec_capacity}
use Rattle.std.specs.List.{fold}
use Rattle.keylist.specs.Puts.{put}
use Rattle.keylist.proofs.Merging.{Merging}
use Rattle.keylist.proofs.in_place.put_many.Given as goal

-- what is in front and what is left to be put make, with what stands behind, all of it
abbrev pub invariant-loop-olds : goal.invariant-loop-olds
invariant-loop-olds g l = record {
  merging : Merging g.K.Keyed.key_of (fold (put g.K.Keyed.key_of) l.fn.list.items l.fn.new) l.list.items l.olds l.at l.news;
  room : vec_capacity l.list ≡ vec_capacity l.fn.list;
}

abbrev pub decreases-loop-olds : goal.decreases-loop-olds
decreases-loop-olds g l = l.olds + length l.news
