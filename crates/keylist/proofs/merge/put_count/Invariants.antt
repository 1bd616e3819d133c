use Rattle.std.proofs.Common.{◌≡◌, take, length}
use Rattle.std.specs.List.{fold}
use Rattle.keylist.specs.Puts.{put}
use Rattle.keylist.proofs.merge.put_count.Given as goal

-- so many there are with those before the place
abbrev pub invariant-loop-at : goal.invariant-loop-at
invariant-loop-at g l = l.count ≡ length (fold (put g.K.Keyed.key_of) l.old (take l.at l.new))
