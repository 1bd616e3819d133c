use Rattle.std.proofs.Common.{◌≡◌, take, drop, length}
use Rattle.std.specs.List.{fold}
use Rattle.keylist.specs.Order.{IsRising}
use Rattle.keylist.specs.Puts.{put}
use Rattle.keylist.proofs.replace.replace_all.Given as goal

-- the first of the list with those that are left to be put are as the whole makes them, and no key is still to come
abbrev pub invariant-loop-entry : goal.invariant-loop-entry
invariant-loop-entry g l = record {
  rising : IsRising g.K.Keyed.key_of (take l.first l.list);
  made : fold (put g.K.Keyed.key_of) (take l.first l.list) (drop l.entry-index l.new) ≡ fold (put g.K.Keyed.key_of) (take l.first l.initial.list) l.new;
  back : drop l.first l.list ≡ drop l.first l.initial.list;
}
