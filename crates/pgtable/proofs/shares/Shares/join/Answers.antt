use Rattle.std.proofs.Common.{◌≡◌, ◌∙◌, ◌<◌, sym, ap, refl, length, slice_index_or, Some, IsSome, arith}
use Rattle.std.proofs.lemmas.List.{get_or_default, get_or-set_other}
use Rattle.std.proofs.Math.Seq.{map-set_same}
use Rattle.pgtable.specs.declared.rooms.Room.{Room}
use Rattle.pgtable.specs.After.{map_after}
use Rattle.pgtable.specs.Patches.{with_sets}
use Rattle.pgtable.specs.Shares.{share_of}
use Rattle.pgtable.proofs.Parting.{some_at, one_more}
use Rattle.pgtable.proofs.Sharing.{next_share}
use Rattle.pgtable.proofs.shares.Shares.join.Goals as goal

pub returns-in_default-clause-works : goal.returns-in_default-clause-works
returns-in_default-clause-works c =
    map-set_same (λ (r : Room). r.work) c.loop-i.rooms c.loop-i.i c.take_share.new.room c.index-rooms-i.result c.take_share.ensures.work ∙ c.loop-i.invariant.works

pub returns-in_err-append-clause-works : goal.returns-in_err-append-clause-works
returns-in_err-append-clause-works c =
    map-set_same (λ (r : Room). r.work) c.loop-i.rooms c.loop-i.i c.take_share.new.room c.index-rooms-i.result c.take_share.ensures.work ∙ c.loop-i.invariant.works

pub loop-i-preserved : goal.loop-i-preserved
loop-i-preserved c =
    let s = c.args.self.now in
    let m = map_after s.update.now in
    let i = c.loop-i.i in
    let d = c.index-rooms-i.result in
    let olds = c.args.rooms.now in
    let inside : i < length olds = c.loop-i-test.true in
    let here = c.loop-i.invariant.rest i d (omega arith) in
    let same : (slice_index_or olds i d).changes ≡ c.take_share.result = ap (λ (r : Room). r.changes) (sym here) ∙ sym c.take_share.ensures.share in
    let share = some_at (slice_index_or olds i d).changes c.take_share.result c.in-Some.share (λ v. v.items ≡ with_sets m s.pool.now (share_of i s.size s.numbers.now)) (c.requires i d inside) same c.in-Some.is in
    record {
      made = c.in_ok-append.ensures.items ∙ rw (c.loop-i.invariant.made, share) (next_share m s.pool.now i s.size s.numbers.now);
      all = λ k e less. one_more (λ j. (e : Room) → IsSome (slice_index_or olds j e).changes) i (λ j below e. c.loop-i.invariant.all j e below) (λ e.
          let read : (slice_index_or olds i e).changes ≡ Some c.in-Some.share = ap (λ (r : Room). r.changes) (sym (get_or_default olds i d e inside)) ∙ same ∙ c.in-Some.is in
          rw read refl) k less e;
      rest = λ k e past. get_or-set_other c.loop-i.rooms i k c.take_share.new.room e (λ at. omega (arith, past, at)) ∙ c.loop-i.invariant.rest k e (omega (arith, past));
      works = map-set_same (λ (r : Room). r.work) c.loop-i.rooms i c.take_share.new.room d c.take_share.ensures.work ∙ c.loop-i.invariant.works;
    }
