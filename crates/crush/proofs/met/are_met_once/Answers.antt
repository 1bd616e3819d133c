use Rattle.std.proofs.Common.{◌≡◌, take, sym, arith}
use Rattle.std.proofs.lemmas.Grind.{common_steps}
use Rattle.buckets.specs.declared.bucket.Item.{Item}
use Rattle.crush.specs.WellFormed.{is_known}
use Rattle.crush.proofs.ItemMarks.{marks-none, items_known, once-twice, once-marked}
use Rattle.keylist.proofs.Each.{list_all-at}
use Rattle.crush.proofs.met.are_met_once.Goals as goal

pub loop-bucket-init : goal.loop-bucket-init
loop-bucket-init c = λ id known. marks-none c.args.buckets.now 8192 id

pub mark-requires-clause-known : goal.mark-requires-clause-known
mark-requires-clause-known c =
    rw c.deref.ensures (items_known c.args.buckets.now 4096 c.loop-bucket.bucket-index c.bucket-item.result c.loop-bucket-test.true c.bucket-item.is c.requires.known)

-- the item that was met before is known
pub returns-then-not-mark : goal.returns-then-not-mark
returns-then-not-mark c =
    let buckets = c.args.buckets.now in
    let bucket = c.bucket-item.result in
    let twice = rw c.deref.ensures at c.if-not-mark.ensures.twice in
    let all_known = items_known buckets 4096 c.loop-bucket.bucket-index bucket c.loop-bucket-test.true c.bucket-item.is c.requires.known in
    let known = rw twice.1.2 at (list_all-at (λ (i : Item). is_known buckets 4096 i.id) bucket.items twice.1.0 twice.0 twice.1.1 all_known) in
    sym (once-twice buckets c.loop-bucket.bucket-index bucket twice.0 c.loop-bucket-test.true c.bucket-item.is twice.1 (rw (c.loop-bucket.invariant twice.0.id known) at twice.2))

pub returns : goal.returns
returns c =
    let whole : take c.loop-bucket.bucket-index c.args.buckets.now ≡ c.args.buckets.now = grind (arith, common_steps) in
    sym (once-marked c.args.buckets.now c.loop-bucket.seen c.requires.known (λ id known. rw whole at (c.loop-bucket.invariant id known)))
