use Rattle.std.proofs.Common.{SFits, w32, ◌∙◌, rules}
use Rattle.std.proofs.lemmas.Int.{to_z-of_z}
use Rattle.buckets.specs.Items.{item_at}
use Rattle.buckets.proofs.TreeWalks.{picked_at}
use Rattle.buckets.proofs.bucket.Bucket.pick.Goals as goal

pub returns : goal.returns
returns c =
    let item = item_at c.deref.result.now c.place.result in
    let fits : SFits w32 item.id = search rules in
    to_z-of_z w32 item.id fits ∙ picked_at c.args.self.now c.args.x c.args.r c.place.result c.deref.result.now c.deref.ensures c.place.ensures.place
