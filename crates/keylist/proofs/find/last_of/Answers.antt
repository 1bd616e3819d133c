use Rattle.std.proofs.Common.{rules, leb, sym, ◌∙◌, Some, None, eq-eqb}
use Rattle.std.proofs.lemmas.Bool.{ne_eqb}
use Rattle.std.proofs.lemmas.List.Sorted.{IsPartitionPoint-from_clause, IsPartitionedBy-leb}
use Rattle.keylist.proofs.KeyedFinds.{last-sought, last-shown}
use Rattle.keylist.proofs.find.last_of.Goals as goal
use Rattle.keylist.proofs.find.last_of.Goals.{in_default-via-in-Some+else-key, in_default-via-in_default}

pub returns-in-Some : goal.returns-in-Some
returns-in-Some g c =
    let key = g.K.Keyed.key_of in
    let end = c.partition_point-end.result in
    let parted = IsPartitionedBy-leb key c.args.entries.now c.args.key c.requires in
    let point = IsPartitionPoint-from_clause (λ y. leb (key y) c.args.key) _ _ c.partition_point-end.ensures.partitioned parted (λ a r q k. search rules) in
    let found = last-sought key c.args.entries.now c.args.key end c.partition_point-end.ensures.bound point c.requires in
    let shown = last-shown key c.args.entries.now c.args.key (Some c.in-Some.entry.now) end c.in-Some.ensures.value found in
    rw (eq-eqb _ _ (sym c.key.ensures ∙ c.if-key.true)) at shown

pub returns-in_default : goal.returns-in_default
returns-in_default g c =
    let key = g.K.Keyed.key_of in
    let end = c.partition_point-end.result in
    let parted = IsPartitionedBy-leb key c.args.entries.now c.args.key c.requires in
    let point = IsPartitionPoint-from_clause (λ y. leb (key y) c.args.key) _ _ c.partition_point-end.ensures.partitioned parted (λ a r q k. search rules) in
    let found = last-sought key c.args.entries.now c.args.key end c.partition_point-end.ensures.bound point c.requires in
    elim c.in_default.branch [
      | in_default-via-in-Some+else-key w ↦
          let shown = last-shown key c.args.entries.now c.args.key (Some w.in-Some.entry.now) end w.in-Some.ensures.value found in
          rw (ne_eqb _ _ (λ e. w.if-key.false (w.key.ensures ∙ e))) at shown
      | in_default-via-in_default w ↦ last-shown key c.args.entries.now c.args.key None end w.in_default.ensures.value found
    ]
