use Rattle.std.proofs.Common.{◌≡◌, ◌∙◌, refl, nat_abs, rules, arith}
use Rattle.std.proofs.lemmas.Int.{to_z-of_z}
use mir.Syntax.{w128}
use mir.Val.{SFits}
use Rattle.maptypes.proofs.Judged.{stops}
use Rattle.mapparts.proofs.Within.{word_between}
use Rattle.osdmap.specs.Stored.{StoredMap}
use Rattle.osdmap.specs.Stated.{map_fault, IsStated}
use Rattle.osdmap.specs.Built.{without_exceptions}
use Rattle.osdmap.proofs.Built.{IsBuilt, parts_fit_each, some_osds, few_osds, fault_crush, fault_pool, fault_osd, no_fault, is_stated, holds}
use Rattle.osdmap.proofs.Excepted.{bare_fits, bare_exceptions}
use Rattle.osdmap.proofs.map.OsdMap.without_exceptions.Goals as goal

pub word-max_osd-requires : goal.word-max_osd-requires
word-max_osd-requires c =
    let fits : SFits w128 c.args.parts.now.max_osd = search rules in
    let each = parts_fit_each c.args.parts.now c.requires in
    rw to_z-of_z (word_between 1 4096 c.args.parts.now.max_osd (omega arith) each.max_osd)

pub of_parts-requires-clause-buckets_fit : goal.of_parts-requires-clause-buckets_fit
of_parts-requires-clause-buckets_fit c =
    let each = parts_fit_each c.args.parts.now c.requires in
    rw c.deref.ensures each.buckets

pub of_parts-requires-clause-bucket_count : goal.of_parts-requires-clause-bucket_count
of_parts-requires-clause-bucket_count c =
    let each = parts_fit_each c.args.parts.now c.requires in
    rw c.deref.ensures each.count

pub of_parts-requires-clause-rules_fit : goal.of_parts-requires-clause-rules_fit
of_parts-requires-clause-rules_fit c =
    let each = parts_fit_each c.args.parts.now c.requires in
    rw c.deref-2.ensures each.rules

pub of_parts-requires-clause-rule_count : goal.of_parts-requires-clause-rule_count
of_parts-requires-clause-rule_count c =
    let each = parts_fit_each c.args.parts.now c.requires in
    rw c.deref-2.ensures each.rule_count

pub of_parts-requires-clause-some : goal.of_parts-requires-clause-some
of_parts-requires-clause-some c =
    let fits : SFits w128 c.args.parts.now.max_osd = search rules in
    let each = parts_fit_each c.args.parts.now c.requires in
    let max_osd : c.word-max_osd.result ≡ nat_abs c.args.parts.now.max_osd = rw to_z-of_z at c.word-max_osd.ensures in
    rw max_osd (some_osds c.args.parts.now each)

pub of_parts-requires-clause-few : goal.of_parts-requires-clause-few
of_parts-requires-clause-few c =
    let fits : SFits w128 c.args.parts.now.max_osd = search rules in
    let each = parts_fit_each c.args.parts.now c.requires in
    let max_osd : c.word-max_osd.result ≡ nat_abs c.args.parts.now.max_osd = rw to_z-of_z at c.word-max_osd.ensures in
    rw max_osd (few_osds c.args.parts.now each)

pub pools_of-requires : goal.pools_of-requires
pools_of-requires c =
    let each = parts_fit_each c.args.parts.now c.requires in
    rw c.deref-3.ensures each.pools

pub osds_of-requires : goal.osds_of-requires
osds_of-requires c =
    let each = parts_fit_each c.args.parts.now c.requires in
    rw c.deref-4.ensures each.osds

pub word-requires : goal.word-requires
word-requires c =
    let fits : SFits w128 c.args.parts.now.epoch = search rules in
    let each = parts_fit_each c.args.parts.now c.requires in
    rw to_z-of_z (word_between 1 2147483648 c.args.parts.now.epoch (omega arith) each.epoch)

pub returns-in_err-crush : goal.returns-in_err-crush
returns-in_err-crush c =
    let limits = bare_fits c.args.parts.now c.requires in
    let fits : SFits w128 c.args.parts.now.max_osd = search rules in
    let max_osd : c.word-max_osd.result ≡ nat_abs c.args.parts.now.max_osd = rw to_z-of_z at c.word-max_osd.ensures in
    let e = c.in_err-crush.field-0.0 in
    let found = rw (c.deref.ensures, c.deref-2.ensures, max_osd) at c.in_err-crush.ensures in
    stops c.from_residual.result (λ (m : StoredMap). IsStated (without_exceptions c.args.parts.now) m.map) (map_fault (without_exceptions c.args.parts.now)) _ e (fault_crush (without_exceptions c.args.parts.now) e limits) found c.from_residual.ensures.1

pub returns-in_err-pools : goal.returns-in_err-pools
returns-in_err-pools c =
    let limits = bare_fits c.args.parts.now c.requires in
    let fits : SFits w128 c.args.parts.now.max_osd = search rules in
    let max_osd : c.word-max_osd.result ≡ nat_abs c.args.parts.now.max_osd = rw to_z-of_z at c.word-max_osd.ensures in
    let grown = rw (c.deref.ensures, c.deref-2.ensures, max_osd) at c.in_ok-crush.ensures.0 in
    let stated = rw (c.deref.ensures, c.deref-2.ensures) at c.in_ok-crush.ensures.1 in
    let rising = rw (← c.rules.ensures.value) at stated.rules in
    let e = c.in_err-pools.field-0.0 in
    let found = rw c.deref-3.ensures at c.in_err-pools.ensures in
    stops c.from_residual-in_err-pools.result (λ (m : StoredMap). IsStated (without_exceptions c.args.parts.now) m.map) (map_fault (without_exceptions c.args.parts.now)) _ e (fault_pool (without_exceptions c.args.parts.now) c.rules.result.now e limits grown rising) found c.from_residual-in_err-pools.ensures.1

pub returns-in_err-osds : goal.returns-in_err-osds
returns-in_err-osds c =
    let limits = bare_fits c.args.parts.now c.requires in
    let fits : SFits w128 c.args.parts.now.max_osd = search rules in
    let max_osd : c.word-max_osd.result ≡ nat_abs c.args.parts.now.max_osd = rw to_z-of_z at c.word-max_osd.ensures in
    let grown = rw (c.deref.ensures, c.deref-2.ensures, max_osd) at c.in_ok-crush.ensures.0 in
    let stated = rw (c.deref.ensures, c.deref-2.ensures) at c.in_ok-crush.ensures.1 in
    let rising = rw (← c.rules.ensures.value) at stated.rules in
    let served = rw c.deref-3.ensures at c.in_ok-pools.ensures.0 in
    let e = c.in_err-osds.field-0.0 in
    let found = rw (c.deref-4.ensures, max_osd) at c.in_err-osds.ensures in
    stops c.from_residual-in_err-osds.result (λ (m : StoredMap). IsStated (without_exceptions c.args.parts.now) m.map) (map_fault (without_exceptions c.args.parts.now)) _ e (fault_osd (without_exceptions c.args.parts.now) c.rules.result.now e limits grown rising served) found c.from_residual-in_err-osds.ensures.1

pub invariant_of-result : goal.invariant_of-result
invariant_of-result c =
    let limits = bare_fits c.args.parts.now c.requires in
    let fits : SFits w128 c.args.parts.now.max_osd = search rules in
    let max_osd : c.word-max_osd.result ≡ nat_abs c.args.parts.now.max_osd = rw to_z-of_z at c.word-max_osd.ensures in
    let grown = rw (c.deref.ensures, c.deref-2.ensures, max_osd) at c.in_ok-crush.ensures.0 in
    let stated = rw (c.deref.ensures, c.deref-2.ensures) at c.in_ok-crush.ensures.1 in
    let rules = c.rules.ensures.value in
    let served = rw (c.deref-3.ensures, rules) at c.in_ok-pools.ensures.0 in
    let pools = rw c.deref-3.ensures at c.in_ok-pools.ensures.1 in
    let entered = rw (c.deref-4.ensures, max_osd) at c.in_ok-osds.ensures.0 in
    let osds = rw (c.deref-4.ensures, max_osd) at c.in_ok-osds.ensures.1 in
    let epoch_fits : SFits w128 c.args.parts.now.epoch = search rules in
    let epoch : c.word.result ≡ nat_abs c.args.parts.now.epoch = rw to_z-of_z at c.word.ensures in
    let built : IsBuilt (without_exceptions c.args.parts.now) _ = record {
      limits = limits;
      epoch = c.from.ensures ∙ epoch;
      grown = grown;
      crush = c.rules.ensures.lawful;
      stated = stated;
      served = served;
      pools = pools;
      entered = entered;
      presences = osds.0;
      weights = osds.1;
      explicit = c.new.ensures.items;
      items = c.new-2.ensures.items;
    } in
    holds (without_exceptions c.args.parts.now) _ built

pub returns : goal.returns
returns c =
    let limits = bare_fits c.args.parts.now c.requires in
    let fits : SFits w128 c.args.parts.now.max_osd = search rules in
    let max_osd : c.word-max_osd.result ≡ nat_abs c.args.parts.now.max_osd = rw to_z-of_z at c.word-max_osd.ensures in
    let grown = rw (c.deref.ensures, c.deref-2.ensures, max_osd) at c.in_ok-crush.ensures.0 in
    let stated = rw (c.deref.ensures, c.deref-2.ensures) at c.in_ok-crush.ensures.1 in
    let rules = c.rules.ensures.value in
    let served = rw (c.deref-3.ensures, rules) at c.in_ok-pools.ensures.0 in
    let pools = rw c.deref-3.ensures at c.in_ok-pools.ensures.1 in
    let entered = rw (c.deref-4.ensures, max_osd) at c.in_ok-osds.ensures.0 in
    let osds = rw (c.deref-4.ensures, max_osd) at c.in_ok-osds.ensures.1 in
    let epoch_fits : SFits w128 c.args.parts.now.epoch = search rules in
    let epoch : c.word.result ≡ nat_abs c.args.parts.now.epoch = rw to_z-of_z at c.word.ensures in
    let built : IsBuilt (without_exceptions c.args.parts.now) _ = record {
      limits = limits;
      epoch = c.from.ensures ∙ epoch;
      grown = grown;
      crush = c.rules.ensures.lawful;
      stated = stated;
      served = served;
      pools = pools;
      entered = entered;
      presences = osds.0;
      weights = osds.1;
      explicit = c.new.ensures.items;
      items = c.new-2.ensures.items;
    } in
    (no_fault (without_exceptions c.args.parts.now) _ built (bare_exceptions c.args.parts.now), is_stated (without_exceptions c.args.parts.now) _ built refl refl)
