-- The changes of a lawful journal, written and read back.
use Rattle.std.proofs.Common.{◌≡◌, ◌∙◌, ℕ, zero, suc, ◌^◌, ◌<◌, true, List, [], ◌∷◌, map, length, None, refl, sym, ap, subst, arith}
use Rattle.std.specs.Prelude.{nat_le}
use Rattle.std.specs.List.{All}
use Rattle.std.proofs.lemmas.Bool.Decides.{nat_tests}
use Rattle.std.proofs.lemmas.List.Elements.{All-head, All-tail}
use Rattle.mapparts.specs.declared.profile.Profile.{Profile}
use Rattle.mapparts.specs.declared.profile.Profile.TheVariants.{Plain, Stock}
use Rattle.mapparts.specs.Profiles.{most_pools}
use Rattle.maptypes.specs.declared.change.ChangeParts.{ChangeParts}
use Rattle.maptypes.specs.declared.pg.Pg.{Pg}
use Rattle.maptypes.specs.Exceptions.{has_group}
use Rattle.maptypes.specs.Incrementals.{Step}
use Rattle.maptypes.specs.Ordered.{IsChange}
use Rattle.maptypes.specs.Pools.{PoolFacts, IsWithinLimits}
use Rattle.osdmap.specs.Maps.{ClusterMap, HoldsTogether}
use Rattle.osdmap.specs.Changes.{names_osds, weighs_rightly, pools_kept, pools_there, pools_after, names_pools, brings_new, brings_forest, leaves_few_groups, brings_rightly, names_groups, excepts_soundly, change_fault, apply, after, IsLawful}
use Rattle.maptypes.specs.Named.{all_named_groups, names_once}
use Rattle.osdmap.specs.PartsOf.{pg_part}
use Rattle.osdmap.proofs.Accepted.{accepted}
use Rattle.osdmap.proofs.Fitting.{few_numbers}
use Rattle.osdmap.proofs.Kept.{HoldsTogether-after}
use Rattle.mapjson.specs.Written.{IsNamed}
use Rattle.mapjson.specs.PartsOfChange.{change_parts}
use Rattle.mapjson.specs.WrittenChanges.{HasNamed, written_change}
use Rattle.mapjson.proofs.Named.{group_named}
use Rattle.map_laws.specs.Laws.{AreChanges}
use Rattle.map_laws.specs.ChangeLaws.{of_profile, IsTextOfChange, as_stock, IsJournalReadBack, JournalsAreReadBack}
use Rattle.map_laws.proofs.AcceptedFits.{pool_within, accepted_fits}
use Rattle.maptypes.proofs.NamedParts.{each_named}
use Rattle.map_laws.proofs.ChangeBack.{parts_named, written_change_back}

-- ---- one change

-- the text of a group that is there is read back
group_there_named : (pools : List PoolFacts) → All IsWithinLimits pools → (g : Pg) → has_group pools g ≡ true → IsNamed (pg_part g)
group_there_named pools within g there =
    group_named g (let pool = (pool_within pools g within there).1 in omega (arith, pool)) (few_numbers pools g within there)

module _ (m : ClusterMap) (step : Step) (holds : HoldsTogether m) (is : IsChange step.change) (lawful : change_fault m step.change ≡ None) where
  -- the pools after a change that is not refused are within their limits
  pools_next : All IsWithinLimits (pools_after m step.change)
  unfolding apply
  pools_next = (HoldsTogether-after m step lawful is holds).pools.within

  -- the groups that it names are read back
  accepted_named : (base : ℕ) → HasNamed (change_parts base step.change)
  unfolding names_groups
  accepted_named base =
      let there = group_there_named (pools_after m step.change) pools_next in
      parts_named base step.change (each_named (has_group (pools_after m step.change)) (λ g. IsNamed (pg_part g)) step.change there (accepted m step.change lawful).groups)

  -- so is the change
  accepted_back : (base : ℕ) → base < 2 ^ 64 → IsTextOfChange (written_change base step.change) base (of_profile Stock step.change)
  accepted_back = written_change_back step.change is accepted_named Stock (accepted_fits m step.change holds is lawful)

-- the stock profile allows as many pools as any
most_allowed : (profile : Profile) (n : ℕ) → nat_le n (most_pools profile) ≡ true → nat_le n (most_pools Stock) ≡ true
most_allowed Plain n few = grind (arith, nat_tests, few)
most_allowed Stock n few = few

-- a change that is accepted is so of the stock profile
stock_accepted : (m : ClusterMap) (c : ChangeParts) → change_fault m c ≡ None → change_fault m (of_profile Stock c) ≡ None
unfolding names_osds weighs_rightly pools_kept pools_there pools_after names_pools brings_new brings_forest leaves_few_groups brings_rightly names_groups excepts_soundly names_once all_named_groups
stock_accepted m c lawful =
    let ok = accepted m c lawful in
    let few : nat_le (length (pools_there m c)) (most_pools c.profile) ≡ true = grind (arith, ok.rightly) in
    let most = most_allowed c.profile (length (pools_there m c)) few in
    let rightly : brings_rightly m (of_profile Stock c) ≡ true = grind (arith, ok.rightly, most) in
    rw (ok.osds, ok.weights, ok.pools, ok.new, ok.forest, rightly, ok.groups, ok.sound, ok.once) refl

-- and leads to the same map
stock_applied : (m : ClusterMap) (step : Step) → apply m (as_stock step) ≡ apply m step
unfolding apply pools_kept pools_there pools_after
stock_applied m step = refl

-- ---- a journal

-- a lawful journal of a map that holds together is read back, step by step
journal_back : (m : ClusterMap) (journal : List Step) → HoldsTogether m → AreChanges journal → IsLawful m journal → IsJournalReadBack m journal
unfolding IsLawful
journal_back m [] holds are lawful = record { each = λ k d inside. absurd (omega (arith, inside)); lawful = lawful; leads = refl }
journal_back m (step ∷ steps) holds are lawful =
    let is = All-head (λ s. IsChange s.change) step steps are in
    let rest = journal_back (apply m step) steps (HoldsTogether-after m step lawful.1 is holds) (All-tail (λ s. IsChange s.change) step steps are) lawful.2 in
    let applied = stock_applied m step in
    record {
      each = all_with step steps (accepted_back m step holds is lawful.1) rest.each;
      lawful = (lawful.0, stock_accepted m step.change lawful.1, subst (λ n. IsLawful n (map as_stock steps)) (sym applied) rest.lawful);
      leads = ap (λ n. after n (map as_stock steps)) applied ∙ rest.leads;
    }
  where
    all_with : (s : Step) (ss : List Step) → ((base : ℕ) → base < 2 ^ 64 → IsTextOfChange (written_change base s.change) base (as_stock s).change)
        → All (λ t. (base : ℕ) → base < 2 ^ 64 → IsTextOfChange (written_change base t.change) base (as_stock t).change) ss
        → All (λ t. (base : ℕ) → base < 2 ^ 64 → IsTextOfChange (written_change base t.change) base (as_stock t).change) (s ∷ ss)
    all_with s ss one others zero d inside = one
    all_with s ss one others (suc k) d inside = others k d (omega arith)

-- so each lawful journal is
pub journals_are_read_back : JournalsAreReadBack
journals_are_read_back m journal holds are lawful = journal_back m journal holds are lawful
