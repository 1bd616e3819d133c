use Rattle.std.proofs.Common.{◌≡◌, ◌∙◌, ◌+◌, ◌-◌, ◌<◌, ℕ, ap, length, get_or, map, take, arith}
use Rattle.std.proofs.lemmas.List.{take_all}
use Rattle.maptypes.specs.Pools.{total_groups}
use Rattle.pgtable.specs.declared.rooms.Room.{Room}
use Rattle.pgtable.specs.Stretches.{first_of}
use Rattle.pgtable.specs.Tables.{RunsMore, pool_table}
use Rattle.pgtable.proofs.Parting.{on_ok, if_ok, rooms_ran}
use Rattle.pgtable.proofs.Stretching.{first_past, groups_before, groups_none, groups_rise, stretch_ran}
use Rattle.pgtable.proofs.stretches.Stretches.tables.Goals as goal

pub returns-clause-tables : goal.returns-clause-tables
returns-clause-tables g c =
    let s = c.args.self.now in
    let m = s.map.now.map in
    let ps = s.pools.now in
    let same : length c.place_all.new.rooms ≡ length c.args.rooms.now = c.place_all.auto.rooms in
    let all : first_of (length c.place_all.new.rooms) s.size ps ≡ length ps = ap (λ n. first_of n s.size ps) same ∙ first_past (length c.args.rooms.now) s.size ps c.requires.few c.requires.size in
    if_ok c.join-tables.result (λ v. v.items ≡ map (pool_table m) (take (first_of (length c.place_all.new.rooms) s.size ps) ps)) (λ v. v.items ≡ map (pool_table m) ps) c.join-tables.ensures.tables (λ v is.
    is ∙ ap (map (pool_table m)) (ap (λ n. take n ps) all ∙ take_all (length ps) ps (omega arith)))

pub returns-clause-runs : goal.returns-clause-runs
returns-clause-runs g c =
    let s = c.args.self.now in
    let m = s.map.now.map in
    let ps = s.pools.now in
    let olds = c.args.rooms.now in
    let news = c.place_all.new.rooms in
    on_ok c.join-tables.result _ _ c.join-tables.ensures.all (λ all.
    let same : length news ≡ length olds = c.place_all.auto.rooms in
    let upto = groups_before s.size ps in
    let each : (k i : ℕ) (d : Room) → k < length olds → i ≡ 0 + k → RunsMore (upto (i + 1) - upto i) (get_or olds k d).work (get_or news k d).work = λ k i d inside at.
    let here : i ≡ k = omega (arith, at) in
    rw here (stretch_ran (λ v. v.items) m k s.size ps (get_or olds k d).work (get_or news k d).work (get_or news k d).tables (all k d (omega (arith, same, inside))) (c.place_all.ensures k d inside)) in
    let sum = rooms_ran upto (groups_rise s.size ps) 0 olds news same each (length olds) (omega arith) in
    let whole : first_of (length olds) s.size ps ≡ length ps = first_past (length olds) s.size ps c.requires.few c.requires.size in
    let total : groups_before s.size ps (length olds) ≡ total_groups ps = ap (λ n. total_groups (take n ps)) whole ∙ ap total_groups (take_all (length ps) ps (omega arith)) in
    rw (c.forget.ensures, c.join-tables.ensures.works) (omega (arith, sum, total, groups_none s.size ps)))
