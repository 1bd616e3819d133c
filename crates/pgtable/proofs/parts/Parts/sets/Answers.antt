use Rattle.std.proofs.Common.{◌≡◌, ◌∙◌, ◌+◌, ◌<◌, ℕ, refl, length, get_or, arith}
use Rattle.pgtable.specs.Rooms.{len_of, start_of, parts_before}
use Rattle.pgtable.specs.Tables.{RunsMore, pool_table}
use Rattle.pgtable.specs.declared.rooms.Room.{Room}
use Rattle.pgtable.proofs.Parting.{on_ok, if_ok, part_ran, parts_ran}
use Rattle.pgtable.proofs.parts.Parts.sets.Goals as goal

pub returns-clause-sets : goal.returns-clause-sets
returns-clause-sets g c =
    let s = c.args.self.now in
    let m = s.placing.now.map.now.map in
    let p = s.placing.now.pool in
    if_ok c.join-sets.result (λ sets. sets ≡ parts_before m p (length c.place_all.new.rooms) s.size) (λ sets. sets ≡ (pool_table m p).groups) c.join-sets.ensures.sets (λ sets is.
    let same : length c.place_all.new.rooms ≡ length c.args.rooms.now = c.place_all.auto.rooms in
    let all : start_of (length c.args.rooms.now) s.size p.pg_num ≡ p.pg_num = omega (arith, c.requires.size) in
    is ∙ rw (same, all) refl)

pub returns-clause-runs : goal.returns-clause-runs
returns-clause-runs g c =
    let s = c.args.self.now in
    let m = s.placing.now.map.now.map in
    let p = s.placing.now.pool in
    let olds = c.args.rooms.now in
    let news = c.place_all.new.rooms in
    on_ok c.join-sets.result _ _ c.join-sets.ensures.all (λ all.
    let same : length news ≡ length olds = c.place_all.auto.rooms in
    let each : (k i : ℕ) (d : Room) → k < length olds → i ≡ 0 + k → RunsMore (len_of i s.size p.pg_num) (get_or olds k d).work (get_or news k d).work = λ k i d inside at.
    let here : i ≡ k = omega (arith, at) in
    rw here (part_ran (λ made. made) m p k s.size (get_or olds k d).work (get_or news k d).work (get_or news k d).made (all k d (omega (arith, same, inside))) (c.place_all.ensures k d inside)) in
    let sum = parts_ran s.size p.pg_num 0 olds news same each (length olds) (omega arith) in
    let whole : start_of (length olds) s.size p.pg_num ≡ p.pg_num = omega (arith, c.requires.size) in
    rw c.forget.ensures (omega (arith, sum, whole)))
