use Rattle.std.proofs.Common.{◌≡◌, ◌∙◌, ◌+◌, ◌<◌, ℕ, ap, length, get_or, take, arith}
use Rattle.std.proofs.lemmas.List.{take_all}
use Rattle.pgtable.specs.declared.rooms.Room.{Room}
use Rattle.pgtable.specs.After.{map_after}
use Rattle.pgtable.specs.Patches.{with_sets}
use Rattle.pgtable.specs.Rooms.{len_of, start_of}
use Rattle.pgtable.specs.Tables.{RunsMore}
use Rattle.pgtable.proofs.Parting.{on_ok, if_ok, parts_ran}
use Rattle.pgtable.proofs.Sharing.{share_ran}
use Rattle.pgtable.proofs.shares.Shares.changes.Goals as goal

pub returns-clause-changes : goal.returns-clause-changes
returns-clause-changes g c =
    let s = c.args.self.now in
    let m = map_after s.update.now in
    let numbers = s.numbers.now in
    let same : length c.place_all.new.rooms ≡ length c.args.rooms.now = c.place_all.auto.rooms in
    let whole : start_of (length c.args.rooms.now) s.size (length numbers) ≡ length numbers = omega (arith, c.requires.size) in
    let all : start_of (length c.place_all.new.rooms) s.size (length numbers) ≡ length numbers = ap (λ n. start_of n s.size (length numbers)) same ∙ whole in
    if_ok c.join-changes.result (λ v. v.items ≡ with_sets m s.pool.now (take (start_of (length c.place_all.new.rooms) s.size (length numbers)) numbers)) (λ v. v.items ≡ with_sets m s.pool.now numbers) c.join-changes.ensures.changes (λ v is.
    is ∙ ap (with_sets m s.pool.now) (ap (λ n. take n numbers) all ∙ take_all (length numbers) numbers (omega arith)))

pub returns-clause-runs : goal.returns-clause-runs
returns-clause-runs g c =
    let s = c.args.self.now in
    let m = map_after s.update.now in
    let numbers = s.numbers.now in
    let olds = c.args.rooms.now in
    let news = c.place_all.new.rooms in
    on_ok c.join-changes.result _ _ c.join-changes.ensures.all (λ all.
    let same : length news ≡ length olds = c.place_all.auto.rooms in
    let each : (k i : ℕ) (d : Room) → k < length olds → i ≡ 0 + k → RunsMore (len_of i s.size (length numbers)) (get_or olds k d).work (get_or news k d).work = λ k i d inside at.
    let here : i ≡ k = omega (arith, at) in
    rw here (share_ran (λ v. v.items) m s.pool.now k s.size numbers (get_or olds k d).work (get_or news k d).work (get_or news k d).changes (all k d (omega (arith, same, inside))) (c.place_all.ensures k d inside)) in
    let sum = parts_ran s.size (length numbers) 0 olds news same each (length olds) (omega arith) in
    let whole : start_of (length olds) s.size (length numbers) ≡ length numbers = omega (arith, c.requires.size) in
    rw (c.forget.ensures, c.join-changes.ensures.works) (omega (arith, sum, whole)))
