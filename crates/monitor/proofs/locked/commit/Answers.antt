use Rattle.monitor.proofs.Histories.{committed_by, adds_change, unspent}
use Rattle.monitor.proofs.Counting.{commit_longer}
use Rattle.monitor.proofs.locked.commit.Goals as goal

pub returns-clause-commits : goal.returns-clause-commits
returns-clause-commits g c =
    let old = c.args.state.now in
    let new = c.commit-answer.new.self in
    let was = c.map.ensures in
    let is = c.map-2.ensures in
    let done = committed_by old new c.args.proposal.base c.args.proposal.change c.commit-answer.result
    (record { map = was.after; lawful = was.lawful; epoch = was.epoch })
    (record { map = is.after; lawful = is.lawful; epoch = is.epoch })
    c.commit-answer.ensures.commits in
    rw (c.commit-answer.ensures.pass, c.requires.pass, ← c.requires.row) done

pub returns-clause-own : goal.returns-clause-own
returns-clause-own g c =
    let done = adds_change c.args.state.now c.commit-answer.new.self c.args.proposal.base c.args.proposal.change c.commit-answer.result
    c.commit-answer.ensures.commits in
    rw (c.commit-answer.ensures.pass, c.requires.pass) done

pub returns-clause-unspent : goal.returns-clause-unspent
returns-clause-unspent g c =
    unspent c.args.state.now c.commit-answer.new.self c.args.proposal.base c.args.proposal.change c.commit-answer.result c.commit-answer.ensures.commits

pub returns-clause-longer : goal.returns-clause-longer
returns-clause-longer g c =
    let done = adds_change c.args.state.now c.commit-answer.new.self c.args.proposal.base c.args.proposal.change c.commit-answer.result
    c.commit-answer.ensures.commits in
    commit_longer c.args.pass.now.history c.commit-answer.new.pass.history c.args.proposal.change c.commit-answer.result (rw (c.commit-answer.ensures.pass, c.requires.pass) done)
