use Rattle.std.proofs.Common.{◌≡◌, ◌<◌, true, inl, rules, arith}
use Rattle.mapstore.specs.JournalTexts.{step_entry}
use Rattle.journalstore.specs.Texts.{bare_text, with_change}
use Rattle.mapstore.specs.Laws.{settled_at}
use Rattle.mapstore.proofs.KeepLemmas.{left_with, holds_with, holds_still}
use Rattle.mapstore.proofs.store.MapStoreKeeps.keep.Goals as goal

pub returns-then-epoch-self-clause-crash : goal.returns-then-epoch-self-clause-crash
returns-then-epoch-self-clause-crash g c j holds left may = inl (settled_at g.S.Store c.args.self.now j left holds may)

pub returns-in_default-clause-crash : goal.returns-in_default-clause-crash
returns-in_default-clause-crash g c j holds left may = inl (settled_at g.S.Store c.args.self.now j left holds may)

-- the append went through
pub returns-in_default-append-clause-crash : goal.returns-in_default-append-clause-crash
returns-in_default-append-clause-crash g c =
    let row : (c.epoch-2.result, bare_text c.as_str.result.now) ≡ step_entry c.args.step.now = search rules in
    let late : c.args.self.now.last < c.epoch-2.result = search (rules, arith) in
    left_with g.S.Store c.args.self.now c.args.step.now c.epoch-2.result (bare_text c.as_str.result.now) row late c.in-Ok.ensures.states c.append.new.self c.append.ensures.crash c.epoch-self.result

pub returns-in_default-append-clause-kept : goal.returns-in_default-append-clause-kept
returns-in_default-append-clause-kept g c j holds =
    let row : (c.epoch-2.result, bare_text c.as_str.result.now) ≡ step_entry c.args.step.now = search rules in
    let late : c.args.self.now.last < c.epoch-2.result = search (rules, arith) in
    holds_with g.S.Store c.args.self.now c.args.step.now c.epoch-2.result (bare_text c.as_str.result.now) row late c.in-Ok.ensures.states c.append.new.self (search rules) j holds c.epoch-self.result c.epoch-self.ensures

-- it found no memory, and the store is running
pub returns-then-eq-clause-crash : goal.returns-then-eq-clause-crash
returns-then-eq-clause-crash g c =
    let row : (c.epoch-2.result, bare_text c.as_str.result.now) ≡ step_entry c.args.step.now = search rules in
    let late : c.args.self.now.last < c.epoch-2.result = search (rules, arith) in
    left_with g.S.Store c.args.self.now c.args.step.now c.epoch-2.result (bare_text c.as_str.result.now) row late c.in-Ok.ensures.states c.is_running-is_running.new.self
    (λ t holds after. c.is_running-is_running.ensures.crash t (with_change t (c.epoch-2.result, bare_text c.as_str.result.now)) (c.append.ensures.crash t holds after)) c.args.self.now.last

pub returns-then-eq-clause-same : goal.returns-then-eq-clause-same
returns-then-eq-clause-same g c is =
    let running : c.is_running-is_running.result ≡ true = search rules in
    holds_still g.S.Store c.args.self.now c.is_running-is_running.new.self (λ t holds. c.is_running-is_running.ensures.holds running t (c.in-Err.ensures.kept t holds))

-- it failed otherwise
pub returns-clause-crash : goal.returns-clause-crash
returns-clause-crash g c =
    let row : (c.epoch-2.result, bare_text c.as_str.result.now) ≡ step_entry c.args.step.now = search rules in
    let late : c.args.self.now.last < c.epoch-2.result = search (rules, arith) in
    left_with g.S.Store c.args.self.now c.args.step.now c.epoch-2.result (bare_text c.as_str.result.now) row late c.in-Ok.ensures.states c.is_running-is_running.new.self
    (λ t holds after. c.is_running-is_running.ensures.crash t (with_change t (c.epoch-2.result, bare_text c.as_str.result.now)) (c.append.ensures.crash t holds after)) c.args.self.now.last
