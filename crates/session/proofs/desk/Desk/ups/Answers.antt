use Rattle.std.proofs.Common.{Bool, List, ◌≡◌, ◌∙◌, refl, sym, ap, subst, arith}
use Rattle.std.specs.declared.vec.Vec.{Vec}
use Rattle.std.specs.declared.alloc.Global.{Global}
use Rattle.maptypes.proofs.Judged.{error_is}
use Rattle.osdmap.specs.Maps.{ClusterMap}
use Rattle.monitor.specs.Members.{IsMemberOf, draws_made}
use Rattle.session.specs.declared.reply.Speaker.TheVariants.{Monitor}
use Rattle.session.specs.Answers.{AsksSets, Account}
use Rattle.session.specs.PoolSets.{FindsSets}
use Rattle.session.specs.Replies.{sets_text}
use Rattle.session.specs.Sessions.{account, account_in, basis_of}
use Rattle.session.specs.Texts.{line_of}
use Rattle.session.proofs.Asked.{sets_there, sets_refused, own_same}
use Rattle.session.proofs.desk.Desk.ups.Goals as goal

-- the list of a vector of marks
abbrev own_of : Vec Bool Global → List Bool
own_of own = own.items

pub returns-in_err-shared : goal.returns-in_err-shared
returns-in_err-shared g c =
    let monitor = c.args.self.now.monitor.now in
    let before = c.args.member.now in
    let now = c.share.new.member in
    let (seat, spent, same) = c.in_err-shared.ensures.turn.spent in record {
      member = subst (IsMemberOf monitor) (sym same) c.requires;
      answers = sets_refused (basis_of monitor) (account before) (account now) c.args.pool c.from_residual.result c.in_err-shared.field-0.0
          (error_is _ _ c.from_residual.ensures.1) c.share.ensures.turn.goes_on seat spent (ap draws_made same) (ap own_of c.share.ensures.turn.own);
      own = own_same monitor.alone before.pass now.pass (line_of (sets_text Monitor) c.from_residual.result) c.share.ensures.turn.alone;
    }

pub returns : goal.returns
returns g c =
    let monitor = c.args.self.now.monitor.now in
    let basis = basis_of monitor in
    let before = c.args.member.now in
    let shared = c.in_ok-shared.shared in
    let held = c.share.new.member in
    let now = c.give_back.new.member in
    let found = c.sets_in-found.result in
    let once = c.in_ok-shared.ensures.turn.once in
    let finds = subst (λ m. FindsSets m c.args.pool found) c.shown.ensures.map c.sets_in-found.ensures in
    let asked = sets_there basis (account before) (account_in shared held) c.args.pool found c.share.ensures.turn.goes_on finds
    (omega (arith, once)) (omega (arith, once)) (ap own_of c.share.ensures.turn.own) in
    let same : account now ≡ account_in shared held = rw (c.give_back.ensures.pass, c.give_back.ensures.own, c.give_back.ensures.draws) refl in record {
      member = c.give_back.ensures.member;
      answers = subst (λ (a : Account). AsksSets basis c.args.pool (account before) a found) (sym same) asked;
      own = own_same monitor.alone before.pass now.pass (line_of (sets_text Monitor) found)
          (λ alone. c.give_back.ensures.pass ∙ c.share.ensures.turn.alone alone);
    }
