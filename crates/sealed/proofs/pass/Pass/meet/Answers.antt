use Rattle.std.proofs.Common.{◌≡◌, ◌≤◌, length, take, arith, ap, sym, ◌∙◌}
use Rattle.sealed.proofs.Tokens.{fewer_full, fewer_know}
use Rattle.sealed.proofs.Beginnings.{one_begins_by}
use Rattle.sealed.proofs.pass.Pass.meet.Goals as goal

pub agree-requires-clause-mine : goal.agree-requires-clause-mine
agree-requires-clause-mine g c =
    fewer_full (λ k. k.known) c.self.inside.len c.min-both.result c.self.inside.tokens.items c.self.invariant (omega (arith, c.min-both.ensures))

pub agree-requires-clause-theirs : goal.agree-requires-clause-theirs
agree-requires-clause-theirs g c =
    fewer_full (λ k. k.known) c.other.inside.len c.min-both.result c.other.inside.tokens.items c.other.invariant (omega (arith, c.min-both.ensures))

pub returns : goal.returns
returns g c =
    let mine = ap (λ s. s.history) c.self.view_is in
    let theirs = ap (λ s. s.history) c.other.view_is in
    let both = c.min-both.result in
    let low : both ≤ c.self.inside.len = omega (arith, c.min-both.ensures) in
    let low' : both ≤ c.other.inside.len = omega (arith, c.min-both.ensures) in
    let same : take both c.args.self.now.history ≡ take both c.args.other.now.history =
    ap (take both) (sym mine) ∙ (sym (fewer_know (λ k. k.known) c.self.inside.len both c.self.inside.tokens.items c.self.invariant low)
    ∙ (c.agree.ensures ∙ (fewer_know (λ k. k.known) c.other.inside.len both c.other.inside.tokens.items c.other.invariant low' ∙ ap (take both) theirs))) in
    one_begins_by c.args.self.now.history c.args.other.now.history both
    (omega (arith, c.min-both.ensures, ap length mine, ap length theirs, c.self.invariant, c.other.invariant)) same
