use Rattle.balancer.proofs.StoredDomains.{domain_stored}
use Rattle.balancer.proofs.frame.Frame.domain.Goals as goal

pub returns-in-Some : goal.returns-in-Some
returns-in-Some c =
    let f = c.args.self.now in
    let found = c.in-Some.ensures.lookup.3 in
    domain_stored f.map.now.map f.levels.items _ c.args.osd f.domains.items c.deref.result.now c.in-Some.domain.now f.domains_are f.levels_are c.deref.ensures.value found.0 (found.1 c.in-Some.domain.now)
