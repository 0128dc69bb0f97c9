use Rattle.std.proofs.Common.{◌≡◌, length, Some, ap, rules}
use Rattle.session.proofs.Steps.{unnest_made}
use Rattle.session.proofs.session.Session.unnest.Goals as goal

pub returns-clause-steps : goal.returns-clause-steps
returns-clause-steps g c =
    let s = c.args.self.now in
    let q = c.in_ok-query.query.now in
    let stands : s.query ≡ Some q = search rules in
    unnest_made g.S.Stock.tables s q c.in_ok-plan.plan (length c.lines-count.result.now) stands c.in_ok-plan.ensures.made (ap length c.lines-count.ensures)
