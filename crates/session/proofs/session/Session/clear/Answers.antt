use Rattle.session.proofs.Steps.{steps_clear}
use Rattle.session.proofs.session.Session.clear.Goals as goal

pub returns-clause-steps : goal.returns-clause-steps
returns-clause-steps g c =
    let e = c.clear.ensures in
    steps_clear g.S.Stock.tables c.args.self.now c.clear.new.self e.same e.adds e.hides e.uncut
