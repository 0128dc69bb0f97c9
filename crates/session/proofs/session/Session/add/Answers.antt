use Rattle.session.proofs.Steps.{steps_add}
use Rattle.session.proofs.session.Session.add.Goals as goal

pub returns-clause-steps : goal.returns-clause-steps
returns-clause-steps g c =
    let e = c.add.ensures in
    steps_add g.S.Stock.tables c.args.self.now c.add.new.self c.args.table c.args.row.now c.add.result e.shows e.parts e.uncut
