use Rattle.session.proofs.Steps.{steps_withdraw}
use Rattle.session.proofs.session.Session.withdraw.Goals as goal

pub returns-clause-steps : goal.returns-clause-steps
returns-clause-steps g c =
    let e = c.withdraw.ensures in
    steps_withdraw g.S.Stock.tables c.args.self.now c.withdraw.new.self c.args.table c.args.place c.withdraw.result (record { cause = e.cause; shows = e.shows }) e.parts e.uncut
