use Rattle.std.proofs.Common.{◌≡◌, Some, rules, sym}
use Rattle.movements.specs.Moving.{moved_lawful}
use Rattle.movements.specs.Shown.{items_of, shown}
use Rattle.session.specs.Agrees.{Asks}
use Rattle.session.proofs.Evaluations.{steps_ask}
use Rattle.session.proofs.session.Session.ask.Goals as goal

pub returns-clause-steps : goal.returns-clause-steps
returns-clause-steps g c =
    let tables = g.S.Stock.tables in
    let s = c.args.self.now in
    let l = s.layer in
    let before = c.args.cells.now in
    let after = c.ask.new.cells in
    let is : s.query ≡ Some c.in_ok-query.query.now = search rules in
    let h : Asks (shown tables l) s.query before after c.ask.result = rw is (λ e. c.ask.ensures.value (sym e)) in
    steps_ask tables s (moved_lawful (items_of l.added) (items_of l.hidden) (tables l.below) (g.S.Stock.lawful l.below)) before after c.ask.result h
