use Rattle.std.proofs.Common.{◌≡◌, Some, rules, sym}
use Rattle.movements.specs.Moving.{moved_lawful}
use Rattle.movements.specs.Shown.{items_of, shown}
use Rattle.session.specs.Agrees.{Runs}
use Rattle.session.proofs.Evaluations.{steps_run}
use Rattle.session.proofs.session.Session.run.Goals as goal

pub returns-clause-steps : goal.returns-clause-steps
returns-clause-steps g c =
    let tables = g.S.Stock.tables in
    let s = c.args.self.now in
    let l = s.layer in
    let before = c.args.cells.now in
    let after = c.run.new.cells in
    let is : s.plan ≡ Some c.in_ok-plan.plan.now = search rules in
    let h : Runs (shown tables l) s.plan before after c.run.result = rw is (λ e. c.run.ensures.value (sym e)) in
    steps_run tables s (moved_lawful (items_of l.added) (items_of l.hidden) (tables l.below) (g.S.Stock.lawful l.below)) before after c.run.result h
