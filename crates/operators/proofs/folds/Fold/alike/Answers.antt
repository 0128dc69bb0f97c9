use Rattle.std.proofs.Common.{◌≡◌, ℕ, ◌+◌, ◌-◌, subst, arith}
use Rattle.operators.specs.Places.{row_at}
use Rattle.operators.specs.Folds.{Within, result_of}
use Rattle.operators.proofs.Folding.{fold_none, fold_more, within_none, addable_at}
use Rattle.operators.proofs.folds.Fold.alike.Goals as goal

pub loop-j-init : goal.loop-j-init
loop-j-init c = (fold_none c.args.n c.args.self.now.aggregate c.args.self.now.column c.args.self.now.context.now (row_at c.args.cells.now c.args.at c.args.n) c.args.cells.now _ _ c.args.rows.width (omega arith), within_none _)

pub step_row-running-requires-clause-addable : goal.step_row-running-requires-clause-addable
step_row-running-requires-clause-addable c = rw c.front.ensures (addable_at c.args.self.now.aggregate c.args.self.now.column c.args.self.now.context.now c.args.cells.now c.args.rows (c.loop-j.j - 1) (omega arith) c.requires.addable)

pub loop-j-preserved : goal.loop-j-preserved
loop-j-preserved c =
    let e : (c.args.rows.rows - c.loop-j.j) + 1 ≡ c.args.rows.rows - (c.loop-j.j - 1) = omega arith in
    let P : ℕ → Type 0 = λ n. Within n c.step_row-running.result.sum in (
      fold_more c.args.n c.args.self.now.aggregate c.args.self.now.column c.args.self.now.context.now (row_at c.args.cells.now c.args.at c.args.n) c.args.cells.now c.args.rows.start c.loop-j.j c.args.rows.rows c.args.rows.width (result_of c.args.self.now.aggregate c.loop-j.running) _ c.loop-j-test.true c.loop-j.auto.j c.loop-j.invariant.0 (rw c.front.ensures at c.step_row-running.ensures.value),
      subst P e (c.step_row-running.ensures.within (c.args.rows.rows - c.loop-j.j) c.loop-j.invariant.1),
    )
