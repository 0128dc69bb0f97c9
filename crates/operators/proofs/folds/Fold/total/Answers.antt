use Rattle.std.proofs.Common.{[], ◌∷◌, ◌∙◌, subst}
use Rattle.cells.specs.declared.cell.Cell.{Cell}
use Rattle.operators.specs.Laid.{Put}
use Rattle.operators.specs.Places.{rows_in}
use Rattle.operators.proofs.Stack.{laid_one}
use Rattle.operators.proofs.Grouping.{fold_every}
use Rattle.operators.proofs.folds.Fold.total.Goals as goal

pub returns : goal.returns
returns c =
    let P : Cell → Type 0 = λ z. Put c.args.cells.now c.put.new.cells c.args.out 1 (z ∷ []) in
    laid_one c.args.cells.now c.put.new.cells c.args.out 1 _ (subst P (c.alike-cell.ensures ∙ fold_every c.args.self.now.aggregate c.args.self.now.column c.args.self.now.context.now (rows_in c.args.cells.now c.args.rows) c.args.cells.now c.args.out) c.put.ensures)
