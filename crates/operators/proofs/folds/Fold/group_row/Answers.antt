use Rattle.operators.specs.Places.{rows_in}
use Rattle.operators.proofs.Grouping.{group_none, group_laid}
use Rattle.operators.proofs.folds.Fold.group_row.Goals as goal

pub returns-then-has_alike : goal.returns-then-has_alike
returns-then-has_alike c = group_none c.args.keys c.args.self.now.aggregate c.args.self.now.column c.args.self.now.context.now (rows_in c.args.cells.now c.args.rows) c.args.cells.now c.args.front c.args.to c.requires.room.room c.if-has_alike.ensures

pub returns : goal.returns
returns c = group_laid c.args.keys c.args.self.now.aggregate c.args.self.now.column c.args.self.now.context.now (rows_in c.args.cells.now c.args.rows) c.args.cells.now c.copy.new.cells c.put.new.cells c.args.front c.end-at.result c.args.to c.alike-cell.result c.end-at.ensures c.requires.front_keys c.if-has_alike.ensures c.alike-cell.ensures c.copy.ensures c.put.ensures
