use Rattle.std.proofs.Common.{◌+◌}
use Rattle.operators.proofs.Stack.{put_join, laid_one}
use Rattle.operators.proofs.reshapes.extend_row.Goals as goal

pub returns : goal.returns
returns c = laid_one c.args.cells.now c.put.new.cells c.args.to (c.args.front.width + 1) _
    (put_join c.args.cells.now c.copy.new.cells c.put.new.cells c.args.to c.args.front.width 1 _ _ (rw c.end.ensures at c.copy.ensures) c.put.ensures)
