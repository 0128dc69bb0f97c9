use Rattle.std.proofs.Common.{◌+◌}
use Rattle.operators.proofs.Stack.{put_join, laid_one}
use Rattle.operators.proofs.reshapes.pad_row.Goals as goal

pub returns : goal.returns
returns c = laid_one c.args.cells.now c.put_nulls.new.cells c.args.to (c.args.front.width + c.args.nulls) _
    (put_join c.args.cells.now c.copy.new.cells c.put_nulls.new.cells c.args.to c.args.front.width c.args.nulls _ _ (rw c.end.ensures at c.copy.ensures) c.put_nulls.ensures)
