use Rattle.std.proofs.Common.{◌+◌, arith}
use Rattle.operators.proofs.Stack.{laid_one}
use Rattle.operators.proofs.Reshaping.{keep_put}
use Rattle.operators.proofs.reshapes.keep_row.Goals as goal

pub returns : goal.returns
returns c = laid_one c.args.cells.now c.copy-2.new.cells c.args.to (c.args.first + c.args.last) _
    (keep_put c.args.cells.now c.copy.new.cells c.copy-2.new.cells _ c.args.front.width c.args.first c.args.last c.args.to c.requires.some c.requires.next.inside (omega arith) (rw c.end-at.ensures at c.copy.ensures) (rw c.end-at.ensures at c.copy-2.ensures))
