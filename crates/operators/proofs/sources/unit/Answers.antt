use Rattle.operators.proofs.Stack.{laid_one}
use Rattle.operators.proofs.sources.unit.Goals as goal

pub returns : goal.returns
returns c = laid_one c.args.cells.now c.put.new.cells c.args.out 1 _ c.put.ensures
