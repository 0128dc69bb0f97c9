use Rattle.std.proofs.Common.{arith}
use Rattle.operators.proofs.Blocks.{union_laid, union_over}
use Rattle.operators.proofs.sources.union.Goals as goal

pub returns-in_err-fits : goal.returns-in_err-fits
returns-in_err-fits c = rw c.from_residual.ensures (union_over c.args.cells.now c.args.left.start c.args.left.rows c.args.right.start c.args.right.rows c.args.out c.args.left.width c.args.right.width c.requires.equal c.requires.room.room (omega (arith, c.in_err-fits.ensures)))

pub returns : goal.returns
returns c = union_laid c.args.cells.now c.copy.new.cells c.copy-2.new.cells c.args.left.start c.args.left.rows c.args.right.start c.args.right.rows c.args.out c.args.left.width c.args.right.width c.requires.equal c.requires.right.inside c.copy.ensures c.copy-2.ensures
