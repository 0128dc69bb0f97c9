use Rattle.std.proofs.Common.{rules, arith}
use Rattle.evaluate.proofs.Settling.{settled}
use Rattle.evaluate.proofs.settle.settle.Goals as goal

pub returns : goal.returns
returns c = settled c.args.cells.now c.copy.new.cells c.fill.new.self c.args.rows.start c.args.rows.rows c.args.rows.width c.copy.ensures (c.fill.ensures.after (search rules)) (omega (arith, c.requires.stands.inside, c.copy.ensures.kept))
