use Rattle.std.proofs.Common.{arith}
use Rattle.movements.specs.Shown.{items_of}
use Rattle.movements.specs.Moving.{width_moved}
use Rattle.movements.proofs.movements.MovementsStock.width.Goals as goal

pub returns : goal.returns
returns g c =
    let s = c.args.self.now in
    let same = width_moved c.args.table (items_of s.added) (items_of s.hidden) (g.S.Stock.tables s.below) in
    omega arith
