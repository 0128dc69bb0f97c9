use Rattle.std.proofs.Common.{arith}
use Rattle.stock.specs.Tabled.{length_paired}
use Rattle.stock.proofs.pair.PairStock.table_count.Goals as goal

pub returns : goal.returns
returns g c = rw length_paired (let least = c.min.ensures in omega arith)
