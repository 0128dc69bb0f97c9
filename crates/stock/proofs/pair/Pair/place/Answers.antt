use Rattle.std.proofs.Common.{arith}
use Rattle.stock.specs.Tabled.{paired_first, paired_second}
use Rattle.stock.proofs.pair.Pair.place.Goals as goal

pub returns-then-table-n : goal.returns-then-table-n
returns-then-table-n g c = paired_first _ _ c.args.table (omega arith) (omega arith)

pub returns-else-table-n : goal.returns-else-table-n
returns-else-table-n g c = rw c.table_count-n.ensures (paired_second _ _ c.args.table (omega arith) (omega arith))
