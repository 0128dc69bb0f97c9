use Rattle.std.proofs.Common.{arith}
use Rattle.stock.specs.Tabled.{length_marks}
use Rattle.stock.proofs.ruler.RulerStock.row_count.Goals as goal

pub returns-then-table-eq0 : goal.returns-then-table-eq0
returns-then-table-eq0 c = rw c.if-table-eq0.true (let long = length_marks c.args.self.now.size in omega arith)
