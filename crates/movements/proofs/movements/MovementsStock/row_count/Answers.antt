use Rattle.std.proofs.Common.{sym, arith}
use Rattle.stock.specs.Tables.{rows_at}
use Rattle.stock.specs.Tabled.{few_rows}
use Rattle.movements.specs.Shown.{items_of}
use Rattle.movements.specs.Moving.{rows_moved, rows_moved_past, length_remaining_le}
use Rattle.movements.proofs.movements.MovementsStock.row_count.Goals as goal

pub returns-then-table-table_count : goal.returns-then-table-table_count
returns-then-table-table_count g c = let s = c.args.self.now in sym (rows_moved_past c.args.table (items_of s.added) (items_of s.hidden) (g.S.Stock.tables s.below) (omega arith))

pub overflow_add-kept : goal.overflow_add-kept
overflow_add-kept g c =
    let s = c.args.self.now in
    let ts = g.S.Stock.tables s.below in
    let left = length_remaining_le c.args.table (items_of s.hidden) (rows_at ts c.args.table) in
    let few = few_rows ts c.args.table (g.S.Stock.lawful s.below) in
    omega arith

pub returns : goal.returns
returns g c =
    let s = c.args.self.now in
    let shown = rows_moved c.args.table (items_of s.added) (items_of s.hidden) (g.S.Stock.tables s.below) (omega arith) in
    omega arith
