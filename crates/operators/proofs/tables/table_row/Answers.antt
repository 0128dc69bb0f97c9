use Rattle.std.proofs.Common.{[], get_or, arith}
use Rattle.stock.specs.Tables.{rows_at}
use Rattle.operators.proofs.Tabling.{row_long, filled_more, filled_all}
use Rattle.operators.proofs.tables.table_row.Goals as goal

pub loop-column-preserved : goal.loop-column-preserved
loop-column-preserved g c =
    let ts = g.S.Stock.tables c.args.stock.now in
    let l = row_long ts c.args.table c.args.place (g.S.Stock.lawful c.args.stock.now) c.requires.shown in
    filled_more c.loop-column.row (get_or (rows_at ts c.args.table) c.args.place []) c.loop-column.column c.cell.result (omega arith) (omega (arith, l, c.requires.wide)) c.loop-column.invariant c.cell.ensures

pub returns : goal.returns
returns g c =
    let ts = g.S.Stock.tables c.args.stock.now in
    let l = row_long ts c.args.table c.args.place (g.S.Stock.lawful c.args.stock.now) c.requires.shown in
    filled_all c.loop-column.row (get_or (rows_at ts c.args.table) c.args.place []) c.loop-column.column (omega arith) (omega (arith, l, c.requires.wide)) c.loop-column.invariant
