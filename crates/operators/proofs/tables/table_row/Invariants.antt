use Rattle.std.proofs.Common.{◌≡◌, [], get_or, take}
use Rattle.stock.specs.Tables.{rows_at}
use Rattle.operators.proofs.tables.table_row.Given as goal

abbrev pub invariant-loop-column : goal.invariant-loop-column
invariant-loop-column g l = take l.column l.row ≡ take l.column (get_or (rows_at (g.S.Stock.tables l.stock) l.table) l.place [])
