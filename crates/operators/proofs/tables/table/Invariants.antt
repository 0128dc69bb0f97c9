use Rattle.std.proofs.Common.{take}
use Rattle.stock.specs.Tables.{width_of, rows_at}
use Rattle.operators.specs.Laid.{Laid}
use Rattle.operators.proofs.tables.table.Given as goal

abbrev pub invariant-loop-place : goal.invariant-loop-place
invariant-loop-place g l = Laid l.initial.cells l.cells l.out l.place (width_of (g.S.Stock.tables l.stock) l.table) (take l.place (rows_at (g.S.Stock.tables l.stock) l.table))
