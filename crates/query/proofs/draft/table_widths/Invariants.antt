use Rattle.std.proofs.Common.{◌≡◌, take}
use Rattle.stock.specs.Tables.{widths}
use Rattle.query.proofs.draft.table_widths.Given as goal

abbrev pub invariant-loop-table : goal.invariant-loop-table
invariant-loop-table g l = l.all.items ≡ take l.table (widths (g.S.Stock.tables l.stock))
