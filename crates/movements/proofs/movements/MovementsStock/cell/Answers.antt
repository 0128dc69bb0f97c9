use Rattle.std.proofs.Common.{get_or, sym, ap, ⊎_elim, arith}
use Rattle.cells.specs.declared.cell.Cell.TheVariants.{Null}
use Rattle.movements.specs.Shown.{items_of}
use Rattle.movements.specs.Moving.{cell_moved_past, cell_moved_over, cell_moved_first, cell_moved_second}
use Rattle.movements.proofs.movements.MovementsStock.cell.Goals as goal

pub returns-then-table-table_count : goal.returns-then-table-table_count
returns-then-table-table_count g c =
    let s = c.args.self.now in
    let ts = g.S.Stock.tables s.below in
    sym (⊎_elim
    (λ k. cell_moved_past c.args.table c.args.place c.args.column (items_of s.added) (items_of s.hidden) ts (omega arith))
    (λ p. cell_moved_over c.args.table c.args.place c.args.column (items_of s.added) (items_of s.hidden) ts p.1 (omega arith))
    c.then-table-table_count.either)

pub returns-then-place-n : goal.returns-then-place-n
returns-then-place-n g c =
    let s = c.args.self.now in
    let ts = g.S.Stock.tables s.below in
    let shown = cell_moved_first c.args.table c.args.place c.args.column (items_of s.added) (items_of s.hidden) ts (omega arith) (omega arith) (omega arith) in
    let source = ap (λ x. get_or x c.args.column Null) c.source.ensures in
    let asked = c.cell.ensures in
    cc

pub returns-else-place-n : goal.returns-else-place-n
returns-else-place-n g c =
    let s = c.args.self.now in
    let ts = g.S.Stock.tables s.below in
    let shown = cell_moved_second c.args.table c.args.place c.args.column (items_of s.added) (items_of s.hidden) ts (omega arith) (omega arith) (omega arith) in
    let asked = rw c.kept-n.ensures at c.added_cell.ensures in
    cc
