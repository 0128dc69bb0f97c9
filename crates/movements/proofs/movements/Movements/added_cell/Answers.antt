use Rattle.std.proofs.Common.{◌<◌, [], get_or, sym, ap, ◌∙◌, arith}
use Rattle.std.proofs.lemmas.List.{get_or-take, get_or_past}
use Rattle.cells.specs.declared.cell.Cell.TheVariants.{Null}
use Rattle.stock.specs.Tables.{width_of}
use Rattle.stock.specs.Tabled.{small_width}
use Rattle.movements.specs.Moves.{added_rows}
use Rattle.movements.specs.Moving.{nth_added, added_rows_short, length_added_rows}
use Rattle.movements.specs.Shown.{items_of}
use Rattle.movements.proofs.movements.Movements.added_cell.Goals as goal

pub returns-then-column-width : goal.returns-then-column-width
returns-then-column-width g c =
    let s = c.args.self.now in
    let w = width_of (g.S.Stock.tables s.below) c.args.table in
    let short = added_rows_short c.args.table w (items_of s.added) c.args.k in
    sym (get_or_past (get_or (added_rows c.args.table w (items_of s.added)) c.args.k []) c.args.column Null (omega arith))

pub offset_bounds-added-column : goal.offset_bounds-added-column
offset_bounds-added-column g c = let w = small_width (g.S.Stock.tables c.args.self.now.below) c.args.table (g.S.Stock.lawful c.args.self.now.below) in omega arith

pub bounds-added-column : goal.bounds-added-column
bounds-added-column g c = let w = small_width (g.S.Stock.tables c.args.self.now.below) c.args.table (g.S.Stock.lawful c.args.self.now.below) in omega arith

pub returns-in-None : goal.returns-in-None
returns-in-None g c =
    let ms = items_of c.args.self.now.added in
    let t = c.args.table in
    let w = width_of (g.S.Stock.tables c.args.self.now.below) t in
    let l = length_added_rows t w ms in
    let n = c.in-None.ensures in
    sym (ap (λ r. get_or r c.args.column Null) (get_or_past (added_rows t w ms) c.args.k [] (omega arith)))

pub returns-in-Some : goal.returns-in-Some
returns-in-Some g c =
    let ms = items_of c.args.self.now.added in
    let t = c.args.table in
    let w = width_of (g.S.Stock.tables c.args.self.now.below) t in
    let i = c.in-Some.i in
    let m = c.index-added-i.result in
    let h : c.args.column < w = omega arith in
    sym (ap (λ r. get_or r c.args.column Null) (nth_added t w ms c.args.k i m c.in-Some.ensures) ∙ get_or-take w (get_or ms i m).row c.args.column Null h ∙ ap (λ xs. get_or (get_or xs i m).row c.args.column Null) (sym c.as_slice-added.ensures))
