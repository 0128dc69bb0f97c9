use Rattle.std.proofs.Common.{[], get_or, sym, ap, ⊎_elim, arith}
use Rattle.std.proofs.lemmas.List.{get_or_past}
use Rattle.stock.specs.Tables.{rows_at}
use Rattle.cells.specs.declared.cell.Cell.TheVariants.{Null}
use Rattle.stock.specs.Tabled.{row_long}
use Rattle.shelf.specs.Cut.{shelved}
use Rattle.shelf.specs.Cutting.{shelved_lawful, cell_there, shown_table}
use Rattle.shelf.proofs.questions.ShelfStock.cell.Goals as goal

pub returns-then-place-rows : goal.returns-then-place-rows
returns-then-place-rows c =
    let s = c.args.self.now in
    let ts = shelved s.pairs.now s.cells.now in
    let t = c.args.table in
    let pair = c.pair_at-width.ensures in
    sym (⊎_elim
    (λ r. let e = pair.rows in ap (λ x. get_or x c.args.column Null) (get_or_past (rows_at ts t) c.args.place [] (omega arith)))
    (λ w. let e = pair.rows in
    let f = pair.width in
    let k = row_long ts t c.args.place (shelved_lawful s.pairs.now s.cells.now) (omega arith) in
    get_or_past (get_or (rows_at ts t) c.args.place []) c.args.column Null (omega arith))
    c.then-place-rows.either)

pub start-requires : goal.start-requires
start-requires c =
    let s = c.args.self.now in
    let pair = c.pair_at-width in
    shown_table s.pairs.now s.cells.now c.args.table c.args.place c.args.column pair.result.0 pair.result.1 pair.ensures.width pair.ensures.rows (omega arith) (omega arith)

pub returns : goal.returns
returns c =
    let s = c.args.self.now in
    let pair = c.pair_at-width in
    cell_there s.pairs.now s.cells.now c.args.table c.args.place c.args.column pair.result.0 pair.result.1 pair.ensures.width pair.ensures.rows (omega arith) (omega arith) c.start.result c.start.ensures
