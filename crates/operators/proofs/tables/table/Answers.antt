use Rattle.std.proofs.Common.{◌≡◌, ◌+◌, ◌*◌, ◌<◌, [], get_or, sym, ◌∙◌, ap₂, arith}
use Rattle.stock.specs.Tables.{rows_at, width_of, rows_of}
use Rattle.operators.proofs.Stack.{inside, laid_none}
use Rattle.operators.proofs.Tabling.{few_cells, row_long, part_put, table_turn}
use Rattle.operators.proofs.tables.table.Goals as goal

pub overflow_mul-rows : goal.overflow_mul-rows
overflow_mul-rows g c =
    let ts = g.S.Stock.tables c.args.stock.now in
    let e : c.row_count-rows.result * c.width-width.result ≡ rows_of ts c.args.table * width_of ts c.args.table = ap₂ ◌*◌ c.row_count-rows.ensures c.width-width.ensures in
    omega (arith, few_cells ts c.args.table (g.S.Stock.lawful c.args.stock.now), e)

pub loop-place-init : goal.loop-place-init
loop-place-init g c = laid_none c.args.cells.now c.args.out _ c.requires.room.room

pub loop-place-preserved : goal.loop-place-preserved
loop-place-preserved g c =
    let ts = g.S.Stock.tables c.args.stock.now in
    let w = width_of ts c.args.table in
    let row = get_or (rows_at ts c.args.table) c.loop-place.place [] in
    let lt : c.loop-place.place < rows_of ts c.args.table = omega (arith, c.loop-place-test.true, c.row_count-rows.ensures) in
    let b = inside c.loop-place.place c.row_count-rows.result c.width-width.result c.loop-place-test.true in
    table_turn (rows_at ts c.args.table) c.args.cells.now c.loop-place.cells _ c.args.out c.loop-place.place w lt c.loop-place.invariant
    (rw (← c.width-width.ensures) (part_put c.loop-place.cells c.table_row.new.row row (c.args.out + c.loop-place.place * c.width-width.result) c.width-width.result _ c.table_row.ensures (omega arith)
    (row_long ts c.args.table c.loop-place.place (g.S.Stock.lawful c.args.stock.now) lt ∙ sym c.width-width.ensures) (omega (arith, b, c.in_ok-fits.ensures, c.requires.room.room, c.loop-place.auto.cells))))
