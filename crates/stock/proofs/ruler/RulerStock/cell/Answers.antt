use Rattle.std.proofs.Common.{◌<◌, ap, arith}
use Rattle.cells.specs.declared.cell.Cell.TheVariants.{Number}
use Rattle.std.proofs.lemmas.Int.{ints}
use Rattle.stock.specs.Tabled.{unruled, get_or_marks}
use Rattle.stock.proofs.ruler.RulerStock.cell.Goals as goal
use Rattle.stock.proofs.ruler.RulerStock.cell.Goals.{else-table-eq0-via-then-table-eq0+then-place-self+else-column-eq0, else-table-eq0-via-then-table-eq0+else-place-self, else-table-eq0-via-else-table-eq0}

pub returns-then-column-eq0 : goal.returns-then-column-eq0
returns-then-column-eq0 c = rw (c.if-table-eq0.true, c.if-column-eq0.true, get_or_marks c.args.self.now.size c.args.place c.if-place-self.true) (ap Number (let small : c.args.place < 65536 = omega arith in omega (arith, ints)))

pub returns-else-table-eq0 : goal.returns-else-table-eq0
returns-else-table-eq0 c = unruled c.args.self.now.size c.args.table c.args.place c.args.column
    (λ e l z. elim c.else-table-eq0.branch [ else-table-eq0-via-then-table-eq0+then-place-self+else-column-eq0 w ↦ w.if-column-eq0.false z | else-table-eq0-via-then-table-eq0+else-place-self w ↦ omega arith | else-table-eq0-via-else-table-eq0 w ↦ w.if-table-eq0.false e ])
