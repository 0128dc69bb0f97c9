use Rattle.std.proofs.Common.{drop, ◌*◌, sym, ap, ◌∙◌, rules, tests, arith}
use Rattle.std.proofs.lemmas.Iterator.{YieldsList-from_slice}
use Rattle.std.proofs.lemmas.Iterator.Search.{all_from_yields_List}
use Rattle.cells.specs.Cells.{stored}
use Rattle.stock.specs.Tables.{every}
use Rattle.shelf.specs.Cut.{fits}
use Rattle.shelf.proofs.Checking.{every_by, fits_is, rest_of}
use Rattle.shelf.proofs.check.after_table.Goals as goal

pub returns : goal.returns
returns c =
    let cs = c.args.cells.now in
    let w = c.args.width in
    let r = c.args.rows in
    let cut = c.in_ok-table.ensures.cases in
    let all = all_from_yields_List stored _ _ c.all.result c.all.ensures.ran (YieldsList-from_slice c.in_ok-table.table.now cc) (λ x b q k. search (rules, tests)) in
    let fit = all ∙ every_by stored c.in_ok-table.table.now ∙ ap (every stored) cut.1 ∙ sym (fits_is w r cs (omega arith) (omega arith) (omega arith) cut.0) in
    rest_of c.all.result c.then_some.result c.in_ok-table.rest (fits (w, r) cs) (drop (r * w) cs) c.then_some.ensures fit cut.2
