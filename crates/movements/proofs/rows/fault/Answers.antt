use Rattle.std.proofs.Common.{not, sym, ◌∙◌, rules, tests}
use Rattle.std.proofs.lemmas.Iterator.{YieldsList-from_slice}
use Rattle.std.proofs.lemmas.Iterator.Search.{position_from_yields_List}
use Rattle.std.proofs.lemmas.Iterator.Adapters.{position_from-zero}
use Rattle.cells.specs.Cells.{stored}
use Rattle.movements.proofs.Rowed.{fault_by, fault_is}
use Rattle.movements.proofs.rows.fault.Goals as goal

pub returns : goal.returns
returns c =
    let row = c.args.row.now in
    position_from_yields_List (λ x. not (stored x)) _ _ c.position.result c.position.ensures.ran (YieldsList-from_slice row cc) (λ x b q k. search (rules, tests))
    ∙ position_from-zero (λ x. not (stored x)) row
    ∙ sym (fault_is c.args.width row c.if-row-width.false ∙ fault_by 0 row)
