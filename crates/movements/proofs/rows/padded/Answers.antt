use Rattle.std.proofs.Common.{[], ◌∷◌, ◌++◌, length, drop, refl, ap, ◌∙◌}
use Rattle.stock.specs.Tables.{every}
use Rattle.cells.specs.Cells.{stored}
use Rattle.cells.specs.declared.cell.Cell.TheVariants.{Null}
use Rattle.movements.proofs.Rowed.{every_append, every_drop}
use Rattle.movements.proofs.rows.padded.Goals as goal

pub returns-clause-numbers : goal.returns-clause-numbers
returns-clause-numbers c =
    let row = c.args.row.now in
    let room = drop (length row) (Null ∷ Null ∷ Null ∷ Null ∷ Null ∷ Null ∷ Null ∷ Null ∷ []) in
    ap (λ x. every stored (x ++ room)) c.copy_from_slice.ensures.after ∙ every_append stored row room c.requires.1 (every_drop stored (length row) _ refl)
