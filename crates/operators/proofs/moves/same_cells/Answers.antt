use Rattle.std.proofs.Common.{◌+◌, ◌∙◌, get_or, refl, arith, rules}
use borrow.Author.Tests.{tests}
use Rattle.std.proofs.lemmas.Iterator.{YieldsList-from_range}
use Rattle.std.proofs.lemmas.Iterator.Search.{all_from_yields_List}
use Rattle.cells.specs.Cells.{same_cell}
use Rattle.cells.specs.declared.cell.Cell.TheVariants.{Null}
use Rattle.operators.proofs.Sames.{all_same}
use Rattle.operators.proofs.moves.same_cells.Goals as goal

pub returns : goal.returns
returns c =
    all_from_yields_List (λ k. same_cell (get_or c.args.cells.now (c.args.a + k) Null) (get_or c.args.cells.now (c.args.b + k) Null)) _ _ _ c.all.ensures.ran
    (YieldsList-from_range 0 c.args.n c.args.n refl (omega arith)) (λ x b q k. search (rules, tests))
    ∙ all_same c.args.cells.now c.args.a c.args.b c.args.n c.requires.first c.requires.second
