use Rattle.std.proofs.Common.{length, sym, ap, ◌∙◌}
use Rattle.shelf.specs.Cutting.{length_cut}
use Rattle.shelf.proofs.Showing.{shown_cut}
use Rattle.shelf.proofs.questions.ShelfStock.table_count.Goals as goal

pub returns : goal.returns
returns c = let s = c.args.self.now in sym (length_cut s.shown.now s.cells.now) ∙ ap length (shown_cut s.pairs.now s.cells.now s.shown.now s.checked)
