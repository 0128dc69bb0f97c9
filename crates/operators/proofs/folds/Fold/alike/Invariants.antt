use Rattle.std.proofs.Common.{◌≡◌, ◌+◌, ◌-◌, ◌*◌}
use Rattle.operators.specs.Places.{row_at, rows_from}
use Rattle.operators.specs.Folds.{result_of, Within, folded_alike}
use Rattle.operators.proofs.folds.Fold.alike.Given as goal

abbrev pub invariant-loop-j : goal.invariant-loop-j
invariant-loop-j l = (result_of l.self.aggregate l.running ≡ folded_alike l.n l.self.aggregate l.self.column l.self.context.now (row_at l.cells l.at l.n) (rows_from l.cells (l.rows.start + l.j * l.rows.width) (l.rows.rows - l.j) l.rows.width))
    × Within (l.rows.rows - l.j) l.running.sum
