use Rattle.std.proofs.Common.{◌<◌, ◌≤◌, ◌⊎◌, List, []}
use Rattle.cells.specs.Cells.{Row}
use Rattle.operators.specs.Places.{rows_from}
use Rattle.operators.specs.Laid.{Laid}
use Rattle.operators.specs.Steps.{each}
use Rattle.operators.specs.Turns.{LaysEach}
use Rattle.operators.proofs.turns.lay_each.Given as goal

abbrev pub invariant-loop-i : goal.invariant-loop-i
invariant-loop-i g l = record {
  laid : (gives : List Row → Row → List Row) → LaysEach g.F.Fn l.step gives l.initial.cells l.rows l.out l.width
      → Laid l.initial.cells l.cells l.out l.k l.width (each gives [] (rows_from l.initial.cells l.rows.start l.i l.rows.width));
  counted : (0 < l.width) ⊎ (l.k ≤ l.i);
}
