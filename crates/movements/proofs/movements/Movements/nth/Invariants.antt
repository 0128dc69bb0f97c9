use Rattle.std.proofs.Common.{◌≡◌, ◌+◌, take}
use Rattle.movements.specs.Moves.{added_count}
use Rattle.movements.proofs.movements.Movements.nth.Given as goal

abbrev pub invariant-loop-i : goal.invariant-loop-i
invariant-loop-i g l = l.left + added_count l.table (take l.i l.added) ≡ l.k
