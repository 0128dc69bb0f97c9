use Rattle.std.proofs.Common.{◌≡◌, ◌≤◌, take}
use Rattle.movements.specs.Moves.{added_count}
use Rattle.movements.proofs.movements.Movements.additions.Given as goal

abbrev pub invariant-loop-m : goal.invariant-loop-m
invariant-loop-m g l = (l.n ≡ added_count l.table (take l.m-index l.added)) × (l.n ≤ l.m-index)
