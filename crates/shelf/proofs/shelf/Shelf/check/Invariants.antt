use Rattle.std.proofs.Common.{◌≡◌, drop}
use Rattle.shelf.specs.Cut.{fault, fault_from}
use Rattle.shelf.proofs.shelf.Shelf.check.Given as goal

abbrev pub invariant-loop-i : goal.invariant-loop-i
invariant-loop-i l = fault l.pairs l.cells ≡ fault_from l.i (drop l.i l.pairs) l.rest
