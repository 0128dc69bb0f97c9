use Rattle.std.proofs.Common.{◌≡◌, ◌++◌, drop}
use Rattle.query.proofs.marks.Marks.then.Given as goal

abbrev pub invariant-loop-k : goal.invariant-loop-k
invariant-loop-k l = l.all ++ drop l.k l.other ≡ l.initial.all ++ drop l.from l.other
