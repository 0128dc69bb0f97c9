use Rattle.std.proofs.Common.{◌≡◌, take}
use Rattle.lines.specs.Marks.{either_mark}
use Rattle.query.proofs.marks.Marks.either.Given as goal

abbrev pub invariant-loop-k : goal.invariant-loop-k
invariant-loop-k l = l.all ≡ take l.k (either_mark l.self l.other)
