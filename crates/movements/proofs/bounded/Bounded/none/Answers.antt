use Rattle.std.proofs.Common.{arith}
use Rattle.std.proofs.lemmas.List.{length-replicate}
use Rattle.movements.proofs.bounded.Bounded.none.Goals as goal

pub invariant_of-result : goal.invariant_of-result
invariant_of-result g c = record { small = omega arith; long = length-replicate g.row.N c.args.any }
