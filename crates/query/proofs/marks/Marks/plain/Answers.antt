use Rattle.std.proofs.Common.{false, refl}
use Rattle.std.proofs.lemmas.List.{take-replicate, drop-replicate}
use Rattle.query.proofs.marks.Marks.plain.Goals as goal

pub invariant_of-result : goal.invariant_of-result
invariant_of-result c = record { few = c.requires; long = refl; rest = drop-replicate c.args.n 32 false }

pub returns : goal.returns
returns c = take-replicate c.args.n 32 false c.requires
