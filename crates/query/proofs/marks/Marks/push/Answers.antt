use Rattle.std.proofs.Common.{length, ap, arith}
use Rattle.std.proofs.lemmas.List.{length-take-le}
use Rattle.query.proofs.Marked.{pushed_blank}
use Rattle.query.proofs.marks.Marks.push.Goals as goal

pub invariant_of-self : goal.invariant_of-self
invariant_of-self c =
    let m = c.self.inside in
    let n = length-take-le m.count m.columns (omega (arith, c.self.invariant.few, c.self.invariant.long)) in
    pushed_blank m.columns m.count c.args.mark c.self.invariant (omega (arith, n, ap length c.self.view_is, c.requires))
