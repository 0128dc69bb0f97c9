use Rattle.std.proofs.Common.{arith}
use Rattle.query.proofs.Marked.{room, added, ended}
use Rattle.query.proofs.marks.Marks.then.Goals as goal

pub push-all-requires : goal.push-all-requires
push-all-requires c =
    room c.loop-k.all c.args.self c.args.other.now c.args.from c.loop-k.k c.loop-k.invariant (omega (arith, c.len-k-end.ensures)) c.requires

pub loop-k-preserved : goal.loop-k-preserved
loop-k-preserved c =
    added c.loop-k.all c.args.self c.args.other.now c.args.from c.loop-k.k c.loop-k.invariant c.push-all.result _ (omega (arith, c.len-k-end.ensures)) c.at.ensures c.push-all.ensures

pub returns : goal.returns
returns c = ended c.loop-k.all c.args.self c.args.other.now c.args.from c.loop-k.k c.loop-k.invariant (omega (arith, c.len-k-end.ensures))
