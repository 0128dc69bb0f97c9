use Rattle.std.proofs.Common.{arith}
use Rattle.query.specs.Queries.{lines_of, widths_of}
use Rattle.query.proofs.Sounds.{accepted_counted, sound_answer}
use Rattle.unnest.proofs.Laws.{lifted_law}
use Rattle.unnest.proofs.Whole.{at_top, whole_so}
use Rattle.unnest.proofs.unnesting.emit_answer.Goals as goal

pub overflow_sub-size : goal.overflow_sub-size
overflow_sub-size c =
    let q = c.args.query.now in
    omega (arith, (accepted_counted (lines_of q) (widths_of q) q.accepted).0, c.size.ensures)

pub emit-requires : goal.emit-requires
emit-requires c =
    let q = c.args.query.now in
    record {
      within = omega (arith, (accepted_counted (lines_of q) (widths_of q) q.accepted).0, c.size.ensures);
      context = at_top (widths_of q) (lines_of q) c.size.result c.size.ensures (sound_answer (lines_of q) (widths_of q) q.accepted);
    }

pub returns : goal.returns
returns c = record { lines = whole_so c.args.query.now c.size.result _ _ c.emit.result c.size.ensures c.requires c.emit.ensures; lifted = lifted_law }
