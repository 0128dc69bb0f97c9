use Rattle.std.proofs.Common.{arith}
use Rattle.query.specs.Queries.{lines_of, widths_of}
use Rattle.query.proofs.Passing.{counted}
use Rattle.query.proofs.Sounds.{sound_answer}
use Rattle.query.proofs.Laws.{stored_law}
use Rattle.query.proofs.query.Query.last.Goals as goal

pub overflow_sub-result : goal.overflow_sub-result
overflow_sub-result c =
    let q = c.args.self.now in
    omega (arith, (counted (lines_of q) (widths_of q) 1 (λ b _. q.accepted b) (omega arith)).0)

pub returns : goal.returns
returns c =
    let q = c.args.self.now in
    let s = sound_answer (lines_of q) (widths_of q) q.accepted in
    record { value = omega arith; sound = s; stored = stored_law (widths_of q) _ s }
