use Rattle.std.proofs.Common.{◌+◌, [], inr, Some, rules}
use Rattle.lines.specs.Ops.{keep_row}
use Rattle.operators.specs.Places.{rows_in}
use Rattle.operators.proofs.Turning.{next_at, one_counted}
use Rattle.operators.proofs.Reshaping.{one, each_one}
use Rattle.operators.proofs.Meaning.{lays_as}
use Rattle.operators.proofs.reshapes.keep.Goals as goal

pub lay_each-requires-clause-steps : goal.lay_each-requires-clause-steps
lay_each-requires-clause-steps c = (
  one (keep_row c.args.first c.args.last),
  record {
    takes = λ x i to t. let n = next_at _ _ _ _ _ _ c.requires.rows t in search rules;
    lays = λ x y i to r t h. search rules;
  },
)

pub lay_each-requires-clause-counted : goal.lay_each-requires-clause-counted
unfolding lay_each-requires-clause-steps
lay_each-requires-clause-counted c = inr (record { one = λ x y i to n t h. one_counted x.now y.now to (c.args.first + c.args.last) n _ ((lay_each-requires-clause-steps c).1.lays x y i to (Some n) t h) })

pub returns : goal.returns
unfolding lay_each-requires-clause-steps
returns c =
    let steps = lay_each-requires-clause-steps c.before.before in
    lays_as c.args.cells.now c.lay_each.new.cells c.args.out (c.args.first + c.args.last) _ _ c.lay_each.result
    (each_one (keep_row c.args.first c.args.last) [] (rows_in c.args.cells.now c.args.rows)) (c.lay_each.ensures steps.0 steps.1)
