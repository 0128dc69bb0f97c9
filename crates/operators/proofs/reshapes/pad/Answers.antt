use Rattle.std.proofs.Common.{◌+◌, [], ◌++◌, replicate, rules}
use Rattle.cells.specs.declared.cell.Cell.TheVariants.{Null}
use Rattle.operators.specs.Places.{rows_in}
use Rattle.operators.proofs.Turning.{next_at}
use Rattle.operators.proofs.Reshaping.{one, each_one}
use Rattle.operators.proofs.Meaning.{lays_as}
use Rattle.operators.proofs.reshapes.pad.Goals as goal

pub lay_each-requires-clause-steps : goal.lay_each-requires-clause-steps
lay_each-requires-clause-steps c = (
  one (λ x. x ++ replicate c.args.nulls Null),
  record {
    takes = λ x i to t. let n = next_at _ _ _ _ _ _ c.requires.rows t in search rules;
    lays = λ x y i to r t h. search rules;
  },
)

pub returns : goal.returns
unfolding lay_each-requires-clause-steps
returns c =
    let steps = lay_each-requires-clause-steps c.before.before in
    lays_as c.args.cells.now c.lay_each.new.cells c.args.out (c.args.rows.width + c.args.nulls) _ _ c.lay_each.result
    (each_one (λ x. x ++ replicate c.args.nulls Null) [] (rows_in c.args.cells.now c.args.rows)) (c.lay_each.ensures steps.0 steps.1)
