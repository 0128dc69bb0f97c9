use Rattle.std.proofs.Common.{◌+◌, [], ◌∷◌, ◌++◌, rules}
use Rattle.lines.specs.Trees.{side_at}
use Rattle.operators.specs.Places.{rows_in}
use Rattle.operators.proofs.Turning.{next_at}
use Rattle.operators.proofs.Reshaping.{one, each_one}
use Rattle.operators.proofs.Meaning.{lays_as}
use Rattle.operators.proofs.reshapes.extend.Goals as goal

pub lay_each-requires-clause-steps : goal.lay_each-requires-clause-steps
lay_each-requires-clause-steps c = (
  one (λ x. x ++ (side_at c.args.value (c.args.context.now ++ x) ∷ [])),
  record {
    takes = λ x i to t. let n = next_at _ _ _ _ _ _ c.requires.rows t in search rules;
    lays = λ x y i to r t h. search rules;
  },
)

pub returns : goal.returns
unfolding lay_each-requires-clause-steps
returns c =
    let steps = lay_each-requires-clause-steps c.before.before in
    lays_as c.args.cells.now c.lay_each.new.cells c.args.out (c.args.rows.width + 1) _ _ c.lay_each.result
    (each_one (λ x. x ++ (side_at c.args.value (c.args.context.now ++ x) ∷ [])) [] (rows_in c.args.cells.now c.args.rows)) (c.lay_each.ensures steps.0 steps.1)
