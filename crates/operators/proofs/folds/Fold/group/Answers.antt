use Rattle.std.proofs.Common.{◌+◌, rules}
use Rattle.operators.specs.Places.{rows_in, next_row, front_of}
use Rattle.operators.specs.Folds.{grouped}
use Rattle.operators.proofs.Turning.{next_at, stands_at, room_at}
use Rattle.operators.proofs.Grouping.{each_grouped, grouped_below, addable_below}
use Rattle.operators.proofs.Meaning.{lays_as}
use Rattle.operators.proofs.folds.Fold.group.Goals as goal

pub lay_each-requires-clause-steps : goal.lay_each-requires-clause-steps
lay_each-requires-clause-steps c =
    let f = c.args.self.now in
    let cells = c.args.cells.now in
    let rows = c.args.rows in (
      grouped c.args.keys f.aggregate f.column f.context.now (rows_in cells rows),
      record {
        takes = λ x i to t.
            let n = next_at _ _ _ _ _ _ c.requires.rows t in
            let s = stands_at _ _ _ _ _ _ _ c.requires.rows t in
            let o = room_at _ _ _ _ _ _ c.requires.room t in
            let a = addable_below f.aggregate f.column f.context.now x.now cells rows c.args.out t.below c.requires.rows c.requires.addable in
            search rules;
        lays = λ x y i to r t h. lays_as x.now y.now to (c.args.keys + 1) _ _ r
            (grouped_below c.args.keys f.aggregate f.column f.context.now x.now cells rows c.args.out (rows_in x.now (front_of rows i)) (next_row x.now (front_of rows i)) t.below c.requires.rows) (search rules);
      },
    )

pub returns : goal.returns
unfolding lay_each-requires-clause-steps
returns c =
    let f = c.args.self.now in
    let steps = lay_each-requires-clause-steps c.before.before in
    lays_as c.args.cells.now c.lay_each.new.cells c.args.out (c.args.keys + 1) _ _ c.lay_each.result
    (each_grouped c.args.keys f.aggregate f.column f.context.now (rows_in c.args.cells.now c.args.rows)) (c.lay_each.ensures steps.0 steps.1)
