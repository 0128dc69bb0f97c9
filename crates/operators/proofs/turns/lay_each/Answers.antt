use Rattle.std.proofs.Common.{inr, refl, arith}
use Rattle.std.proofs.Math.Logic.{⊎_map}
use Rattle.operators.proofs.Stack.{start, turn, turn_over}
use Rattle.operators.proofs.Turning.{at_turn, counted_more}
use Rattle.operators.proofs.turns.lay_each.Goals as goal

pub loop-i-init : goal.loop-i-init
loop-i-init g c = record { laid = λ gives s. start gives c.args.cells.now c.args.rows.start c.args.rows.width c.args.out c.args.width c.requires.room.room; counted = inr (omega arith) }

pub returns-in_err-k : goal.returns-in_err-k
returns-in_err-k g c = λ gives s.
    let inv = c.loop-i.invariant.laid gives s in
    let t = at_turn c.args.cells.now c.loop-i.cells c.args.rows c.args.out c.loop-i.i c.loop-i.k c.args.width _ c.loop-i-test.true inv in
    rw c.from_residual.ensures
    (turn_over gives c.args.cells.now c.loop-i.cells c.args.rows.start c.loop-i.i c.args.rows.rows c.args.rows.width c.args.out c.loop-i.k c.args.width c.requires.rows.inside c.loop-i-test.true _ refl inv
    (s.lays _ _ c.loop-i.i _ _ t (rw c.front.ensures at c.in_err-k.ensures)))

pub loop-i-preserved : goal.loop-i-preserved
loop-i-preserved g c = record {
  laid = λ gives s.
      let inv = c.loop-i.invariant.laid gives s in
      let t = at_turn c.args.cells.now c.loop-i.cells c.args.rows c.args.out c.loop-i.i c.loop-i.k c.args.width _ c.loop-i-test.true inv in
      turn gives c.args.cells.now c.loop-i.cells c.step.new.arg2 c.args.rows.start c.loop-i.i c.args.rows.rows c.args.rows.width c.args.out c.loop-i.k c.in_ok-k.field-0 c.args.width c.requires.rows.inside c.loop-i-test.true _ refl inv
      (s.lays _ _ c.loop-i.i _ _ t (rw c.front.ensures at c.in_ok-k.ensures));
  counted =
      let inv = c.loop-i.invariant.laid c.requires.steps.0 c.requires.steps.1 in
      let t = at_turn c.args.cells.now c.loop-i.cells c.args.rows c.args.out c.loop-i.i c.loop-i.k c.args.width _ c.loop-i-test.true inv in
      counted_more c.args.width c.loop-i.k c.in_ok-k.field-0 c.loop-i.i (⊎_map (λ h. h) (λ o. o.one _ _ c.loop-i.i _ _ t (rw c.front.ensures at c.in_ok-k.ensures)) c.requires.counted) c.loop-i.invariant.counted;
}
