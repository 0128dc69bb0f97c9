use Rattle.std.proofs.Common.{true, false, sym, arith, below_more}
use Rattle.query.proofs.draft.Draft.refuse_first.Goals as goal

pub loop-i-preserved : goal.loop-i-preserved
loop-i-preserved g c = below_more _ _ c.loop-i.invariant c.if-is_faulty.ensures

pub returns-then-is_faulty : goal.returns-then-is_faulty
returns-then-is_faulty g c = λ p h. (
  c.loop-i.i,
  record { within = omega arith; fault = sym (h c.loop-i.i true (omega arith) c.if-is_faulty.ensures); before = λ j k. sym (h j false (omega arith) (c.loop-i.invariant j k)) },
  c.refusal.ensures,
)

pub returns : goal.returns
returns g c = λ p h. λ j k. sym (h j false k (c.loop-i.invariant j (omega arith)))
