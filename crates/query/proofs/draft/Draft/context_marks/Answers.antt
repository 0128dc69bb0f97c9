use Rattle.std.proofs.Common.{◌≤◌, [], length, sym, refl, ap, ◌∙◌, arith}
use Rattle.lines.specs.Shapes.{shape_of}
use Rattle.query.specs.Sums.{longer}
use Rattle.query.proofs.Handing.{under_end}
use Rattle.query.proofs.Placing.{plain_marks, in_place, handed_on}
use Rattle.query.proofs.draft.Draft.context_marks.Goals as goal

pub loop-j-init : goal.loop-j-init
loop-j-init c =
    let ls = c.args.self.now.lines.now in
    let n = length ls in
    record {
      under = λ i h. plain_marks c.plain-contexts.result i h c.plain-contexts.ensures ∙ sym (under_end (longer ls c.args.self.now.tables.items) [] ls n n i (omega arith));
      long = refl;
    }

pub inner_marks-y-requires : goal.inner_marks-y-requires
inner_marks-y-requires c =
    let ls = c.args.self.now.lines.now in
    let m : c.loop-j.j ≤ length ls = omega (arith, c.loop-j.auto.j) in
    in_place ls c.args.self.now.tables.items c.requires c.loop-j.contexts c.loop-j.j c.index-contexts-j.result (omega arith) m c.loop-j.invariant.long c.loop-j.invariant.under

pub loop-j-preserved : goal.loop-j-preserved
loop-j-preserved c =
    let ls = c.args.self.now.lines.now in
    let m : c.loop-j.j ≤ length ls = omega (arith, c.loop-j.auto.j) in
    record {
      under = handed_on ls c.args.self.now.tables.items c.requires c.loop-j.contexts c.loop-j.j c.index-contexts-j.result (omega arith) m c.loop-j.invariant.long c.loop-j.invariant.under
          c.hand_down.new.contexts c.shape.result c.inner_marks-y.result (c.shape.ensures ∙ ap shape_of c.line.ensures) c.inner_marks-y.ensures c.hand_down.ensures;
      long = c.hand_down.auto.contexts ∙ c.loop-j.invariant.long;
    }
