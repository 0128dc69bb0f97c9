use Rattle.std.proofs.Common.{◌+◌, ◌-◌, ◌*◌, ◌≤◌, length, sym, refl, ap, ◌∙◌, inl, inr, arith}
use Rattle.std.proofs.lemmas.List.{get_or_past}
use Rattle.std.proofs.lemmas.Bool.{cases_lt}
use Rattle.lines.specs.Shapes.{shape_of}
use Rattle.query.specs.Working.{wider_by, listed}
use Rattle.query.proofs.Fitting.{zeros}
use Rattle.query.proofs.Handing.{under_end, under_step, handed_small}
use Rattle.query.proofs.draft.Draft.contexts.Goals as goal

pub loop-j-init : goal.loop-j-init
loop-j-init c =
    let ls = c.args.self.now.lines.now in
    let n = length ls in
    record {
      under = λ i h. zeros 32 i ∙ sym (under_end (wider_by c.args.widths.now.each.items) 0 ls n n i (omega arith));
      small = λ i. omega (arith, zeros 32 i);
      long = refl;
    }

pub loop-j-preserved : goal.loop-j-preserved
loop-j-preserved c =
    let ls = c.args.self.now.lines.now in
    let w = c.args.widths.now.each.items in
    let n = length ls in
    let j = c.loop-j.j in
    let x = listed c.loop-j.contexts (j - 1) in
    let y = x + c.at.result in
    let B = (n - (j - 1)) * 137438953472 in
    let V = c.loop-j.invariant in
    let m : j ≤ n = omega (arith, c.loop-j.auto.j) in
    let b : x ≤ (n - j) * 137438953472 = V.small (j - 1) in
    record {
      under = under_step (wider_by w) 0 ls (listed c.loop-j.contexts) (listed c.hand_down.new.contexts) (j - 1) j c.shape-shape.result y
          (omega arith) (omega arith) c.args.self.now.few (c.shape-shape.ensures ∙ ap shape_of c.line.ensures)
          (λ i e. ap (λ v. x + v) (c.at.ensures.value ∙ ap (listed w) c.first_of.ensures)) V.under (λ i h. c.hand_down.ensures 0 i (omega (arith, V.long)));
      small = λ i. elim (cases_lt i 32) [
        | inl h ↦ rw (c.hand_down.ensures 0 i (omega (arith, V.long)))
            (handed_small c.shape-shape.result x y (listed c.loop-j.contexts i) i B (omega arith) (omega (arith, c.at.ensures.small)) (omega (arith, V.small i)))
        | inr h ↦ rw (get_or_past c.hand_down.new.contexts i 0 (omega (arith, c.hand_down.auto.contexts, V.long))) (omega arith)
      ];
      long = c.hand_down.auto.contexts ∙ V.long;
    }
