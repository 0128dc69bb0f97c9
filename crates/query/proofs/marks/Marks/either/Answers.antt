use Rattle.std.proofs.Common.{◌≡◌, ◌<◌, false, ◌||◌, length, get_or, sym, ap, ◌∙◌, arith}
use Rattle.std.proofs.lemmas.List.{length-take-le, take_all}
use Rattle.lines.specs.Marks.{either_mark}
use Rattle.lines.proofs.Soundness.{either_length}
use Rattle.query.proofs.Marked.{either_more}
use Rattle.query.proofs.marks.Marks.either.Goals.{then-mark, else-mark}
use Rattle.query.proofs.marks.Marks.either.Goals as goal

pub push-all-requires : goal.push-all-requires
push-all-requires c =
    let x = c.args.self.now in
    let y = c.args.other.now in
    let S = c.as_slice-mark-items.ensures in
    omega (arith, ap length c.loop-k.invariant ∙ length-take-le c.loop-k.k (either_mark x y) (omega (arith, ap length S.value, either_length x y)), S.few)

pub loop-k-preserved : goal.loop-k-preserved
loop-k-preserved c =
    let x = c.args.self.now in
    let y = c.args.other.now in
    let k = c.loop-k.k in
    let S = c.as_slice-mark-items.ensures in
    let h : k < length x = omega (arith, ap length S.value) in
    let a = ap (λ v. get_or v k false) S.value in
    let b : c.if-mark.push ≡ (get_or x k false || get_or y k false) =
    elim c.if-mark.branch [
      | then-mark w ↦ w.push-is ∙ w.if-mark.true ∙ sym (ap (λ v. v || get_or y k false) (sym a ∙ w.if-mark.true))
      | else-mark w ↦ w.push-is ∙ w.at.ensures ∙ sym (ap (λ v. v || get_or y k false) (sym a ∙ w.if-mark.false))
    ] in
    either_more c.loop-k.all c.push-all.result x y k c.loop-k.invariant h c.if-mark.push b c.push-all.ensures

pub returns : goal.returns
returns c =
    let x = c.args.self.now in
    let y = c.args.other.now in
    c.loop-k.invariant ∙ take_all c.loop-k.k (either_mark x y) (omega (arith, ap length c.as_slice-mark-items.ensures.value, either_length x y))
