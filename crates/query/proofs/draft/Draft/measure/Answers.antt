use Rattle.std.proofs.Common.{◌≡◌, ◌<◌, length, sym, ◌∙◌, arith, below_more}
use Rattle.std.proofs.lemmas.List.{length_push}
use Rattle.query.proofs.Passing.{ordered}
use Rattle.query.proofs.Deciding.{refuse5}
use Rattle.query.proofs.Fitting.{unfit_is, measured_more, added_small, small_more}
use Rattle.query.proofs.draft.Draft.measure.Goals as goal

pub returns-then-is_misfit : goal.returns-then-is_misfit
returns-then-is_misfit c =
    let d = c.args.self.now in
    let ls = d.lines.now in
    let ws = d.tables.items in
    let i = c.loop-i.i in
    let w = c.loop-i.widths.each.items in
    let V = c.loop-i.invariant in
    let h : i < length ls = omega arith in
    refuse5 ls ws i c.requires
    (record { within = h; fault = sym (unfit_is ls ws w i d.sized.most d.few (ordered ls ws 4 c.requires (omega arith)) h V.long V.measured V.small) ∙ sym c.is_misfit.ensures ∙ c.if-is_misfit.true; before = V.fits })

pub push-requires-clause-small : goal.push-requires-clause-small
push-requires-clause-small c =
    let d = c.args.self.now in
    let ls = d.lines.now in
    let ws = d.tables.items in
    let i = c.loop-i.i in
    let w = c.loop-i.widths.each.items in
    let V = c.loop-i.invariant in
    let h : i < length ls = omega arith in
    added_small ls ws w i d.sized.most d.few (ordered ls ws 4 c.requires (omega arith)) h V.long V.measured V.small c.width_of.result c.width_of.ensures
    (sym c.is_misfit.ensures ∙ c.if-is_misfit.false)

pub loop-i-preserved : goal.loop-i-preserved
loop-i-preserved c =
    let d = c.args.self.now in
    let ls = d.lines.now in
    let ws = d.tables.items in
    let i = c.loop-i.i in
    let w = c.loop-i.widths.each.items in
    let V = c.loop-i.invariant in
    let v = c.width_of.result in
    let h : i < length ls = omega arith in
    let o = ordered ls ws 4 c.requires (omega arith) in
    let ok = sym c.is_misfit.ensures ∙ c.if-is_misfit.false in
    record {
      long = rw c.push.ensures (length_push w v ∙ omega (arith, V.long));
      fits = below_more _ _ V.fits (sym (unfit_is ls ws w i d.sized.most d.few o h V.long V.measured V.small) ∙ ok);
      measured = rw c.push.ensures (measured_more ls ws w i d.sized.most d.few o h V.long V.measured V.small v c.width_of.ensures);
      small = rw c.push.ensures (small_more ls ws w i d.sized.most d.few o h V.long V.measured V.small v c.width_of.ensures ok);
    }

pub returns : goal.returns
returns c =
    let e : c.loop-i.i ≡ length c.args.self.now.lines.now = omega arith in
    record { long = c.loop-i.invariant.long ∙ e; fits = rw (sym e) c.loop-i.invariant.fits; widths = rw (sym e) c.loop-i.invariant.measured; small = c.loop-i.widths.small }
