use Rattle.std.proofs.Common.{◌≡◌, length, get_or, sym, ◌∙◌, inl, inr, rules, arith}
use Rattle.std.proofs.lemmas.List.{get_or_default, get_or_past}
use Rattle.std.proofs.lemmas.Bool.{cases_lt}
use Rattle.query.specs.Queries.{lines_of, widths_of}
use Rattle.query.proofs.Tabling.{past_width}
use Rattle.query.proofs.query.Query.line_width.Goals as goal

pub returns : goal.returns
returns c =
    let q = c.args.self.now in
    let w = q.widths.each.items in
    let i = c.args.i in
    let e : c.unwrap_or.result ≡ get_or w i 1 = search rules in
    e ∙ elim (cases_lt i (length w)) [
      | inl h ↦ get_or_default w i 1 0 h ∙ q.measured.widths i (omega (arith, q.measured.long))
      | inr h ↦ get_or_past w i 1 h ∙ sym (past_width (lines_of q) (widths_of q) i (omega (arith, q.measured.long)))
    ]
