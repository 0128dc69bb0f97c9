use Rattle.std.proofs.Common.{ℕ, rules}
use Rattle.std.proofs.lemmas.Result.{err_from_is_err_and, MatchResult-weaker}
use Rattle.stock.specs.declared.refusal.Refusal.TheVariants.{LongRow, UnknownColumn}
use Rattle.lines.specs.Shapes.{line_at}
use Rattle.query.specs.Contexts.{too_long, outside}
use Rattle.query.specs.Working.{listed}
use Rattle.query.proofs.Deciding.{refuse_with, refuse6, passed6, refuse7, passed7}
use Rattle.query.proofs.draft.Draft.check_columns.Goals as goal

pub returns-in_err-refuse_first : goal.returns-in_err-refuse_first
returns-in_err-refuse_first c =
    let ls = c.args.self.now.lines.now in
    let ws = c.args.self.now.tables.items in
    let w = c.args.widths.now.each.items in
    let d = c.contexts-contexts.result in
    let p = err_from_is_err_and c.from_residual.result c.from_residual.ensures.1 in
    rw (p.1, p.2)
    (refuse_with ls ws LongRow (λ i. too_long (listed d i) (listed w i) (line_at ls i)) _ (refuse6 ls ws w d c.requires.passed c.requires.measured c.contexts-contexts.ensures.is)
    (c.in_err-refuse_first.ensures (λ i. too_long (listed d i) (listed w i) (line_at ls i)) (λ i b k e. search rules)))

pub returns : goal.returns
returns c =
    let ls = c.args.self.now.lines.now in
    let ws = c.args.self.now.tables.items in
    let w = c.args.widths.now.each.items in
    let d = c.contexts-contexts.result in
    let C = c.contexts-contexts.ensures.is in
    let Q = passed6 ls ws w d c.requires.passed c.requires.measured C (c.in_ok-refuse_first.ensures (λ i. too_long (listed d i) (listed w i) (line_at ls i)) (λ i b k e. search rules)) in
    let p = λ (i : ℕ). outside (listed d i) (listed w) (line_at ls i) in
    MatchResult-weaker c.refuse_first-2.result (c.refuse_first-2.ensures p (λ i b k e. search rules)) (λ _ N. passed7 ls ws w d c.requires.passed c.requires.measured C Q N)
    (λ e q. refuse_with ls ws UnknownColumn p e (λ i f. refuse7 ls ws w d c.requires.passed c.requires.measured C i Q f) q)
