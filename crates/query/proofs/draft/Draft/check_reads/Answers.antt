use Rattle.std.proofs.Common.{rules}
use Rattle.std.proofs.lemmas.Result.{err_from_is_err_and, MatchResult-weaker}
use Rattle.stock.specs.declared.refusal.Refusal.TheVariants.{Operand, Reading, UnknownTable}
use Rattle.query.specs.Reads.{misread, isolated}
use Rattle.lines.specs.Shapes.{line_at}
use Rattle.query.specs.Fits.{unknown_table}
use Rattle.query.proofs.Deciding.{refuse_with, passed1, refuse2, passed2, refuse3, passed3, refuse4, passed4}
use Rattle.query.proofs.draft.Draft.check_reads.Goals as goal

pub returns-in_err-refuse_first : goal.returns-in_err-refuse_first
returns-in_err-refuse_first c =
    let d = c.args.self.now in
    let ls = d.lines.now in
    let ws = d.tables.items in
    let p = err_from_is_err_and c.from_residual.result c.from_residual.ensures.1 in
    rw (p.1, p.2)
    (refuse_with ls ws Operand (misread ls) _ (λ i f. refuse2 ls ws i (passed1 ls ws d.some d.few) f) (c.in_err-refuse_first.ensures (misread ls) (λ i b k e. search rules)))

pub returns-in_err-refuse_first-2 : goal.returns-in_err-refuse_first-2
returns-in_err-refuse_first-2 c =
    let d = c.args.self.now in
    let ls = d.lines.now in
    let ws = d.tables.items in
    let P = passed2 ls ws (passed1 ls ws d.some d.few) (c.in_ok-refuse_first.ensures (misread ls) (λ i b k e. search rules)) in
    let p = err_from_is_err_and c.from_residual-in_err-refuse_first-2.result c.from_residual-in_err-refuse_first-2.ensures.1 in
    let q = c.in_err-refuse_first-2.ensures (isolated ls) (λ i b k e. search rules) in
    rw (p.1, p.2)
    (refuse_with ls ws Reading (isolated ls) _ (λ i f. refuse3 ls ws i P f) (q.0, q.1, search rules))

pub returns : goal.returns
returns c =
    let d = c.args.self.now in
    let ls = d.lines.now in
    let ws = d.tables.items in
    let P = passed3 ls ws (passed2 ls ws (passed1 ls ws d.some d.few) (c.in_ok-refuse_first.ensures (misread ls) (λ i b k e. search rules))) (c.in_ok-refuse_first-2.ensures (isolated ls) (λ i b k e. search rules)) in
    MatchResult-weaker c.refuse_first-3.result (c.refuse_first-3.ensures (λ i. unknown_table ws (line_at ls i)) (λ i b k e. search rules)) (λ _ N. passed4 ls ws P N)
    (λ e q. refuse_with ls ws UnknownTable (λ i. unknown_table ws (line_at ls i)) e (λ i f. refuse4 ls ws i P f) q)
