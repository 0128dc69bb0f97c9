use Rattle.std.proofs.Common.{length, ap, ◌∙◌}
use Rattle.lines.specs.Lines.{answer}
use Rattle.lines.specs.Trees.{width}
use Rattle.query.specs.Queries.{lines_of}
use Rattle.movements.specs.Shown.{shown}
use Rattle.stock.specs.Tables.{widths}
use Rattle.session.proofs.Steps.{steps_lay}
use Rattle.session.proofs.session.Session.lay.Goals as goal

pub returns-clause-steps : goal.returns-clause-steps
returns-clause-steps g c =
    let tables = g.S.Stock.tables in
    let s = c.args.self.now in
    let q = c.in_ok-query.query in
    let h = c.in_ok-query.ensures in
    let size = c.size.ensures ∙ ap length h.0 in
    let wide = c.width.ensures.value ∙ ap (λ x. width x (answer (lines_of q))) h.1 ∙ ap (λ x. width (widths (shown tables s.layer)) (answer x)) h.0 in
    steps_lay tables s c.args.lines.now q c.size.result c.width.result h.2 h.0 h.1 size wide
