use Rattle.std.proofs.Common.{sym, ap, ◌∙◌, arith}
use Rattle.std.specs.Prelude.{unwrap_or}
use Rattle.stock.specs.Tables.{width_of, rows_of}
use Rattle.shelf.specs.Cutting.{width_cut, rows_cut_at}
use Rattle.shelf.proofs.Showing.{shown_cut}
use Rattle.shelf.proofs.shelf.Shelf.pair_at.Goals as goal

pub returns : goal.returns
returns c =
    let s = c.args.self.now in
    let t = c.args.table in
    let pair = c.unwrap_or.ensures ∙ ap (λ o. unwrap_or o (0, 0)) c.copied.ensures ∙ c.get.ensures.lookup.4 (omega arith) (0, 0) in
    let same = shown_cut s.pairs.now s.cells.now s.shown.now s.checked in
    record {
      width = ap (λ p. p.0) pair ∙ sym (width_cut s.shown.now s.cells.now t) ∙ ap (λ x. width_of x t) same;
      rows = ap (λ p. p.1) pair ∙ sym (rows_cut_at s.shown.now s.cells.now t) ∙ ap (λ x. rows_of x t) same;
    }
