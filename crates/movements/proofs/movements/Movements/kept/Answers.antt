use Rattle.std.proofs.Common.{sym, ap, ◌∙◌, fold, rules, tests}
use Rattle.std.proofs.lemmas.Iterator.{YieldsList-from_slice}
use Rattle.std.proofs.lemmas.Iterator.Consumers.{fold_from_yields_List}
use Rattle.stock.specs.Tables.{rows_at}
use Rattle.movements.specs.Moves.{fewer}
use Rattle.movements.specs.Shown.{items_of}
use Rattle.movements.proofs.Walked.{kept_by}
use Rattle.movements.proofs.movements.Movements.kept.Goals as goal

pub returns : goal.returns
returns g c =
    let s = c.args.self.now in
    let t = c.args.table in
    fold_from_yields_List _ (λ n h. fewer t h n) c.row_count.result c.fold.result c.fold.ensures.ran (YieldsList-from_slice (items_of s.hidden) cc) (λ a x b q k. search (rules, tests))
    ∙ ap (λ n. fold (λ m h. fewer t h m) n (items_of s.hidden)) c.row_count.ensures
    ∙ sym (kept_by t (items_of s.hidden) (rows_at (g.S.Stock.tables s.below) t))
