use Rattle.std.proofs.Common.{◌≡◌, ◌<◌, ◌≤◌, length, [], get_or, sym, ap, ◌∙◌, rules, tests, arith}
use Rattle.std.proofs.lemmas.Iterator.Adapters.{YieldsList-from_rev_slice, serves_from_total}
use Rattle.std.proofs.lemmas.Iterator.Consumers.{fold_from_yields_List}
use Rattle.std.proofs.lemmas.List.{length-take-le}
use Rattle.stock.specs.Tables.{rows_at}
use Rattle.movements.specs.Moves.{before}
use Rattle.movements.specs.Moving.{before_small}
use Rattle.movements.specs.Shown.{items_of}
use Rattle.movements.proofs.Walked.{source_by, steps_back}
use Rattle.movements.proofs.movements.Movements.source.Goals as goal

pub fold-requires-clause-callable : goal.fold-requires-clause-callable
fold-requires-clause-callable g c =
    let hs = items_of c.args.self.now.hidden in
    let few = steps_back hs in
    let n : length hs ≡ c.args.self.now.hidden.count = length-take-le _ _ (omega arith) in
    let held : length hs ≤ 64 = omega arith in
    serves_from_total (YieldsList-from_rev_slice hs cc) (λ _. 1)
    (λ n x q k. let moves : q.1 ≡ before c.args.table x.now n = search (rules, tests) in let s = before_small c.args.table x.now n in (search rules, omega arith))
    (λ n x l. let small : n < 131072 = omega arith in search rules)

pub returns : goal.returns
returns g c =
    let s = c.args.self.now in
    let t = c.args.table in
    source_by t (items_of s.hidden) (rows_at (g.S.Stock.tables s.below) t) c.args.place []
    ∙ ap (λ q. get_or (rows_at (g.S.Stock.tables s.below) t) q []) (sym (fold_from_yields_List _ (λ q h. before t h q) c.args.place c.fold.result c.fold.ensures.ran (YieldsList-from_rev_slice (items_of s.hidden) cc) (λ a x b q k. search (rules, tests))))
