use Rattle.std.proofs.Common.{rules}
use Rattle.std.proofs.lemmas.Result.{MatchResult-weaker}
use Rattle.stock.specs.declared.refusal.Refusal.TheVariants.{SumOfSum}
use Rattle.query.specs.Sums.{resummed}
use Rattle.query.proofs.Deciding.{refuse_with, refuse8, passed8, accept}
use Rattle.query.proofs.draft.Draft.check_sums.Goals as goal

pub returns : goal.returns
returns c =
    let ls = c.args.self.now.lines.now in
    let ws = c.args.self.now.tables.items in
    MatchResult-weaker c.refuse_first.result (c.refuse_first.ensures (resummed ls ws) (λ i b k e. search rules)) (λ _ N. accept ls ws (passed8 ls ws c.requires N))
    (λ e q. refuse_with ls ws SumOfSum (resummed ls ws) e (λ i f. refuse8 ls ws i c.requires f) q)
