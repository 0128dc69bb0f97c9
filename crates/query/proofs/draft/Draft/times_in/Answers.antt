use Rattle.std.proofs.Common.{◌≡◌, map, sum, sym, ◌∙◌, rules}
use Rattle.lines.specs.Shapes.{shape_of}
use Rattle.query.specs.Reads.{times}
use Rattle.query.proofs.Reading.{times_in_sum}
use Rattle.query.proofs.draft.Draft.times_in.Goals as goal

pub returns : goal.returns
returns c =
    let ls = c.args.self.now.lines.now in
    let e : c.sum.result ≡ sum (map (λ l. times (shape_of l) c.args.i) ls) = search rules in
    e ∙ sym (times_in_sum ls c.args.i)
