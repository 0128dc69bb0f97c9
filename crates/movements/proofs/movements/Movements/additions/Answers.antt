use Rattle.std.proofs.Common.{◌≡◌, ◌≤◌, cond, eqb, rules, tests, arith}
use Rattle.movements.specs.Moving.{added_count_more}
use Rattle.movements.proofs.movements.Movements.additions.Goals as goal

pub loop-m-preserved : goal.loop-m-preserved
loop-m-preserved g c =
    let t = c.args.table in
    let ms = c.as_slice-added.result.now in
    let i = c.loop-m.m-index in
    let more = added_count_more t ms i c.m-item.result (omega arith) c.m-item.is in
    let one : c.from-n.result ≡ cond (eqb c.m-item.result.table t) 1 0 = search (rules, tests) in
    let few : c.from-n.result ≤ 1 = search (rules, tests) in
    (omega arith, omega arith)
