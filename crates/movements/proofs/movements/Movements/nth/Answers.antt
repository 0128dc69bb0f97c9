use Rattle.std.proofs.Common.{arith}
use Rattle.std.proofs.lemmas.Bool.Decides.{nat_tests}
use Rattle.movements.specs.Moving.{added_count_more}
use Rattle.movements.proofs.movements.Movements.nth.Goals as goal
use Rattle.movements.proofs.movements.Movements.nth.Goals.{then-m-table+else-left-eq0, else-m-table}

pub loop-i-preserved : goal.loop-i-preserved
loop-i-preserved g c =
    let more = added_count_more c.args.table c.as_slice-added.result.now c.loop-i.i c.index-added-i.result (omega arith) c.index-added-i.is in
    elim c.if-m-table.branch [ then-m-table+else-left-eq0 w ↦ grind (arith, nat_tests) | else-m-table w ↦ grind (arith, nat_tests) ]
