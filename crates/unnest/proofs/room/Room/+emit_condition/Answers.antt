use Rattle.std.proofs.Common.{arith}
use Rattle.unnest.proofs.Operands.{is_line, below, stops_condition, part_laid, parts_laid, parts_long, rest_condition}
use Rattle.unnest.proofs.Puts.{front_long}
use Rattle.unnest.proofs.room.Room.+emit_condition.Goals as goal

pub emit_condition-requires : goal.emit_condition-requires
emit_condition-requires t c =
    let h = is_line c.args.query.now _ _ _ c.requires c.line-kind.ensures c.in-Part.ensures in
    (omega (arith, below h, c.decreases), omega (arith, below h, c.requires))

pub emit_condition-requires-in-Parts : goal.emit_condition-requires-in-Parts
emit_condition-requires-in-Parts t c =
    let h = is_line c.args.query.now _ _ _ c.requires c.line-kind.ensures c.in-Parts.ensures in
    (omega (arith, (below h).0, c.decreases), omega (arith, (below h).0, c.requires))

pub emit_condition-requires-in-Parts-2 : goal.emit_condition-requires-in-Parts-2
emit_condition-requires-in-Parts-2 t c =
    let h = is_line c.args.query.now _ _ _ c.requires c.line-kind.ensures c.in-Parts.ensures in
    (omega (arith, (below h).1, c.decreases), omega (arith, (below h).1, c.requires))

pub returns-in_err-part-in-Part : goal.returns-in_err-part-in-Part
returns-in_err-part-in-Part t c =
    let h = is_line c.args.query.now _ _ _ c.requires c.line-kind.ensures c.in-Part.ensures in
    let r = c.from_residual in
    stops_condition h _ _ r.result _ r.ensures.1 (front_long _ _ _ _ c.in_err-part-in-Part.ensures)

pub returns-in_err-one-in-Parts : goal.returns-in_err-one-in-Parts
returns-in_err-one-in-Parts t c =
    let h = is_line c.args.query.now _ _ _ c.requires c.line-kind.ensures c.in-Parts.ensures in
    let r = c.from_residual-in_err-one-in-Parts in
    stops_condition h _ _ r.result _ r.ensures.1 (front_long _ _ _ _ c.in_err-one-in-Parts.ensures)

pub returns-in_err-two-in-Parts : goal.returns-in_err-two-in-Parts
returns-in_err-two-in-Parts t c =
    let h = is_line c.args.query.now _ _ _ c.requires c.line-kind.ensures c.in-Parts.ensures in
    let r = c.from_residual-in_err-two-in-Parts in
    parts_long h _ _ _ _ r.result _ r.ensures.1 c.in_ok-one-in-Parts.ensures c.in_err-two-in-Parts.ensures

pub returns-in_ok-part-in-Part : goal.returns-in_ok-part-in-Part
returns-in_ok-part-in-Part t c =
    let h = is_line c.args.query.now _ _ _ c.requires c.line-kind.ensures c.in-Part.ensures in
    part_laid h _ _ _ _ c.put.result c.in_ok-part-in-Part.ensures (rw c.over.ensures at c.put.ensures.put)

pub returns-in_ok-two-in-Parts : goal.returns-in_ok-two-in-Parts
returns-in_ok-two-in-Parts t c =
    let h = is_line c.args.query.now _ _ _ c.requires c.line-kind.ensures c.in-Parts.ensures in
    parts_laid h _ _ _ _ _ _ c.put-in-Parts.result c.in_ok-one-in-Parts.ensures c.in_ok-two-in-Parts.ensures (rw c.over-in-Parts.ensures at c.put-in-Parts.ensures.put)

pub returns-in_default : goal.returns-in_default
returns-in_default t c =
    let h = is_line c.args.query.now _ _ _ c.requires c.line-kind.ensures c.shape.ensures in
    rest_condition h c.in_default.not-Part c.in_default.not-Parts _ _ c.put-in_default.result (rw c.over-in_default.ensures at c.put-in_default.ensures.put)
