use Rattle.std.proofs.Common.{◌+◌, sym, ap₂, subst, arith}
use Rattle.lines.specs.Shapes.{tree_at}
use Rattle.query.specs.Queries.{lines_of, widths_of}
use Rattle.unnest.specs.Kinds.{InContext}
use Rattle.unnest.proofs.Operands.{is_line, below, contexts, counts, stops, one_laid, two_laid, two_long, tested_laid, tested_long, domain_long, inner_long, inner_laid, rest_laid}
use Rattle.unnest.proofs.Puts.{front_long}
use Rattle.unnest.proofs.room.Room.+emit.Goals as goal

pub emit-requires : goal.emit-requires
emit-requires t c =
    let h = is_line c.args.query.now _ _ _ c.requires.within c.line-kind.ensures c.in-One.ensures in
    (omega (arith, below h, c.decreases), (omega (arith, below h, c.requires.within), contexts h c.requires.context))

pub emit-requires-in-Two : goal.emit-requires-in-Two
emit-requires-in-Two t c =
    let h = is_line c.args.query.now _ _ _ c.requires.within c.line-kind.ensures c.in-Two.ensures in
    (omega (arith, (below h).0, c.decreases), (omega (arith, (below h).0, c.requires.within), (contexts h c.requires.context).0))

pub emit-requires-in-Two-2 : goal.emit-requires-in-Two-2
emit-requires-in-Two-2 t c =
    let h = is_line c.args.query.now _ _ _ c.requires.within c.line-kind.ensures c.in-Two.ensures in
    (omega (arith, (below h).1, c.decreases), (omega (arith, (below h).1, c.requires.within), (contexts h c.requires.context).1))

pub emit-requires-in-Tested : goal.emit-requires-in-Tested
emit-requires-in-Tested t c =
    let h = is_line c.args.query.now _ _ _ c.requires.within c.line-kind.ensures c.in-Tested.ensures in
    (omega (arith, (below h).0, c.decreases), (omega (arith, (below h).0, c.requires.within), contexts h c.requires.context))

pub emit-requires-in-Inner : goal.emit-requires-in-Inner
emit-requires-in-Inner t c =
    let h = is_line c.args.query.now _ _ _ c.requires.within c.line-kind.ensures c.in-Inner.ensures in
    (omega (arith, (below h).0, c.decreases), (omega (arith, (below h).0, c.requires.within), (contexts h c.requires.context).0))

pub emit-requires-in-Inner-2 : goal.emit-requires-in-Inner-2
emit-requires-in-Inner-2 t c =
    let h = is_line c.args.query.now _ _ _ c.requires.within c.line-kind.ensures c.in-Inner.ensures in
    let ws = widths_of c.args.query.now in
    let inner = tree_at (lines_of c.args.query.now) c.in-Inner.inner in (
      omega (arith, (below h).1, c.decreases),
      (omega (arith, (below h).1, c.requires.within), subst (λ v. InContext ws v inner) (sym (ap₂ ◌+◌ c.breadth.ensures c.line_width.ensures)) (contexts h c.requires.context).1),
    )

pub emit_condition-requires : goal.emit_condition-requires
emit_condition-requires t c =
    let h = is_line c.args.query.now _ _ _ c.requires.within c.line-kind.ensures c.in-Tested.ensures in
    omega (arith, (below h).1, c.requires.within)

pub overflow_add-shared : goal.overflow_add-shared
overflow_add-shared t c =
    let h = is_line c.args.query.now _ _ _ c.requires.within c.line-kind.ensures c.in-Inner.ensures in
    omega (arith, (contexts h c.requires.context).2, c.breadth.ensures, c.line_width.ensures)

pub lay_own-requires : goal.lay_own-requires
lay_own-requires t c = counts (is_line c.args.query.now _ _ _ c.requires.within c.line-kind.ensures c.in-One.ensures) c.requires.context

pub lay_own-requires-in-Two : goal.lay_own-requires-in-Two
lay_own-requires-in-Two t c = counts (is_line c.args.query.now _ _ _ c.requires.within c.line-kind.ensures c.in-Two.ensures) c.requires.context

pub lay_own-requires-in-Tested : goal.lay_own-requires-in-Tested
lay_own-requires-in-Tested t c = counts (is_line c.args.query.now _ _ _ c.requires.within c.line-kind.ensures c.in-Tested.ensures) c.requires.context

pub lay_own-requires-in_default : goal.lay_own-requires-in_default
lay_own-requires-in_default t c = counts (is_line c.args.query.now _ _ _ c.requires.within c.line-kind.ensures c.shape.ensures) c.requires.context

pub returns-in_err-one-in-One : goal.returns-in_err-one-in-One
returns-in_err-one-in-One t c =
    let h = is_line c.args.query.now _ _ _ c.requires.within c.line-kind.ensures c.in-One.ensures in
    let r = c.from_residual in
    stops h c.args.place _ _ r.result _ r.ensures.1 (front_long _ _ _ _ c.in_err-one-in-One.ensures)

pub returns-in_err-one-in-Two : goal.returns-in_err-one-in-Two
returns-in_err-one-in-Two t c =
    let h = is_line c.args.query.now _ _ _ c.requires.within c.line-kind.ensures c.in-Two.ensures in
    let r = c.from_residual-in_err-one-in-Two in
    stops h c.args.place _ _ r.result _ r.ensures.1 (front_long _ _ _ _ c.in_err-one-in-Two.ensures)

pub returns-in_err-two-in-Two : goal.returns-in_err-two-in-Two
returns-in_err-two-in-Two t c =
    let h = is_line c.args.query.now _ _ _ c.requires.within c.line-kind.ensures c.in-Two.ensures in
    let r = c.from_residual-in_err-two-in-Two in
    two_long h c.args.place _ _ _ _ r.result _ r.ensures.1 c.in_ok-one-in-Two.ensures c.in_err-two-in-Two.ensures

pub returns-in_err-one-in-Tested : goal.returns-in_err-one-in-Tested
returns-in_err-one-in-Tested t c =
    let h = is_line c.args.query.now _ _ _ c.requires.within c.line-kind.ensures c.in-Tested.ensures in
    let r = c.from_residual-in_err-one-in-Tested in
    stops h c.args.place _ _ r.result _ r.ensures.1 (front_long _ _ _ _ c.in_err-one-in-Tested.ensures)

pub returns-in_err-test-in-Tested : goal.returns-in_err-test-in-Tested
returns-in_err-test-in-Tested t c =
    let h = is_line c.args.query.now _ _ _ c.requires.within c.line-kind.ensures c.in-Tested.ensures in
    let r = c.from_residual-in_err-test-in-Tested in
    tested_long h c.args.place _ _ _ _ r.result _ r.ensures.1 c.in_ok-one-in-Tested.ensures c.in_err-test-in-Tested.ensures

pub returns-in_err-left-in-Inner : goal.returns-in_err-left-in-Inner
returns-in_err-left-in-Inner t c =
    let h = is_line c.args.query.now _ _ _ c.requires.within c.line-kind.ensures c.in-Inner.ensures in
    let r = c.from_residual-in_err-left-in-Inner in
    stops h c.args.place _ _ r.result _ r.ensures.1 (front_long _ _ _ _ c.in_err-left-in-Inner.ensures)

pub returns-in_err-domain-in-Inner : goal.returns-in_err-domain-in-Inner
returns-in_err-domain-in-Inner t c =
    let h = is_line c.args.query.now _ _ _ c.requires.within c.line-kind.ensures c.in-Inner.ensures in
    let r = c.from_residual-in_err-domain-in-Inner in
    domain_long h c.args.place _ _ _ _ r.result _ r.ensures.1 c.in_ok-left-in-Inner.ensures c.in_err-domain-in-Inner.ensures.put

pub returns-in_err-right-in-Inner : goal.returns-in_err-right-in-Inner
returns-in_err-right-in-Inner t c =
    let h = is_line c.args.query.now _ _ _ c.requires.within c.line-kind.ensures c.in-Inner.ensures in
    let r = c.from_residual-in_err-right-in-Inner in
    inner_long h c.args.place _ _ _ _ _ _ _ r.result _ r.ensures.1 (ap₂ ◌+◌ c.breadth.ensures c.line_width.ensures) c.in_ok-left-in-Inner.ensures c.in_ok-domain-in-Inner.ensures.put c.in_err-right-in-Inner.ensures

pub returns-in_ok-one-in-One : goal.returns-in_ok-one-in-One
returns-in_ok-one-in-One t c =
    let h = is_line c.args.query.now _ _ _ c.requires.within c.line-kind.ensures c.in-One.ensures in
    one_laid h c.args.place _ _ _ _ c.lay_own.result c.in_ok-one-in-One.ensures c.lay_own.ensures

pub returns-in_ok-two-in-Two : goal.returns-in_ok-two-in-Two
returns-in_ok-two-in-Two t c =
    let h = is_line c.args.query.now _ _ _ c.requires.within c.line-kind.ensures c.in-Two.ensures in
    two_laid h c.args.place _ _ _ _ _ _ c.lay_own-in-Two.result c.in_ok-one-in-Two.ensures c.in_ok-two-in-Two.ensures c.lay_own-in-Two.ensures

pub returns-in_ok-test-in-Tested : goal.returns-in_ok-test-in-Tested
returns-in_ok-test-in-Tested t c =
    let h = is_line c.args.query.now _ _ _ c.requires.within c.line-kind.ensures c.in-Tested.ensures in
    tested_laid h c.args.place _ _ _ _ _ _ c.lay_own-in-Tested.result c.in_ok-one-in-Tested.ensures c.in_ok-test-in-Tested.ensures c.lay_own-in-Tested.ensures

pub returns-in_ok-right-in-Inner : goal.returns-in_ok-right-in-Inner
returns-in_ok-right-in-Inner t c =
    let h = is_line c.args.query.now _ _ _ c.requires.within c.line-kind.ensures c.in-Inner.ensures in
    inner_laid h c.args.place _ _ _ _ _ _ _ _ _ _ c.lay_apply.result (ap₂ ◌+◌ c.breadth.ensures c.line_width.ensures) c.line_width-in-Inner.ensures
    c.in_ok-left-in-Inner.ensures c.in_ok-domain-in-Inner.ensures.put c.in_ok-right-in-Inner.ensures c.lay_apply.ensures

pub returns-in_default : goal.returns-in_default
returns-in_default t c =
    let h = is_line c.args.query.now _ _ _ c.requires.within c.line-kind.ensures c.shape.ensures in
    let r = c.in_default in
    rest_laid h c.args.place r.not-One r.not-Two r.not-Tested r.not-Inner _ _ c.lay_own-in_default.result c.lay_own-in_default.ensures
