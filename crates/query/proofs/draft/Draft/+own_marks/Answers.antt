use Rattle.std.proofs.Common.{◌++◌, ap, ◌∙◌, arith}
use Rattle.lines.specs.Shapes.{tree_at}
use Rattle.lines.specs.Marks.{own}
use Rattle.query.proofs.Stands.{ready_first, ready_two, ready_inner, by_first, by_two, by_inner, by_rest, roomy, long_room}
use Rattle.query.proofs.draft.Draft.+own_marks.Goals as goal

pub own_marks-first-requires-in-One : goal.own_marks-first-requires-in-One
own_marks-first-requires-in-One t c = let R = ready_first c.args.self.now.lines.now c.args.self.now.tables.items c.args.i c.args.context.now c.line-line.result c.shape.result c.line-line.ensures c.shape.ensures c.requires c.in-One.a c.in-One.is in (omega (arith, R.0, c.decreases), R.1)

pub marks_by-requires-in-One : goal.marks_by-requires-in-One
marks_by-requires-in-One t c = roomy c.args.self.now.lines.now c.args.self.now.tables.items c.args.i c.args.context.now c.line-line.result c.shape.result c.line-line.ensures c.shape.ensures c.requires _ (by_first c.args.self.now.lines.now c.args.self.now.tables.items c.args.i c.args.context.now c.line-line.result c.shape.result c.line-line.ensures c.shape.ensures c.requires c.in-One.a _ _ c.in-One.is c.own_marks-first-in-One.ensures)

pub returns-in-One : goal.returns-in-One
returns-in-One t c = c.marks_by-in-One.ensures ∙ by_first c.args.self.now.lines.now c.args.self.now.tables.items c.args.i c.args.context.now c.line-line.result c.shape.result c.line-line.ensures c.shape.ensures c.requires c.in-One.a _ _ c.in-One.is c.own_marks-first-in-One.ensures

pub own_marks-first-requires : goal.own_marks-first-requires
own_marks-first-requires t c = let R = ready_two c.args.self.now.lines.now c.args.self.now.tables.items c.args.i c.args.context.now c.line-line.result c.shape.result c.line-line.ensures c.shape.ensures c.requires c.in-Two.a c.in-Two.b c.in-Two.is in (omega (arith, R.0.0, c.decreases), R.0.1)

pub own_marks-second-requires : goal.own_marks-second-requires
own_marks-second-requires t c = let R = ready_two c.args.self.now.lines.now c.args.self.now.tables.items c.args.i c.args.context.now c.line-line.result c.shape.result c.line-line.ensures c.shape.ensures c.requires c.in-Two.a c.in-Two.b c.in-Two.is in (omega (arith, R.1.0, c.decreases), R.1.1)

pub marks_by-requires : goal.marks_by-requires
marks_by-requires t c = roomy c.args.self.now.lines.now c.args.self.now.tables.items c.args.i c.args.context.now c.line-line.result c.shape.result c.line-line.ensures c.shape.ensures c.requires _ (by_two c.args.self.now.lines.now c.args.self.now.tables.items c.args.i c.args.context.now c.line-line.result c.shape.result c.line-line.ensures c.shape.ensures c.requires c.in-Two.a c.in-Two.b _ _ c.in-Two.is c.own_marks-first.ensures c.own_marks-second.ensures)

pub returns-in-Two : goal.returns-in-Two
returns-in-Two t c = c.marks_by.ensures ∙ by_two c.args.self.now.lines.now c.args.self.now.tables.items c.args.i c.args.context.now c.line-line.result c.shape.result c.line-line.ensures c.shape.ensures c.requires c.in-Two.a c.in-Two.b _ _ c.in-Two.is c.own_marks-first.ensures c.own_marks-second.ensures

pub own_marks-first-requires-in-Inner : goal.own_marks-first-requires-in-Inner
own_marks-first-requires-in-Inner t c = let R = ready_inner c.args.self.now.lines.now c.args.self.now.tables.items c.args.i c.args.context.now c.line-line.result c.shape.result c.line-line.ensures c.shape.ensures c.requires c.in-Inner.a c.in-Inner.b c.in-Inner.is in (omega (arith, R.0.0, c.decreases), R.0.1)

pub then-inner-requires : goal.then-inner-requires
then-inner-requires t c =
    let R = ready_inner c.args.self.now.lines.now c.args.self.now.tables.items c.args.i c.args.context.now c.line-line.result c.shape.result c.line-line.ensures c.shape.ensures c.requires c.in-Inner.a c.in-Inner.b c.in-Inner.is in
    rw c.own_marks-first-in-Inner.ensures (long_room c.args.self.now.lines.now c.args.self.now.tables.items c.in-Inner.a c.args.context.now R.0.1)

pub own_marks-second-requires-in-Inner : goal.own_marks-second-requires-in-Inner
own_marks-second-requires-in-Inner t c =
    let R = ready_inner c.args.self.now.lines.now c.args.self.now.tables.items c.args.i c.args.context.now c.line-line.result c.shape.result c.line-line.ensures c.shape.ensures c.requires c.in-Inner.a c.in-Inner.b c.in-Inner.is in
    (omega (arith, R.1.0, c.decreases), rw (c.then-inner.ensures, c.own_marks-first-in-Inner.ensures) R.1.1)

pub marks_by-requires-in-Inner : goal.marks_by-requires-in-Inner
marks_by-requires-in-Inner t c = roomy c.args.self.now.lines.now c.args.self.now.tables.items c.args.i c.args.context.now c.line-line.result c.shape.result c.line-line.ensures c.shape.ensures c.requires _ (by_inner c.args.self.now.lines.now c.args.self.now.tables.items c.args.i c.args.context.now c.line-line.result c.shape.result c.line-line.ensures c.shape.ensures c.requires c.in-Inner.a c.in-Inner.b _ _ c.in-Inner.is c.own_marks-first-in-Inner.ensures (c.own_marks-second-in-Inner.ensures ∙ ap (λ v. own c.args.self.now.tables.items v (tree_at c.args.self.now.lines.now c.in-Inner.b)) (c.then-inner.ensures ∙ ap (λ v. c.args.context.now ++ v) c.own_marks-first-in-Inner.ensures)))

pub returns-in-Inner : goal.returns-in-Inner
returns-in-Inner t c = c.marks_by-in-Inner.ensures ∙ by_inner c.args.self.now.lines.now c.args.self.now.tables.items c.args.i c.args.context.now c.line-line.result c.shape.result c.line-line.ensures c.shape.ensures c.requires c.in-Inner.a c.in-Inner.b _ _ c.in-Inner.is c.own_marks-first-in-Inner.ensures (c.own_marks-second-in-Inner.ensures ∙ ap (λ v. own c.args.self.now.tables.items v (tree_at c.args.self.now.lines.now c.in-Inner.b)) (c.then-inner.ensures ∙ ap (λ v. c.args.context.now ++ v) c.own_marks-first-in-Inner.ensures))

pub marks_by-requires-in_default : goal.marks_by-requires-in_default
marks_by-requires-in_default t c = roomy c.args.self.now.lines.now c.args.self.now.tables.items c.args.i c.args.context.now c.line-line.result c.shape.result c.line-line.ensures c.shape.ensures c.requires _ (by_rest c.args.self.now.lines.now c.args.self.now.tables.items c.args.i c.args.context.now c.line-line.result c.shape.result c.line-line.ensures c.shape.ensures c.requires _ _ c.in_default.not-One c.in_default.not-Tested c.in_default.not-Two c.in_default.not-Inner)

pub returns-in_default : goal.returns-in_default
returns-in_default t c = c.marks_by-in_default.ensures ∙ by_rest c.args.self.now.lines.now c.args.self.now.tables.items c.args.i c.args.context.now c.line-line.result c.shape.result c.line-line.ensures c.shape.ensures c.requires _ _ c.in_default.not-One c.in_default.not-Tested c.in_default.not-Two c.in_default.not-Inner
