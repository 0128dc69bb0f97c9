use Rattle.std.proofs.Common.{[], get_or, refl, ap, ◌∙◌, ap₂}
use Rattle.cells.specs.Cells.{null_cell, compare_cells}
use Rattle.cells.specs.Truths.{not3, and3, or3, unknown3, truth_of}
use Rattle.lines.specs.Lines.{build, grow}
use Rattle.lines.specs.declared.line.Line.TheVariants.{Unit as UnitL}
use Rattle.lines.proofs.Growing.{node_at, no_condition}
use Rattle.operators.proofs.conditions.Condition.+truths.Goals as goal

pub truth_on-returns-in-Compare : goal.truth_on-returns-in-Compare
unfolding build
truth_on-returns-in-Compare t c =
    let n = node_at c.args.self.now.lines.now c.args.line UnitL _ c.args.self.now.ordered c.requires c.in-Compare.is in
    rw n.1 (c.compare.ensures.value ∙ ap₂ (compare_cells c.in-Compare.sign) c.side.ensures c.side-in-Compare.ensures)

pub truth_on-returns-in-IsNull : goal.truth_on-returns-in-IsNull
unfolding build
truth_on-returns-in-IsNull t c =
    let n = node_at c.args.self.now.lines.now c.args.line UnitL _ c.args.self.now.ordered c.requires c.in-IsNull.is in
    rw n.1 (c.from.ensures ∙ ap truth_of (c.is_null.ensures ∙ ap null_cell c.cell.ensures))

pub truth_on-returns-in-Not : goal.truth_on-returns-in-Not
unfolding build
truth_on-returns-in-Not t c =
    let n = node_at c.args.self.now.lines.now c.args.line UnitL _ c.args.self.now.ordered c.requires c.in-Not.is in
    rw n.1 (c.not.ensures.value ∙ ap not3 c.truth_on.ensures)

pub truth_on-returns-in-Unknown : goal.truth_on-returns-in-Unknown
unfolding build
truth_on-returns-in-Unknown t c =
    let n = node_at c.args.self.now.lines.now c.args.line UnitL _ c.args.self.now.ordered c.requires c.in-Unknown.is in
    rw n.1 (c.unknown.ensures.value ∙ ap unknown3 c.truth_on-in-Unknown.ensures)

pub truth_on-returns-in-And : goal.truth_on-returns-in-And
unfolding build
truth_on-returns-in-And t c =
    let n = node_at c.args.self.now.lines.now c.args.line UnitL _ c.args.self.now.ordered c.requires c.in-And.is in
    rw n.1 (c.and.ensures.value ∙ ap₂ and3 c.both-first.ensures.first c.both-first.ensures.second)

pub truth_on-returns-in-Or : goal.truth_on-returns-in-Or
unfolding build
truth_on-returns-in-Or t c =
    let n = node_at c.args.self.now.lines.now c.args.line UnitL _ c.args.self.now.ordered c.requires c.in-Or.is in
    rw n.1 (c.or.ensures.value ∙ ap₂ or3 c.both-first-in-Or.ensures.first c.both-first-in-Or.ensures.second)

pub truth_on-returns-in_default : goal.truth_on-returns-in_default
truth_on-returns-in_default t c =
    let r = c.in_default in
    let n = node_at c.args.self.now.lines.now c.args.line UnitL _ c.args.self.now.ordered c.requires refl in
    rw (n.1, no_condition (grow [] c.args.self.now.lines.now) (get_or c.args.self.now.lines.now c.args.line UnitL) r.not-Compare r.not-IsNull r.not-Not r.not-Unknown r.not-And r.not-Or)
    (c.from-in_default.ensures ∙ ap truth_of (c.is_null-in_default.ensures ∙ ap null_cell c.cell-in_default.ensures))
