use Rattle.std.proofs.Common.{◌≡◌, false, get_or, sym, ap, ◌∙◌, inl, inr, rules}
use Rattle.lines.specs.Shapes.{shape_of}
use Rattle.lines.specs.Marks.{summed}
use Rattle.query.specs.Sums.{longer, resums}
use Rattle.query.proofs.Stands.{placed_one}
use Rattle.query.proofs.Placing.{placed_at, resummed_is}
use Rattle.query.proofs.draft.Draft.is_resummed.Goals as goal

pub longer_marks-requires : goal.longer_marks-requires
longer_marks-requires c =
    let ls = c.args.self.now.lines.now in
    let ws = c.args.self.now.tables.items in
    let m = c.args.contexts.now in
    let z = c.index-contexts-i.result in
    placed_one ls ws c.args.i ((get_or m c.args.i z)) (placed_at ls ws c.requires.passed m c.told-contexts c.requires.marks c.args.i z c.requires.within) c.in-Group.rows
    (elim c.in-Group.is [ inl e ↦ ap shape_of (sym e.1 ∙ c.line.ensures) | inr e ↦ ap shape_of (sym e ∙ c.line.ensures) ])

pub returns-in-Group : goal.returns-in-Group
returns-in-Group c =
    let ls = c.args.self.now.lines.now in
    let ws = c.args.self.now.tables.items in
    let m = c.args.contexts.now in
    let z = c.index-contexts-i.result in
    let d = (get_or m c.args.i z) in
    let k : c.is_summed.result ≡ summed c.in-Group.aggregate (get_or (longer ls ws c.in-Group.rows d) c.in-Group.column false) =
    c.is_summed.ensures ∙ ap (summed c.in-Group.aggregate) (c.at.ensures ∙ ap (λ v. get_or v c.in-Group.column false) c.longer_marks.ensures) in
    resummed_is ls ws c.requires.passed m c.told-contexts c.requires.marks c.args.i z c.requires.within c.is_summed.result
    (elim c.in-Group.is [ inl e ↦ k ∙ ap (resums ls ws d) (sym e.1 ∙ c.line.ensures) | inr e ↦ k ∙ ap (resums ls ws d) (sym e ∙ c.line.ensures) ])

pub returns-in_default : goal.returns-in_default
returns-in_default c =
    let ls = c.args.self.now.lines.now in
    let ws = c.args.self.now.tables.items in
    let m = c.args.contexts.now in
    let z = c.index-contexts-i.result in
    let d = (get_or m c.args.i z) in
    let k : false ≡ resums ls ws d c.line.result = search rules in
    resummed_is ls ws c.requires.passed m c.told-contexts c.requires.marks c.args.i z c.requires.within false (k ∙ ap (resums ls ws d) c.line.ensures)
