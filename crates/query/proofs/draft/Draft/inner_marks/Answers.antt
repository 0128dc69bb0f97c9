use Rattle.query.proofs.Stands.{placed_first}
use Rattle.query.proofs.draft.Draft.inner_marks.Goals as goal

pub longer_marks-requires : goal.longer_marks-requires
longer_marks-requires c = placed_first c.args.self.now.lines.now c.args.self.now.tables.items c.args.i c.args.context.now c.line.result c.shape.result c.line.ensures c.shape.ensures c.requires c.in-Tested.a c.in-Tested.is
