use Rattle.query.proofs.Stands.{long_room}
use Rattle.query.proofs.draft.Draft.longer_marks.Goals as goal

pub then-requires : goal.then-requires
then-requires c = rw c.own_marks-row.ensures (long_room c.args.self.now.lines.now c.args.self.now.tables.items c.args.a c.args.context.now c.requires)
