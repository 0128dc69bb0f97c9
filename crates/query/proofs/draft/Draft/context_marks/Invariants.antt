use Rattle.std.proofs.Common.{◌≡◌, ℕ, ◌<◌, [], length, drop}
use Rattle.query.specs.Contexts.{read_under}
use Rattle.query.specs.Sums.{longer}
use Rattle.query.specs.Marking.{marked}
use Rattle.query.proofs.draft.Draft.context_marks.Given as goal

abbrev pub invariant-loop-j : goal.invariant-loop-j
invariant-loop-j l = record {
  under : (i : ℕ) → i < 32 → marked l.contexts i ≡ read_under (longer l.self.lines.now l.self.tables.items) [] l.j (drop l.j l.self.lines.now) i;
  long : length l.contexts ≡ 32;
}
