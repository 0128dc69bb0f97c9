use Rattle.std.proofs.Common.{◌≡◌, ℕ, ◌*◌, ◌^◌, ◌<◌, ◌≤◌, length}
use Rattle.lines.specs.Shapes.{width_at}
use Rattle.query.specs.Reads.{Never}
use Rattle.query.specs.Fits.{unfit}
use Rattle.query.specs.Working.{listed}
use Rattle.query.proofs.draft.Draft.measure.Given as goal

abbrev pub invariant-loop-i : goal.invariant-loop-i
invariant-loop-i l = record {
  long : length l.widths.each.items ≡ l.i;
  fits : Never (unfit l.self.lines.now l.self.tables.items) (l.i);
  measured : (j : ℕ) → j < l.i → listed l.widths.each.items j ≡ width_at l.self.lines.now l.self.tables.items j;
  small : (a : ℕ) → listed l.widths.each.items a ≤ 32 * 2 ^ l.i;
}
