use Rattle.std.proofs.Common.{◌≡◌, ℕ, ◌-◌, ◌*◌, ◌<◌, ◌≤◌, length, drop}
use Rattle.query.specs.Contexts.{read_under}
use Rattle.query.specs.Working.{listed, wider_by}
use Rattle.query.proofs.draft.Draft.contexts.Given as goal

abbrev pub invariant-loop-j : goal.invariant-loop-j
invariant-loop-j l = record {
  under : (i : ℕ) → i < 32 → listed l.contexts i ≡ read_under (wider_by l.widths.each.items) 0 l.j (drop l.j l.self.lines.now) i;
  small : (i : ℕ) → listed l.contexts i ≤ (length l.self.lines.now - l.j) * 137438953472;
  long : length l.contexts ≡ 32;
}
