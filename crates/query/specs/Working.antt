-- What the check's own code keeps: lists of widths, bounds that keep their sums small, and lists of marks.
use Rattle.std.specs.Prelude.{◌≡◌, ℕ, ◌+◌, ◌<◌, ◌≤◌, List, length, slice_index}
use Rattle.lines.specs.declared.line.Line.{Line}
use Rattle.lines.specs.Shapes.{width_at}
use Rattle.query.specs.Reads.{Never}
use Rattle.query.specs.Fits.{unfit}

abbrev pub listed : List ℕ → ℕ → ℕ
listed w a = slice_index w a

-- 32 · 2 ^ 32: a line's width is at most the sum of two lower lines' widths
abbrev pub Small : List ℕ → Type 0
Small w = (a : ℕ) → listed w a ≤ 137438953472

-- 32 times that: a context is at most the sum of 32 widths
abbrev pub Modest : List ℕ → Type 0
Modest c = (a : ℕ) → listed c a ≤ 4398046511104

abbrev pub wider_by : List ℕ → ℕ → ℕ → ℕ
wider_by w a c = c + listed w a

-- no line is a misfit, and w holds the widths of the lines
pub record Measured (ls : List Line) (ws w : List ℕ) : Type 0 where
  pub long : length w ≡ length ls
  pub fits : Never (unfit ls ws) (length ls)
  pub widths : (i : ℕ) → i < length ls → listed w i ≡ width_at ls ws i
  pub small : Small w
