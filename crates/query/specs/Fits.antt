-- Tables, widths, counts and constants: the causes 4 and 5 to refuse a query.
use Rattle.std.specs.Prelude.{ℕ, ◌+◌, ◌-◌, ◌≤◌, Bool, true, false, not, ◌&&◌, List, length, ◌==◌, nat_le, slice_index}
use Rattle.cells.specs.Cells.{stored}
use Rattle.cells.specs.declared.cell.Cell.TheVariants.{Number}
use Rattle.lines.specs.declared.line.Side.{Side}
use Rattle.lines.specs.declared.line.Side.TheVariants.{Column, Constant}
use Rattle.lines.specs.declared.line.Line.{Line}
use Rattle.lines.specs.declared.line.Line.TheVariants.{Table as TableL, Unit as UnitL, Select, Keep, Extend, ExtendTruth, Pad, Match, SemiMatch, AntiMatch, Union, Diff, Distinct, Group, Total, ApplyCross, ApplyOuter, ApplySemi, ApplyAnti, ApplySome, ApplyAll, Compare, IsNull, Not, Unknown as UnknownL, And, Or}
use Rattle.lines.specs.Shapes.{line_at, width_at}

-- cause 4: a table that the stock lacks
abbrev pub unknown_table : List ℕ → Line → Bool
unknown_table ws (TableL t) = nat_le (length ws) t
unknown_table ws UnitL = false
unknown_table ws (Select a q) = false
unknown_table ws (Keep n m a) = false
unknown_table ws (Extend a v) = false
unknown_table ws (ExtendTruth a q) = false
unknown_table ws (Pad m a) = false
unknown_table ws (Match n a b) = false
unknown_table ws (SemiMatch n a b) = false
unknown_table ws (AntiMatch n a b) = false
unknown_table ws (Union a b) = false
unknown_table ws (Diff a b) = false
unknown_table ws (Distinct a) = false
unknown_table ws (Group n f k a) = false
unknown_table ws (Total f k a) = false
unknown_table ws (ApplyCross a b) = false
unknown_table ws (ApplyOuter a b) = false
unknown_table ws (ApplySemi a b) = false
unknown_table ws (ApplyAnti a b) = false
unknown_table ws (ApplySome s k a b) = false
unknown_table ws (ApplyAll s k a b) = false
unknown_table ws (Compare s a b) = false
unknown_table ws (IsNull k) = false
unknown_table ws (Not a) = false
unknown_table ws (UnknownL a) = false
unknown_table ws (And a b) = false
unknown_table ws (Or a b) = false

abbrev pub stored_side : Side → Bool
stored_side (Column k) = true
stored_side (Constant z) = stored (Number z)

-- whether a count, a width or a constant of a line is out of its bounds, where w gives the widths of the operands
abbrev pub misfit : (ℕ → ℕ) → Line → Bool
misfit w (TableL t) = false
misfit w UnitL = false
misfit w (Select a q) = false
misfit w (Keep n m a) = not (nat_le 1 (n + m) && nat_le (n + m) (w a))
misfit w (Extend a v) = not (stored_side v)
misfit w (ExtendTruth a q) = false
misfit w (Pad m a) = not (nat_le 1 m && nat_le m 31)
misfit w (Match n a b) = not (nat_le n (w a) && nat_le n (w b))
misfit w (SemiMatch n a b) = not (nat_le n (w a) && nat_le n (w b))
misfit w (AntiMatch n a b) = not (nat_le n (w a) && nat_le n (w b))
misfit w (Union a b) = not (w a == w b)
misfit w (Diff a b) = not (w a == w b)
misfit w (Distinct a) = false
misfit w (Group n f k a) = not (nat_le 1 n && nat_le n (w a))
misfit w (Total f k a) = false
misfit w (ApplyCross a b) = false
misfit w (ApplyOuter a b) = false
misfit w (ApplySemi a b) = false
misfit w (ApplyAnti a b) = false
misfit w (ApplySome s k a b) = not (w b == 1)
misfit w (ApplyAll s k a b) = not (w b == 1)
misfit w (Compare s a b) = not (stored_side a && stored_side b)
misfit w (IsNull k) = false
misfit w (Not a) = false
misfit w (UnknownL a) = false
misfit w (And a b) = false
misfit w (Or a b) = false

-- cause 5, over tables of the widths ws
abbrev pub unfit : List Line → List ℕ → ℕ → Bool
unfit ls ws i = misfit (width_at ls ws) (line_at ls i)

-- a line's width by those of its operands
abbrev pub width_by : List ℕ → (ℕ → ℕ) → Line → ℕ
width_by ws w (TableL t) = slice_index ws t
width_by ws w UnitL = 1
width_by ws w (Select a q) = w a
width_by ws w (Keep n m a) = n + m
width_by ws w (Extend a v) = w a + 1
width_by ws w (ExtendTruth a q) = w a + 1
width_by ws w (Pad m a) = w a + m
width_by ws w (Match n a b) = w a + (w b - n)
width_by ws w (SemiMatch n a b) = w a
width_by ws w (AntiMatch n a b) = w a
width_by ws w (Union a b) = w a
width_by ws w (Diff a b) = w a
width_by ws w (Distinct a) = w a
width_by ws w (Group n f k a) = n + 1
width_by ws w (Total f k a) = 1
width_by ws w (ApplyCross a b) = w a + w b
width_by ws w (ApplyOuter a b) = w a + w b
width_by ws w (ApplySemi a b) = w a
width_by ws w (ApplyAnti a b) = w a
width_by ws w (ApplySome s k a b) = w a + 1
width_by ws w (ApplyAll s k a b) = w a + 1
width_by ws w (Compare s a b) = 1
width_by ws w (IsNull k) = 1
width_by ws w (Not a) = 1
width_by ws w (UnknownL a) = 1
width_by ws w (And a b) = 1
width_by ws w (Or a b) = 1

-- no table is wider than 8
abbrev pub Slim : List ℕ → Type 0
Slim ws = (t : ℕ) → slice_index ws t ≤ 8
