-- The operands of a line, by their kinds.
use Rattle.std.specs.Prelude.{ℕ, ◌<◌, Bool, true, false, List, [], length, slice_index_or}
use Rattle.lines.specs.declared.line.Shape.{Shape}
use Rattle.lines.specs.declared.line.Shape.TheVariants.{Leaf, One, Two, Tested, Inner, Part, Parts}
use Rattle.lines.specs.Trees.{Tree, width}
use Rattle.lines.specs.Lines.{as_rows, at, grow, Line, TableL, UnitL, Select, Keep, Extend, ExtendTruth, Pad, Match, SemiMatch, AntiMatch, Union, Diff, Distinct, Group, Total, ApplyCross, ApplyOuter, ApplySemi, ApplyAnti, ApplySome, ApplyAll, Compare, IsNull, Not, UnknownL, And, Or}

-- the operands of a line; the second one of Tested and of Inner is read once for each row of the first
abbrev pub shape_of : Line → Shape
shape_of (TableL t) = Leaf
shape_of UnitL = Leaf
shape_of (Select a q) = Tested a q
shape_of (Keep n m a) = One a
shape_of (Extend a v) = One a
shape_of (ExtendTruth a q) = Tested a q
shape_of (Pad m a) = One a
shape_of (Match n a b) = Two a b
shape_of (SemiMatch n a b) = Two a b
shape_of (AntiMatch n a b) = Two a b
shape_of (Union a b) = Two a b
shape_of (Diff a b) = Two a b
shape_of (Distinct a) = One a
shape_of (Group n f k a) = One a
shape_of (Total f k a) = One a
shape_of (ApplyCross a b) = Inner a b
shape_of (ApplyOuter a b) = Inner a b
shape_of (ApplySemi a b) = Inner a b
shape_of (ApplyAnti a b) = Inner a b
shape_of (ApplySome s k a b) = Inner a b
shape_of (ApplyAll s k a b) = Inner a b
shape_of (Compare s a b) = Leaf
shape_of (IsNull k) = Leaf
shape_of (Not a) = Part a
shape_of (UnknownL a) = Part a
shape_of (And a b) = Parts a b
shape_of (Or a b) = Parts a b

-- the operands are lower
abbrev pub Below : ℕ → Shape → Type 0
Below i Leaf = Unit {0}
Below i (One a) = a < i
Below i (Two a b) = (a < i) × (b < i)
Below i (Tested a q) = (a < i) × (q < i)
Below i (Inner a b) = (a < i) × (b < i)
Below i (Part p) = p < i
Below i (Parts p q) = (p < i) × (q < i)

-- a line at place i whose operands are lower
abbrev pub Lower : ℕ → Line → Type 0
Lower i l = Below i (shape_of l)

-- conditions, and the other lines, which have rows
abbrev pub is_condition : Line → Bool
is_condition (TableL t) = false
is_condition UnitL = false
is_condition (Select a q) = false
is_condition (Keep n m a) = false
is_condition (Extend a v) = false
is_condition (ExtendTruth a q) = false
is_condition (Pad m a) = false
is_condition (Match n a b) = false
is_condition (SemiMatch n a b) = false
is_condition (AntiMatch n a b) = false
is_condition (Union a b) = false
is_condition (Diff a b) = false
is_condition (Distinct a) = false
is_condition (Group n f k a) = false
is_condition (Total f k a) = false
is_condition (ApplyCross a b) = false
is_condition (ApplyOuter a b) = false
is_condition (ApplySemi a b) = false
is_condition (ApplyAnti a b) = false
is_condition (ApplySome s k a b) = false
is_condition (ApplyAll s k a b) = false
is_condition (Compare s a b) = true
is_condition (IsNull k) = true
is_condition (Not a) = true
is_condition (UnknownL a) = true
is_condition (And a b) = true
is_condition (Or a b) = true

-- the line at a place, and Unit past the end
abbrev pub line_at : List Line → ℕ → Line
line_at ls i = slice_index_or ls i UnitL

-- every line's operands are lower
abbrev pub Ordered : List Line → Type 0
Ordered ls = (j : ℕ) → j < length ls → Lower j (line_at ls j)

-- the tree of line i
abbrev pub tree_at : List Line → ℕ → Tree
tree_at ls i = as_rows (at (grow [] ls) i)

-- the width of line i's tree over tables of the widths ws
abbrev pub width_at : List Line → List ℕ → ℕ → ℕ
width_at ls ws i = width ws (tree_at ls i)
