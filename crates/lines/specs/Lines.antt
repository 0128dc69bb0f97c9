-- A list of numbered lines read as a tree. The lines of a query and of a flat plan are read alike: a line that is read twice stands in the tree twice.
pub use Rattle.lines.specs.declared.line.Line.{Line}
pub use Rattle.lines.specs.declared.line.Line.TheVariants.{Table as TableL, Unit as UnitL, Select, Keep, Extend, ExtendTruth, Pad, Match, SemiMatch, AntiMatch, Union, Diff, Distinct, Group, Total, ApplyCross, ApplyOuter, ApplySemi, ApplyAnti, ApplySome, ApplyAll, Compare, IsNull, Not, Unknown as UnknownL, And, Or}
use Rattle.cells.specs.Cells.{Row}
use Rattle.lines.specs.Trees.{Cond, compare, is_null, not_of, unknown_of, and_of, or_of, Tree, table, unit, select, keep, extend, extend_truth, pad, match, semi_match, anti_match, union, diff, distinct, group, total, cross, outer, semi, anti, some, all, rows}
use Rattle.stock.specs.Tables.{Table}
use Rattle.std.specs.Prelude.{ℕ, ◌-◌, List, [], ◌∷◌, ◌++◌, length, slice_index_or}

-- what a line stands for, its operands read
pub data Node : Type 0 where
  rows_node : Tree → Node
  cond_node : Cond → Node

-- the tree of a node with rows. The check refuses a condition in its place, so what stands for one is no matter
abbrev pub as_rows : Node → Tree
as_rows (rows_node t) = t
as_rows (cond_node q) = unit

-- the condition of a node, and likewise for one with rows
abbrev pub as_cond : Node → Cond
as_cond (rows_node t) = is_null 0
as_cond (cond_node q) = q

-- the node of line i; the check refuses an operand that is no lower line
abbrev pub at : List Node → ℕ → Node
at acc i = slice_index_or acc i (rows_node unit)

-- the node of a line, given the nodes of the lower lines
unfoldable pub build : List Node → Line → Node
build o (TableL t) = rows_node (table t)
build o UnitL = rows_node unit
build o (Select a q) = rows_node (select (as_rows (at o a)) (as_cond (at o q)))
build o (Keep n m a) = rows_node (keep n m (as_rows (at o a)))
build o (Extend a v) = rows_node (extend (as_rows (at o a)) v)
build o (ExtendTruth a q) = rows_node (extend_truth (as_rows (at o a)) (as_cond (at o q)))
build o (Pad m a) = rows_node (pad m (as_rows (at o a)))
build o (Match n a b) = rows_node (match n (as_rows (at o a)) (as_rows (at o b)))
build o (SemiMatch n a b) = rows_node (semi_match n (as_rows (at o a)) (as_rows (at o b)))
build o (AntiMatch n a b) = rows_node (anti_match n (as_rows (at o a)) (as_rows (at o b)))
build o (Union a b) = rows_node (union (as_rows (at o a)) (as_rows (at o b)))
build o (Diff a b) = rows_node (diff (as_rows (at o a)) (as_rows (at o b)))
build o (Distinct a) = rows_node (distinct (as_rows (at o a)))
build o (Group n f k a) = rows_node (group n f k (as_rows (at o a)))
build o (Total f k a) = rows_node (total f k (as_rows (at o a)))
build o (ApplyCross a b) = rows_node (cross (as_rows (at o a)) (as_rows (at o b)))
build o (ApplyOuter a b) = rows_node (outer (as_rows (at o a)) (as_rows (at o b)))
build o (ApplySemi a b) = rows_node (semi (as_rows (at o a)) (as_rows (at o b)))
build o (ApplyAnti a b) = rows_node (anti (as_rows (at o a)) (as_rows (at o b)))
build o (ApplySome s k a b) = rows_node (some s k (as_rows (at o a)) (as_rows (at o b)))
build o (ApplyAll s k a b) = rows_node (all s k (as_rows (at o a)) (as_rows (at o b)))
build o (Compare s a b) = cond_node (compare s a b)
build o (IsNull k) = cond_node (is_null k)
build o (Not q) = cond_node (not_of (as_cond (at o q)))
build o (UnknownL q) = cond_node (unknown_of (as_cond (at o q)))
build o (And p q) = cond_node (and_of (as_cond (at o p)) (as_cond (at o q)))
build o (Or p q) = cond_node (or_of (as_cond (at o p)) (as_cond (at o q)))

-- the nodes that stand, then each line's node, built from those before it
abbrev pub grow : List Node → List Line → List Node
grow o [] = o
grow o (l ∷ ls) = grow (o ++ (build o l ∷ [])) ls

-- the tree of the last line, which is the answer
abbrev pub answer : List Line → Tree
answer ls = as_rows (at (grow [] ls) (length ls - 1))

-- the rows of a query or a flat plan over a stock's tables: those of its last line in the empty context
abbrev pub plan_rows : List Table → List Line → List Row
plan_rows s ls = rows s (answer ls) []
