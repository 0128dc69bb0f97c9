-- Which columns come from a sum, and what the check says of a line in its context.
use Rattle.std.specs.Prelude.{◌≡◌, ℕ, ◌+◌, ◌-◌, ◌<◌, ◌≤◌, Bool, true, false, ◌||◌, List, [], ◌∷◌, ◌++◌, length, take, drop, replicate, slice_index, slice_index_or}
use Rattle.cells.specs.Cells.{stored}
use Rattle.cells.specs.declared.cell.Cell.TheVariants.{Number}
use Rattle.lines.specs.declared.line.Aggregate.{Aggregate}
use Rattle.lines.specs.declared.line.Aggregate.TheVariants.{Rows, Filled, Sum, Least, Greatest}
use Rattle.lines.specs.declared.line.Side.{Side}
use Rattle.lines.specs.declared.line.Side.TheVariants.{Column, Constant}
use Rattle.lines.specs.Trees.{Cond, compare, is_null, not_of, unknown_of, and_of, or_of, Tree, table, unit, select, keep, extend, extend_truth, pad, match, semi_match, anti_match, union, diff, distinct, group, total, cross, outer, semi, anti, some, all, width}

-- whether an aggregate over a column gives a column that comes from a sum, where b says it of the former
abbrev pub fold_from : Aggregate → Bool → Bool
fold_from Rows b = false
fold_from Filled b = false
fold_from Sum b = true
fold_from Least b = b
fold_from Greatest b = b

-- whether an aggregate sums a column that comes from a sum
abbrev pub summed : Aggregate → Bool → Bool
summed Rows b = false
summed Filled b = false
summed Sum b = b
summed Least b = false
summed Greatest b = false

-- for each column of a row, whether its cells come from a sum
abbrev pub Marks : Type 0
Marks = List Bool

-- whether a side's cells come from a sum
abbrev pub mark_of : Side → Marks → Bool
mark_of (Column k) m = slice_index_or m k false
mark_of (Constant z) m = false

-- marked on either side; the left's length
abbrev pub either_mark : Marks → Marks → Marks
either_mark [] n = []
either_mark (a ∷ m) [] = a ∷ m
either_mark (a ∷ m) (b ∷ n) = (a || b) ∷ either_mark m n

-- the marks of a line's own columns, in a context with the marks d
unfoldable pub own : List ℕ → Marks → Tree → Marks
own ws d (table t) = replicate (slice_index ws t) false
own ws d unit = false ∷ []
own ws d (select e q) = own ws d e
own ws d (keep n m e) = take n (own ws d e) ++ drop (length (own ws d e) - m) (own ws d e)
own ws d (extend e a) = own ws d e ++ (mark_of a (d ++ own ws d e) ∷ [])
own ws d (extend_truth e q) = own ws d e ++ (false ∷ [])
own ws d (pad m e) = own ws d e ++ replicate m false
own ws d (match n l r) = own ws d l ++ drop n (own ws d r)
own ws d (semi_match n l r) = own ws d l
own ws d (anti_match n l r) = own ws d l
own ws d (union l r) = either_mark (own ws d l) (own ws d r)
own ws d (diff l r) = own ws d l
own ws d (distinct e) = own ws d e
own ws d (group n f k e) = take n (own ws d e) ++ (fold_from f (slice_index_or (d ++ own ws d e) k false) ∷ [])
own ws d (total f k e) = fold_from f (slice_index_or (d ++ own ws d e) k false) ∷ []
own ws d (cross l r) = own ws d l ++ own ws (d ++ own ws d l) r
own ws d (outer l r) = own ws d l ++ own ws (d ++ own ws d l) r
own ws d (semi l r) = own ws d l
own ws d (anti l r) = own ws d l
own ws d (some g k l r) = own ws d l ++ (false ∷ [])
own ws d (all g k l r) = own ws d l ++ (false ∷ [])

-- columns below n, and constants of the stored range
abbrev pub SideIn : ℕ → Side → Type 0
SideIn n (Column k) = k < n
SideIn n (Constant z) = stored (Number z) ≡ true

-- all columns of a condition below n, all its constants stored
abbrev pub CondIn : ℕ → Cond → Type 0
CondIn n (compare s a b) = SideIn n a × SideIn n b
CondIn n (is_null k) = k < n
CondIn n (not_of q) = CondIn n q
CondIn n (unknown_of q) = CondIn n q
CondIn n (and_of p q) = CondIn n p × CondIn n q
CondIn n (or_of p q) = CondIn n p × CondIn n q

-- a fold over column k of the long row of e
abbrev pub FoldIn : List ℕ → Marks → Aggregate → ℕ → Tree → Type 0
FoldIn ws d f k e = (k < length d + width ws e) × (summed f (slice_index_or (d ++ own ws d e) k false) ≡ false)

-- widths fit, columns lie in their long rows, long rows have at most 32 columns, no sum is over a marked column;
-- in a context with the marks d
unfoldable pub Sound : List ℕ → Marks → Tree → Type 0
Sound ws d (table t) = (t < length ws) × (length d + slice_index ws t ≤ 32)
Sound ws d unit = length d + 1 ≤ 32
Sound ws d (select e q) = CondIn (length d + width ws e) q × Sound ws d e
Sound ws d (keep n m e) = ((1 ≤ n + m) × (n + m ≤ width ws e)) × Sound ws d e
Sound ws d (extend e a) = SideIn (length d + width ws e) a × (length d + (width ws e + 1) ≤ 32) × Sound ws d e
Sound ws d (extend_truth e q) = CondIn (length d + width ws e) q × (length d + (width ws e + 1) ≤ 32) × Sound ws d e
Sound ws d (pad m e) = (length d + (width ws e + m) ≤ 32) × Sound ws d e
Sound ws d (match n l r) = ((n ≤ width ws l) × (n ≤ width ws r)) × (length d + (width ws l + (width ws r - n)) ≤ 32) × Sound ws d l × Sound ws d r
Sound ws d (semi_match n l r) = ((n ≤ width ws l) × (n ≤ width ws r)) × Sound ws d l × Sound ws d r
Sound ws d (anti_match n l r) = ((n ≤ width ws l) × (n ≤ width ws r)) × Sound ws d l × Sound ws d r
Sound ws d (union l r) = (width ws r ≡ width ws l) × Sound ws d l × Sound ws d r
Sound ws d (diff l r) = (width ws r ≡ width ws l) × Sound ws d l × Sound ws d r
Sound ws d (distinct e) = Sound ws d e
Sound ws d (group n f k e) = (n ≤ width ws e) × (length d + (n + 1) ≤ 32) × FoldIn ws d f k e × Sound ws d e
Sound ws d (total f k e) = (length d + 1 ≤ 32) × FoldIn ws d f k e × Sound ws d e
Sound ws d (cross l r) = (length d + (width ws l + width ws r) ≤ 32) × Sound ws d l × Sound ws (d ++ own ws d l) r
Sound ws d (outer l r) = (length d + (width ws l + width ws r) ≤ 32) × Sound ws d l × Sound ws (d ++ own ws d l) r
Sound ws d (semi l r) = Sound ws d l × Sound ws (d ++ own ws d l) r
Sound ws d (anti l r) = Sound ws d l × Sound ws (d ++ own ws d l) r
Sound ws d (some g k l r) = (k < length d + width ws l) × (width ws r ≡ 1) × (length d + (width ws l + 1) ≤ 32) × Sound ws d l × Sound ws (d ++ own ws d l) r
Sound ws d (all g k l r) = (k < length d + width ws l) × (width ws r ≡ 1) × (length d + (width ws l + 1) ≤ 32) × Sound ws d l × Sound ws (d ++ own ws d l) r
