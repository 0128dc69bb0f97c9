-- The lists of marks that the check's own code works out.
use Rattle.std.specs.Prelude.{◌≡◌, ℕ, ◌-◌, ◌<◌, Bool, false, List, [], ◌∷◌, ◌++◌, length, take, drop, replicate, slice_index, slice_index_or}
use Rattle.lines.specs.declared.line.Line.{Line}
use Rattle.lines.specs.declared.line.Line.TheVariants.{Table as TableL, Unit as UnitL, Select, Keep, Extend, ExtendTruth, Pad, Match, SemiMatch, AntiMatch, Union, Diff, Distinct, Group, Total, ApplyCross, ApplyOuter, ApplySemi, ApplyAnti, ApplySome, ApplyAll, Compare, IsNull, Not, Unknown as UnknownL, And, Or}
use Rattle.lines.specs.Shapes.{is_condition, line_at}
use Rattle.lines.specs.Marks.{mark_of, either_mark, fold_from}
use Rattle.query.specs.Contexts.{context_at}
use Rattle.query.specs.Verdicts.{Passed}

-- the marks of a line's own columns, where d has those of its context and x and y those of its operands' own columns
abbrev pub own_by : List ℕ → List Bool → List Bool → List Bool → Line → List Bool
own_by ws d x y (TableL t) = replicate (slice_index ws t) false
own_by ws d x y UnitL = replicate 1 false
own_by ws d x y (Select a q) = x
own_by ws d x y (Keep n m a) = take n x ++ drop (length x - m) x
own_by ws d x y (Extend a v) = x ++ (mark_of v (d ++ x) ∷ [])
own_by ws d x y (ExtendTruth a q) = x ++ (false ∷ [])
own_by ws d x y (Pad m a) = x ++ replicate m false
own_by ws d x y (Match n a b) = x ++ drop n y
own_by ws d x y (SemiMatch n a b) = x
own_by ws d x y (AntiMatch n a b) = x
own_by ws d x y (Union a b) = either_mark x y
own_by ws d x y (Diff a b) = x
own_by ws d x y (Distinct a) = x
own_by ws d x y (Group n f k a) = take n x ++ (fold_from f (slice_index_or (d ++ x) k false) ∷ [])
own_by ws d x y (Total f k a) = fold_from f (slice_index_or (d ++ x) k false) ∷ []
own_by ws d x y (ApplyCross a b) = x ++ y
own_by ws d x y (ApplyOuter a b) = x ++ y
own_by ws d x y (ApplySemi a b) = x
own_by ws d x y (ApplyAnti a b) = x
own_by ws d x y (ApplySome s k a b) = x ++ (false ∷ [])
own_by ws d x y (ApplyAll s k a b) = x ++ (false ∷ [])
own_by ws d x y (Compare s a b) = x
own_by ws d x y (IsNull k) = x
own_by ws d x y (Not a) = x
own_by ws d x y (UnknownL a) = x
own_by ws d x y (And a b) = x
own_by ws d x y (Or a b) = x

-- causes 1 to 7 are out, and d has a mark for each column of line i's context
pub record Placed (ls : List Line) (ws : List ℕ) (i : ℕ) (d : List Bool) : Type 0 where
  pub passed : Passed ls ws 7
  pub within : i < length ls
  pub long : length d ≡ context_at ls ws i

-- the same, and line i has rows
pub record Standing (ls : List Line) (ws : List ℕ) (i : ℕ) (d : List Bool) : Type 0 where
  pub passed : Passed ls ws 7
  pub within : i < length ls
  pub rows : is_condition (line_at ls i) ≡ false
  pub long : length d ≡ context_at ls ws i

-- the marks that a list holds for line i
abbrev pub marked : List (List Bool) → ℕ → List Bool
marked m i = slice_index_or m i []
