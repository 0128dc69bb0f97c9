-- Sums over columns that come from a sum: the cause 8 to refuse a query.
use Rattle.std.specs.Prelude.{ℕ, Bool, false, List, [], ◌++◌, slice_index_or}
use Rattle.lines.specs.declared.line.Line.{Line}
use Rattle.lines.specs.declared.line.Line.TheVariants.{Table as TableL, Unit as UnitL, Select, Keep, Extend, ExtendTruth, Pad, Match, SemiMatch, AntiMatch, Union, Diff, Distinct, Group, Total, ApplyCross, ApplyOuter, ApplySemi, ApplyAnti, ApplySome, ApplyAll, Compare, IsNull, Not, Unknown as UnknownL, And, Or}
use Rattle.lines.specs.Shapes.{line_at, tree_at}
use Rattle.lines.specs.Marks.{Marks, own, summed}
use Rattle.query.specs.Contexts.{read_under}

-- the marks of a long row: the context's, then those of line a's own columns
abbrev pub longer : List Line → List ℕ → ℕ → Marks → Marks
longer ls ws a d = d ++ own ws d (tree_at ls a)

-- for each column of line i's context, whether it comes from a sum
abbrev pub marks_at : List Line → List ℕ → ℕ → Marks
marks_at ls ws i = read_under (longer ls ws) [] 0 ls i

-- in a context with the marks d the line sums a column that comes from a sum
abbrev pub resums : List Line → List ℕ → Marks → Line → Bool
resums ls ws d (TableL t) = false
resums ls ws d UnitL = false
resums ls ws d (Select a q) = false
resums ls ws d (Keep n m a) = false
resums ls ws d (Extend a v) = false
resums ls ws d (ExtendTruth a q) = false
resums ls ws d (Pad m a) = false
resums ls ws d (Match n a b) = false
resums ls ws d (SemiMatch n a b) = false
resums ls ws d (AntiMatch n a b) = false
resums ls ws d (Union a b) = false
resums ls ws d (Diff a b) = false
resums ls ws d (Distinct a) = false
resums ls ws d (Group n f k a) = summed f (slice_index_or (longer ls ws a d) k false)
resums ls ws d (Total f k a) = summed f (slice_index_or (longer ls ws a d) k false)
resums ls ws d (ApplyCross a b) = false
resums ls ws d (ApplyOuter a b) = false
resums ls ws d (ApplySemi a b) = false
resums ls ws d (ApplyAnti a b) = false
resums ls ws d (ApplySome s k a b) = false
resums ls ws d (ApplyAll s k a b) = false
resums ls ws d (Compare s a b) = false
resums ls ws d (IsNull k) = false
resums ls ws d (Not a) = false
resums ls ws d (UnknownL a) = false
resums ls ws d (And a b) = false
resums ls ws d (Or a b) = false

-- cause 8
abbrev pub resummed : List Line → List ℕ → ℕ → Bool
resummed ls ws i = resums ls ws (marks_at ls ws i) (line_at ls i)
