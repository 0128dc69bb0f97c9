-- What each kind of line adds behind its operands' flat lines.
use Rattle.lines.specs.declared.line.Line.{Line}
use Rattle.lines.specs.declared.line.Line.TheVariants.{Table as TableL, Unit as UnitL, Select, Keep, Extend, ExtendTruth, Pad, Match, SemiMatch, AntiMatch, Union, Diff, Distinct, Group, Total, ApplyCross, ApplyOuter, ApplySemi, ApplyAnti, ApplySome, ApplyAll, Compare, IsNull, Not, Unknown as UnknownL, And, Or}
use Rattle.lines.specs.declared.line.Shape.{Shape}
use Rattle.lines.specs.declared.line.Shape.TheVariants.{Leaf, One, Two, Tested, Inner, Part, Parts}
use Rattle.lines.specs.Lines.{Node, as_rows, as_cond, at}
use Rattle.lines.specs.Marks.{Marks, Sound}
use Rattle.lines.specs.Trees.{Tree, width}
use Rattle.unnest.specs.Emit.{Place, breadth, chain, emit, emit_condition, spread_lines, total_lines, outer_lines, some_lines, all_lines, apply_lines}
use Rattle.std.specs.Prelude.{◌≡◌, ℕ, ◌+◌, ◌-◌, List, [], ◌∷◌, length}

-- the count of own first columns that a line names, if its kind has one
abbrev pub own_count : Line → ℕ
own_count (TableL t) = 0
own_count UnitL = 0
own_count (Select a q) = 0
own_count (Keep p z a) = p
own_count (Extend a v) = 0
own_count (ExtendTruth a q) = 0
own_count (Pad z a) = 0
own_count (Match p a b) = p
own_count (SemiMatch p a b) = p
own_count (AntiMatch p a b) = p
own_count (Union a b) = 0
own_count (Diff a b) = 0
own_count (Distinct a) = 0
own_count (Group p f k a) = p
own_count (Total f k a) = 0
own_count (ApplyCross a b) = 0
own_count (ApplyOuter a b) = 0
own_count (ApplySemi a b) = 0
own_count (ApplyAnti a b) = 0
own_count (ApplySome s k a b) = 0
own_count (ApplyAll s k a b) = 0
own_count (Compare s a b) = 0
own_count (IsNull k) = 0
own_count (Not a) = 0
own_count (UnknownL a) = 0
own_count (And a b) = 0
own_count (Or a b) = 0

-- the line over the flat lines i and j of its operands, that count raised by the columns of the context;
-- Total and the Applies are no such lines
abbrev pub raised : Line → ℕ → ℕ → ℕ → Line
raised (TableL t) c i j = TableL t
raised UnitL c i j = UnitL
raised (Select a q) c i j = Select i j
raised (Keep p z a) c i j = Keep (c + p) z i
raised (Extend a v) c i j = Extend i v
raised (ExtendTruth a q) c i j = ExtendTruth i j
raised (Pad z a) c i j = Pad z i
raised (Match p a b) c i j = Match (c + p) i j
raised (SemiMatch p a b) c i j = SemiMatch (c + p) i j
raised (AntiMatch p a b) c i j = AntiMatch (c + p) i j
raised (Union a b) c i j = Union i j
raised (Diff a b) c i j = Diff i j
raised (Distinct a) c i j = Distinct i
raised (Group p f k a) c i j = Group (c + p) f k i
raised (Total f k a) c i j = Total f k a
raised (ApplyCross a b) c i j = ApplyCross a b
raised (ApplyOuter a b) c i j = ApplyOuter a b
raised (ApplySemi a b) c i j = ApplySemi a b
raised (ApplyAnti a b) c i j = ApplyAnti a b
raised (ApplySome s k a b) c i j = ApplySome s k a b
raised (ApplyAll s k a b) c i j = ApplyAll s k a b
raised (Compare s a b) c i j = Compare s a b
raised (IsNull k) c i j = IsNull k
raised (Not a) c i j = Not a
raised (UnknownL a) c i j = UnknownL a
raised (And a b) c i j = And a b
raised (Or a b) c i j = Or a b

-- the condition over the flat lines i and j of its parts; a line with rows is read as an IsNull, which no accepted query asks for
abbrev pub over : Line → ℕ → ℕ → Line
over (TableL t) i j = IsNull 0
over UnitL i j = IsNull 0
over (Select a q) i j = IsNull 0
over (Keep p z a) i j = IsNull 0
over (Extend a v) i j = IsNull 0
over (ExtendTruth a q) i j = IsNull 0
over (Pad z a) i j = IsNull 0
over (Match p a b) i j = IsNull 0
over (SemiMatch p a b) i j = IsNull 0
over (AntiMatch p a b) i j = IsNull 0
over (Union a b) i j = IsNull 0
over (Diff a b) i j = IsNull 0
over (Distinct a) i j = IsNull 0
over (Group p f k a) i j = IsNull 0
over (Total f k a) i j = IsNull 0
over (ApplyCross a b) i j = IsNull 0
over (ApplyOuter a b) i j = IsNull 0
over (ApplySemi a b) i j = IsNull 0
over (ApplyAnti a b) i j = IsNull 0
over (ApplySome s k a b) i j = IsNull 0
over (ApplyAll s k a b) i j = IsNull 0
over (Compare s a b) i j = Compare s a b
over (IsNull k) i j = IsNull k
over (Not a) i j = Not i
over (UnknownL a) i j = UnknownL i
over (And a b) i j = And i j
over (Or a b) i j = Or i j

-- the lines from number n on that a line other than an Apply adds in its place, over the flat lines i and j of its operands;
-- a condition has no rows and is read as Unit where rows are asked for, which no accepted query does
abbrev pub own_lines : Line → Place → ℕ → ℕ → ℕ → List Line
own_lines (TableL t) x i j n = spread_lines x (TableL t) n
own_lines UnitL x i j n = spread_lines x UnitL n
own_lines (Select a q) x i j n = raised (Select a q) (breadth x) i j ∷ []
own_lines (Keep p z a) x i j n = raised (Keep p z a) (breadth x) i j ∷ []
own_lines (Extend a v) x i j n = raised (Extend a v) (breadth x) i j ∷ []
own_lines (ExtendTruth a q) x i j n = raised (ExtendTruth a q) (breadth x) i j ∷ []
own_lines (Pad z a) x i j n = raised (Pad z a) (breadth x) i j ∷ []
own_lines (Match p a b) x i j n = raised (Match p a b) (breadth x) i j ∷ []
own_lines (SemiMatch p a b) x i j n = raised (SemiMatch p a b) (breadth x) i j ∷ []
own_lines (AntiMatch p a b) x i j n = raised (AntiMatch p a b) (breadth x) i j ∷ []
own_lines (Union a b) x i j n = raised (Union a b) (breadth x) i j ∷ []
own_lines (Diff a b) x i j n = raised (Diff a b) (breadth x) i j ∷ []
own_lines (Distinct a) x i j n = raised (Distinct a) (breadth x) i j ∷ []
own_lines (Group p f k a) x i j n = raised (Group p f k a) (breadth x) i j ∷ []
own_lines (Total f k a) x i j n = total_lines f k x i n
own_lines (ApplyCross a b) x i j n = raised (ApplyCross a b) (breadth x) i j ∷ []
own_lines (ApplyOuter a b) x i j n = raised (ApplyOuter a b) (breadth x) i j ∷ []
own_lines (ApplySemi a b) x i j n = raised (ApplySemi a b) (breadth x) i j ∷ []
own_lines (ApplyAnti a b) x i j n = raised (ApplyAnti a b) (breadth x) i j ∷ []
own_lines (ApplySome s k a b) x i j n = raised (ApplySome s k a b) (breadth x) i j ∷ []
own_lines (ApplyAll s k a b) x i j n = raised (ApplyAll s k a b) (breadth x) i j ∷ []
own_lines (Compare s a b) x i j n = spread_lines x UnitL n
own_lines (IsNull k) x i j n = spread_lines x UnitL n
own_lines (Not a) x i j n = spread_lines x UnitL n
own_lines (UnknownL a) x i j n = spread_lines x UnitL n
own_lines (And a b) x i j n = spread_lines x UnitL n
own_lines (Or a b) x i j n = spread_lines x UnitL n

-- the lines that an Apply adds behind the right flat line j, where w is the width of the left flat line i, and m the own width of the right operand;
-- no other line has an inner operand
abbrev pub apply_own : Line → ℕ → ℕ → ℕ → ℕ → ℕ → List Line
apply_own (TableL t) w m i j n = TableL t ∷ []
apply_own UnitL w m i j n = UnitL ∷ []
apply_own (Select a q) w m i j n = Select a q ∷ []
apply_own (Keep p z a) w m i j n = Keep p z a ∷ []
apply_own (Extend a v) w m i j n = Extend a v ∷ []
apply_own (ExtendTruth a q) w m i j n = ExtendTruth a q ∷ []
apply_own (Pad z a) w m i j n = Pad z a ∷ []
apply_own (Match p a b) w m i j n = Match p a b ∷ []
apply_own (SemiMatch p a b) w m i j n = SemiMatch p a b ∷ []
apply_own (AntiMatch p a b) w m i j n = AntiMatch p a b ∷ []
apply_own (Union a b) w m i j n = Union a b ∷ []
apply_own (Diff a b) w m i j n = Diff a b ∷ []
apply_own (Distinct a) w m i j n = Distinct a ∷ []
apply_own (Group p f k a) w m i j n = Group p f k a ∷ []
apply_own (Total f k a) w m i j n = Total f k a ∷ []
apply_own (ApplyCross a b) w m i j n = Match w i j ∷ []
apply_own (ApplyOuter a b) w m i j n = outer_lines m w i j n
apply_own (ApplySemi a b) w m i j n = SemiMatch w i j ∷ []
apply_own (ApplyAnti a b) w m i j n = AntiMatch w i j ∷ []
apply_own (ApplySome s k a b) w m i j n = some_lines s k w i j n
apply_own (ApplyAll s k a b) w m i j n = all_lines s k w i j n
apply_own (Compare s a b) w m i j n = Compare s a b ∷ []
apply_own (IsNull k) w m i j n = IsNull k ∷ []
apply_own (Not a) w m i j n = Not a ∷ []
apply_own (UnknownL a) w m i j n = UnknownL a ∷ []
apply_own (And a b) w m i j n = And a b ∷ []
apply_own (Or a b) w m i j n = Or a b ∷ []

-- the tree and the own width of line a
abbrev pub rows_of : List Node → ℕ → Tree
rows_of o a = as_rows (at o a)

abbrev pub wide_of : List ℕ → List Node → ℕ → ℕ
wide_of ws o a = width ws (rows_of o a)

-- the flat lines of a line, its operands' first
abbrev pub lines_by : List ℕ → List Node → Line → Place → ℕ → Shape → List Line
lines_by ws o l x n Leaf = own_lines l x 0 0 n
lines_by ws o l x n (One a) = chain n (emit ws (rows_of o a) x n) (λ i. own_lines l x (i - 1) 0 i)
lines_by ws o l x n (Two a b) = chain n (emit ws (rows_of o a) x n) (λ i. chain i (emit ws (rows_of o b) x i) (λ j. own_lines l x (i - 1) (j - 1) j))
lines_by ws o l x n (Tested a q) = chain n (emit ws (rows_of o a) x n) (λ i. chain i (emit_condition (as_cond (at o q)) i) (λ j. own_lines l x (i - 1) (j - 1) j))
lines_by ws o l x n (Inner a b) = apply_lines (wide_of ws o a) x n (emit ws (rows_of o a) x) (emit ws (rows_of o b)) (λ w i j m. apply_own l w (wide_of ws o b) i j m)
lines_by ws o l x n (Part p) = own_lines l x 0 0 n
lines_by ws o l x n (Parts p q) = own_lines l x 0 0 n

-- the flat lines of a condition, its parts' first
abbrev pub condition_by : List Node → Line → ℕ → Shape → List Line
condition_by o l n Leaf = over l 0 0 ∷ []
condition_by o l n (One a) = over l 0 0 ∷ []
condition_by o l n (Two a b) = over l 0 0 ∷ []
condition_by o l n (Tested a q) = over l 0 0 ∷ []
condition_by o l n (Inner a b) = over l 0 0 ∷ []
condition_by o l n (Part p) = chain n (emit_condition (as_cond (at o p)) n) (λ i. over l (i - 1) 0 ∷ [])
condition_by o l n (Parts p q) = chain n (emit_condition (as_cond (at o p)) n) (λ i. chain i (emit_condition (as_cond (at o q)) i) (λ j. over l (i - 1) (j - 1) ∷ []))

-- a tree that is sound in some context of c columns
pub record InContext (ws : List ℕ) (c : ℕ) (t : Tree) : Type 0 where
  pub marks : Marks
  pub long : length marks ≡ c
  pub sound : Sound ws marks t
