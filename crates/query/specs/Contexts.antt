-- Contexts and long rows: the causes 6 and 7 to refuse a query.
use Rattle.std.specs.Prelude.{ℕ, ◌+◌, Bool, false, cond, not, ◌&&◌, ◌||◌, List, [], ◌∷◌, ◌==◌, nat_le, nat_lt}
use Rattle.lines.specs.declared.line.Side.{Side}
use Rattle.lines.specs.declared.line.Side.TheVariants.{Column, Constant}
use Rattle.lines.specs.declared.line.Shape.{Shape}
use Rattle.lines.specs.declared.line.Shape.TheVariants.{Leaf, One, Two, Tested, Inner, Part, Parts}
use Rattle.lines.specs.declared.line.Line.{Line}
use Rattle.lines.specs.declared.line.Line.TheVariants.{Table as TableL, Unit as UnitL, Select, Keep, Extend, ExtendTruth, Pad, Match, SemiMatch, AntiMatch, Union, Diff, Distinct, Group, Total, ApplyCross, ApplyOuter, ApplySemi, ApplyAnti, ApplySome, ApplyAll, Compare, IsNull, Not, Unknown as UnknownL, And, Or}
use Rattle.lines.specs.Shapes.{shape_of, is_condition, line_at, width_at}

-- line i is an operand that is read in its reader's context
abbrev pub shares : Shape → ℕ → Bool
shares Leaf i = false
shares (One a) i = a == i
shares (Two a b) i = a == i || b == i
shares (Tested a q) i = a == i
shares (Inner a b) i = a == i
shares (Part p) i = p == i
shares (Parts p q) i = p == i || q == i

-- line i is an operand that is read once for each row of the first operand
abbrev pub widens : Shape → ℕ → Bool
widens Leaf i = false
widens (One a) i = false
widens (Two a b) i = false
widens (Tested a q) i = q == i
widens (Inner a b) i = b == i
widens (Part p) i = false
widens (Parts p q) i = false

abbrev pub first_of : Shape → ℕ
first_of Leaf = 0
first_of (One a) = a
first_of (Two a b) = a
first_of (Tested a q) = a
first_of (Inner a b) = a
first_of (Part p) = p
first_of (Parts p q) = p

-- x is what a reader is read under, y that with its first operand's columns added, z what is found further on
abbrev pub handed : {X : Type 0} → Shape → X → X → X → ℕ → X
handed r x y z i = cond (widens r i) y (cond (shares r i) x z)

abbrev pub handed_by : {X : Type 0} → (ℕ → X → X) → Shape → X → X → ℕ → X
handed_by f r x z i = handed r x (f (first_of r) x) z i

-- what line i is read under, seen from line j on, of which the lines are given. The last line is read under e.
-- An operand is read under what its reader is read under; one that is read for each row of the first operand
-- under that with the first operand's columns added, as f says
unfoldable pub read_under : {X : Type 0} → (ℕ → X → X) → X → ℕ → List Line → ℕ → X
read_under f e j [] i = e
read_under f e j (l ∷ ls) i = handed_by f (shape_of l) (read_under f e (j + 1) ls j) (read_under f e (j + 1) ls i) i

-- how many columns line i's context has; a condition's is the long row that it is read with
abbrev pub wider : List Line → List ℕ → ℕ → ℕ → ℕ
wider ls ws a c = c + width_at ls ws a

abbrev pub context_at : List Line → List ℕ → ℕ → ℕ
context_at ls ws i = read_under (wider ls ws) 0 0 ls i

-- c is the width of a line's context, w its own: the long row has over 32 columns
abbrev pub too_long : ℕ → ℕ → Line → Bool
too_long c w l = not (is_condition l) && nat_lt 32 (c + w)

-- cause 6
abbrev pub overlong : List Line → List ℕ → ℕ → Bool
overlong ls ws i = too_long (context_at ls ws i) (width_at ls ws i) (line_at ls i)

abbrev pub beyond : ℕ → Side → Bool
beyond c (Column k) = nat_le c k
beyond c (Constant z) = false

-- c is the width of a line's context, w gives the widths of the operands: the line names a column outside the long row
abbrev pub outside : ℕ → (ℕ → ℕ) → Line → Bool
outside c w (TableL t) = false
outside c w UnitL = false
outside c w (Select a q) = false
outside c w (Keep n m a) = false
outside c w (Extend a v) = beyond (c + w a) v
outside c w (ExtendTruth a q) = false
outside c w (Pad m a) = false
outside c w (Match n a b) = false
outside c w (SemiMatch n a b) = false
outside c w (AntiMatch n a b) = false
outside c w (Union a b) = false
outside c w (Diff a b) = false
outside c w (Distinct a) = false
outside c w (Group n f k a) = nat_le (c + w a) k
outside c w (Total f k a) = nat_le (c + w a) k
outside c w (ApplyCross a b) = false
outside c w (ApplyOuter a b) = false
outside c w (ApplySemi a b) = false
outside c w (ApplyAnti a b) = false
outside c w (ApplySome s k a b) = nat_le (c + w a) k
outside c w (ApplyAll s k a b) = nat_le (c + w a) k
outside c w (Compare s a b) = beyond c a || beyond c b
outside c w (IsNull k) = nat_le c k
outside c w (Not a) = false
outside c w (UnknownL a) = false
outside c w (And a b) = false
outside c w (Or a b) = false

-- cause 7
abbrev pub stray : List Line → List ℕ → ℕ → Bool
stray ls ws i = outside (context_at ls ws i) (width_at ls ws) (line_at ls i)
