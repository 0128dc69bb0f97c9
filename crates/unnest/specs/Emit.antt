-- Unnesting as numbered lines: operands first, left before right, then the lines of the kind itself.
use Rattle.unnest.specs.declared.context.Context.{Context}
use Rattle.cells.specs.declared.cell.Cell.{Cell}
use Rattle.cells.specs.declared.cell.Cell.TheVariants.{Null, Number}
use Rattle.cells.specs.declared.sign.Sign.{Sign}
use Rattle.lines.specs.declared.line.Aggregate.{Aggregate}
use Rattle.lines.specs.declared.line.Side.TheVariants.{Column, Constant}
use Rattle.lines.specs.Ops.{none_of}
use Rattle.lines.specs.Trees.{Cond, compare, is_null, not_of, unknown_of, and_of, or_of, Tree, table, unit, select, keep, extend, extend_truth, pad, match, semi_match, anti_match, union, diff, distinct, group, total, cross, outer, semi, anti, some, all, width}
use Rattle.lines.specs.Lines.{answer}
use Rattle.lines.specs.declared.line.Line.{Line}
use Rattle.lines.specs.declared.line.Line.TheVariants.{Table as TableL, Unit as UnitL, Select, Keep, Extend, ExtendTruth, Pad, Match, SemiMatch, AntiMatch, Union, Diff, Distinct, Group, Total, Compare, IsNull, Not, Unknown as UnknownL, And, Or}
use Rattle.std.specs.Prelude.{ℕ, ◌+◌, ◌-◌, List, [], ◌∷◌, ◌++◌, length, ℤ, pos, Option, None, Some}

-- where a line stands
abbrev pub Place : Type 0
Place = Option Context

-- in the empty context
abbrev pub outermost : Place
outermost = None

-- in a context of c columns, whose domain is line i
abbrev pub inside : ℕ → ℕ → Place
inside c i = Some (record { columns = c; domain = i })

-- the columns of a line's context
abbrev pub breadth : Place → ℕ
breadth None = 0
breadth (Some x) = x.columns

-- lines from number n on, then those that follow, which know the next free number
abbrev pub chain : ℕ → List Line → (ℕ → List Line) → List Line
chain n a k = a ++ k (n + length a)

-- the lines of a condition, the first of which has the number n
unfoldable pub emit_condition : Cond → ℕ → List Line
emit_condition (compare s a b) n = Compare s a b ∷ []
emit_condition (is_null k) n = IsNull k ∷ []
emit_condition (not_of q) n = chain n (emit_condition q n) (λ i. Not (i - 1) ∷ [])
emit_condition (unknown_of q) n = chain n (emit_condition q n) (λ i. UnknownL (i - 1) ∷ [])
emit_condition (and_of p q) n = chain n (emit_condition p n) (λ i. chain i (emit_condition q i) (λ j. And (i - 1) (j - 1) ∷ []))
emit_condition (or_of p q) n = chain n (emit_condition p n) (λ i. chain i (emit_condition q i) (λ j. Or (i - 1) (j - 1) ∷ []))

-- a line that reads nothing, with each row of the domain
abbrev pub spread_lines : Place → Line → ℕ → List Line
spread_lines None l n = l ∷ []
spread_lines (Some x) l n = l ∷ Match 0 x.domain n ∷ []

-- one cell more: an Extend by a number, a Pad for NULL
abbrev pub cell_line : Cell → ℕ → Line
cell_line Null i = Pad 1 i
cell_line (Number z) i = Extend i (Constant z)

-- e is the operand's line
abbrev pub total_lines : Aggregate → ℕ → Place → ℕ → ℕ → List Line
total_lines f k None e n = Total f k e ∷ []
total_lines f k (Some x) e n = Group x.columns f k e ∷ AntiMatch x.columns x.domain e ∷ cell_line (none_of f) (n + 1) ∷ Union n (n + 2) ∷ []

-- l and r are the lines of the left and the right operand, w the left line's width, m the right operand's own width
abbrev pub outer_lines : ℕ → ℕ → ℕ → ℕ → ℕ → List Line
outer_lines m w l r n = Match w l r ∷ AntiMatch w l r ∷ Pad m (n + 1) ∷ Union n (n + 2) ∷ []

-- from the two Selects a and b on
abbrev pub quant_lines : ℤ → ℤ → ℕ → ℕ → ℕ → ℕ → ℕ → List Line
quant_lines won lost w l a b n =
    SemiMatch w l a ∷ Extend n (Constant won) ∷ AntiMatch w l a ∷ SemiMatch w (n + 2) b ∷ Pad 1 (n + 3) ∷ AntiMatch w (n + 2) b ∷ Extend (n + 5) (Constant lost)
    ∷ Union (n + 1) (n + 4) ∷ Union (n + 7) (n + 6) ∷ []

-- the two Selects of r by the conditions p and q, then what they ask for
abbrev pub tried_lines : ℤ → ℤ → ℕ → ℕ → ℕ → ℕ → ℕ → ℕ → List Line
tried_lines won lost w l r p q n = Select r p ∷ Select r q ∷ quant_lines won lost w l n (n + 1) (n + 2)

abbrev pub some_lines : Sign → ℕ → ℕ → ℕ → ℕ → ℕ → List Line
some_lines s k w l r n =
    Compare s (Column k) (Column w) ∷ UnknownL n ∷ Select r n ∷ Select r (n + 1) ∷ quant_lines (pos 1) (pos 0) w l (n + 2) (n + 3) (n + 4)

abbrev pub all_lines : Sign → ℕ → ℕ → ℕ → ℕ → ℕ → List Line
all_lines s k w l r n =
    Compare s (Column k) (Column w) ∷ UnknownL n ∷ Not n ∷ Select r (n + 2) ∷ Select r (n + 1) ∷ quant_lines (pos 0) (pos 1) w l (n + 3) (n + 4) (n + 5)

-- an Apply: the left lines, the domain, the right lines inside it, then those that the kind adds, by w and the two operands' lines
abbrev pub apply_lines : ℕ → Place → ℕ → (ℕ → List Line) → (Place → ℕ → List Line) → (ℕ → ℕ → ℕ → ℕ → List Line) → List Line
apply_lines v x n left right last =
    chain n (left n) (λ i. Distinct (i - 1) ∷ chain (i + 1) (right (inside (breadth x + v) i) (i + 1)) (λ j. last (breadth x + v) (i - 1) (j - 1) j))

-- the flat lines of a line in its place, the first of which has the number n, over tables of the widths ws
unfoldable pub emit : List ℕ → Tree → Place → ℕ → List Line
emit ws (table t) x n = spread_lines x (TableL t) n
emit ws unit x n = spread_lines x UnitL n
emit ws (select e q) x n = chain n (emit ws e x n) (λ i. chain i (emit_condition q i) (λ j. Select (i - 1) (j - 1) ∷ []))
emit ws (keep a b e) x n = chain n (emit ws e x n) (λ i. Keep (breadth x + a) b (i - 1) ∷ [])
emit ws (extend e v) x n = chain n (emit ws e x n) (λ i. Extend (i - 1) v ∷ [])
emit ws (extend_truth e q) x n = chain n (emit ws e x n) (λ i. chain i (emit_condition q i) (λ j. ExtendTruth (i - 1) (j - 1) ∷ []))
emit ws (pad m e) x n = chain n (emit ws e x n) (λ i. Pad m (i - 1) ∷ [])
emit ws (match a l r) x n = chain n (emit ws l x n) (λ i. chain i (emit ws r x i) (λ j. Match (breadth x + a) (i - 1) (j - 1) ∷ []))
emit ws (semi_match a l r) x n = chain n (emit ws l x n) (λ i. chain i (emit ws r x i) (λ j. SemiMatch (breadth x + a) (i - 1) (j - 1) ∷ []))
emit ws (anti_match a l r) x n = chain n (emit ws l x n) (λ i. chain i (emit ws r x i) (λ j. AntiMatch (breadth x + a) (i - 1) (j - 1) ∷ []))
emit ws (union l r) x n = chain n (emit ws l x n) (λ i. chain i (emit ws r x i) (λ j. Union (i - 1) (j - 1) ∷ []))
emit ws (diff l r) x n = chain n (emit ws l x n) (λ i. chain i (emit ws r x i) (λ j. Diff (i - 1) (j - 1) ∷ []))
emit ws (distinct e) x n = chain n (emit ws e x n) (λ i. Distinct (i - 1) ∷ [])
emit ws (group a f k e) x n = chain n (emit ws e x n) (λ i. Group (breadth x + a) f k (i - 1) ∷ [])
emit ws (total f k e) x n = chain n (emit ws e x n) (λ i. total_lines f k x (i - 1) i)
emit ws (cross l r) x n = apply_lines (width ws l) x n (emit ws l x) (emit ws r) (λ w i j m. Match w i j ∷ [])
emit ws (outer l r) x n = apply_lines (width ws l) x n (emit ws l x) (emit ws r) (λ w i j m. outer_lines (width ws r) w i j m)
emit ws (semi l r) x n = apply_lines (width ws l) x n (emit ws l x) (emit ws r) (λ w i j m. SemiMatch w i j ∷ [])
emit ws (anti l r) x n = apply_lines (width ws l) x n (emit ws l x) (emit ws r) (λ w i j m. AntiMatch w i j ∷ [])
emit ws (some s k l r) x n = apply_lines (width ws l) x n (emit ws l x) (emit ws r) (λ w i j m. some_lines s k w i j m)
emit ws (all s k l r) x n = apply_lines (width ws l) x n (emit ws l x) (emit ws r) (λ w i j m. all_lines s k w i j m)

-- the flat lines of a query
abbrev pub flat_lines : List ℕ → List Line → List Line
flat_lines ws ls = emit ws (answer ls) outermost 0
