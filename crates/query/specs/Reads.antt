-- How lines read one another: the causes 2 and 3 to refuse a query.
use Rattle.std.specs.Prelude.{◌≡◌, ℕ, ◌+◌, ◌<◌, Bool, true, false, cond, not, ◌&&◌, List, [], ◌∷◌, length, ◌==◌, nat_lt}
use Rattle.lines.specs.declared.line.Shape.{Shape}
use Rattle.lines.specs.declared.line.Shape.TheVariants.{Leaf, One, Two, Tested, Inner, Part, Parts}
use Rattle.lines.specs.declared.line.Line.{Line}
use Rattle.lines.specs.Shapes.{shape_of, is_condition, line_at}

-- line a is lower than line i, and has rows; or is a condition
abbrev pub rows_below : List Line → ℕ → ℕ → Bool
rows_below ls i a = nat_lt a i && not (is_condition (line_at ls a))

abbrev pub condition_below : List Line → ℕ → ℕ → Bool
condition_below ls i a = nat_lt a i && is_condition (line_at ls a)

-- every operand of line i is lower and of the right kind
abbrev pub well_read : List Line → ℕ → Shape → Bool
well_read ls i Leaf = true
well_read ls i (One a) = rows_below ls i a
well_read ls i (Two a b) = rows_below ls i a && rows_below ls i b
well_read ls i (Tested a q) = rows_below ls i a && condition_below ls i q
well_read ls i (Inner a b) = rows_below ls i a && rows_below ls i b
well_read ls i (Part p) = condition_below ls i p
well_read ls i (Parts p q) = condition_below ls i p && condition_below ls i q

-- cause 2: an operand of line i is not lower, or of the wrong kind
abbrev pub misread : List Line → ℕ → Bool
misread ls i = not (well_read ls i (shape_of (line_at ls i)))

-- how often a line's operands name line i
abbrev pub one_if : Bool → ℕ
one_if true = 1
one_if false = 0

abbrev pub times : Shape → ℕ → ℕ
times Leaf i = 0
times (One a) i = one_if (a == i)
times (Two a b) i = one_if (a == i) + one_if (b == i)
times (Tested a q) i = one_if (a == i) + one_if (q == i)
times (Inner a b) i = one_if (a == i) + one_if (b == i)
times (Part p) i = one_if (p == i)
times (Parts p q) i = one_if (p == i) + one_if (q == i)

abbrev pub times_in : List Line → ℕ → ℕ
times_in [] i = 0
times_in (l ∷ ls) i = times (shape_of l) i + times_in ls i

-- cause 3: line i is the last and a condition, or another and not read exactly once
abbrev pub isolated : List Line → ℕ → Bool
isolated ls i = cond (i + 1 == length ls) (is_condition (line_at ls i)) (not (times_in ls i == 1))

-- a test fails at every number below n; and it holds at i, which is below n, and at none before
abbrev pub Never : (ℕ → Bool) → ℕ → Type 0
Never p n = (j : ℕ) → j < n → p j ≡ false

pub record First (p : ℕ → Bool) (n i : ℕ) : Type 0 where
  pub within : i < n
  pub fault : p i ≡ true
  pub before : Never p i
