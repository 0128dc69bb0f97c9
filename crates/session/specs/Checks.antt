-- The tests of lay, in their order.
use Rattle.std.specs.Prelude.{ℕ, zero, suc, Bool, cond, ◌&&◌, List, [], ◌∷◌, length, Some, None, Option, nat_le}
use Rattle.stock.specs.declared.refusal.Refusal.{Refusal}
use Rattle.stock.specs.declared.refusal.Refusal.TheVariants.{LineCount, Operand, Reading, UnknownTable, Misfit, LongRow, UnknownColumn, SumOfSum}
use Rattle.lines.specs.Shapes.{line_at}
use Rattle.lines.specs.declared.line.Line.{Line}
use Rattle.query.specs.Reads.{misread, isolated}
use Rattle.query.specs.Fits.{unknown_table, unfit}
use Rattle.query.specs.Contexts.{overlong, stray}
use Rattle.query.specs.Sums.{resummed}

-- a test of each line of a query, and the refusal where a line fails it
pub record Test : Type 0 where
  pub fails : ℕ → Bool
  pub refusal : ℕ → Refusal

-- the first of n lines, counted from i, that fails
abbrev pub first_from : (ℕ → Bool) → ℕ → ℕ → Option ℕ
first_from fails i zero = None
first_from fails i (suc n) = cond (fails i) (Some i) (first_from fails (suc i) n)

abbrev pub or_else : (ℕ → Refusal) → Option ℕ → Option Refusal → Option Refusal
or_else refusal (Some i) next = Some (refusal i)
or_else refusal None next = next

-- each test is tried on all of n lines before the next
abbrev pub first_failed : List Test → ℕ → Option Refusal
first_failed [] n = None
first_failed (t ∷ ts) n = or_else t.refusal (first_from t.fails 0 n) (first_failed ts n)

-- the tests of lines that are to stand over tables of the widths ws
abbrev pub line_tests : List ℕ → List Line → List Test
line_tests ws ls =
    record { fails = misread ls; refusal = λ i. Operand i }
    ∷ record { fails = isolated ls; refusal = λ i. Reading i }
    ∷ record { fails = λ i. unknown_table ws (line_at ls i); refusal = λ i. UnknownTable i }
    ∷ record { fails = unfit ls ws; refusal = λ i. Misfit i }
    ∷ record { fails = overlong ls ws; refusal = λ i. LongRow i }
    ∷ record { fails = stray ls ws; refusal = λ i. UnknownColumn i }
    ∷ record { fails = resummed ls ws; refusal = λ i. SumOfSum i }
    ∷ []

-- why lines are no query over tables of the widths ws: first their number
abbrev pub lay_refusal : List ℕ → List Line → Option Refusal
lay_refusal ws ls = cond (nat_le 1 (length ls) && nat_le (length ls) 32) (first_failed (line_tests ws ls) (length ls)) (Some (LineCount (length ls)))
