-- What the check of a query answers.
use Rattle.std.specs.Prelude.{◌≡◌, ℕ, ◌<◌, ◌≤◌, true, ◌⊎◌, List, length}
use Rattle.stock.specs.declared.refusal.Refusal.{Refusal}
use Rattle.stock.specs.declared.refusal.Refusal.TheVariants.{LineCount, Operand, Reading, UnknownTable, Misfit, LongRow, UnknownColumn, SumOfSum, NothingStands, LongPlan, ManyCells, CellsOut, NotShown, BadRow, NoRoom, BadTable}
use Rattle.stock.specs.Refusals.{number_of, value_of}
use Rattle.lines.specs.declared.line.Line.{Line}
use Rattle.lines.specs.Shapes.{line_at}
use Rattle.query.specs.Reads.{misread, isolated}
use Rattle.query.specs.Fits.{unknown_table, unfit}
use Rattle.query.specs.Contexts.{overlong, stray}
use Rattle.query.specs.Sums.{resummed}

-- there is this cause to refuse the lines ls over tables of the widths ws
abbrev pub Faulty : List Line → List ℕ → Refusal → Type 0
Faulty ls ws (LineCount n) = (n ≡ length ls) × ((1 ≤ n) × (n ≤ 32) → ⊥)
Faulty ls ws (Operand i) = (i < length ls) × (misread ls i ≡ true)
Faulty ls ws (Reading i) = (i < length ls) × (isolated ls i ≡ true)
Faulty ls ws (UnknownTable i) = (i < length ls) × (unknown_table ws (line_at ls i) ≡ true)
Faulty ls ws (Misfit i) = (i < length ls) × (unfit ls ws i ≡ true)
Faulty ls ws (LongRow i) = (i < length ls) × (overlong ls ws i ≡ true)
Faulty ls ws (UnknownColumn i) = (i < length ls) × (stray ls ws i ≡ true)
Faulty ls ws (SumOfSum i) = (i < length ls) × (resummed ls ws i ≡ true)
Faulty ls ws NothingStands = ⊥
Faulty ls ws LongPlan = ⊥
Faulty ls ws ManyCells = ⊥
Faulty ls ws (CellsOut line) = ⊥
Faulty ls ws NotShown = ⊥
Faulty ls ws (BadRow column) = ⊥
Faulty ls ws NoRoom = ⊥
Faulty ls ws (BadTable table) = ⊥

-- a lower number, or the same with a lower line
abbrev pub Earlier : Refusal → Refusal → Type 0
Earlier b e = (number_of b < number_of e) ⊎ ((number_of b ≡ number_of e) × (value_of b < value_of e))

-- e is the least cause
pub record Refused (ls : List Line) (ws : List ℕ) (e : Refusal) : Type 0 where
  pub fault : Faulty ls ws e
  pub first : (b : Refusal) → Earlier b e → Faulty ls ws b → ⊥

-- there is no cause with a number up to n
abbrev pub Passed : List Line → List ℕ → ℕ → Type 0
Passed ls ws n = (b : Refusal) → number_of b ≤ n → Faulty ls ws b → ⊥

-- there is no cause at all
abbrev pub Accepted : List Line → List ℕ → Type 0
Accepted ls ws = (b : Refusal) → Faulty ls ws b → ⊥
