-- The number of each refusal, and the value that is returned with it.
use Rattle.std.specs.Prelude.{ℕ}
use Rattle.stock.specs.declared.refusal.Refusal.{Refusal}
use Rattle.stock.specs.declared.refusal.Refusal.TheVariants.{LineCount, Operand, Reading, UnknownTable, Misfit, LongRow, UnknownColumn, SumOfSum, NothingStands, LongPlan, ManyCells, CellsOut, NotShown, BadRow, NoRoom, BadTable}

abbrev pub number_of : Refusal → ℕ
number_of (LineCount n) = 1
number_of (Operand line) = 2
number_of (Reading line) = 3
number_of (UnknownTable line) = 4
number_of (Misfit line) = 5
number_of (LongRow line) = 6
number_of (UnknownColumn line) = 7
number_of (SumOfSum line) = 8
number_of NothingStands = 9
number_of LongPlan = 10
number_of ManyCells = 11
number_of (CellsOut line) = 12
number_of NotShown = 13
number_of (BadRow column) = 14
number_of NoRoom = 15
number_of (BadTable table) = 16

abbrev pub value_of : Refusal → ℕ
value_of (LineCount n) = n
value_of (Operand line) = line
value_of (Reading line) = line
value_of (UnknownTable line) = line
value_of (Misfit line) = line
value_of (LongRow line) = line
value_of (UnknownColumn line) = line
value_of (SumOfSum line) = line
value_of NothingStands = 0
value_of LongPlan = 0
value_of ManyCells = 0
value_of (CellsOut line) = line
value_of NotShown = 0
value_of (BadRow column) = column
value_of NoRoom = 0
value_of (BadTable table) = table
