-- Lent cells cut into tables.
use Rattle.std.specs.Prelude.{ℕ, zero, suc, ◌-◌, ◌*◌, Bool, cond, ◌&&◌, List, [], ◌∷◌, length, take, drop, Some, None, Ok, Err, Option, Result, ◌==◌, nat_le, nat_lt}
use Rattle.std.specs.List.{flat_map}
use Rattle.stock.specs.Tables.{Table, every}
use Rattle.stock.specs.declared.refusal.Refusal.{Refusal}
use Rattle.stock.specs.declared.refusal.Refusal.TheVariants.{BadTable}
use Rattle.cells.specs.Cells.{Row, stored}
use Rattle.cells.specs.declared.cell.Cell.{Cell}

-- r rows of w cells
abbrev pub rows_cut : ℕ → ℕ → List Cell → List Row
rows_cut w zero cs = []
rows_cut w (suc r) cs = take w cs ∷ rows_cut w r (drop w cs)

-- table after table, by pairs of width and rows
abbrev pub cut : List (ℕ × ℕ) → List Cell → List Table
cut [] cs = []
cut (p ∷ ps) cs = record { width = p.0; rows = rows_cut p.0 p.1 cs } ∷ cut ps (drop (p.1 * p.0) cs)

-- whether a pair is a table's and the cells from there on suffice and hold stored numbers
abbrev pub fits : ℕ × ℕ → List Cell → Bool
fits p cs = nat_le 1 p.0 && (nat_le p.0 8 && (nat_le p.1 65535 && (nat_le (p.1 * p.0) (length cs) && every stored (take (p.1 * p.0) cs))))

-- the first table at fault, from table i on: a 17th pair is table 16's fault, and the last table answers for cells that none takes; without tables it is table 0
abbrev pub fault_from : ℕ → List (ℕ × ℕ) → List Cell → Option ℕ
fault_from i [] cs = cond (length cs == 0) None (Some (i - 1))
fault_from i (p ∷ ps) cs = cond (nat_lt i 16) (cond (fits p cs) (fault_from (suc i) ps (drop (p.1 * p.0) cs)) (Some i)) (Some 16)

abbrev pub fault : List (ℕ × ℕ) → List Cell → Option ℕ
fault ps cs = fault_from 0 ps cs

-- what a shelf shows of its tables: all, and none where the check fails
abbrev pub unless_fault : {X : Type 0} → Option ℕ → List X → List X
unless_fault (Some i) xs = []
unless_fault None xs = xs

-- the tables of a shelf
abbrev pub shelved : List (ℕ × ℕ) → List Cell → List Table
shelved ps cs = unless_fault (fault ps cs) (cut ps cs)

-- what the check answers: the number of tables, or the table at fault
abbrev pub check_answer : Option ℕ → ℕ → Result ℕ Refusal
check_answer (Some i) n = Err (BadTable i)
check_answer None n = Ok n

-- the cells of all tables, row after row and table after table
abbrev pub laid_out : List Table → List Cell
laid_out ts = flat_map (λ t. flat_map (λ r. r) t.rows) ts
