-- What a layer of movements shows over a list of tables.
use Rattle.std.specs.Prelude.{◌≡◌, ℕ, zero, suc, ◌+◌, ◌-◌, ◌<◌, cond, ◌&&◌, List, [], ◌∷◌, ◌++◌, length, take, Some, None, Option, ◌==◌, nat_le, nat_lt, slice_index_or}
use Rattle.std.specs.List.{remove}
use Rattle.stock.specs.declared.refusal.Refusal.{Refusal}
use Rattle.stock.specs.declared.refusal.Refusal.TheVariants.{NotShown, BadRow, NoRoom}
use Rattle.stock.specs.Tables.{Table, width_of, rows_of}
use Rattle.cells.specs.Cells.{Row, stored}
use Rattle.movements.specs.declared.moved.Added.{Added}
use Rattle.movements.specs.declared.moved.Hidden.{Hidden}

-- the rows of table t after one withdrawal, which may be another table's
abbrev pub take_out : ℕ → Hidden → List Row → List Row
take_out t h rs = cond (h.table == t) (remove rs h.place) rs

-- the rows of table t that the withdrawals leave, made in their order
abbrev pub remaining : ℕ → List Hidden → List Row → List Row
remaining t [] rs = rs
remaining t (h ∷ hs) rs = remaining t hs (take_out t h rs)

-- how many rows of n one withdrawal leaves in table t
abbrev pub fewer : ℕ → Hidden → ℕ → ℕ
fewer t h n = cond (h.table == t && nat_lt h.place n) (n - 1) n

-- where the row stood before one withdrawal that stands at q in table t after it
abbrev pub before : ℕ → Hidden → ℕ → ℕ
before t h q = cond (h.table == t && nat_le h.place q) (q + 1) q

-- the rows added to table t of width w
abbrev pub added_rows : ℕ → ℕ → List Added → List Row
added_rows t w [] = []
added_rows t w (m ∷ ms) = cond (m.table == t) (take w m.row ∷ added_rows t w ms) (added_rows t w ms)

-- how many rows were added to table t
abbrev pub added_count : ℕ → List Added → ℕ
added_count t [] = 0
added_count t (m ∷ ms) = cond (m.table == t) (suc (added_count t ms)) (added_count t ms)

-- the added row at index i is the one of table t that k others of it precede
pub record Nth (t k : ℕ) (ms : List Added) (i : ℕ) : Type 0 where
  pub within : i < length ms
  pub here : (d : Added) → (slice_index_or ms i d).table ≡ t
  pub past : added_count t (take i ms) ≡ k

-- table t as the layer shows it: the rows below that remain, then the added ones; a table never shows over 65,535
abbrev pub one_moved : ℕ → List Added → List Hidden → Table → Table
one_moved t ms hs x = record { width = x.width; rows = take 65535 (remaining t hs x.rows ++ added_rows t x.width ms) }

abbrev pub moved_from : ℕ → List Added → List Hidden → List Table → List Table
moved_from t ms hs [] = []
moved_from t ms hs (x ∷ xs) = one_moved t ms hs x ∷ moved_from (suc t) ms hs xs

-- what a layer shows over the tables ts
abbrev pub moved : List Added → List Hidden → List Table → List Table
moved ms hs ts = moved_from 0 ms hs ts

-- the first column from j on that holds no stored number
abbrev pub fault_from : ℕ → Row → Option ℕ
fault_from j [] = None
fault_from j (c ∷ cs) = cond (stored c) (fault_from (suc j) cs) (Some j)

-- what is wrong with a row for a table of width w: its own width, or a column
abbrev pub row_fault : ℕ → Row → Option ℕ
row_fault w row = cond (length row == w) (fault_from 0 row) (Some (length row))

-- why a row is not added to table t of the tables shown, where n rows stand added
abbrev pub add_cause : List Table → ℕ → ℕ → Row → Option Refusal
add_cause ts n t row =
    cond (nat_lt t (length ts))
    (elim (row_fault (width_of ts t) row) [ Some k ↦ Some (BadRow k) | None ↦ cond (nat_lt n 64 && nat_lt (rows_of ts t) 65535) None (Some NoRoom) ])
    (Some NotShown)

-- why the row at place p of table t is not withdrawn, where the table's first k rows are of below and n rows are hidden
abbrev pub withdraw_cause : List Table → ℕ → ℕ → ℕ → ℕ → Option Refusal
withdraw_cause ts k n t p =
    cond (nat_lt p (rows_of ts t)) (cond (nat_lt p k) (cond (nat_lt n 64) None (Some NoRoom)) None) (Some NotShown)

-- the rows of table t changed by f, and no other table
abbrev pub change_rows : (List Row → List Row) → List Table → ℕ → List Table
change_rows f [] t = []
change_rows f (x ∷ ts) zero = record { width = x.width; rows = f x.rows } ∷ ts
change_rows f (x ∷ ts) (suc t) = x ∷ change_rows f ts t

-- one row more at the end of table t
abbrev pub with_row : List Table → ℕ → Row → List Table
with_row ts t row = change_rows (λ rs. rs ++ row ∷ []) ts t

-- table t without the row at place p; the others keep their order
abbrev pub without_row : List Table → ℕ → ℕ → List Table
without_row ts t p = change_rows (λ rs. remove rs p) ts t
