-- What a stock means: a list of tables.
use Rattle.std.specs.Prelude.{◌≡◌, ℕ, ◌≤◌, Bool, true, ◌&&◌, List, [], ◌∷◌, ◌++◌, map, length, get_or, take, pos, slice_index_or}
use Rattle.std.specs.List.{range_with_len, AllByRecursion}
use Rattle.cells.specs.Cells.{Row, stored}
use Rattle.cells.specs.declared.cell.Cell.{Cell}
use Rattle.cells.specs.declared.cell.Cell.TheVariants.{Null, Number}

pub record Table : Type 0 where
  pub width : ℕ
  pub rows : List Row

abbrev pub every : {X : Type 0} → (X → Bool) → List X → Bool
every test [] = true
every test (x ∷ xs) = test x && every test xs

-- a row of w cells, each NULL or a stored number
pub record LawfulRow (w : ℕ) (r : Row) : Type 0 where
  pub long : length r ≡ w
  pub stored : every stored r ≡ true

pub record LawfulTable (t : Table) : Type 0 where
  pub least : 1 ≤ t.width
  pub most : t.width ≤ 8
  pub few : length t.rows ≤ 65535
  pub each : AllByRecursion (LawfulRow t.width) t.rows

-- what every stock's tables keep to
pub record Lawful (ts : List Table) : Type 0 where
  pub few : length ts ≤ 16
  pub each : AllByRecursion LawfulTable ts

-- what is found outside the list
abbrev pub no_table : Table
no_table = record { width = 0; rows = [] }

abbrev pub width_of : List Table → ℕ → ℕ
width_of ts t = (get_or ts t no_table).width

abbrev pub rows_at : List Table → ℕ → List Row
rows_at ts t = (get_or ts t no_table).rows

abbrev pub rows_of : List Table → ℕ → ℕ
rows_of ts t = length (rows_at ts t)

abbrev pub cell_of : List Table → ℕ → ℕ → ℕ → Cell
cell_of ts t p c = slice_index_or (slice_index_or (rows_at ts t) p []) c Null

-- the widths of all tables, in order
abbrev pub widths : List Table → List ℕ
widths ts = map (λ t. t.width) ts

-- a ruler of n: 0 to n - 1, a row each
abbrev pub ruled : ℕ → List Table
ruled n = record { width = 1; rows = map (λ k. Number (pos k) ∷ []) (range_with_len 0 n) } ∷ []

-- both stocks' tables, the first's in front; what would come after table 15 is not shown
abbrev pub paired : List Table → List Table → List Table
paired a b = take 16 (a ++ b)
