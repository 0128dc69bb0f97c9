-- The reference model of a session: what stands in its tables, its query and its flat plan.
use Rattle.std.specs.Prelude.{ℕ, zero, suc, ◌+◌, Bool, true, false, List, [], ◌∷◌, ◌++◌, map, None, Option, slice_index_or}
use Rattle.cells.specs.Cells.{Row}
use Rattle.stock.specs.Tables.{Table}
use Rattle.lines.specs.declared.line.Line.{Line}

-- a row of the opening stock, one of these that is hidden, or a row that was added
pub data Entry : Type 0 where
  stocked : Row → Entry
  hidden : Row → Entry
  added : Row → Entry

pub record ModelTable : Type 0 where
  pub width : ℕ
  pub entries : List Entry

pub record Model : Type 0 where
  pub tables : List ModelTable
  pub query : Option (List Line)
  pub plan : Option (List Line)

-- a table of the opening stock: each row is an entry
abbrev pub open_table : Table → ModelTable
open_table t = record { width = t.width; entries = map stocked t.rows }

abbrev pub opened : List Table → Model
opened ts = record { tables = map open_table ts; query = None; plan = None }

-- the entries that are not hidden, in order
abbrev pub shown_rows : List Entry → List Row
shown_rows [] = []
shown_rows (stocked r ∷ es) = r ∷ shown_rows es
shown_rows (hidden r ∷ es) = shown_rows es
shown_rows (added r ∷ es) = r ∷ shown_rows es

abbrev pub shown_table : ModelTable → Table
shown_table t = record { width = t.width; rows = shown_rows t.entries }

abbrev pub shown_tables : List ModelTable → List Table
shown_tables ts = map shown_table ts

-- the tables that the model shows
abbrev pub tables_of : Model → List Table
tables_of m = shown_tables m.tables

-- the entry shown at a place is taken out: one that was added is struck out, one of the stock becomes hidden
abbrev pub take_entry : List Entry → ℕ → List Entry
take_entry [] p = []
take_entry (stocked r ∷ es) zero = hidden r ∷ es
take_entry (stocked r ∷ es) (suc p) = stocked r ∷ take_entry es p
take_entry (hidden r ∷ es) p = hidden r ∷ take_entry es p
take_entry (added r ∷ es) zero = es
take_entry (added r ∷ es) (suc p) = added r ∷ take_entry es p

-- whether the entry shown at a place was added
abbrev pub added_at : List Entry → ℕ → Bool
added_at [] p = false
added_at (stocked r ∷ es) zero = false
added_at (stocked r ∷ es) (suc p) = added_at es p
added_at (hidden r ∷ es) p = added_at es p
added_at (added r ∷ es) zero = true
added_at (added r ∷ es) (suc p) = added_at es p

-- added entries struck out, hidden ones shown
abbrev pub restored : List Entry → List Entry
restored [] = []
restored (stocked r ∷ es) = stocked r ∷ restored es
restored (hidden r ∷ es) = stocked r ∷ restored es
restored (added r ∷ es) = restored es

abbrev pub is_added : Entry → ℕ
is_added (stocked r) = 0
is_added (hidden r) = 0
is_added (added r) = 1

abbrev pub is_hidden : Entry → ℕ
is_hidden (stocked r) = 0
is_hidden (hidden r) = 1
is_hidden (added r) = 0

abbrev pub count_by : (Entry → ℕ) → List Entry → ℕ
count_by mark [] = 0
count_by mark (e ∷ es) = mark e + count_by mark es

-- the marked entries of all tables together
abbrev pub total_by : (Entry → ℕ) → List ModelTable → ℕ
total_by mark [] = 0
total_by mark (t ∷ ts) = count_by mark t.entries + total_by mark ts

abbrev pub added_in : List ModelTable → ℕ
added_in ts = total_by is_added ts

abbrev pub hidden_in : List ModelTable → ℕ
hidden_in ts = total_by is_hidden ts

-- what is found outside the list
abbrev pub no_entries : ModelTable
no_entries = record { width = 0; entries = [] }

abbrev pub entries_at : List ModelTable → ℕ → List Entry
entries_at ts t = (slice_index_or ts t no_entries).entries

abbrev pub with_entries : (List Entry → List Entry) → ModelTable → ModelTable
with_entries f t = record { width = t.width; entries = f t.entries }

-- the entries of one table are written anew
abbrev pub rewritten : ℕ → (List Entry → List Entry) → List ModelTable → List ModelTable
rewritten t f [] = []
rewritten zero f (x ∷ ts) = with_entries f x ∷ ts
rewritten (suc t) f (x ∷ ts) = x ∷ rewritten t f ts

-- an added entry at the end of table t
abbrev pub with_added : List ModelTable → ℕ → Row → List ModelTable
with_added ts t row = rewritten t (λ es. es ++ added row ∷ []) ts

-- the entry shown at place p of table t is taken
abbrev pub with_taken : List ModelTable → ℕ → ℕ → List ModelTable
with_taken ts t p = rewritten t (λ es. take_entry es p) ts

-- every table as it was at the opening
abbrev pub cleared : List ModelTable → List ModelTable
cleared ts = map (with_entries restored) ts
