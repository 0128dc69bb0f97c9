-- Short pasts of the model, worked out by the definitions alone.
use Rattle.std.specs.Prelude.{◌≡◌, ℕ, List, [], ◌∷◌, ◌++◌, replicate, pos, Some, None, Option}
use Rattle.cells.specs.Cells.{Row}
use Rattle.cells.specs.declared.cell.Cell.TheVariants.{Null, Number}
use Rattle.stock.specs.Tables.{rows_at}
use Rattle.stock.specs.declared.refusal.Refusal.{Refusal}
use Rattle.stock.specs.declared.refusal.Refusal.TheVariants.{NotShown, BadRow, NoRoom, NothingStands, ManyCells, CellsOut}
use Rattle.lines.specs.declared.line.Line.TheVariants.{Table as TableL}
use Rattle.session.specs.Model.{Entry, stocked, hidden, added, Model, opened, tables_of}
use Rattle.session.specs.Requests.{Request, lay, unnest, add, withdraw, clear, ask, run, cause, step}
use Rattle.session.specs.Replies.{reply, reply_due}
use Rattle.session.specs.declared.calls.Answer.TheVariants.{Size, Refused}

abbrev one : ℕ → Row
one k = Number (pos k) ∷ []

-- one table of width 1 with the rows 1, 2 and 3
abbrev pub three : Model
three = opened (record { width = 1; rows = one 1 ∷ one 2 ∷ one 3 ∷ [] } ∷ [])

abbrev pub past_of : Model → List Request → Model
past_of m [] = m
past_of m (r ∷ rs) = past_of (step m r) rs

-- the rows of table 0 after some requests
abbrev pub rows_after : List Request → List Row
rows_after rs = rows_at (tables_of (past_of three rs)) 0

-- a query that is the table itself, then its flat plan
abbrev pub planned : List Request
planned = lay (TableL 0 ∷ []) ∷ unnest ∷ []

-- why the flat plan is not run over n cells after these requests
abbrev pub run_cause : List Request → ℕ → Option Refusal
run_cause rs n = cause (past_of three (planned ++ rs)) (run n)

-- the same of the query
abbrev pub ask_cause : List Request → ℕ → Option Refusal
ask_cause rs n = cause (past_of three (planned ++ rs)) (ask n)

-- one table with these entries
abbrev pub holding : List Entry → Model
holding es = record { tables = record { width = 1; entries = es } ∷ []; query = None; plan = None }

pub record WorkedPasts : Type 0 where
  -- places are those shown at that time: rows 1, then 3, then the added 7 are taken; 8 stays last
  pub places : rows_after (add 0 (one 7) ∷ withdraw 0 0 ∷ withdraw 0 1 ∷ add 0 (one 8) ∷ withdraw 0 1 ∷ []) ≡ one 2 ∷ one 8 ∷ []
  -- clear shows the stock's rows again, in their order
  pub clears : rows_after (withdraw 0 1 ∷ add 0 (one 7) ∷ withdraw 0 0 ∷ clear ∷ []) ≡ one 1 ∷ one 2 ∷ one 3 ∷ []
  -- a refused call changes nothing
  pub still : rows_after (add 0 (one 7 ++ one 7) ∷ withdraw 0 3 ∷ add 1 (one 7) ∷ []) ≡ one 1 ∷ one 2 ∷ one 3 ∷ []
  pub no_place : cause three (withdraw 0 3) ≡ Some NotShown
  pub no_table : cause three (withdraw 1 0) ≡ Some NotShown
  -- a wrong width comes before a wrong number, which is named by its column
  pub wide : cause three (add 0 (one 2147483648 ++ one 7)) ≡ Some (BadRow 2)
  pub large : cause three (add 0 (one 2147483648)) ≡ Some (BadRow 0)
  pub null : cause three (add 0 (Null ∷ [])) ≡ None
  -- the 64th added row finds room, the 65th none; one that is struck out makes room
  pub last_room : cause (holding (replicate 63 (added (one 7)))) (add 0 (one 8)) ≡ None
  pub no_room : cause (holding (replicate 64 (added (one 7)))) (add 0 (one 8)) ≡ Some NoRoom
  pub room_again : cause (step (holding (replicate 64 (added (one 7)))) (withdraw 0 5)) (add 0 (one 8)) ≡ None
  -- 64 rows of the stock may be hidden, and no more; an added row is still taken
  pub last_hidden : cause (holding (replicate 63 (hidden (one 1)) ++ stocked (one 2) ∷ [])) (withdraw 0 0) ≡ None
  pub no_hidden : cause (holding (replicate 64 (hidden (one 1)) ++ stocked (one 2) ∷ added (one 7) ∷ [])) (withdraw 0 0) ≡ Some NoRoom
  pub own : cause (holding (replicate 64 (hidden (one 1)) ++ stocked (one 2) ∷ added (one 7) ∷ [])) (withdraw 0 1) ≡ None
  -- nothing stands at the opening
  pub no_query : cause three unnest ≡ Some NothingStands
  pub no_rows : cause three (ask 65537) ≡ Some NothingStands
  pub no_plan : cause three (run 0) ≡ Some NothingStands
  -- three cells are enough for three rows, and a fourth row wants one more; 65,537 are too many
  pub enough : run_cause [] 3 ≡ None
  pub short : run_cause [] 2 ≡ Some (CellsOut 0)
  pub one_more : run_cause (add 0 (one 7) ∷ []) 3 ≡ Some (CellsOut 0)
  pub many : run_cause [] 65537 ≡ Some ManyCells
  -- a table that is asked for is laid twice
  pub enough_twice : ask_cause [] 6 ≡ None
  pub short_twice : ask_cause [] 5 ≡ Some (CellsOut 0)
  pub many_twice : ask_cause [] 65537 ≡ Some ManyCells
  -- the rows shown come first, then NULLs; cells that run out are all NULL
  pub rows : reply_due (past_of three (planned ++ withdraw 0 1 ∷ [])) (run 4) (replicate 4 (Number (pos 9))) ≡ reply (Size 2 1) (Number (pos 1) ∷ Number (pos 3) ∷ Null ∷ Null ∷ [])
  pub nulls : reply_due (past_of three planned) (run 2) (replicate 2 (Number (pos 9))) ≡ reply (Refused (CellsOut 0)) (Null ∷ Null ∷ [])
  -- a new query has no flat plan yet
  pub relaid : run_cause (lay (TableL 0 ∷ []) ∷ []) 3 ≡ Some NothingStands
