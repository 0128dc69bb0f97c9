-- What the model has a session reply to a call.
use Rattle.std.specs.Prelude.{ℕ, ◌-◌, cond, List, [], ◌++◌, length, replicate, Some, None, Ok, Err, Option, Result, ◌==◌}
use Rattle.std.specs.List.{flat_map}
use Rattle.cells.specs.Cells.{Row}
use Rattle.cells.specs.declared.cell.Cell.{Cell}
use Rattle.cells.specs.declared.cell.Cell.TheVariants.{Null}
use Rattle.stock.specs.Tables.{Table, widths, rows_of}
use Rattle.stock.specs.Refusals.{number_of}
use Rattle.stock.specs.declared.refusal.Refusal.{Refusal}
use Rattle.lines.specs.Lines.{answer, plan_rows}
use Rattle.lines.specs.Trees.{width}
use Rattle.lines.specs.declared.line.Line.{Line}
use Rattle.session.specs.Model.{Model, tables_of}
use Rattle.session.specs.Requests.{Request, lay, unnest, add, withdraw, clear, ask, run, cause, changed, unless}
use Rattle.session.specs.declared.calls.Answer.{Answer}
use Rattle.session.specs.declared.calls.Answer.TheVariants.{Count, Size, Refused}

-- a reply: the answer, and what the lent cells then hold
pub record Reply : Type 0 where
  pub answer : Answer
  pub cells : List Cell

abbrev pub reply : Answer → List Cell → Reply
reply a cells = record { answer = a; cells = cells }

abbrev pub told : Result ℕ Refusal → Answer
told (Ok n) = Count n
told (Err e) = Refused e

abbrev pub told_size : Result (ℕ × ℕ) Refusal → Answer
told_size (Ok p) = Size p.0 p.1
told_size (Err e) = Refused e

-- the rows and their width that standing lines give over the tables
abbrev pub rows_given : List Table → Option (List Line) → List Row
rows_given ts None = []
rows_given ts (Some ls) = plan_rows ts ls

abbrev pub width_given : List Table → Option (List Line) → ℕ
width_given ts None = 0
width_given ts (Some ls) = width (widths ts) (answer ls)

abbrev pub lines_of : Option (List Line) → ℕ
lines_of None = 0
lines_of (Some ls) = length ls

abbrev pub size_given : List Table → Option (List Line) → Answer
size_given ts o = Size (length (rows_given ts o)) (width_given ts o)

-- the answer to a call that the model has no cause to refuse: a count is that of what then stands or is shown
abbrev pub accepted : Model → Request → Answer
accepted m (lay ls) = Size (length ls) (width_given (tables_of m) (Some ls))
accepted m unnest = Count (lines_of (changed m unnest).plan)
accepted m (add t row) = Count (rows_of (tables_of (changed m (add t row))) t)
accepted m (withdraw t p) = Count (rows_of (tables_of (changed m (withdraw t p))) t)
accepted m clear = Count 0
accepted m (ask n) = size_given (tables_of m) m.query
accepted m (run n) = size_given (tables_of m) m.plan

abbrev pub answer_due : Model → Request → Answer
answer_due m r = unless (cause m r) (λ e. Refused e) (accepted m r)

-- the cells of rows, one row after another
abbrev pub laid_out : List Row → List Cell
laid_out rs = flat_map (λ r. r) rs

-- what lent cells hold after a reading: the rows, then NULLs. Where cells run out all are NULL, and any other refusal leaves them
abbrev pub written : Option Refusal → List Row → List Cell → List Cell
written None rs cells = laid_out rs ++ replicate (length cells - length (laid_out rs)) Null
written (Some e) rs cells = cond (number_of e == 12) (replicate (length cells) Null) cells

abbrev pub cells_due : Model → Request → List Cell → List Cell
cells_due m (lay ls) cells = cells
cells_due m unnest cells = cells
cells_due m (add t row) cells = cells
cells_due m (withdraw t p) cells = cells
cells_due m clear cells = cells
cells_due m (ask n) cells = written (cause m (ask n)) (rows_given (tables_of m) m.query) cells
cells_due m (run n) cells = written (cause m (run n)) (rows_given (tables_of m) m.plan) cells

abbrev pub reply_due : Model → Request → List Cell → Reply
reply_due m r cells = reply (answer_due m r) (cells_due m r cells)
