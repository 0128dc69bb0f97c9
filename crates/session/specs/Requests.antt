-- What each call makes of the reference model. The model is fed the calls and their arguments, and nothing of the session.
use Rattle.std.specs.Prelude.{ℕ, cond, List, length, Some, None, Option, nat_le, nat_lt}
use Rattle.cells.specs.Cells.{Row}
use Rattle.stock.specs.Tables.{widths, rows_of}
use Rattle.stock.specs.declared.refusal.Refusal.{Refusal}
use Rattle.stock.specs.declared.refusal.Refusal.TheVariants.{NothingStands, LongPlan, ManyCells, CellsOut, NotShown, NoRoom}
use Rattle.movements.specs.Moves.{add_cause}
use Rattle.lines.specs.declared.line.Line.{Line}
use Rattle.unnest.specs.Emit.{flat_lines}
use Rattle.evaluate.specs.Moments.{Moment, first_over, ask_moments, run_moments}
use Rattle.session.specs.Checks.{lay_refusal}
use Rattle.session.specs.Model.{Model, ModelTable, tables_of, shown_tables, entries_at, added_at, added_in, hidden_in, with_added, with_taken, cleared}

-- a call with its arguments; to ask and run a number of cells is lent
pub data Request : Type 0 where
  lay : List Line → Request
  unnest : Request
  add : ℕ → Row → Request
  withdraw : ℕ → ℕ → Request
  clear : Request
  ask : ℕ → Request
  run : ℕ → Request

-- why a row is not withdrawn: it is not shown, or it is not an added one and 64 are hidden
abbrev pub withdraw_refusal : List ModelTable → ℕ → ℕ → Option Refusal
withdraw_refusal ts t p =
    cond (nat_lt p (rows_of (shown_tables ts) t)) (cond (added_at (entries_at ts t) p) None (cond (nat_lt (hidden_in ts) 64) None (Some NoRoom))) (Some NotShown)

abbrev pub add_refusal : List ModelTable → ℕ → Row → Option Refusal
add_refusal ts t row = add_cause (shown_tables ts) (added_in ts) t row

-- why a query is not unnested
abbrev pub unnest_refusal : (List Line → List Line) → Option (List Line) → Option Refusal
unnest_refusal flat None = Some NothingStands
unnest_refusal flat (Some ls) = cond (nat_le (length (flat ls)) 512) None (Some LongPlan)

abbrev pub out_at : Option ℕ → Option Refusal
out_at None = None
out_at (Some line) = Some (CellsOut line)

-- why standing lines are not read into n cells, by the cells that stand at each moment of it
abbrev pub read_refusal : (List Line → List Moment) → Option (List Line) → ℕ → Option Refusal
read_refusal moments None n = Some NothingStands
read_refusal moments (Some ls) n = cond (nat_le n 65536) (out_at (first_over n (moments ls))) (Some ManyCells)

-- the model's cause to refuse a call, the least number first
abbrev pub cause : Model → Request → Option Refusal
cause m (lay ls) = lay_refusal (widths (tables_of m)) ls
cause m unnest = unnest_refusal (flat_lines (widths (tables_of m))) m.query
cause m (add t row) = add_refusal m.tables t row
cause m (withdraw t p) = withdraw_refusal m.tables t p
cause m clear = None
cause m (ask n) = read_refusal (ask_moments (tables_of m)) m.query n
cause m (run n) = read_refusal (run_moments (tables_of m)) m.plan n

abbrev pub flat_of : (List Line → List Line) → Option (List Line) → Option (List Line)
flat_of flat None = None
flat_of flat (Some ls) = Some (flat ls)

abbrev pub with_tables : List ModelTable → Model → Model
with_tables ts m = record { tables = ts; query = m.query; plan = m.plan }

-- the model after a call that it has no cause to refuse
abbrev pub changed : Model → Request → Model
changed m (lay ls) = record { tables = m.tables; query = Some ls; plan = None }
changed m unnest = record { tables = m.tables; query = m.query; plan = flat_of (flat_lines (widths (tables_of m))) m.query }
changed m (add t row) = with_tables (with_added m.tables t row) m
changed m (withdraw t p) = with_tables (with_taken m.tables t p) m
changed m clear = with_tables (cleared m.tables) m
changed m (ask n) = m
changed m (run n) = m

abbrev pub unless : {X : Type 0} → Option Refusal → (Refusal → X) → X → X
unless (Some e) f x = f e
unless None f x = x

-- the model after any call: one that it has a cause to refuse changes nothing
abbrev pub step : Model → Request → Model
step m r = unless (cause m r) (λ _. m) (changed m r)
