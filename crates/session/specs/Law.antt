-- The law over a whole past, as a relation between its calls, their replies and the model.
use Rattle.std.specs.Prelude.{◌≡◌, List, [], ◌∷◌, map, Some, None, Option}
use Rattle.cells.specs.Cells.{Row}
use Rattle.cells.specs.declared.cell.Cell.{Cell}
use Rattle.stock.specs.Tables.{Table, widths}
use Rattle.stock.specs.declared.refusal.Refusal.{Refusal}
use Rattle.movements.specs.Shown.{shown}
use Rattle.lines.specs.Ops.{count}
use Rattle.lines.specs.declared.line.Line.{Line}
use Rattle.session.specs.Model.{Model, opened, tables_of}
use Rattle.session.specs.Requests.{Request, lay, unnest, add, withdraw, clear, ask, run, cause, step}
use Rattle.session.specs.Replies.{Reply, rows_given, size_given, written, reply_due}
use Rattle.session.specs.Plans.{standing_lines, standing_plan, PlanLaw}
use Rattle.session.specs.Past.{request_of, lent, reply_of, after}
use Rattle.session.specs.declared.calls.Answer.TheVariants.{Refused}
use Rattle.session.specs.declared.calls.Event.{Event}
use Rattle.session.specs.declared.session.Session.{Session}

-- a reading of standing lines over the tables ts into lent cells, where `why` is the cause to refuse it
pub record Read (ts : List Table) (lines query : Option (List Line)) (why : Option Refusal) (cells : List Cell) (reply : Reply) : Type 0 where
  -- with a cause it was refused; cells that ran out are NULL, others as they were
  pub refused : (e : Refusal) → why ≡ Some e → (reply.answer ≡ Refused e) × (reply.cells ≡ written (Some e) [] cells)
  -- with none it was answered with the lines' rows in order, and NULLs after them
  pub answered : why ≡ None → (reply.answer ≡ size_given ts lines) × (reply.cells ≡ written None (rows_given ts lines) cells)
  -- and these are each row exactly as often as the query gives it
  pub often : why ≡ None → (r : Row) → count r (rows_given ts lines) ≡ count r (rows_given ts query)

-- the reply to a call is the model's
abbrev pub Replied : Model → Request → List Cell → Reply → Type 0
Replied m (lay ls) cells reply = reply ≡ reply_due m (lay ls) cells
Replied m unnest cells reply = reply ≡ reply_due m unnest cells
Replied m (add t row) cells reply = reply ≡ reply_due m (add t row) cells
Replied m (withdraw t p) cells reply = reply ≡ reply_due m (withdraw t p) cells
Replied m clear cells reply = reply ≡ reply_due m clear cells
Replied m (ask n) cells reply = Read (tables_of m) m.query m.query (cause m (ask n)) cells reply
Replied m (run n) cells reply = Read (tables_of m) m.plan m.query (cause m (run n)) cells reply

-- every call of a past was replied to as by the model that was fed the calls before it
abbrev pub EachReplied : Model → List Event → List Event → Type 0
EachReplied m [] [] = Unit {0}
EachReplied m [] (d ∷ ds) = ⊥
EachReplied m (e ∷ es) [] = ⊥
EachReplied m (e ∷ es) (d ∷ ds) = Replied m (request_of e) (lent e) (reply_of d) × EachReplied (step m (request_of e)) es ds

-- what a session holds is the model's
pub record Stands {X : Type 0} (tables : X → List Table) (s : Session X) (m : Model) : Type 0 where
  pub rows : shown tables s.layer ≡ tables_of m
  pub query : standing_lines s.query ≡ m.query
  pub plan : standing_plan s.plan ≡ m.plan

-- after any past over any stock: what stands is the model's, the flat plan agrees with the query, each reply was the model's,
-- and the calls and the stock are still the same
pub record SessionFollowsTheModel {X : Type 0} (tables : X → List Table) (stock : X) (before done : List Event) (s : Session X) : Type 0 where
  pub stands : Stands tables s (after (opened (tables stock)) before)
  pub plan : PlanLaw (widths (tables stock)) (after (opened (tables stock)) before).query (after (opened (tables stock)) before).plan
  pub replied : EachReplied (opened (tables stock)) before done
  pub calls : map request_of done ≡ map request_of before
  pub same : s.layer.below ≡ stock
