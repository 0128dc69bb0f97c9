-- A reply that is the model's, in plain words.
use Rattle.std.proofs.Common.{◌≡◌, ℕ, List, [], ◌∷◌, ◌++◌, Some, None, Option, refl, ap, ◌∙◌}
use Rattle.cells.specs.Cells.{Row}
use Rattle.cells.specs.declared.cell.Cell.{Cell}
use Rattle.stock.specs.Tables.{Table, Lawful, widths}
use Rattle.stock.specs.declared.refusal.Refusal.{Refusal}
use Rattle.lines.specs.Ops.{count}
use Rattle.lines.specs.declared.line.Line.{Line}
use Rattle.evaluate.specs.Moments.{Moment, run_moments}
use Rattle.session.specs.Model.{Model, tables_of}
use Rattle.session.specs.Requests.{Request, lay, unnest, add, withdraw, clear, ask, run, cause, step, unless, read_refusal}
use Rattle.session.specs.Replies.{Reply, rows_given, size_given, written, reply_due}
use Rattle.session.specs.Law.{Read, Replied, EachReplied}
use Rattle.session.specs.Plans.{PlanLaw}
use Rattle.session.specs.Past.{request_of, lent, reply_of, after}
use Rattle.session.specs.declared.calls.Answer.TheVariants.{Refused}
use Rattle.session.specs.declared.calls.Event.{Event}

module _ (ws : List ℕ) where
  -- a flat plan is read only where one stands
  often_run : (ts : List Table) → Lawful ts → widths ts ≡ ws → (moments : List Line → List Moment) (n : ℕ) (q p : Option (List Line)) → PlanLaw ws q p → read_refusal moments p n ≡ None
      → (r : Row) → count r (rows_given ts p) ≡ count r (rows_given ts q)
  often_run ts g w moments n None None l c r = refl
  often_run ts g w moments n (Some q) None l c r = cc
  often_run ts g w moments n None (Some p) l c r = absurd l
  often_run ts g w moments n (Some q) (Some p) l c r = l.0 ts g w r

  read_by : (ts : List Table) (lines query : Option (List Line)) (cells : List Cell) (o : Option Refusal) (reply : Reply) → (o ≡ None → (r : Row) → count r (rows_given ts lines) ≡ count r (rows_given ts query))
      → reply ≡ record { answer = unless o (λ e. Refused e) (size_given ts lines); cells = written o (rows_given ts lines) cells } → Read ts lines query o cells reply
  read_by ts lines query cells o reply often e = record {
    refused = λ x c. (ap (λ y. y.answer) e ∙ ap (λ y. unless y (λ z. Refused z) (size_given ts lines)) c, ap (λ y. y.cells) e ∙ ap (λ y. written y (rows_given ts lines) cells) c);
    answered = λ c. (ap (λ y. y.answer) e ∙ ap (λ y. unless y (λ z. Refused z) (size_given ts lines)) c, ap (λ y. y.cells) e ∙ ap (λ y. written y (rows_given ts lines) cells) c);
    often = often;
  }

  pub replied : (m : Model) (r : Request) (cells : List Cell) (reply : Reply) → widths (tables_of m) ≡ ws → PlanLaw ws m.query m.plan → Lawful (tables_of m) → reply ≡ reply_due m r cells → Replied m r cells reply
  replied m (lay ls) cells reply w l g e = e
  replied m unnest cells reply w l g e = e
  replied m (add t row) cells reply w l g e = e
  replied m (withdraw t p) cells reply w l g e = e
  replied m clear cells reply w l g e = e
  replied m (ask n) cells reply w l g e = read_by (tables_of m) m.query m.query cells (cause m (ask n)) reply (λ c r. refl) e
  replied m (run n) cells reply w l g e =
      read_by (tables_of m) m.plan m.query cells (cause m (run n)) reply
      (λ c r. often_run (tables_of m) g w (run_moments (tables_of m)) n m.query m.plan l c r) e

-- one call more
pub each_replied_push : (m : Model) (es ds : List Event) (e d : Event) → EachReplied m es ds → Replied (after m es) (request_of e) (lent e) (reply_of d)
    → EachReplied m (es ++ e ∷ []) (ds ++ d ∷ [])
each_replied_push m [] [] e d a h = (h, tt)
each_replied_push m [] (y ∷ ds) e d a h = absurd a
each_replied_push m (x ∷ es) [] e d a h = absurd a
each_replied_push m (x ∷ es) (y ∷ ds) e d a h = (a.0, each_replied_push (step m (request_of x)) es ds e d a.1 h)
