-- An ask or a run, from what it ensures to the model.
use Rattle.std.proofs.Common.{◌≡◌, ℕ, ◌-◌, ◌*◌, Bool, true, false, cond, leb, List, [], ◌∷◌, ◌++◌, length, replicate, Some, None, Err, Option, Result, sym, refl, ap, ◌∙◌, subst, ap₂, suc-mul, zero-mul, arith}
use Rattle.std.specs.List.{AllByRecursion}
use Rattle.std.proofs.lemmas.List.{length-append}
use Rattle.cells.specs.Cells.{Row}
use Rattle.cells.specs.declared.cell.Cell.{Cell}
use Rattle.cells.specs.declared.cell.Cell.TheVariants.{Null}
use Rattle.stock.specs.Tables.{Table, Lawful, widths}
use Rattle.stock.specs.declared.refusal.Refusal.{Refusal}
use Rattle.stock.specs.declared.refusal.Refusal.TheVariants.{ManyCells}
use Rattle.movements.specs.Shown.{shown}
use Rattle.lines.specs.Lines.{answer, plan_rows}
use Rattle.lines.specs.Trees.{width}
use Rattle.lines.specs.declared.line.Line.{Line}
use Rattle.lines.proofs.Widths.{wide_sound}
use Rattle.lines.specs.Marks.{Sound}
use Rattle.query.specs.Queries.{lines_of, widths_of}
use Rattle.query.specs.declared.query.Query.{Query}
use Rattle.query.proofs.Sounds.{sound_answer}
use Rattle.unnest.specs.FlatPlans.{plan_lines, plan_widths}
use Rattle.unnest.specs.Plans.{WellFormed}
use Rattle.unnest.specs.declared.plan.FlatPlan.{FlatPlan}
use Rattle.unnest.proofs.Props.{plan_formed}
use Rattle.evaluate.specs.Moments.{Moment, first_over, ask_moments, run_moments}
use Rattle.evaluate.specs.Running.{answered, filled}
use Rattle.evaluate.proofs.Runnings.{sound_at}
use Rattle.session.specs.Model.{Model, tables_of}
use Rattle.session.specs.Requests.{ask, run, cause, unless, out_at, read_refusal}
use Rattle.session.specs.Replies.{Reply, reply, told_size, laid_out, written, rows_given, size_given}
use Rattle.session.specs.Agrees.{Agrees, Makes, WorksOut, Asks, Runs}
use Rattle.session.specs.Plans.{standing_lines, standing_plan, Fits, PlanFits}
use Rattle.session.specs.declared.calls.Answer.TheVariants.{Size, Refused}
use Rattle.session.specs.declared.session.Session.{Session}
use Rattle.session.proofs.Steps.{tracks_show, wide}

-- rows of one width
cells_laid : (w : ℕ) (rs : List Row) → AllByRecursion (λ r. length r ≡ w) rs → length (laid_out rs) ≡ length rs * w
cells_laid w [] h = sym (zero-mul w)
cells_laid w (r ∷ rs) h = omega (arith, length-append r (laid_out rs), cells_laid w rs h.1, h.0, suc-mul (length rs) w)

-- the answer and the cells of an evaluation, where `few` says whether the cells are few enough and `out` at which line they run out
answer_is : (few : Bool) (out : Option ℕ) (k w : ℕ) → told_size (cond few (answered out (k, w)) (Err ManyCells)) ≡ unless (cond few (out_at out) (Some ManyCells)) (λ e. Refused e) (Size k w)
answer_is false out k w = refl
answer_is true None k w = refl
answer_is true (Some line) k w = refl

cells_are : (few : Bool) (out : Option ℕ) (rs : List Row) (w : ℕ) (cells : List Cell) → AllByRecursion (λ r. length r ≡ w) rs → cond few (filled out (length cells) rs w) cells ≡ written (cond few (out_at out) (Some ManyCells)) rs cells
cells_are false out rs w cells h = refl
cells_are true None rs w cells h = ap (λ k. laid_out rs ++ replicate (length cells - k) Null) (sym (cells_laid w rs h))
cells_are true (Some line) rs w cells h = refl

-- the reply that lines have over the tables ts
abbrev lines_reply : List Table → (List Line → List Moment) → Option (List Line) → List Cell → Reply
lines_reply ts moments o cells = reply (unless (read_refusal moments o (length cells)) (λ e. Refused e) (size_given ts o)) (written (read_refusal moments o (length cells)) (rows_given ts o) cells)

evaluated : (ts : List Table) (moments : List Line → List Moment) (ls : List Line) (before after : List Cell) (r : Result (ℕ × ℕ) Refusal) → AllByRecursion (λ x. length x ≡ width (widths ts) (answer ls)) (plan_rows ts ls)
    → WorksOut ts ls (moments ls) before after r → reply (told_size r) after ≡ lines_reply ts moments (Some ls) before
evaluated ts moments ls before after r h e =
    let few = leb (length before) 65536 in
    let out = first_over (length before) (moments ls) in
    let rs = plan_rows ts ls in
    let w = width (widths ts) (answer ls) in
    ap₂ reply (ap told_size e.answer ∙ answer_is few out (length rs) w) (e.cells ∙ cells_are few out rs w before h)

-- a flat plan's rows over the tables that it was made for are as wide as it says
plan_wide : (ts : List Table) → Lawful ts → (p : FlatPlan) → plan_widths p ≡ widths ts → AllByRecursion (λ x. length x ≡ width (widths ts) (answer (plan_lines p))) (plan_rows ts (plan_lines p))
plan_wide ts g p e =
    let ls = plan_lines p in
    let f : WellFormed (widths ts) ls = subst (λ v. WellFormed v ls) e (plan_formed p) in
    wide_sound ts g [] (answer ls) (sound_at (widths ts) ls (length ls - 1) f (omega (arith, f.some_line)) f.last_rows) []

-- a query's rows too
query_wide : (ts : List Table) → Lawful ts → (q : Query) → widths_of q ≡ widths ts → AllByRecursion (λ x. length x ≡ width (widths ts) (answer (lines_of q))) (plan_rows ts (lines_of q))
query_wide ts g q e =
    let ls = lines_of q in
    wide_sound ts g [] (answer ls) (subst (λ v. Sound v [] (answer ls)) e (sound_answer ls (widths_of q) q.accepted)) []

still : {X : Type 0} (o : Option Refusal) (x : X) → x ≡ unless o (λ _. x) x
still None x = refl
still (Some e) x = refl

ask_reply : (ts : List Table) → Lawful ts → (o : Option Query) → Fits (widths ts) o → (before after : List Cell) (r : Result (ℕ × ℕ) Refusal) → Asks ts o before after r
    → reply (told_size r) after ≡ lines_reply ts (ask_moments ts) (standing_lines o) before
ask_reply ts g None f before after r h = ap₂ reply (ap told_size h.0) h.1
ask_reply ts g (Some q) f before after r h = evaluated ts (ask_moments ts) (lines_of q) before after r (query_wide ts g q f) (h f)

run_reply : (ts : List Table) → Lawful ts → (o : Option FlatPlan) → PlanFits (widths ts) o → (before after : List Cell) (r : Result (ℕ × ℕ) Refusal) → Runs ts o before after r
    → reply (told_size r) after ≡ lines_reply ts (run_moments ts) (standing_plan o) before
run_reply ts g None f before after r h = ap₂ reply (ap told_size h.0) h.1
run_reply ts g (Some p) f before after r h = evaluated ts (run_moments ts) (plan_lines p) before after r (plan_wide ts g p f) (h f)

module _ {X : Type 0} (tables : X → List Table) (s : Session X) (g : Lawful (shown tables s.layer)) (before after : List Cell) (r : Result (ℕ × ℕ) Refusal) where
  abbrev ts : List Table
  ts = shown tables s.layer

  shows : (m : Model) → Agrees tables s m → tables_of m ≡ ts
  shows m ag = tracks_show tables s.layer m.tables ag.rows

  -- the widths are still those of the stock below
  below : (m : Model) → Agrees tables s m → widths (tables s.layer.below) ≡ widths ts
  below m ag = sym (wide tables s m ag) ∙ ap widths (shows m ag)

  pub steps_ask : Asks ts s.query before after r → Makes tables s s (ask (length before)) before (reply (told_size r) after)
  steps_ask h m ag = (
    subst (Agrees tables s) (still (cause m (ask (length before))) m) ag,
    ask_reply ts g s.query (subst (λ v. Fits v s.query) (below m ag) ag.fits) before after r h
        ∙ sym (ap₂ (λ t o. lines_reply t (ask_moments t) o before) (shows m ag) ag.query),
  )

  pub steps_run : Runs ts s.plan before after r → Makes tables s s (run (length before)) before (reply (told_size r) after)
  steps_run h m ag = (
    subst (Agrees tables s) (still (cause m (run (length before))) m) ag,
    run_reply ts g s.plan (subst (λ v. PlanFits v s.plan) (below m ag) ag.plan_fits) before after r h
        ∙ sym (ap₂ (λ t o. lines_reply t (run_moments t) o before) (shows m ag) ag.plan),
  )
