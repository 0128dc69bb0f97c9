-- What each call of a session does, by itself and beside the model.
use Rattle.std.specs.Prelude.{◌≡◌, ℕ, ◌+◌, cond, List, length, Some, None, Err, Option, Result, MatchResult, nat_le}
use Rattle.cells.specs.Cells.{Row}
use Rattle.cells.specs.declared.cell.Cell.{Cell}
use Rattle.stock.specs.Tables.{Table, widths, rows_of}
use Rattle.stock.specs.declared.refusal.Refusal.{Refusal}
use Rattle.stock.specs.declared.refusal.Refusal.TheVariants.{NothingStands, LongPlan}
use Rattle.movements.specs.Moves.{add_cause, withdraw_cause, with_row, without_row}
use Rattle.movements.specs.Shown.{shown, rows_remaining, Uncut}
use Rattle.movements.specs.declared.movements.Movements.{Movements}
use Rattle.lines.specs.Lines.{answer, plan_rows}
use Rattle.lines.specs.Trees.{width}
use Rattle.lines.specs.declared.line.Line.{Line}
use Rattle.query.specs.Queries.{lines_of, widths_of}
use Rattle.query.specs.Verdicts.{Accepted, Refused}
use Rattle.query.specs.declared.query.Query.{Query}
use Rattle.unnest.specs.FlatPlans.{plan_lines, plan_widths, asked_lines, Unnested}
use Rattle.unnest.specs.declared.plan.FlatPlan.{FlatPlan}
use Rattle.evaluate.specs.Moments.{Moment, ask_moments, run_moments}
use Rattle.evaluate.specs.Running.{Evaluates}
use Rattle.session.specs.Model.{Model}
use Rattle.session.specs.Plans.{standing_lines, standing_plan, Fits, PlanFits, PlanLaw}
use Rattle.session.specs.Requests.{Request, step}
use Rattle.session.specs.Replies.{Reply, answer_due, reply_due, lines_of as count_lines}
use Rattle.session.specs.Tracks.{Tracks}
use Rattle.session.specs.declared.calls.Answer.{Answer}
use Rattle.session.specs.declared.session.Session.{Session}

-- an added row is shown last in its table, or there is a cause and nothing changes
abbrev pub Adds : {X : Type 0} → (X → List Table) → Movements X → Movements X → ℕ → Row → Result ℕ Refusal → Type 0
Adds tables m n t row r = MatchResult r
    (λ k. (add_cause (shown tables m) m.added.count t row ≡ None)
    × (shown tables n ≡ with_row (shown tables m) t row)
    × (k ≡ rows_of (shown tables n) t)
    × (n.below ≡ m.below))
    (λ e. (add_cause (shown tables m) m.added.count t row ≡ Some e) × (n ≡ m))

-- a withdrawn row is shown no more, or there is a cause and nothing changes. In a session no table is cut off
pub record Withdraws {X : Type 0} (tables : X → List Table) (m n : Movements X) (t p : ℕ) (r : Result ℕ Refusal) : Type 0 where
  pub cause : MatchResult r
      (λ k. (withdraw_cause (shown tables m) (rows_remaining tables m t) m.hidden.count t p ≡ None)
      × (k + 1 ≡ rows_of (shown tables m) t)
      × (n.below ≡ m.below))
      (λ e. (withdraw_cause (shown tables m) (rows_remaining tables m t) m.hidden.count t p ≡ Some e) × (n ≡ m))
  pub shows : Uncut tables m → MatchResult r
      (λ k. (shown tables n ≡ without_row (shown tables m) t p) × (k ≡ rows_of (shown tables n) t))
      (λ _. Unit {0})

-- the rows below are shown again
pub record Clears {X : Type 0} (tables : X → List Table) (m n : Movements X) : Type 0 where
  pub shows : shown tables n ≡ tables m.below
  pub same : n.below ≡ m.below

-- accepted lines are the query, or there is a least cause and nothing changes
abbrev pub Lays : {X : Type 0} → (X → List Table) → Session X → Session X → List Line → Result (ℕ × ℕ) Refusal → Type 0
Lays tables s n ls r = MatchResult r
    (λ k. Accepted ls (widths (shown tables s.layer))
    × (standing_lines n.query ≡ Some ls)
    × (n.plan ≡ None)
    × (k.0 ≡ length ls)
    × (k.1 ≡ width (widths (shown tables s.layer)) (answer ls))
    × (n.layer ≡ s.layer))
    (λ e. Refused ls (widths (shown tables s.layer)) e × (n ≡ s))

-- why no flat plan is made of the query that stands
abbrev pub unnest_cause : Option Query → Option Refusal
unnest_cause None = Some NothingStands
unnest_cause (Some q) = cond (nat_le (length (asked_lines q)) 512) None (Some LongPlan)

-- the flat plan that stands is one of the query that stands
abbrev pub UnnestedBy : Option Query → Option FlatPlan → Type 0
UnnestedBy None p = ⊥
UnnestedBy (Some q) None = ⊥
UnnestedBy (Some q) (Some p) = Unnested q p

-- the query's flat plan stands, or there is a cause and nothing changes
abbrev pub Unnests : {X : Type 0} → Session X → Session X → Result ℕ Refusal → Type 0
Unnests s n r = MatchResult r
    (λ k. (unnest_cause s.query ≡ None)
    × UnnestedBy s.query n.plan
    × (k ≡ count_lines (standing_plan n.plan))
    × (n.query ≡ s.query)
    × (n.layer ≡ s.layer))
    (λ e. (unnest_cause s.query ≡ Some e) × (n ≡ s))

-- lines are worked out over the tables ts into lent cells, with these moments
abbrev pub WorksOut : List Table → List Line → List Moment → List Cell → List Cell → Result (ℕ × ℕ) Refusal → Type 0
WorksOut ts ls moments before after r = Evaluates (plan_rows ts ls) (width (widths ts) (answer ls)) moments before after r

-- with no query nothing is asked; one checked against the tables ts is asked over them
abbrev pub Asks : List Table → Option Query → List Cell → List Cell → Result (ℕ × ℕ) Refusal → Type 0
Asks ts None before after r = (r ≡ Err NothingStands) × (after ≡ before)
Asks ts (Some q) before after r = widths_of q ≡ widths ts → WorksOut ts (lines_of q) (ask_moments ts (lines_of q)) before after r

-- with no flat plan nothing is run; one made for the tables ts is run over them
abbrev pub Runs : List Table → Option FlatPlan → List Cell → List Cell → Result (ℕ × ℕ) Refusal → Type 0
Runs ts None before after r = (r ≡ Err NothingStands) × (after ≡ before)
Runs ts (Some p) before after r = plan_widths p ≡ widths ts → WorksOut ts (plan_lines p) (run_moments ts (plan_lines p)) before after r

-- a session holds what the model holds
pub record Agrees {X : Type 0} (tables : X → List Table) (s : Session X) (m : Model) : Type 0 where
  pub rows : Tracks tables s.layer m.tables
  pub query : m.query ≡ standing_lines s.query
  pub fits : Fits (widths (tables s.layer.below)) s.query
  pub plan : m.plan ≡ standing_plan s.plan
  pub plan_fits : PlanFits (widths (tables s.layer.below)) s.plan
  pub law : PlanLaw (widths (tables s.layer.below)) m.query m.plan

-- a session with another layer of movements
abbrev pub with_layer : {X : Type 0} → Session X → Movements X → Session X
with_layer s n = record { layer = n; query = s.query; plan = s.plan }

-- a session with a flat plan
abbrev pub with_plan : {X : Type 0} → Session X → FlatPlan → Session X
with_plan s p = record { layer = s.layer; query = s.query; plan = Some p }

-- a session with a new query and no flat plan
abbrev pub with_query : {X : Type 0} → Session X → Query → Session X
with_query s q = record { layer = s.layer; query = Some q; plan = None }

-- a call with its answer: whatever model agreed before, the model after the call agrees, and the answer is the model's
abbrev pub Steps : {X : Type 0} → (X → List Table) → Session X → Session X → Request → Answer → Type 0
Steps tables s n r a = (m : Model) → Agrees tables s m → Agrees tables n (step m r) × (a ≡ answer_due m r)

-- the same with the cells that were lent
abbrev pub Makes : {X : Type 0} → (X → List Table) → Session X → Session X → Request → List Cell → Reply → Type 0
Makes tables s n r cells a = (m : Model) → Agrees tables s m → Agrees tables n (step m r) × (a ≡ reply_due m r cells)
