-- What stands beside the tables: a query's lines and a flat plan's.
use Rattle.std.specs.Prelude.{◌≡◌, ℕ, ◌<◌, false, List, length, Some, None, Option}
use Rattle.lines.specs.Shapes.{shape_of, line_at}
use Rattle.lines.specs.declared.line.Line.{Line}
use Rattle.query.specs.Queries.{lines_of, widths_of}
use Rattle.query.specs.declared.query.Query.{Query}
use Rattle.unnest.specs.FlatPlans.{plan_lines, plan_widths}
use Rattle.unnest.specs.Plans.{is_apply}
use Rattle.unnest.specs.Statement.{Agree}
use Rattle.unnest.specs.declared.plan.FlatPlan.{FlatPlan}

-- the lines of the query that stands
abbrev pub standing_lines : Option Query → Option (List Line)
standing_lines None = None
standing_lines (Some q) = Some (lines_of q)

-- the lines of the flat plan that stands
abbrev pub standing_plan : Option FlatPlan → Option (List Line)
standing_plan None = None
standing_plan (Some p) = Some (plan_lines p)

-- a query that stands was checked against tables of the widths ws
abbrev pub Fits : List ℕ → Option Query → Type 0
Fits ws None = Unit {0}
Fits ws (Some q) = widths_of q ≡ ws

-- a flat plan that stands was made for them
abbrev pub PlanFits : List ℕ → Option FlatPlan → Type 0
PlanFits ws None = Unit {0}
PlanFits ws (Some p) = plan_widths p ≡ ws

abbrev pub NoApply : List Line → Type 0
NoApply ls = (i : ℕ) → i < length ls → is_apply (shape_of (line_at ls i)) ≡ false

-- a flat plan stands only beside a query, and agrees with it
abbrev pub PlanLaw : List ℕ → Option (List Line) → Option (List Line) → Type 0
PlanLaw ws query None = Unit {0}
PlanLaw ws None (Some plan) = ⊥
PlanLaw ws (Some query) (Some plan) = Agree ws query plan × NoApply plan
