-- What a flat plan holds, and what unnesting makes of a query.
use Rattle.lines.specs.declared.line.Line.{Line}
use Rattle.lines.specs.Lines.{answer}
use Rattle.lines.specs.Shapes.{shape_of, line_at}
use Rattle.lines.specs.Trees.{width}
use Rattle.query.specs.Queries.{lines_of, widths_of}
use Rattle.query.specs.declared.query.Query.{Query}
use Rattle.stock.specs.declared.refusal.Refusal.{Refusal}
use Rattle.stock.specs.declared.refusal.Refusal.TheVariants.{LongPlan}
use Rattle.unnest.specs.declared.plan.FlatPlan.{FlatPlan}
use Rattle.unnest.specs.Emit.{flat_lines}
use Rattle.unnest.specs.Plans.{is_apply}
use Rattle.unnest.specs.Statement.{Agree}
use Rattle.std.specs.Prelude.{◌≡◌, ℕ, ◌<◌, ◌≤◌, false, List, length, take}

-- its lines
abbrev pub plan_lines : FlatPlan → List Line
plan_lines p = take p.count p.lines

-- the widths of the tables that it was made for
abbrev pub plan_widths : FlatPlan → List ℕ
plan_widths p = p.widths.items

-- the lines that the query's unnesting asks for
abbrev pub asked_lines : Query → List Line
asked_lines q = flat_lines (widths_of q) (lines_of q)

-- a flat plan of a query
pub record Unnested (q : Query) (p : FlatPlan) : Type 0 where
  -- exactly the lines of the definition, for the same tables
  pub lines : plan_lines p ≡ asked_lines q
  pub widths : plan_widths p ≡ widths_of q
  pub few : length (asked_lines q) ≤ 512
  -- none of them is an Apply
  pub no_apply : (i : ℕ) → i < length (plan_lines p) → is_apply (shape_of (line_at (plan_lines p) i)) ≡ false
  -- over every stock with these widths, each row as often as the query gives it, and rows of the same width
  pub agrees : Agree (widths_of q) (lines_of q) (plan_lines p)
  pub wide : width (widths_of q) (answer (plan_lines p)) ≡ width (widths_of q) (answer (lines_of q))

-- a query whose flat plan would have over 512 lines
pub record Refused (q : Query) (e : Refusal) : Type 0 where
  pub cause : e ≡ LongPlan
  pub over : 512 < length (asked_lines q)
