-- What unnesting keeps: the rows, each as often.
use Rattle.cells.specs.Cells.{Row}
use Rattle.lines.specs.declared.line.Line.{Line}
use Rattle.lines.specs.Ops.{count}
use Rattle.lines.specs.Trees.{rows}
use Rattle.lines.specs.Lines.{plan_rows}
use Rattle.lines.specs.Shapes.{tree_at}
use Rattle.lines.specs.Marks.{Marks, Sound}
use Rattle.stock.specs.Tables.{Table, Lawful, widths}
use Rattle.unnest.specs.Emit.{emit, inside}
use Rattle.std.specs.Prelude.{◌≡◌, ℕ, ◌<◌, ◌≤◌, List, [], ◌++◌, map, length}
use Rattle.std.specs.List.{flat_map, AllByRecursion}

-- over every stock with tables of the widths ws, the flat lines give each row exactly as often as the query's lines
abbrev pub Agree : List ℕ → List Line → List Line → Type 0
Agree ws query flat = (ts : List Table) → Lawful ts → widths ts ≡ ws → (r : Row) → count r (plan_rows ts flat) ≡ count r (plan_rows ts query)

-- rows that can be a domain: all of c columns, and none of them twice
pub record DomainRows (c : ℕ) (ds : List Row) : Type 0 where
  pub long : AllByRecursion (λ d. length d ≡ c) ds
  pub once : (d : Row) → count d ds ≤ 1

-- each row of a domain followed by each of the rows that it has
abbrev pub followed : List Row → (Row → List Row) → List Row
followed ds of = flat_map (λ d. map (λ r. d ++ r) (of d)) ds

-- the rows of line i of a plan
abbrev pub line_rows : List Table → List Line → ℕ → List Row
line_rows ts plan i = rows ts (tree_at plan i) []

-- In a context of c columns with the domain on line i of the plan so far, the flat lines of the query's line j end in one that gives,
-- for each domain row, that row followed by each row of line j in that context, each as often.
abbrev pub LiftedLaw : Type 0
LiftedLaw = (ts : List Table) → Lawful ts → (query plan : List Line) (j i : ℕ) (context : Marks)
    → Sound (widths ts) context (tree_at query j) → i < length plan → DomainRows (length context) (line_rows ts plan i)
    → (r : Row) → count r (plan_rows ts (plan ++ emit (widths ts) (tree_at query j) (inside (length context) i) (length plan)))
    ≡ count r (followed (line_rows ts plan i) (λ d. rows ts (tree_at query j) d))
