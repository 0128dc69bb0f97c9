-- The aggregates as words.
use Rattle.std.specs.Prelude.{ℕ, List, codes, ◌≢◌}
use Rattle.lines.specs.declared.line.Aggregate.{Aggregate}
use Rattle.lines.specs.declared.line.Aggregate.TheVariants.{Rows, Filled, Sum, Least, Greatest}

abbrev pub spelling : Aggregate → List ℕ
spelling Rows = codes "rows"
spelling Filled = codes "filled"
spelling Sum = codes "sum"
spelling Least = codes "least"
spelling Greatest = codes "greatest"

abbrev pub SpellsNone : List ℕ → Type 0
SpellsNone word = (aggregate : Aggregate) → word ≢ spelling aggregate
