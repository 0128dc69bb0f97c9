-- What a query holds.
use Rattle.std.specs.Prelude.{ℕ, List, take}
use Rattle.lines.specs.declared.line.Line.{Line}
use Rattle.query.specs.declared.query.Query.{Query}

-- its lines
abbrev pub lines_of : Query → List Line
lines_of q = take q.size q.lines

-- the widths of the tables that it was checked against
abbrev pub widths_of : Query → List ℕ
widths_of q = q.tables.items
