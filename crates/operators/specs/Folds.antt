-- An aggregate worked out row by row.
use Rattle.std.specs.Prelude.{◌≡◌, ℕ, ◌*◌, Bool, true, cond, List, [], ◌∷◌, ◌++◌, map, take, ℤ, pos, neg_ℤ, ◌≤ℤ◌, Some, None, filter, Option, slice_index_or}
use Rattle.std.specs.List.{AllByRecursion}
use Rattle.cells.specs.Cells.{Row, stored, same_row, less_ℤ}
use Rattle.cells.specs.declared.cell.Cell.{Cell}
use Rattle.cells.specs.declared.cell.Cell.TheVariants.{Null, Number}
use Rattle.lines.specs.Ops.{folded, alike, some_of}
use Rattle.lines.specs.declared.line.Aggregate.{Aggregate}
use Rattle.lines.specs.declared.line.Aggregate.TheVariants.{Rows, Filled, Sum, Least, Greatest}
use Rattle.operators.specs.declared.folds.Running.{Running}

-- a sum adds stored numbers only, so that it stays exact
abbrev pub addable : Aggregate → Cell → Bool
addable Rows c = true
addable Filled c = true
addable Sum c = stored c
addable Least c = true
addable Greatest c = true

-- every row's cell in column k of the long row may be added
abbrev pub Addable : Aggregate → ℕ → Row → List Row → Type 0
Addable f k d xs = AllByRecursion (λ r. addable f (slice_index_or (d ++ r) k Null) ≡ true) xs

-- what a cell adds to a count or a sum
abbrev pub adds : Aggregate → Cell → ℤ
adds Rows c = pos 1
adds Filled Null = pos 0
adds Filled (Number z) = pos 1
adds Sum Null = pos 0
adds Sum (Number z) = z
adds Least c = pos 0
adds Greatest c = pos 0

-- the least or greatest number so far, one cell on
abbrev pub best_of : Aggregate → Cell → Option ℤ → Option ℤ
best_of Rows c b = b
best_of Filled c b = b
best_of Sum c b = b
best_of Least Null b = b
best_of Least (Number a) None = Some a
best_of Least (Number a) (Some b) = Some (cond (less_ℤ a b) a b)
best_of Greatest Null b = b
best_of Greatest (Number a) None = Some a
best_of Greatest (Number a) (Some b) = Some (cond (less_ℤ a b) b a)

abbrev pub cell_from : Option ℤ → Cell
cell_from None = Null
cell_from (Some z) = Number z

-- what an aggregate has come to
abbrev pub result_of : Aggregate → Running → Cell
result_of Rows r = Number r.sum
result_of Filled r = Number r.sum
result_of Sum r = Number r.sum
result_of Least r = cell_from r.best
result_of Greatest r = cell_from r.best

-- no more than n stored numbers come to
pub record Within (n : ℕ) (z : ℤ) : Type 0 where
  pub low : neg_ℤ (pos (n * 2147483648)) ≤ℤ z
  pub high : z ≤ℤ pos (n * 2147483648)

-- the aggregate over the rows that begin with a key of n cells
abbrev pub folded_alike : ℕ → Aggregate → ℕ → Row → Row → List Row → Cell
folded_alike n f k d key xs = folded f k (map (λ r. d ++ r) (filter (λ r. same_row key (take n r)) xs))

-- the first n cells of a row and the aggregate over the rows of xs that begin with them, if no row in front does
abbrev pub grouped : ℕ → Aggregate → ℕ → Row → List Row → List Row → Row → List Row
grouped n f k d xs front x = cond (some_of (alike n x) front) [] ((take n x ++ (folded_alike n f k d (take n x) xs ∷ [])) ∷ [])
