-- Which cells hold stored numbers, and how large a sum can get.
use Rattle.std.specs.Prelude.{◌≡◌, ℕ, ◌≤◌, Bool, true, false, List, [], ◌∷◌, ◌++◌, map, length, pos, negsuc, ◌≤ℤ◌, filter, slice_index_or}
use Rattle.std.specs.List.{AllByRecursion}
use Rattle.cells.specs.Cells.{Row, stored}
use Rattle.cells.specs.declared.cell.Cell.{Cell}
use Rattle.cells.specs.declared.cell.Cell.TheVariants.{Null, Number}
use Rattle.stock.specs.Tables.{Table, Lawful, widths}
use Rattle.lines.specs.declared.line.Aggregate.{Aggregate}
use Rattle.lines.specs.declared.line.Aggregate.TheVariants.{Rows, Filled, Sum, Least, Greatest}
use Rattle.lines.specs.Ops.{folded}
use Rattle.lines.specs.Trees.{Tree, table, unit, select, keep, extend, extend_truth, pad, match, semi_match, anti_match, union, diff, distinct, group, total, cross, outer, semi, anti, some, all, rows}

-- NULL or a stored number
abbrev pub InStore : Cell → Type 0
InStore c = stored c ≡ true

-- where rows are folded, in each context met, there are at most 65,536
unfoldable pub Calm : List Table → Tree → Row → Type 0
Calm s (table t) d = Unit {0}
Calm s unit d = Unit {0}
Calm s (select e q) d = Calm s e d
Calm s (keep n m e) d = Calm s e d
Calm s (extend e v) d = Calm s e d
Calm s (extend_truth e q) d = Calm s e d
Calm s (pad m e) d = Calm s e d
Calm s (match n l r) d = Calm s l d × Calm s r d
Calm s (semi_match n l r) d = Calm s l d × Calm s r d
Calm s (anti_match n l r) d = Calm s l d × Calm s r d
Calm s (union l r) d = Calm s l d × Calm s r d
Calm s (diff l r) d = Calm s l d × Calm s r d
Calm s (distinct e) d = Calm s e d
Calm s (group n f k e) d = (length (rows s e d) ≤ 65536) × Calm s e d
Calm s (total f k e) d = (length (rows s e d) ≤ 65536) × Calm s e d
Calm s (cross l r) d = Calm s l d × AllByRecursion (λ x. Calm s r (d ++ x)) (rows s l d)
Calm s (outer l r) d = Calm s l d × AllByRecursion (λ x. Calm s r (d ++ x)) (rows s l d)
Calm s (semi l r) d = Calm s l d × AllByRecursion (λ x. Calm s r (d ++ x)) (rows s l d)
Calm s (anti l r) d = Calm s l d × AllByRecursion (λ x. Calm s r (d ++ x)) (rows s l d)
Calm s (some g k l r) d = Calm s l d × AllByRecursion (λ x. Calm s r (d ++ x)) (rows s l d)
Calm s (all g k l r) d = Calm s l d × AllByRecursion (λ x. Calm s r (d ++ x)) (rows s l d)

-- a row of as many cells as marks, of which those that are not marked are in store
abbrev pub Kept : List Bool → Row → Type 0
Kept [] [] = Unit {0}
Kept [] (c ∷ r) = ⊥
Kept (b ∷ m) [] = ⊥
Kept (b ∷ m) (c ∷ r) = (b ≡ false → InStore c) × Kept m r

-- at most 2 ^ 47 in size
abbrev pub Moderate : Cell → Type 0
Moderate Null = Unit {0}
Moderate (Number z) = (negsuc 140737488355327 ≤ℤ z) × (z ≤ℤ pos 140737488355328)

-- what a sum over column k adds up in the context d is stored, and so all of it and every part of it is moderate
abbrev pub Adds : Aggregate → ℕ → Row → List Row → Type 0
Adds Rows k d xs = Unit {0}
Adds Filled k d xs = Unit {0}
Adds Sum k d xs = AllByRecursion (λ r. InStore (slice_index_or (d ++ r) k Null)) xs × Moderate (folded Sum k (map (λ r. d ++ r) xs)) × ((p : Row → Bool) → Moderate (folded Sum k (map (λ r. d ++ r) (filter p xs))))
Adds Least k d xs = Unit {0}
Adds Greatest k d xs = Unit {0}

-- wherever the tree sums, in each context met
unfoldable pub SumsStored : List Table → Tree → Row → Type 0
SumsStored s (table t) d = Unit {0}
SumsStored s unit d = Unit {0}
SumsStored s (select e q) d = SumsStored s e d
SumsStored s (keep n m e) d = SumsStored s e d
SumsStored s (extend e v) d = SumsStored s e d
SumsStored s (extend_truth e q) d = SumsStored s e d
SumsStored s (pad m e) d = SumsStored s e d
SumsStored s (match n l r) d = SumsStored s l d × SumsStored s r d
SumsStored s (semi_match n l r) d = SumsStored s l d × SumsStored s r d
SumsStored s (anti_match n l r) d = SumsStored s l d × SumsStored s r d
SumsStored s (union l r) d = SumsStored s l d × SumsStored s r d
SumsStored s (diff l r) d = SumsStored s l d × SumsStored s r d
SumsStored s (distinct e) d = SumsStored s e d
SumsStored s (group n f k e) d = Adds f k d (rows s e d) × SumsStored s e d
SumsStored s (total f k e) d = Adds f k d (rows s e d) × SumsStored s e d
SumsStored s (cross l r) d = SumsStored s l d × AllByRecursion (λ x. SumsStored s r (d ++ x)) (rows s l d)
SumsStored s (outer l r) d = SumsStored s l d × AllByRecursion (λ x. SumsStored s r (d ++ x)) (rows s l d)
SumsStored s (semi l r) d = SumsStored s l d × AllByRecursion (λ x. SumsStored s r (d ++ x)) (rows s l d)
SumsStored s (anti l r) d = SumsStored s l d × AllByRecursion (λ x. SumsStored s r (d ++ x)) (rows s l d)
SumsStored s (some g k l r) d = SumsStored s l d × AllByRecursion (λ x. SumsStored s r (d ++ x)) (rows s l d)
SumsStored s (all g k l r) d = SumsStored s l d × AllByRecursion (λ x. SumsStored s r (d ++ x)) (rows s l d)

-- over every stock with these widths: sums are of stored numbers as long as what is folded has at most 65,536 rows
abbrev pub StoredLaw : List ℕ → Tree → Type 0
StoredLaw ws t = (s : List Table) → Lawful s → widths s ≡ ws → Calm s t [] → SumsStored s t []
