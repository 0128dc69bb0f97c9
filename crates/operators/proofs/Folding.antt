-- Aggregates row by row.
use Rattle.std.proofs.Common.{◌≡◌, ℕ, ◌+◌, ◌-◌, ◌*◌, ◌<◌, ◌≤◌, true, false, cond, List, [], ◌∷◌, ◌++◌, map, length, get_or, take, ℤ, pos, negsuc, ◌+ℤ◌, None, filter, sym, refl, ap, ◌∙◌, subst, add-mul, one-mul, arith}
use Rattle.std.proofs.lemmas.Int.{ints}
use Rattle.std.proofs.lemmas.Bool.{ltb-true}
use Rattle.std.proofs.ByRecursion.{All-get_or}
use Rattle.cells.specs.Cells.{Row, same_row, stored}
use Rattle.cells.specs.declared.cell.Cell.{Cell}
use Rattle.cells.specs.declared.cell.Cell.TheVariants.{Null, Number}
use Rattle.lines.specs.Ops.{step_of, folded}
use Rattle.lines.specs.declared.line.Aggregate.{Aggregate}
use Rattle.lines.specs.declared.line.Aggregate.TheVariants.{Rows, Filled, Sum, Least, Greatest}
use Rattle.operators.specs.Places.{row_at, rows_from, rows_in}
use Rattle.operators.specs.Folds.{addable, Addable, adds, result_of, Within, folded_alike}
use Rattle.operators.specs.declared.region.Region.{Region}
use Rattle.operators.proofs.Stack.{rows_none, rows_first, rows_length, rows_get_or}

one_number : (z : ℤ) → stored (Number z) ≡ true → Within 1 z
one_number (pos a) h = let l = ltb-true a 2147483648 h in record { low = omega (arith, ints); high = omega (arith, ints) }
one_number (negsuc a) h = let l = ltb-true a 2147483648 h in record { low = omega (arith, ints); high = omega (arith, ints) }

small_one : Within 1 (pos 1)
small_one = record { low = omega (arith, ints); high = omega (arith, ints) }

small_none : Within 1 (pos 0)
small_none = record { low = omega (arith, ints); high = omega (arith, ints) }

pub adds_within : (f : Aggregate) (c : Cell) → addable f c ≡ true → Within 1 (adds f c)
adds_within Rows c h = small_one
adds_within Filled Null h = small_none
adds_within Filled (Number z) h = small_one
adds_within Sum Null h = small_none
adds_within Sum (Number z) h = one_number z h
adds_within Least c h = small_none
adds_within Greatest c h = small_none

pub within_more : (n : ℕ) (a s : ℤ) → Within 1 a → Within n s → Within (n + 1) (a +ℤ s)
within_more n a s p q = record { low = omega (arith, ints, p.low, q.low); high = omega (arith, ints, p.high, q.high) }

pub within_none : (n : ℕ) → Within n (pos 0)
within_none n = record { low = omega (arith, ints); high = omega (arith, ints) }

-- over one row more, at the front
fold_first : (n : ℕ) (f : Aggregate) (k : ℕ) (d key x : Row) (xs : List Row) → folded_alike n f k d key (x ∷ xs) ≡ cond (same_row key (take n x)) (step_of f (get_or (d ++ x) k Null) (folded_alike n f k d key xs)) (folded_alike n f k d key xs)
fold_first n f k d key x xs = elim (same_row key (take n x)) as (λ t. folded f k (map (λ r. d ++ r) (cond t (x ∷ filter (λ r. same_row key (take n r)) xs) (filter (λ r. same_row key (take n r)) xs)))
    ≡ cond t (step_of f (get_or (d ++ x) k Null) (folded_alike n f k d key xs)) (folded_alike n f k d key xs)) [ true ↦ refl | false ↦ refl ]

-- none yet
pub fold_none : (n : ℕ) (f : Aggregate) (k : ℕ) (d key : Row) (xs : List Cell) (a m w : ℕ) → m ≡ 0 → result_of f (record { sum = pos 0; best = None }) ≡ folded_alike n f k d key (rows_from xs a m w)
fold_none n f k d key xs a m w e = none f ∙ sym (ap (folded_alike n f k d key) (ap (λ (i : ℕ). rows_from xs a i w) e ∙ rows_none xs a w))
  where
    none : (f : Aggregate) → result_of f (record { sum = pos 0; best = None }) ≡ folded f k []
    none Rows = refl
    none Filled = refl
    none Sum = refl
    none Least = refl
    none Greatest = refl

pub fold_more : (n : ℕ) (f : Aggregate) (k : ℕ) (d key : Row) (xs : List Cell) (start j rows w : ℕ) (before after : Cell) → 0 < j → j ≤ rows
    → before ≡ folded_alike n f k d key (rows_from xs (start + j * w) (rows - j) w)
    → after ≡ cond (same_row key (take n (row_at xs (start + (j - 1) * w) w))) (step_of f (get_or (d ++ row_at xs (start + (j - 1) * w) w) k Null) before) before
    → after ≡ folded_alike n f k d key (rows_from xs (start + (j - 1) * w) (rows - (j - 1)) w)
fold_more n f k d key xs start j rows w before after some le b a =
    let i : j ≡ (j - 1) + 1 = omega arith in
    let m : rows - (j - 1) ≡ (rows - j) + 1 = omega arith in
    let p : (start + (j - 1) * w) + w ≡ start + j * w = omega (arith, add-mul (j - 1) 1 w, one-mul w, ap (λ (x : ℕ). x * w) i) in
    let x = row_at xs (start + (j - 1) * w) w in
    let e : rows_from xs (start + (j - 1) * w) (rows - (j - 1)) w ≡ x ∷ rows_from xs (start + j * w) (rows - j) w = ap (λ (y : ℕ). rows_from xs (start + (j - 1) * w) y w) m ∙ (rows_first xs (start + (j - 1) * w) (rows - j) w ∙ ap (λ (y : ℕ). x ∷ rows_from xs y (rows - j) w) p) in
    a ∙ (ap (λ (c : Cell). cond (same_row key (take n x)) (step_of f (get_or (d ++ x) k Null) c) c) b ∙ (sym (fold_first n f k d key x (rows_from xs (start + j * w) (rows - j) w)) ∙ ap (folded_alike n f k d key) (sym e)))

pub addable_at : (f : Aggregate) (k : ℕ) (d : Row) (xs : List Cell) (r : Region) (j : ℕ) → j < r.rows → Addable f k d (rows_in xs r) → addable f (get_or (d ++ row_at xs (r.start + j * r.width) r.width) k Null) ≡ true
addable_at f k d xs r j h a =
    let l : j < length (rows_in xs r) = omega (arith, rows_length xs r.start r.rows r.width) in
    let P : Row → Type 0 = λ x. addable f (get_or (d ++ x) k Null) ≡ true in
    subst P (rows_get_or xs r.start r.rows r.width j [] h) (All-get_or P (rows_in xs r) j [] l a)
