-- Rows whose unmarked columns are in store.
use Rattle.std.proofs.Common.{◌≡◌, ℕ, ◌+◌, ◌≤◌, Bool, true, false, cond, List, [], ◌∷◌, length, get_or, pos, refl, ap, arith}
use Rattle.std.specs.List.{flat_map, AllByRecursion}
use Rattle.std.proofs.ByRecursion.{All-append}
use Rattle.std.proofs.lemmas.Bool.{lt-ltb}
use Rattle.lines.specs.declared.line.Aggregate.{Aggregate}
use Rattle.cells.specs.declared.cell.Cell.{Cell}
use Rattle.cells.specs.declared.truth.Truth.TheVariants.{False, True, Unknown}
use Rattle.lines.specs.declared.line.Aggregate.TheVariants.{Filled, Greatest, Least, Rows, Sum}
use Rattle.query.specs.Stored.{InStore}
use Rattle.cells.specs.declared.cell.Cell.TheVariants.{Null, Number}
use Rattle.cells.specs.Cells.{Row, as_cell, less_ℤ, stored}
use Rattle.cells.specs.declared.truth.Truth.{Truth}
use Rattle.lines.specs.Ops.{filled_one, folded, greatest_cell, least_cell, plus_cell}
use Rattle.lines.specs.Marks.{fold_from}

pub truth_in_store : (t : Truth) → InStore (as_cell t)
truth_in_store True = refl
truth_in_store False = refl
truth_in_store Unknown = refl

-- what holds of rows, through the operators
pub all_joined : (P : Row → Type 0) (Q : Row → Type 0) (h : Row → List Row) (xs : List Row) → ((x : Row) → Q x → AllByRecursion P (h x)) → AllByRecursion Q xs → AllByRecursion P (flat_map h xs)
all_joined P Q h [] f a = tt
all_joined P Q h (x ∷ xs) f a = All-append P (h x) (flat_map h xs) (f x a.0) (all_joined P Q h xs f a.1)

pub all_both : {X : Type 0} (P Q : X → Type 0) (xs : List X) → AllByRecursion P xs → AllByRecursion Q xs → AllByRecursion (λ x. P x × Q x) xs
all_both P Q [] a b = tt
all_both P Q (x ∷ xs) a b = ((a.0, b.0), all_both P Q xs a.1 b.1)

-- folds
pub small_in_store : (m : ℕ) → m ≤ 65536 → InStore (Number (pos m))
small_in_store m h = lt-ltb m 2147483648 (omega arith)

counted_rows : (k : ℕ) (xs : List Row) → folded Rows k xs ≡ Number (pos (length xs))
counted_rows k [] = refl
counted_rows k (x ∷ xs) = rw (counted_rows k xs) (ap (λ v. Number (pos v)) (omega arith))

filled_step : (c : Cell) (n m : ℕ) → m ≤ n → (a : Cell) → a ≡ Number (pos m) → (j : ℕ) × (j ≤ n + 1) × (plus_cell (filled_one c) a ≡ Number (pos j))
filled_step Null n m h a e = (m, omega arith, e)
filled_step (Number z) n m h a e = (1 + m, omega arith, rw e refl)

counted_filled : (k : ℕ) (xs : List Row) → (m : ℕ) × (m ≤ length xs) × (folded Filled k xs ≡ Number (pos m))
counted_filled k [] = (0, omega arith, refl)
counted_filled k (x ∷ xs) =
    let i = counted_filled k xs in
    let f = filled_step (get_or x k Null) (length xs) i.0 i.1 (folded Filled k xs) i.2 in
    (f.0, omega (arith, f.1), f.2)

least_in_store : (a b : Cell) → InStore a → InStore b → InStore (least_cell a b)
least_in_store Null b h k = k
least_in_store (Number x) Null h k = h
least_in_store (Number x) (Number y) h k = elim (less_ℤ x y) as (λ v. stored (Number (cond v x y)) ≡ true) [ true ↦ h | false ↦ k ]

greatest_in_store : (a b : Cell) → InStore a → InStore b → InStore (greatest_cell a b)
greatest_in_store Null b h k = k
greatest_in_store (Number x) Null h k = h
greatest_in_store (Number x) (Number y) h k = elim (less_ℤ x y) as (λ v. stored (Number (cond v y x)) ≡ true) [ true ↦ k | false ↦ h ]

least_folded : (k : ℕ) (xs : List Row) → AllByRecursion (λ x. InStore (get_or x k Null)) xs → InStore (folded Least k xs)
least_folded k [] a = refl
least_folded k (x ∷ xs) a = least_in_store (get_or x k Null) (folded Least k xs) a.0 (least_folded k xs a.1)

greatest_folded : (k : ℕ) (xs : List Row) → AllByRecursion (λ x. InStore (get_or x k Null)) xs → InStore (folded Greatest k xs)
greatest_folded k [] a = refl
greatest_folded k (x ∷ xs) a = greatest_in_store (get_or x k Null) (folded Greatest k xs) a.0 (greatest_folded k xs a.1)

-- b says whether column k is marked
pub fold_in_store : (f : Aggregate) (b : Bool) (k : ℕ) (xs : List Row) → length xs ≤ 65536 → (b ≡ false → AllByRecursion (λ x. InStore (get_or x k Null)) xs) → fold_from f b ≡ false → InStore (folded f k xs)
fold_in_store Rows b k xs h a e = rw (counted_rows k xs) (small_in_store (length xs) h)
fold_in_store Filled b k xs h a e = let m = counted_filled k xs in rw m.2 (small_in_store m.0 (omega (arith, m.1)))
fold_in_store Sum b k xs h a e = let z : ◌≡◌ {A = ℕ} 0 1 = cc in absurd (omega arith)
fold_in_store Least b k xs h a e = least_folded k xs (a e)
fold_in_store Greatest b k xs h a e = greatest_folded k xs (a e)
