-- The aggregates go by bags: the order of the rows does not matter.
use Rattle.std.proofs.Common.{◌≡◌, ℕ, cond, List, get_or, ℤ, pos, negsuc, ◌+ℤ◌, sym, refl, ap, ◌∙◌, arith}
use lib.IntN.{+ℤ_assoc, +ℤ_comm}
use Rattle.std.proofs.lemmas.Bool.Decides.{nat_tests}
use Rattle.cells.specs.Cells.{Row, less_ℤ}
use Rattle.cells.specs.declared.cell.Cell.{Cell}
use Rattle.cells.specs.declared.cell.Cell.TheVariants.{Null, Number}
use Rattle.lines.specs.declared.line.Aggregate.{Aggregate}
use Rattle.lines.specs.declared.line.Aggregate.TheVariants.{Rows, Filled, Sum, Least, Greatest}
use Rattle.lines.specs.Ops.{plus_cell, least_cell, greatest_cell, filled_one, step_of, none_of, folded}
use Rattle.lines.proofs.Weights.{Bag, same_from, over_same}

plus_swap : (a b c : ℤ) → a +ℤ (b +ℤ c) ≡ b +ℤ (a +ℤ c)
plus_swap a b c = sym (+ℤ_assoc a b c) ∙ ap (λ v. v +ℤ c) (+ℤ_comm a b) ∙ +ℤ_assoc b a c

plus_cell_swap : (x y a : Cell) → plus_cell x (plus_cell y a) ≡ plus_cell y (plus_cell x a)
plus_cell_swap Null y a = refl
plus_cell_swap (Number x) Null a = refl
plus_cell_swap (Number x) (Number y) Null = ap Number (+ℤ_comm x y)
plus_cell_swap (Number x) (Number y) (Number a) = ap Number (plus_swap x y a)

least_swap : (a b c : ℤ) → cond (less_ℤ a (cond (less_ℤ b c) b c)) a (cond (less_ℤ b c) b c) ≡ cond (less_ℤ b (cond (less_ℤ a c) a c)) b (cond (less_ℤ a c) a c)
least_swap (pos a) (pos b) (pos c) = grind (arith, nat_tests)
least_swap (pos a) (pos b) (negsuc c) = grind (arith, nat_tests)
least_swap (pos a) (negsuc b) (pos c) = grind (arith, nat_tests)
least_swap (pos a) (negsuc b) (negsuc c) = grind (arith, nat_tests)
least_swap (negsuc a) (pos b) (pos c) = grind (arith, nat_tests)
least_swap (negsuc a) (pos b) (negsuc c) = grind (arith, nat_tests)
least_swap (negsuc a) (negsuc b) (pos c) = grind (arith, nat_tests)
least_swap (negsuc a) (negsuc b) (negsuc c) = grind (arith, nat_tests)

greatest_swap : (a b c : ℤ) → cond (less_ℤ a (cond (less_ℤ b c) c b)) (cond (less_ℤ b c) c b) a ≡ cond (less_ℤ b (cond (less_ℤ a c) c a)) (cond (less_ℤ a c) c a) b
greatest_swap (pos a) (pos b) (pos c) = grind (arith, nat_tests)
greatest_swap (pos a) (pos b) (negsuc c) = grind (arith, nat_tests)
greatest_swap (pos a) (negsuc b) (pos c) = grind (arith, nat_tests)
greatest_swap (pos a) (negsuc b) (negsuc c) = grind (arith, nat_tests)
greatest_swap (negsuc a) (pos b) (pos c) = grind (arith, nat_tests)
greatest_swap (negsuc a) (pos b) (negsuc c) = grind (arith, nat_tests)
greatest_swap (negsuc a) (negsuc b) (pos c) = grind (arith, nat_tests)
greatest_swap (negsuc a) (negsuc b) (negsuc c) = grind (arith, nat_tests)

least_comm : (a b : ℤ) → cond (less_ℤ a b) a b ≡ cond (less_ℤ b a) b a
least_comm (pos a) (pos b) = grind (arith, nat_tests)
least_comm (pos a) (negsuc b) = grind (arith, nat_tests)
least_comm (negsuc a) (pos b) = grind (arith, nat_tests)
least_comm (negsuc a) (negsuc b) = grind (arith, nat_tests)

greatest_comm : (a b : ℤ) → cond (less_ℤ a b) b a ≡ cond (less_ℤ b a) a b
greatest_comm (pos a) (pos b) = grind (arith, nat_tests)
greatest_comm (pos a) (negsuc b) = grind (arith, nat_tests)
greatest_comm (negsuc a) (pos b) = grind (arith, nat_tests)
greatest_comm (negsuc a) (negsuc b) = grind (arith, nat_tests)

least_cell_swap : (x y a : Cell) → least_cell x (least_cell y a) ≡ least_cell y (least_cell x a)
least_cell_swap Null y a = refl
least_cell_swap (Number x) Null a = refl
least_cell_swap (Number x) (Number y) Null = ap Number (least_comm x y)
least_cell_swap (Number x) (Number y) (Number a) = ap Number (least_swap x y a)

greatest_cell_swap : (x y a : Cell) → greatest_cell x (greatest_cell y a) ≡ greatest_cell y (greatest_cell x a)
greatest_cell_swap Null y a = refl
greatest_cell_swap (Number x) Null a = refl
greatest_cell_swap (Number x) (Number y) Null = ap Number (greatest_comm x y)
greatest_cell_swap (Number x) (Number y) (Number a) = ap Number (greatest_swap x y a)

step_swap : (f : Aggregate) (x y a : Cell) → step_of f x (step_of f y a) ≡ step_of f y (step_of f x a)
step_swap Rows x y a = refl
step_swap Filled x y a = plus_cell_swap (filled_one x) (filled_one y) a
step_swap Sum x y a = plus_cell_swap x y a
step_swap Least x y a = least_cell_swap x y a
step_swap Greatest x y a = greatest_cell_swap x y a

pub folded_bag : (f : Aggregate) (k : ℕ) (xs ys : List Row) → Bag xs ys → folded f k xs ≡ folded f k ys
folded_bag f k xs ys h =
    over_same (λ x a. step_of f (get_or x k Null) a) (λ x y a. step_swap f (get_or x k Null) (get_or y k Null) a) (none_of f) xs ys (same_from xs ys h)
