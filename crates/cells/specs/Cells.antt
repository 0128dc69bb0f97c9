-- Cells and rows, their sameness, and comparison.
use Rattle.std.specs.Prelude.{◌≡◌, Bool, true, false, not, ◌&&◌, ◌⊎◌, List, [], ◌∷◌, ℤ, pos, negsuc, ◌≤ℤ◌, ◌==◌, nat_lt}
use Rattle.std.specs.Int.Signed.{mag}
use Rattle.cells.specs.Truths.{truth_of}
use Rattle.cells.specs.declared.cell.Cell.{Cell}
use Rattle.cells.specs.declared.cell.Cell.TheVariants.{Null, Number}
use Rattle.cells.specs.declared.sign.Sign.{Sign}
use Rattle.cells.specs.declared.sign.Sign.TheVariants.{Equal, Unequal, Less, AtMost, More, AtLeast}
use Rattle.cells.specs.declared.truth.Truth.{Truth}
use Rattle.cells.specs.declared.truth.Truth.TheVariants.{False, Unknown, True}

abbrev pub Row : Type 0
Row = List Cell

abbrev pub same_ℤ : ℤ → ℤ → Bool
same_ℤ (pos a) (pos b) = a == b
same_ℤ (pos a) (negsuc b) = false
same_ℤ (negsuc a) (pos b) = false
same_ℤ (negsuc a) (negsuc b) = a == b

abbrev pub less_ℤ : ℤ → ℤ → Bool
less_ℤ (pos a) (pos b) = nat_lt a b
less_ℤ (pos a) (negsuc b) = false
less_ℤ (negsuc a) (pos b) = true
less_ℤ (negsuc a) (negsuc b) = nat_lt b a

-- both NULL, or both one number
abbrev pub same_cell : Cell → Cell → Bool
same_cell Null Null = true
same_cell Null (Number b) = false
same_cell (Number a) Null = false
same_cell (Number a) (Number b) = same_ℤ a b

-- cell by cell
abbrev pub same_row : Row → Row → Bool
same_row [] [] = true
same_row [] (y ∷ ys) = false
same_row (x ∷ xs) [] = false
same_row (x ∷ xs) (y ∷ ys) = same_cell x y && same_row xs ys

abbrev pub null_cell : Cell → Bool
null_cell Null = true
null_cell (Number z) = false

-- NULL, or a number of 32 bits
abbrev pub stored : Cell → Bool
stored Null = true
stored (Number z) = nat_lt (mag z) 2147483648

abbrev pub as_cell : Truth → Cell
as_cell True = Number (pos 1)
as_cell False = Number (pos 0)
as_cell Unknown = Null

abbrev pub compare_ℤ : Sign → ℤ → ℤ → Bool
compare_ℤ Equal a b = same_ℤ a b
compare_ℤ Unequal a b = not (same_ℤ a b)
compare_ℤ Less a b = less_ℤ a b
compare_ℤ AtMost a b = not (less_ℤ b a)
compare_ℤ More a b = less_ℤ b a
compare_ℤ AtLeast a b = not (less_ℤ a b)

abbrev pub compare_cells : Sign → Cell → Cell → Truth
compare_cells s Null Null = Unknown
compare_cells s Null (Number b) = Unknown
compare_cells s (Number a) Null = Unknown
compare_cells s (Number a) (Number b) = truth_of (compare_ℤ s a b)

-- the answer is yes exactly where the cells are equal; so sameness is an equivalence
pub record Decides (a b : Cell) (r : Bool) : Type 0 where
  pub only : r ≡ true → a ≡ b
  pub always : a ≡ b → r ≡ true

-- unknown exactly where a side is NULL
pub record UnknownAtNull (a b : Cell) (r : Truth) : Type 0 where
  pub only : r ≡ Unknown → (a ≡ Null) ⊎ (b ≡ Null)
  pub left : a ≡ Null → r ≡ Unknown
  pub right : b ≡ Null → r ≡ Unknown

-- yes exactly of NULL and of the numbers that 32 bits hold, with a sign
abbrev pub InRange : Cell → Bool → Type 0
InRange Null r = r ≡ true
InRange (Number z) r = (r ≡ true → (negsuc 2147483647 ≤ℤ z) × (z ≤ℤ pos 2147483647)) × ((negsuc 2147483647 ≤ℤ z) → (z ≤ℤ pos 2147483647) → r ≡ true)
