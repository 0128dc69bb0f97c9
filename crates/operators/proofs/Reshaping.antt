-- Rows made anew.
use Rattle.std.proofs.Common.{◌≡◌, ℕ, ◌+◌, ◌-◌, ◌≤◌, List, [], ◌∷◌, ◌++◌, map, length, take, drop, sym, refl, ap, ◌∙◌, subst, ap₂, arith}
use Rattle.cells.specs.Cells.{Row}
use Rattle.cells.specs.declared.cell.Cell.{Cell}
use Rattle.lines.specs.Ops.{keep_row}
use Rattle.operators.specs.Places.{row_at}
use Rattle.operators.specs.Laid.{Put}
use Rattle.operators.specs.Steps.{each}
use Rattle.operators.proofs.Stack.{row_below, row_front, row_rest, row_length, put_join}

pub keep_put : (b x y : List Cell) (at w n m to : ℕ) → n + m ≤ w → at + w ≤ to → to ≤ length b → Put b x to n (row_at b at n) → Put x y (to + n) m (row_at x (at + (w - m)) m) → Put b y to (n + m) (keep_row n m (row_at b at w))
keep_put b x y at w n m to h i r p q =
    let e : row_at x (at + (w - m)) m ≡ row_at b (at + (w - m)) m = row_below x b to (at + (w - m)) m p.below (omega arith) in
    let le : w - m ≤ w = omega arith in
    let k : w - (w - m) ≡ m = omega arith in
    let d : drop (length (row_at b at w) - m) (row_at b at w) ≡ row_at b (at + (w - m)) m = ap (λ (l : ℕ). drop (l - m) (row_at b at w)) (row_length b at w (omega arith)) ∙ (row_rest b at (w - m) w le ∙ ap (row_at b (at + (w - m))) k) in
    let t : take n (row_at b at w) ≡ row_at b at n = row_front b at n w (omega arith) in
    let P : Row → Type 0 = λ s. Put b y to (n + m) s in
    subst P (ap₂ ◌++◌ (sym t) (e ∙ sym d)) (put_join b x y to n m (row_at b at n) (row_at x (at + (w - m)) m) p q)

-- one row for each row
abbrev pub one : (Row → Row) → List Row → Row → List Row
one f front x = f x ∷ []

pub each_one : (f : Row → Row) (front xs : List Row) → each (one f) front xs ≡ map f xs
each_one f front [] = refl
each_one f front (x ∷ xs) = ap (λ (r : List Row). f x ∷ r) (each_one f (front ++ x ∷ []) xs)
