-- Whole runs of rows, one after another.
use Rattle.std.proofs.Common.{◌≡◌, ℕ, ◌+◌, ◌-◌, ◌*◌, ◌<◌, ◌≤◌, List, ◌++◌, length, sym, ap, ◌∙◌, subst, add-mul, arith, length-append}
use Rattle.cells.specs.Cells.{Row}
use Rattle.cells.specs.declared.cell.Cell.{Cell}
use Rattle.operators.specs.Places.{row_at, rows_from}
use Rattle.operators.specs.Laid.{Laid, Put}
use Rattle.operators.proofs.Stack.{rows_length, rows_below, laid_copy, laid_join}

pub union_laid : (b x y : List Cell) (ls n rs m out w v : ℕ) → v ≡ w → rs + m * v ≤ out → Put b x out (n * w) (row_at b ls (n * w)) → Put x y (out + n * w) (m * v) (row_at x rs (m * v))
    → Laid b y out (n + m) w (rows_from b ls n w ++ rows_from b rs m v)
union_laid b x y ls n rs m out w v e h p q =
    let P : ℕ → Type 0 = λ u. rs + m * u ≤ out → Put x y (out + n * w) (m * u) (row_at x rs (m * u)) → Laid b y out (n + m) w (rows_from b ls n w ++ rows_from b rs m u) in
    subst P (sym e) (λ h' q'. laid_join b x y out n m w (rows_from b ls n w) (rows_from b rs m w) (laid_copy b x ls out n w p)
    (let k = rows_below x b out rs m w p.below h' in
    let Q : List Row → Type 0 = λ r. Laid x y (out + n * w) m w r in subst Q k (laid_copy x y rs (out + n * w) m w q'))) h q

pub union_over : (b : List Cell) (ls n rs m out w v : ℕ) → v ≡ w → out ≤ length b → length b - out < n * w + m * v → length b < out + length (rows_from b ls n w ++ rows_from b rs m v) * w
union_over b ls n rs m out w v e o h =
    let l : length (rows_from b ls n w ++ rows_from b rs m v) ≡ n + m = length-append (rows_from b ls n w) (rows_from b rs m v) ∙ omega (arith, rows_length b ls n w, rows_length b rs m v) in
    omega (arith, add-mul n m w, ap (λ (x : ℕ). x * w) l, ap (λ (x : ℕ). m * x) e)
