-- A table's rows, laid one after another.
use Rattle.std.proofs.Common.{◌≡◌, ℕ, ◌+◌, ◌*◌, ◌<◌, ◌≤◌, List, [], ◌∷◌, length, get_or, take, set, refl, sym, ◌∙◌, subst, ⊎_elim, mul-le-mul, arith}
use borrow.Rule.Slice.PartMut.{put_mid}
use Rattle.std.specs.List.{AllByRecursion}
use Rattle.std.proofs.lemmas.List.{take_more, take_more_set, take_all, get_or_past}
use Rattle.std.proofs.lemmas.Bool.{cases_lt}
use Rattle.std.proofs.lemmas.Slice.{put_mid-paste}
use Rattle.std.proofs.ByRecursion.{All-get_or}
use Rattle.cells.specs.Cells.{Row}
use Rattle.cells.specs.declared.cell.Cell.{Cell}
use Rattle.cells.specs.declared.cell.Cell.TheVariants.{Null}
use Rattle.stock.specs.Tables.{Table, Lawful, LawfulTable, LawfulRow, no_table, width_of, rows_of, rows_at}
use Rattle.operators.specs.Laid.{Laid, Put}
use Rattle.operators.proofs.Stack.{laid_one, laid_join}
use Rattle.operators.proofs.Puts.{put_paste}

table_at : (ts : List Table) (t : ℕ) → Lawful ts → t < length ts → LawfulTable (get_or ts t no_table)
table_at ts t l h = All-get_or LawfulTable ts t no_table h l.each

lawful_rows : (ts : List Table) (t : ℕ) → Lawful ts → AllByRecursion (LawfulRow (width_of ts t)) (rows_at ts t)
lawful_rows ts t l = ⊎_elim (λ h. (table_at ts t l h).each) (λ k. rw (get_or_past ts t no_table k) tt) (cases_lt t (length ts))

pub row_long : (ts : List Table) (t p : ℕ) → Lawful ts → p < rows_of ts t → length (get_or (rows_at ts t) p []) ≡ width_of ts t
row_long ts t p l h = (All-get_or (LawfulRow (width_of ts t)) (rows_at ts t) p [] h (lawful_rows ts t l)).long

pub few_cells : (ts : List Table) (t : ℕ) → Lawful ts → rows_of ts t * width_of ts t ≤ 65535 * 8
few_cells ts t l = ⊎_elim (λ h. let k = table_at ts t l h in mul-le-mul k.few k.most) (λ k. rw (get_or_past ts t no_table k) (omega arith)) (cases_lt t (length ts))

-- cells written one by one
pub filled_more : (xs row : List Cell) (i : ℕ) (c : Cell) → i < length xs → length xs ≡ length row → take i xs ≡ take i row → c ≡ get_or row i Null → take (i + 1) (set xs i c) ≡ take (i + 1) row
filled_more xs row i c h l e k = let lt : i < length row = omega arith in rw (take_more_set xs i c h, take_more row i Null lt, e, k) refl

pub filled_all : (xs row : List Cell) (i : ℕ) → length xs ≤ i → length xs ≡ length row → take i xs ≡ take i row → xs ≡ row
filled_all xs row i h l e = sym (take_all i xs h) ∙ (e ∙ take_all i row (omega arith))

-- a row written where it is as long
pub part_put : (d ys row : List Cell) (to w k : ℕ) → ys ≡ row → k ≡ w → length row ≡ w → to + w ≤ length d → Put d (put_mid to k d ys) to w row
part_put d ys row to w k e n l h =
    let P : Row → Type 0 = λ r. Put d (put_mid to k d ys) to w r in
    subst P (take_all w row (omega arith)) (put_paste d (put_mid to k d ys) row to w w (put_mid-paste to k d ys row w e (sym n) (sym l)) (omega arith) (omega arith) h (omega arith))

pub table_turn : (rows : List Row) (b xs ys : List Cell) (out p w : ℕ) → p < length rows → Laid b xs out p w (take p rows) → Put xs ys (out + p * w) w (get_or rows p []) → Laid b ys out (p + 1) w (take (p + 1) rows)
table_turn rows b xs ys out p w h q r =
    let P : List Row → Type 0 = λ l. Laid b ys out (p + 1) w l in
    subst P (sym (take_more rows p [] h)) (laid_join b xs ys out p 1 w (take p rows) (get_or rows p [] ∷ []) q (laid_one xs ys (out + p * w) w (get_or rows p []) r))
