-- Laws of rows as they are given. Assumes nothing.
use Rattle.std.proofs.Common.{◌≡◌, ℕ, zero, suc, ◌+◌, ◌<◌, ◌≤◌, Bool, true, false, not, cond, eqb, List, [], ◌∷◌, ◌++◌, length, drop, Some, None, sym, refl, ap, ◌∙◌, ⊎_elim, add-one, arith}
use Rattle.std.proofs.lemmas.Bool.{and_parts, and_from, eq-eqb, ne_eqb, cond-true, cond-false, cases_Bool, cases_eq, lt-ltb, le-ltb}
use Rattle.std.specs.List.{position_from}
use Rattle.stock.specs.Tables.{Table, every, width_of, rows_of}
use Rattle.cells.specs.Cells.{stored}
use Rattle.movements.specs.Moves.{row_fault, fault_from, add_cause, withdraw_cause}
use Rattle.cells.specs.declared.cell.Cell.{Cell}

pub fault_by : (j : ℕ) (row : List Cell) → fault_from j row ≡ position_from (λ c. not (stored c)) j row
fault_by j [] = refl
fault_by j (c ∷ cs) =
    elim (stored c) as (λ b. cond b (fault_from (suc j) cs) (Some j) ≡ cond (not b) (Some j) (position_from (λ x. not (stored x)) (j + 1) cs))
    [ true ↦ fault_by (suc j) cs ∙ ap (λ k. position_from (λ x. not (stored x)) k cs) (sym (add-one j)) | false ↦ refl ]

pub fault_is : (w : ℕ) (row : List Cell) → length row ≡ w → row_fault w row ≡ fault_from 0 row
fault_is w row e = cond-true (eqb (length row) w) (fault_from 0 row) (Some (length row)) (eq-eqb (length row) w e)

pub every_append : {X : Type 0} (test : X → Bool) (xs ys : List X) → every test xs ≡ true → every test ys ≡ true → every test (xs ++ ys) ≡ true
every_append test [] ys e h = h
every_append test (x ∷ xs) ys e h = let p = and_parts (test x) (every test xs) e in and_from (test x) (every test (xs ++ ys)) p.0 (every_append test xs ys p.1 h)

pub every_drop : {X : Type 0} (test : X → Bool) (n : ℕ) (xs : List X) → every test xs ≡ true → every test (drop n xs) ≡ true
every_drop test zero xs e = e
every_drop test (suc n) [] e = refl
every_drop test (suc n) (x ∷ xs) e = every_drop test n xs (and_parts (test x) (every test xs) e).1

right_from : (j : ℕ) (row : List Cell) → fault_from j row ≡ None → every stored row ≡ true
right_from j [] e = refl
right_from j (c ∷ cs) e =
    ⊎_elim
    (λ y. and_from (stored c) (every stored cs) y (right_from (suc j) cs (sym (cond-true (stored c) (fault_from (suc j) cs) (Some j) y) ∙ e)))
    (λ n. let k = cond-false (stored c) (fault_from (suc j) cs) (Some j) n in let z : ◌≡◌ {A = ℕ} 0 1 = cc in absurd (omega arith))
    (cases_Bool (stored c))

-- a row in which row_fault finds nothing
pub right_row : (w : ℕ) (row : List Cell) → row_fault w row ≡ None → (length row ≡ w) × (every stored row ≡ true)
right_row w row e =
    ⊎_elim
    (λ y. (y, right_from 0 row (sym (fault_is w row y) ∙ e)))
    (λ n. let k = cond-false (eqb (length row) w) (fault_from 0 row) (Some (length row)) (ne_eqb (length row) w n) in let z : ◌≡◌ {A = ℕ} 0 1 = cc in absurd (omega arith))
    (cases_eq (length row) w)

pub add_none : (ts : List Table) (n t : ℕ) (row : List Cell) → t < length ts → row_fault (width_of ts t) row ≡ None → n < 64 → rows_of ts t < 65535 → add_cause ts n t row ≡ None
add_none ts n t row l e h f = rw (lt-ltb t (length ts) l, e, lt-ltb n 64 h, lt-ltb (rows_of ts t) 65535 f)

module _ (ts : List Table) (k n t p : ℕ) (l : p < rows_of ts t) where
  pub withdraw_below : p < k → n < 64 → withdraw_cause ts k n t p ≡ None
  withdraw_below h f = rw (lt-ltb p (rows_of ts t) l, lt-ltb p k h, lt-ltb n 64 f)

  pub withdraw_own : k ≤ p → withdraw_cause ts k n t p ≡ None
  withdraw_own h = rw (lt-ltb p (rows_of ts t) l, le-ltb p k h)
