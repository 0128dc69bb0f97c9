-- How often a row stands in what Select, Distinct and Diff give.
use Rattle.std.proofs.Common.{◌≡◌, ℕ, ◌+◌, ◌-◌, Bool, true, false, cond, not, List, [], ◌∷◌, filter, sym, refl, ap, ◌∙◌, zero-add, arith}
use Rattle.cells.specs.Cells.{Row, same_row}
use Rattle.lines.specs.Ops.{count, some_of, without, distinct_rows, diff_rows}
use Rattle.lines.proofs.Weights.{positive, positive_from, positive_false, some_count, count_out, same_eq}
pub use Rattle.lines.proofs.Sameness.{same_sym}

-- an element that is kept is kept each time
pub count_kept : (r : Row) (p : Row → Bool) (xs : List Row) → count r (filter p xs) ≡ cond (p r) (count r xs) 0
count_kept r p [] = elim (p r) as (λ b. ◌≡◌ {A = ℕ} 0 (cond b 0 0)) [ true ↦ refl | false ↦ refl ]
count_kept r p (x ∷ xs) = go (same_row r x) (p x) (p r) refl refl refl (count_kept r p xs)
  where
    go : (s a b : Bool) → same_row r x ≡ s → p x ≡ a → p r ≡ b → count r (filter p xs) ≡ cond (p r) (count r xs) 0
        → count r (cond a (x ∷ filter p xs) (filter p xs)) ≡ cond b (cond s 1 0 + count r xs) 0
    go true true true e f g ih = rw (e, ih, g)
    go true true false e f g ih = let k = same_eq r x e in let z : true ≡ false = cc in cc
    go true false true e f g ih = let k = same_eq r x e in let z : true ≡ false = cc in cc
    go true false false e f g ih = rw (ih, g)
    go false true true e f g ih = rw (e, ih, g)
    go false true false e f g ih = rw (e, ih, g)
    go false false true e f g ih = rw (ih, g) (omega arith)
    go false false false e f g ih = rw (ih, g)

abbrev pub one : ℕ → ℕ
one n = cond (positive n) 1 0

pub count_distinct : (r : Row) (xs : List Row) → count r (distinct_rows xs) ≡ one (count r xs)
count_distinct r [] = refl
count_distinct r (x ∷ xs) = go (same_row r x) refl (count_distinct r xs)
  where
    go : (s : Bool) → same_row r x ≡ s → count r (distinct_rows xs) ≡ one (count r xs)
        → cond s 1 0 + count r (filter (λ y. not (same_row x y)) (distinct_rows xs)) ≡ one (cond s 1 0 + count r xs)
    go true e ih =
        let a = count_kept r (λ y. not (same_row x y)) (distinct_rows xs) in
        let b : same_row x r ≡ true = same_sym x r ∙ e in
        let p : positive (1 + count r xs) ≡ true = positive_from (1 + count r xs) (omega arith) in
        rw (a, b, p)
    go false e ih =
        let a = count_kept r (λ y. not (same_row x y)) (distinct_rows xs) in
        let b : same_row x r ≡ false = same_sym x r ∙ e in
        rw (a, b, ih) (simp zero-add)

pub count_diff : (r : Row) (xs ys : List Row) → count r (diff_rows xs ys) ≡ count r xs - count r ys
count_diff r [] ys = omega arith
count_diff r (x ∷ xs) ys = go (some_of (same_row x) ys) (same_row r x) refl refl (count_diff r xs ys) (count_diff r xs (without x ys))
  where
    go : (b s : Bool) → some_of (same_row x) ys ≡ b → same_row r x ≡ s → count r (diff_rows xs ys) ≡ count r xs - count r ys
        → count r (diff_rows xs (without x ys)) ≡ count r xs - count r (without x ys)
        → count r (cond b (diff_rows xs (without x ys)) (x ∷ diff_rows xs ys)) ≡ (cond s 1 0 + count r xs) - count r ys
    go true true e f i j = let k : count r ys ≡ 1 + count r (without x ys) = count_out r x ys e ∙ rw f in omega arith
    go true false e f i j = let k : count r ys ≡ 0 + count r (without x ys) = count_out r x ys e ∙ rw f in omega arith
    go false true e f i j =
        let z : positive (count x ys) ≡ false = sym (some_count x ys) ∙ e in
        let k = ap (λ v. count v ys) (same_eq r x f) in
        let n = positive_false (count x ys) z in
        rw f (omega arith)
    go false false e f i j = rw f (omega arith)
