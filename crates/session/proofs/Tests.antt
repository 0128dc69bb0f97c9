-- Which test of a query fails first, and at which line.
use Rattle.std.proofs.Common.{◌≡◌, ℕ, zero, suc, ◌+◌, ◌<◌, ◌≤◌, Bool, true, false, ◌&&◌, leb, List, ◌∷◌, length, Some, None, refl, ap, ◌∙◌, ⊎_elim, arith}
use Rattle.std.proofs.lemmas.Bool.{cases_lt, cond-true, cond-false, and_from, le-leb, lt-leb}
use Rattle.stock.specs.declared.refusal.Refusal.TheVariants.{LineCount}
use Rattle.lines.specs.declared.line.Line.{Line}
use Rattle.session.specs.Checks.{Test, first_from, first_failed, or_else, line_tests, lay_refusal}

first_none : (f : ℕ → Bool) (i n : ℕ) → ((j : ℕ) → j < i + n → f j ≡ false) → first_from f i n ≡ None
first_none f i zero h = refl
first_none f i (suc n) h = cond-false (f i) (Some i) (first_from f (suc i) n) (h i (omega arith)) ∙ first_none f (suc i) n (λ j l. h j (omega arith))

first_some : (f : ℕ → Bool) (i n k : ℕ) → i ≤ k → k < i + n → f k ≡ true → ((j : ℕ) → j < k → f j ≡ false) → first_from f i n ≡ Some k
first_some f i zero k a b t h = absurd (omega arith)
first_some f i (suc n) k a b t h =
    ⊎_elim
    (λ l. cond-false (f i) (Some i) (first_from f (suc i) n) (h i l) ∙ first_some f (suc i) n k (omega arith) (omega arith) t h)
    (λ g. let e : i ≡ k = omega arith in cond-true (f i) (Some i) (first_from f (suc i) n) (ap f e ∙ t) ∙ ap Some e)
    (cases_lt i k)

-- a test that no line fails
pub passed : (t : Test) (ts : List Test) (n : ℕ) → ((i : ℕ) → i < n → t.fails i ≡ false) → first_failed (t ∷ ts) n ≡ first_failed ts n
passed t ts n h = ap (λ o. or_else t.refusal o (first_failed ts n)) (first_none t.fails 0 n (λ j l. h j (omega arith)))

-- a test that line k is the first to fail
pub failed : (t : Test) (ts : List Test) (n k : ℕ) → k < n → t.fails k ≡ true → ((j : ℕ) → j < k → t.fails j ≡ false) → first_failed (t ∷ ts) n ≡ Some (t.refusal k)
failed t ts n k l y h = ap (λ o. or_else t.refusal o (first_failed ts n)) (first_some t.fails 0 n k (omega arith) (omega arith) y h)

module _ (ws : List ℕ) (ls : List Line) where
  -- the number of lines passes
  pub counted : 1 ≤ length ls → length ls ≤ 32 → lay_refusal ws ls ≡ first_failed (line_tests ws ls) (length ls)
  counted a b = cond-true (leb 1 (length ls) && leb (length ls) 32) (first_failed (line_tests ws ls) (length ls)) (Some (LineCount (length ls))) (and_from (leb 1 (length ls)) (leb (length ls) 32) (le-leb 1 (length ls) a) (le-leb (length ls) 32 b))

  pub none_laid : length ls ≡ 0 → lay_refusal ws ls ≡ Some (LineCount (length ls))
  none_laid e = cond-false (leb 1 (length ls) && leb (length ls) 32) (first_failed (line_tests ws ls) (length ls)) (Some (LineCount (length ls))) (ap (λ b. b && leb (length ls) 32) (lt-leb 1 (length ls) (omega arith)))

  pub too_many : 32 < length ls → lay_refusal ws ls ≡ Some (LineCount (length ls))
  too_many l =
      cond-false (leb 1 (length ls) && leb (length ls) 32) (first_failed (line_tests ws ls) (length ls)) (Some (LineCount (length ls)))
      (ap (λ b. b && leb (length ls) 32) (le-leb 1 (length ls) (omega arith)) ∙ lt-leb (length ls) 32 l)
