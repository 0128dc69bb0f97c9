-- The rows of a flat line have the context's columns more than those of its line.
use Rattle.std.proofs.Common.{◌≡◌, ℕ, ◌+◌, Bool, true, false, cond, eqb, List, [], ◌∷◌, ◌++◌, length, refl, ◌∙◌, arith}
use Rattle.std.proofs.lemmas.List.{length-append}
use Rattle.std.proofs.ByRecursion.{All-weaker}
use Rattle.std.proofs.lemmas.Bool.{eqb-true, eq-eqb}
use Rattle.cells.specs.Cells.{Row}
use Rattle.lines.proofs.Weights.{W, W_zero, W_cong}
use Rattle.lines.proofs.Widths.{Wide}
use Rattle.unnest.proofs.Lifts.{Dom, Lifted, core}

all_from_W : (w : ℕ) (xs : List Row) → W (λ x. cond (eqb (length x) w) 0 1) xs ≡ 0 → Wide w xs
all_from_W w [] h = tt
all_from_W w (x ∷ xs) h = go (eqb (length x) w) refl h (all_from_W w xs)
  where
    go : (b : Bool) → eqb (length x) w ≡ b → cond b 0 1 + W (λ y. cond (eqb (length y) w) 0 1) xs ≡ 0 → (W (λ y. cond (eqb (length y) w) 0 1) xs ≡ 0 → Wide w xs) → (length x ≡ w) × Wide w xs
    go true e k ih = (eqb-true (length x) w e, ih (omega arith))
    go false e k ih = let z : ◌≡◌ {A = ℕ} 0 1 = omega arith in absurd (omega arith)

pub wide_flat : (c : ℕ) (D : List Row) → Dom c D → (F : List Row) (E : Row → List Row) → Lifted D F E → (w : ℕ) → ((d : Row) → Wide w (E d)) → Wide (c + w) F
wide_flat c D m F E l w h =
    all_from_W (c + w) F
    (core c D m F E l (λ x. cond (eqb (length x) (c + w)) 0 1) (λ d r. 0)
    (λ d a b. All-weaker (λ r. length r ≡ w) (λ r. cond (eqb (length (d ++ r)) (c + w)) 0 1 ≡ 0)
    (λ r k. rw (eq-eqb (length (d ++ r)) (c + w) (length-append d r ∙ rw (a, k)))) (E d) (h d))
    ∙ W_cong D (λ d. W_zero (E d)) ∙ W_zero D)
