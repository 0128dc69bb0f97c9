-- What walks over the movements come to. Assumes nothing.
use Rattle.std.proofs.Common.{◌≡◌, ℕ, List, [], ◌∷◌, length, get_or, sym, refl, ap, ◌∙◌, arith}
use Rattle.std.specs.Prelude.{reverse, fold, sum_by}
use Rattle.std.proofs.lemmas.List.{reverse-append, length-reverse}
use Rattle.std.proofs.lemmas.List.Recursion.{is_sum_by}
use Rattle.std.proofs.lemmas.List.Sums.{fold-append}
use Rattle.cells.specs.Cells.{Row}
use Rattle.movements.specs.Moves.{take_out, remaining, fewer, before}
use Rattle.movements.specs.Moving.{length_take_out, get_or_take_out}
use Rattle.movements.specs.declared.moved.Hidden.{Hidden}

module _ (t : ℕ) where
  pub kept_by : (hs : List Hidden) (rs : List Row) → length (remaining t hs rs) ≡ fold (λ n h. fewer t h n) (length rs) hs
  kept_by [] rs = refl
  kept_by (h ∷ hs) rs = kept_by hs (take_out t h rs) ∙ ap (λ n. fold (λ m k. fewer t k m) n hs) (length_take_out t h rs)

  pub source_by : (hs : List Hidden) (rs : List Row) (p : ℕ) (d : Row) → get_or (remaining t hs rs) p d ≡ get_or rs (fold (λ q h. before t h q) p (reverse hs)) d
  source_by [] rs p d = refl
  source_by (h ∷ hs) rs p d =
      let walk : List Hidden → ℕ = fold (λ q k. before t k q) p in
      source_by hs (take_out t h rs) p d
      ∙ get_or_take_out t h rs (walk (reverse hs)) d
      ∙ ap (λ q. get_or rs q d) (sym (ap walk (reverse-append (h ∷ []) hs) ∙ fold-append (λ q k. before t k q) p (reverse hs) (h ∷ [])))

-- a step back for each
pub steps_back : (hs : List Hidden) → sum_by (λ _. 1) (reverse hs) ≡ length hs
steps_back hs = sum_by_one (reverse hs) ∙ length-reverse hs
  where
    sum_by_one : (xs : List Hidden) → sum_by (λ _. 1) xs ≡ length xs
    sum_by_one xs = sym (is_sum_by length (λ _. 1) refl (λ _ _. omega arith) xs)
