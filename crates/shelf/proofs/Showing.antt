-- The pairs that a shelf shows.
use Rattle.std.proofs.Common.{◌≡◌, ℕ, ◌+◌, ◌*◌, ◌<◌, ◌≤◌, List, length, take, Some, None, Option, sym, refl, ap, ◌∙◌, arith}
use Rattle.std.specs.Prelude.{sum_by}
use Rattle.std.proofs.lemmas.List.Recursion.{is_sum_by}
use Rattle.cells.specs.declared.cell.Cell.{Cell}
use Rattle.stock.specs.Tables.{width_of, rows_of}
use Rattle.shelf.specs.Cut.{cut, fault, unless_fault, shelved}
use Rattle.shelf.specs.Cutting.{length_cut, offset, unfaulted, in_pairs, within, cell_within}

module _ (ps : List (ℕ × ℕ)) (cs : List Cell) (qs : List (ℕ × ℕ)) (e : qs ≡ unless_fault (fault ps cs) ps) where
  pub shown_cut : cut qs cs ≡ shelved ps cs
  shown_cut = ap (λ x. cut x cs) e ∙ go (fault ps cs)
    where
      go : (o : Option ℕ) → cut (unless_fault o ps) cs ≡ unless_fault o (cut ps cs)
      go (Some i) = refl
      go None = refl

  pub shown_length : length qs ≡ length (shelved ps cs)
  shown_length = sym (length_cut qs cs) ∙ ap length shown_cut

  -- a shelf that shows a table shows all pairs
  pub shown_all : (t : ℕ) → t < length (shelved ps cs) → qs ≡ ps
  shown_all t l = e ∙ ap (λ o. unless_fault o ps) (unfaulted ps cs t l)

  pub shown_start : (t : ℕ) → t < length (shelved ps cs) → sum_by (λ p. p.1 * p.0) (take t qs) ≡ offset (take t ps)
  shown_start t l = sym (is_sum_by offset (λ p. p.1 * p.0) refl (λ _ _. refl) (take t qs)) ∙ ap (λ x. offset (take t x)) (shown_all t l)

  pub shown_offset : (t : ℕ) → t < length (shelved ps cs) → sum_by (λ p. p.1 * p.0) (take t qs) ≤ length cs
  shown_offset t l =
      let z = shown_start t l in
      let w = within 0 ps cs t (unfaulted ps cs t l) (in_pairs ps cs t l) in
      omega arith

-- the cells of the tables shown are among those that were lent
pub cell_inside : (ps : List (ℕ × ℕ)) (cs : List Cell) (t p c : ℕ) → p < rows_of (shelved ps cs) t → c < width_of (shelved ps cs) t → offset (take t ps) + p * width_of (shelved ps cs) t + c < length cs
cell_inside ps cs t p c l h = cell_within ps cs t p c (width_of (shelved ps cs) t) (rows_of (shelved ps cs) t) refl refl l h
