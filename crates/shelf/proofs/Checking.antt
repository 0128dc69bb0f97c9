-- The steps of the check.
use Rattle.std.proofs.Common.{◌≡◌, ℕ, ◌+◌, ◌-◌, ◌*◌, ◌<◌, ◌≤◌, Bool, true, false, ◌&&◌, eqb, ltb, List, [], ◌∷◌, length, get_or, take, drop, Some, None, Option, Bor, sym, refl, subst, ap, ◌∙◌, add-one}
use Rattle.std.proofs.lemmas.List.{drop_more, drop_all}
use Rattle.std.proofs.lemmas.Bool.{cond-true, cond-false, lt-ltb, le-ltb, le-leb}
use Rattle.std.specs.List.{list_all}
use Rattle.std.specs.Bool.{then_some}
use Rattle.std.specs.Option.{MatchOption}
use Rattle.stock.specs.Tables.{every}
use Rattle.cells.specs.Cells.{stored}
use Rattle.cells.specs.declared.cell.Cell.{Cell}
use Rattle.shelf.specs.Cut.{fits, fault_from}

pub every_by : {X : Type 0} (test : X → Bool) (xs : List X) → list_all test xs ≡ every test xs
every_by test [] = refl
every_by test (x ∷ xs) = ap (λ b. test x && b) (every_by test xs)

-- what is left after a table, if it fits
pub rest_of : (b : Bool) (r : Option (Bor (List Cell))) (rest : Bor (List Cell)) (fit : Bool) (cs : List Cell) → r ≡ then_some b rest → b ≡ fit → rest.now ≡ cs → MatchOption r (fit ≡ false) (λ x. (fit ≡ true) × (x.now ≡ cs))
rest_of b r rest fit cs e f g = subst (λ o. MatchOption o (fit ≡ false) (λ x. (fit ≡ true) × (x.now ≡ cs))) (sym e) (go b f)
  where
    go : (d : Bool) → d ≡ fit → MatchOption (then_some d rest) (fit ≡ false) (λ x. (fit ≡ true) × (x.now ≡ cs))
    go true k = (sym k, g)
    go false k = sym k

-- the pair at i, where the cells from there on are rest
module _ (ps : List (ℕ × ℕ)) (rest : List Cell) (i : ℕ) where
  pub fault_over : i < length ps → 16 ≤ i → fault_from i (drop i ps) rest ≡ Some 16
  fault_over l h = ap (λ x. fault_from i x rest) (drop_more ps i (0, 0) l) ∙ cond-false (ltb i 16) _ (Some 16) (le-ltb i 16 h)

  pub fault_here : i < length ps → i < 16 → fits (get_or ps i (0, 0)) rest ≡ false → fault_from i (drop i ps) rest ≡ Some i
  fault_here l h f = ap (λ x. fault_from i x rest) (drop_more ps i (0, 0) l) ∙ cond-true (ltb i 16) _ (Some 16) (lt-ltb i 16 h) ∙ cond-false (fits (get_or ps i (0, 0)) rest) _ (Some i) f

  pub fault_more : i < length ps → i < 16 → fits (get_or ps i (0, 0)) rest ≡ true
      → fault_from i (drop i ps) rest ≡ fault_from (i + 1) (drop (i + 1) ps) (drop ((get_or ps i (0, 0)).1 * (get_or ps i (0, 0)).0) rest)
  fault_more l h f =
      ap (λ x. fault_from i x rest) (drop_more ps i (0, 0) l) ∙ cond-true (ltb i 16) _ (Some 16) (lt-ltb i 16 h) ∙ cond-true (fits (get_or ps i (0, 0)) rest) _ (Some i) f
      ∙ ap (λ k. fault_from k (drop (i + 1) ps) (drop ((get_or ps i (0, 0)).1 * (get_or ps i (0, 0)).0) rest)) (sym (add-one i))

  pub fault_left : length ps ≤ i → eqb (length rest) 0 ≡ false → fault_from i (drop i ps) rest ≡ Some (i - 1)
  fault_left l h = ap (λ x. fault_from i x rest) (drop_all i ps l) ∙ cond-false (eqb (length rest) 0) None (Some (i - 1)) h

  pub fault_none : length ps ≤ i → eqb (length rest) 0 ≡ true → fault_from i (drop i ps) rest ≡ None
  fault_none l h = ap (λ x. fault_from i x rest) (drop_all i ps l) ∙ cond-true (eqb (length rest) 0) None (Some (i - 1)) h

pub fits_is : (w r : ℕ) (xs : List Cell) → 1 ≤ w → w ≤ 8 → r ≤ 65535 → r * w ≤ length xs → fits (w, r) xs ≡ every stored (take (r * w) xs)
fits_is w r xs a b c d = rw (le-leb 1 w a, le-leb w 8 b, le-leb r 65535 c, le-leb (r * w) (length xs) d)
