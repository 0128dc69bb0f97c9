-- The six Applies, lifted.
use Rattle.std.proofs.Common.{◌≡◌, ℕ, ◌+◌, ◌<◌, ◌≤◌, Bool, true, false, cond, not, ◌||◌, List, [], ◌∷◌, ◌++◌, map, length, get_or, drop, replicate, pos, filter, sym, refl, ap, ◌∙◌, ap₂, arith}
use native.Mathlib.Nat.{sub_self}
use Rattle.std.specs.List.{flat_map, AllByRecursion}
use Rattle.std.proofs.lemmas.List.{append_assoc, drop_at, get_or_append_left, get_or-append_right}
use Rattle.cells.specs.Cells.{Row, as_cell, compare_cells}
use Rattle.cells.specs.Truths.{holds, is_unknown, truth_of, not3, or3, and3}
use Rattle.cells.specs.declared.cell.Cell.{Cell}
use Rattle.cells.specs.declared.cell.Cell.TheVariants.{Null, Number}
use Rattle.cells.specs.declared.sign.Sign.{Sign}
use Rattle.cells.specs.declared.truth.Truth.{Truth}
use Rattle.cells.specs.declared.truth.Truth.TheVariants.{True, False, Unknown}
use Rattle.lines.specs.Ops.{count, some_of, distinct_rows, alike, match_rows, semi_rows, anti_rows}
use Rattle.lines.specs.Trees.{empty, outer_rows, ors, ands, against}
use Rattle.lines.proofs.Weights.{W, W_all, W_cong, W_append, W_map, W_kept, W_joined, W_plus, positive, positive_from, count_here}
use Rattle.lines.proofs.Counts.{count_distinct}
use Rattle.unnest.proofs.Lifts.{Dom, Lifted, both, pick, some_pick}
use Rattle.unnest.proofs.Raise.{alike_at, some_any, lift_kept}
use Rattle.lines.proofs.Widths.{Wide, all_distinct, wide_distinct}

-- each row of a list stands once in its distinct rows

here : (ys xs : List Row) → ((x : Row) → 1 ≤ count x xs → 1 ≤ count x ys) → AllByRecursion (λ x. count x (distinct_rows ys) ≡ 1) xs
here ys [] h = tt
here ys (x ∷ xs) h =
    let a : positive (count x ys) ≡ true = positive_from (count x ys) (h x (omega (arith, count_here x xs))) in
    (count_distinct x ys ∙ rw a, here ys xs (λ z k. h z (omega arith)))

pub each_once : (ys : List Row) → AllByRecursion (λ x. count x (distinct_rows ys) ≡ 1) ys
each_once ys = here ys ys (λ x k. k)

pub dom_distinct : (w : ℕ) (ys : List Row) → Wide w ys → Dom w (distinct_rows ys)
dom_distinct w ys a = record { long = wide_distinct w ys a; once = all_distinct (λ x. count x (distinct_rows ys) ≡ 1) ys (each_once ys) }

some_kept : (p : Row → Bool) (xs : List Row) → some_of (λ r. true) (filter p xs) ≡ some_of p xs
some_kept p [] = refl
some_kept p (x ∷ xs) =
    elim (p x) as (λ b. some_of (λ r. true) (cond b (x ∷ filter p xs) (filter p xs)) ≡ (b || some_of p xs)) [ true ↦ refl | false ↦ some_kept p xs ]

pub some_cong : (p q : Row → Bool) (xs : List Row) → ((x : Row) → p x ≡ q x) → some_of p xs ≡ some_of q xs
some_cong p q [] h = refl
some_cong p q (x ∷ xs) h = rw (h x, some_cong p q xs h)

-- F is the left flat line with its rows E in each context of D, w its width; G is the right flat line over the distinct rows of F
module _ (D F : List Row) (E : Row → List Row) (l : Lifted D F E) (w : ℕ) (a : Wide w F)
    (G : List Row) (H : Row → List Row) (k : Lifted (distinct_rows F) G H) where
  abbrev m : Dom w (distinct_rows F)
  m = dom_distinct w F a

  -- a sum over the left rows
  over : (φ ψ : Row → ℕ) → ((x : Row) → length x ≡ w → count x (distinct_rows F) ≡ 1 → φ x ≡ ψ x) → W φ F ≡ W (λ d. W (λ x. ψ (d ++ x)) (E d)) D
  over φ ψ h =
      W_all φ ψ F (both {P = λ d. length d ≡ w} {Q = λ d. count d (distinct_rows F) ≡ 1} {R = λ d. φ d ≡ ψ d} F h a (each_once F)) ∙ l ψ

  has_rows : (x : Row) → length x ≡ w → count x (distinct_rows F) ≡ 1 → some_of (alike w x) G ≡ not (empty (H x))
  has_rows x p q = some_pick w (distinct_rows F) m G H k x q (alike w x) (λ r. true) (λ e r h. alike_at w x e r p h) ∙ some_any (H x)

  match_at : (g : Row → ℕ) (x : Row) → length x ≡ w → count x (distinct_rows F) ≡ 1
      → W g (map (λ y. x ++ drop w y) (filter (alike w x) G)) ≡ W (λ r. g (x ++ r)) (H x)
  match_at g x p q =
      W_map g (λ y. x ++ drop w y) (filter (alike w x) G)
      ∙ W_kept (λ y. g (x ++ drop w y)) (alike w x) G
      ∙ pick w (distinct_rows F) m G H k x q (alike w x) (λ r. true) (λ e r h. alike_at w x e r p h) (λ y. g (x ++ drop w y))
      ∙ W_cong (H x) (λ r. ap (λ v. g (x ++ v)) (drop_at x r w p))

  pub lift_cross : Lifted D (match_rows w F G) (λ d. flat_map (λ x. map (λ y. x ++ y) (H (d ++ x))) (E d))
  lift_cross g =
      W_joined g (λ x. map (λ y. x ++ drop w y) (filter (alike w x) G)) F
      ∙ over (λ x. W g (map (λ y. x ++ drop w y) (filter (alike w x) G))) (λ x. W (λ r. g (x ++ r)) (H x)) (match_at g)
      ∙ W_cong D (λ d.
      W_cong (E d) (λ x.
      W_cong (H (d ++ x)) (λ r. ap g (append_assoc d x r))
      ∙ sym (W_map (λ r. g (d ++ r)) (λ y. x ++ y) (H (d ++ x))))
      ∙ sym (W_joined (λ r. g (d ++ r)) (λ x. map (λ y. x ++ y) (H (d ++ x))) (E d)))

  lift_by : (p q : Row → Bool) → ((x : Row) → length x ≡ w → count x (distinct_rows F) ≡ 1 → p x ≡ q x)
      → Lifted D (filter p F) (λ d. filter (λ x. q (d ++ x)) (E d))
  lift_by p q h g =
      W_kept g p F
      ∙ over (λ x. cond (p x) (g x) 0) (λ x. cond (q x) (g x) 0) (λ x b c. ap (λ v. cond v (g x) 0) (h x b c))
      ∙ W_cong D (λ d. sym (W_kept (λ r. g (d ++ r)) (λ x. q (d ++ x)) (E d)))

  not_not : (b : Bool) → not (not b) ≡ b
  not_not true = refl
  not_not false = refl

  pub lift_exists : Lifted D (semi_rows w F G) (λ d. filter (λ x. not (empty (H (d ++ x)))) (E d))
  lift_exists = lift_by (λ x. some_of (alike w x) G) (λ x. not (empty (H x))) has_rows

  pub lift_lacks : Lifted D (anti_rows w F G) (λ d. filter (λ x. empty (H (d ++ x))) (E d))
  lift_lacks = lift_by (λ x. not (some_of (alike w x) G)) (λ x. empty (H x)) (λ x b c. ap not (has_rows x b c) ∙ not_not (empty (H x)))

  pub lift_outer : (n : ℕ) → Lifted D (match_rows w F G ++ map (λ r. r ++ replicate n Null) (anti_rows w F G)) (λ d. flat_map (λ x. outer_rows n x (H (d ++ x))) (E d))
  lift_outer n g =
      W_append g (match_rows w F G) (map (λ r. r ++ replicate n Null) (anti_rows w F G))
      ∙ ap₂ ◌+◌ (W_joined g (λ x. map (λ y. x ++ drop w y) (filter (alike w x) G)) F)
      (W_map g (λ r. r ++ replicate n Null) (anti_rows w F G) ∙ W_kept (λ r. g (r ++ replicate n Null)) (λ x. not (some_of (alike w x) G)) F)
      ∙ sym (W_plus (λ x. W g (map (λ y. x ++ drop w y) (filter (alike w x) G))) (λ x. cond (not (some_of (alike w x) G)) (g (x ++ replicate n Null)) 0) F)
      ∙ over (λ x. W g (map (λ y. x ++ drop w y) (filter (alike w x) G)) + cond (not (some_of (alike w x) G)) (g (x ++ replicate n Null)) 0)
      (λ x. W g (outer_rows n x (H x)))
      (λ x p q. ap₂ ◌+◌ (match_at g x p q) (ap (λ v. cond (not v) (g (x ++ replicate n Null)) 0) (has_rows x p q)) ∙ joins x (H x))
      ∙ W_cong D (λ d.
      W_cong (E d) (λ x. apart d x (H (d ++ x)))
      ∙ sym (W_joined (λ r. g (d ++ r)) (λ x. outer_rows n x (H (d ++ x))) (E d)))
    where
      joins : (x : Row) (ys : List Row) → W (λ r. g (x ++ r)) ys + cond (not (not (empty ys))) (g (x ++ replicate n Null)) 0 ≡ W g (outer_rows n x ys)
      joins x [] = omega arith
      joins x (y ∷ ys) = omega (arith, W_map g (λ r. x ++ r) (y ∷ ys))

      apart : (d x : Row) (ys : List Row) → W g (outer_rows n (d ++ x) ys) ≡ W (λ r. g (d ++ r)) (outer_rows n x ys)
      apart d x [] = rw (append_assoc d x (replicate n Null))
      apart d x (y ∷ ys) =
          W_map g (λ r. (d ++ x) ++ r) (y ∷ ys)
          ∙ W_cong (y ∷ ys) (λ r. ap g (append_assoc d x r))
          ∙ sym (W_map (λ r. g (d ++ r)) (λ r. x ++ r) (y ∷ ys))

  -- three ways of adding a cell, by two tests
  abbrev three : (Row → Bool) → (Row → Bool) → Cell → Cell → List Row
  three A B won lost =
      (map (λ r. r ++ (won ∷ [])) (filter A F) ++ map (λ r. r ++ (Null ∷ [])) (filter B (filter (λ x. not (A x)) F)))
      ++ map (λ r. r ++ (lost ∷ [])) (filter (λ x. not (B x)) (filter (λ x. not (A x)) F))

  W_three : (A B : Row → Bool) (won lost : Cell) (g : Row → ℕ)
      → W g (three A B won lost) ≡ W (λ x. g (x ++ (cond (A x) won (cond (B x) Null lost) ∷ []))) F
  W_three A B won lost g =
      W_append g (map (λ r. r ++ (won ∷ [])) (filter A F) ++ map (λ r. r ++ (Null ∷ [])) (filter B (filter (λ x. not (A x)) F)))
      (map (λ r. r ++ (lost ∷ [])) (filter (λ x. not (B x)) (filter (λ x. not (A x)) F)))
      ∙ ap₂ ◌+◌
      (W_append g (map (λ r. r ++ (won ∷ [])) (filter A F)) (map (λ r. r ++ (Null ∷ [])) (filter B (filter (λ x. not (A x)) F)))
      ∙ ap₂ ◌+◌ (W_map g (λ r. r ++ (won ∷ [])) (filter A F) ∙ W_kept (λ r. g (r ++ (won ∷ []))) A F)
      (W_map g (λ r. r ++ (Null ∷ [])) (filter B (filter (λ x. not (A x)) F)) ∙ part B Null)
      ∙ sym (W_plus (λ x. cond (A x) (g (x ++ (won ∷ []))) 0) (λ x. cond (not (A x)) (cond (B x) (g (x ++ (Null ∷ []))) 0) 0) F))
      (W_map g (λ r. r ++ (lost ∷ [])) (filter (λ x. not (B x)) (filter (λ x. not (A x)) F)) ∙ part (λ x. not (B x)) lost)
      ∙ sym (W_plus (λ x. cond (A x) (g (x ++ (won ∷ []))) 0 + cond (not (A x)) (cond (B x) (g (x ++ (Null ∷ []))) 0) 0)
      (λ x. cond (not (A x)) (cond (not (B x)) (g (x ++ (lost ∷ []))) 0) 0) F)
      ∙ W_cong F (λ x. tri (A x) (B x) x)
    where
      part : (C : Row → Bool) (v : Cell) → W (λ r. g (r ++ (v ∷ []))) (filter C (filter (λ x. not (A x)) F)) ≡ W (λ x. cond (not (A x)) (cond (C x) (g (x ++ (v ∷ []))) 0) 0) F
      part C v = W_kept (λ r. g (r ++ (v ∷ []))) C (filter (λ x. not (A x)) F) ∙ W_kept (λ x. cond (C x) (g (x ++ (v ∷ []))) 0) (λ x. not (A x)) F

      tri : (p q : Bool) (x : Row)
          → cond p (g (x ++ (won ∷ []))) 0 + cond (not p) (cond q (g (x ++ (Null ∷ []))) 0) 0 + cond (not p) (cond (not q) (g (x ++ (lost ∷ []))) 0) 0
          ≡ g (x ++ (cond p won (cond q Null lost) ∷ []))
      tri true q x = omega arith
      tri false true x = omega arith
      tri false false x = omega arith

  pub lift_three : (A B : Row → Bool) (won lost : Cell) (t : Row → Cell)
      → ((x : Row) → length x ≡ w → count x (distinct_rows F) ≡ 1 → cond (A x) won (cond (B x) Null lost) ≡ t x)
      → Lifted D (three A B won lost) (λ d. map (λ x. x ++ (t (d ++ x) ∷ [])) (E d))
  lift_three A B won lost t h g =
      W_three A B won lost g
      ∙ over (λ x. g (x ++ (cond (A x) won (cond (B x) Null lost) ∷ []))) (λ x. g (x ++ (t x ∷ []))) (λ x p q. ap (λ v. g (x ++ (v ∷ []))) (h x p q))
      ∙ W_cong D (λ d.
      W_cong (E d) (λ x. ap g (append_assoc d x (t (d ++ x) ∷ [])))
      ∙ sym (W_map (λ r. g (d ++ r)) (λ x. x ++ (t (d ++ x) ∷ [])) (E d)))

  -- whether some right row of x passes a test of the long row
  pub passes : (p : Row → Bool) (x : Row) → length x ≡ w → count x (distinct_rows F) ≡ 1
      → some_of (alike w x) (filter p G) ≡ some_of (λ r. p (x ++ r)) (H x)
  passes p x b c =
      some_pick w (distinct_rows F) m (filter p G) (λ e. filter (λ r. p (e ++ r)) (H e))
      (lift_kept w (distinct_rows F) m G H k p (λ e r. p (e ++ r)) (λ d u v r. refl))
      x c (alike w x) (λ r. true) (λ e r h. alike_at w x e r b h)
      ∙ some_kept (λ r. p (x ++ r)) (H x)

-- Some and all, from the rows that pass

abbrev pub unknown_holds : Truth → Bool
unknown_holds v = holds (truth_of (is_unknown v))

pub some_is : (t : Row → Truth) (ys : List Row)
    → cond (some_of (λ r. holds (t r)) ys) (Number (pos 1)) (cond (some_of (λ r. unknown_holds (t r)) ys) Null (Number (pos 0))) ≡ as_cell (ors t ys)
some_is t [] = refl
some_is t (y ∷ ys) = go (t y) (some_of (λ r. holds (t r)) ys) (some_of (λ r. unknown_holds (t r)) ys) (ors t ys) (some_is t ys)
  where
    go : (v : Truth) (A B : Bool) (w : Truth) → cond A (Number (pos 1)) (cond B Null (Number (pos 0))) ≡ as_cell w
        → cond (holds v || A) (Number (pos 1)) (cond (unknown_holds v || B) Null (Number (pos 0))) ≡ as_cell (or3 v w)
    go True A B w e = refl
    go False A B w e = e
    go Unknown true B True e = refl
    go Unknown true B False e = cc
    go Unknown true B Unknown e = e
    go Unknown false true True e = e
    go Unknown false false True e = cc
    go Unknown false B False e = refl
    go Unknown false B Unknown e = refl

pub all_is : (t : Row → Truth) (ys : List Row)
    → cond (some_of (λ r. holds (not3 (t r))) ys) (Number (pos 0)) (cond (some_of (λ r. unknown_holds (t r)) ys) Null (Number (pos 1))) ≡ as_cell (ands t ys)
all_is t [] = refl
all_is t (y ∷ ys) = go (t y) (some_of (λ r. holds (not3 (t r))) ys) (some_of (λ r. unknown_holds (t r)) ys) (ands t ys) (all_is t ys)
  where
    go : (v : Truth) (A B : Bool) (w : Truth) → cond A (Number (pos 0)) (cond B Null (Number (pos 1))) ≡ as_cell w
        → cond (holds (not3 v) || A) (Number (pos 0)) (cond (unknown_holds v || B) Null (Number (pos 1))) ≡ as_cell (and3 v w)
    go False A B w e = refl
    go True A B w e = e
    go Unknown true B True e = cc
    go Unknown true B False e = refl
    go Unknown true B Unknown e = e
    go Unknown false true False e = e
    go Unknown false false False e = cc
    go Unknown false B True e = refl
    go Unknown false B Unknown e = refl

-- the comparison with column w is the one with the right row's cell
pub compared : (g : Sign) (k w : ℕ) (x r : Row) → length x ≡ w → k < w → compare_cells g (get_or (x ++ r) k Null) (get_or (x ++ r) w Null) ≡ against g (get_or x k Null) r
compared g k w x r e h = ap₂ (compare_cells g) (get_or_append_left x r Null k (omega arith)) (get_or-append_right x r w w Null e (omega arith) ∙ rw sub_self)
