-- A flat line's rows against the rows of a line in each context of a domain.
use Rattle.std.proofs.Common.{◌≡◌, ℕ, ◌+◌, ◌-◌, ◌*◌, Bool, true, false, cond, ◌&&◌, ◌||◌, ◌⊎◌, List, [], ◌∷◌, ◌++◌, map, length, take, drop, sym, refl, ap, ◌∙◌, ap₂, inl, inr, one-mul, zero-mul, arith}
use Rattle.std.specs.List.{flat_map, AllByRecursion}
use Rattle.cells.specs.Cells.{Row, same_row, same_cell}
use Rattle.lines.specs.Ops.{count, some_of, distinct_rows, diff_rows}
use Rattle.lines.proofs.Counts.{one, count_distinct, count_diff}
use Rattle.lines.proofs.Weights.{W, W_all, W_cong, W_map, W_joined, W_cond, cond_and, count_W, all_of, positive, positive_false, some_count, bag_from, some_W}
use Rattle.lines.proofs.Sameness.{same_eq}

-- the domain: each row once, all of c columns
pub record Dom (c : ℕ) (D : List Row) : Type 0 where
  pub long : AllByRecursion (λ d. length d ≡ c) D
  pub once : AllByRecursion (λ d. count d D ≡ 1) D

-- F has, for each d of D, d with each row of E d
abbrev pub Lifted : List Row → List Row → (Row → List Row) → Type 0
Lifted D F E = (g : Row → ℕ) → W g F ≡ W (λ d. W (λ r. g (d ++ r)) (E d)) D

pub both : {P Q R : Row → Type 0} (xs : List Row) → ((x : Row) → P x → Q x → R x) → AllByRecursion P xs → AllByRecursion Q xs → AllByRecursion R xs
both [] h a b = tt
both (x ∷ xs) h a b = (h x a.0 b.0, both xs h a.1 b.1)

module _ (c : ℕ) (D : List Row) (m : Dom c D) where
  pub in_dom : (f g : Row → ℕ) → ((d : Row) → length d ≡ c → count d D ≡ 1 → f d ≡ g d) → W f D ≡ W g D
  in_dom f g h = W_all f g D (both {P = λ d. length d ≡ c} {Q = λ d. count d D ≡ 1} {R = λ d. f d ≡ g d} D h m.long m.once)

-- the part of a sum that one row makes
pub W_times : (d : Row) (φ : Row → ℕ) (xs : List Row) → W (λ x. cond (same_row d x) (φ x) 0) xs ≡ count d xs * φ d
W_times d φ [] = omega arith
W_times d φ (x ∷ xs) = go (same_row d x) refl (W_times d φ xs)
  where
    go : (b : Bool) → same_row d x ≡ b → W (λ y. cond (same_row d y) (φ y) 0) xs ≡ count d xs * φ d
        → cond b (φ x) 0 + W (λ y. cond (same_row d y) (φ y) 0) xs ≡ (cond b 1 0 + count d xs) * φ d
    go true e ih = let k = ap φ (same_eq d x e) in omega arith
    go false e ih = omega arith

pub W_once : (d : Row) (φ : Row → ℕ) (xs : List Row) → count d xs ≡ 1 → W (λ x. cond (same_row d x) (φ x) 0) xs ≡ φ d
W_once d φ xs h = W_times d φ xs ∙ rw h (omega arith)

module _ (c : ℕ) (D : List Row) (m : Dom c D) (F : List Row) (E : Row → List Row) (l : Lifted D F E) where
  -- a sum over the flat rows is a sum over the contexts
  pub core : (φ : Row → ℕ) (ψ : Row → Row → ℕ) → ((d : Row) → length d ≡ c → count d D ≡ 1 → AllByRecursion (λ r. φ (d ++ r) ≡ ψ d r) (E d))
      → W φ F ≡ W (λ d. W (ψ d) (E d)) D
  core φ ψ h = l φ ∙ in_dom c D m (λ d. W (λ r. φ (d ++ r)) (E d)) (λ d. W (ψ d) (E d)) (λ d a b. W_all (λ r. φ (d ++ r)) (ψ d) (E d) (h d a b))

  pub core' : (φ : Row → ℕ) (ψ : Row → Row → ℕ) → ((d : Row) → length d ≡ c → count d D ≡ 1 → (r : Row) → φ (d ++ r) ≡ ψ d r)
      → W φ F ≡ W (λ d. W (ψ d) (E d)) D
  core' φ ψ h = core φ ψ (λ d a b. all_of (E d) (h d a b))

  -- the flat rows that belong to one context
  pub pick : (d : Row) → count d D ≡ 1 → (test q : Row → Bool) → ((e r : Row) → length e ≡ c → test (e ++ r) ≡ (same_row d e && q r)) → (h : Row → ℕ)
      → W (λ y. cond (test y) (h y) 0) F ≡ W (λ r. cond (q r) (h (d ++ r)) 0) (E d)
  pick d k test q t h =
      core' (λ y. cond (test y) (h y) 0) (λ e r. cond (same_row d e) (cond (q r) (h (e ++ r)) 0) 0)
      (λ e a b r. ap (λ v. cond v (h (e ++ r)) 0) (t e r a) ∙ cond_and (same_row d e) (q r) (h (e ++ r)) 0)
      ∙ W_cong D (λ e. W_cond (same_row d e) (λ r. cond (q r) (h (e ++ r)) 0) (E e))
      ∙ W_once d (λ e. W (λ r. cond (q r) (h (e ++ r)) 0) (E e)) D k

  pub some_pick : (d : Row) → count d D ≡ 1 → (test q : Row → Bool) → ((e r : Row) → length e ≡ c → test (e ++ r) ≡ (same_row d e && q r))
      → some_of test F ≡ some_of q (E d)
  some_pick d k test q t = some_W test F ∙ ap positive (pick d k test q t (λ y. 1)) ∙ sym (some_W q (E d))

-- the rows that a domain and the rows in each context give
abbrev pub lift : List Row → (Row → List Row) → List Row
lift D E = flat_map (λ d. map (λ r. d ++ r) (E d)) D

pub lifted_lift : (D : List Row) (E : Row → List Row) → Lifted D (lift D E) E
lifted_lift D E g = W_joined g (λ d. map (λ r. d ++ r) (E d)) D ∙ W_cong D (λ d. W_map g (λ r. d ++ r) (E d))

pub same_cut : (x d r : Row) → same_row x (d ++ r) ≡ (same_row (take (length d) x) d && same_row (drop (length d) x) r)
same_cut x [] r = refl
same_cut [] (e ∷ d) r = refl
same_cut (y ∷ x) (e ∷ d) r =
    elim (same_cell y e) as (λ t. (t && same_row x (d ++ r)) ≡ ((t && same_row (take (length d) x) d) && same_row (drop (length d) x) r))
    [ true ↦ same_cut x d r | false ↦ refl ]

pub few : (c : ℕ) (D : List Row) → Dom c D → (x : Row) → (count x D ≡ 0) ⊎ (count x D ≡ 1)
few c D m x = go (positive (count x D)) refl
  where
    at : (ys : List Row) → AllByRecursion (λ d. count d D ≡ 1) ys → some_of (same_row x) ys ≡ true → count x D ≡ 1
    at [] a h = cc
    at (y ∷ ys) a h = on (same_row x y) refl h (at ys a.1)
      where
        on : (b : Bool) → same_row x y ≡ b → (b || some_of (same_row x) ys) ≡ true → (some_of (same_row x) ys ≡ true → count x D ≡ 1) → count x D ≡ 1
        on true e h k = ap (λ v. count v D) (same_eq x y e) ∙ a.0
        on false e h k = k h

    go : (b : Bool) → positive (count x D) ≡ b → (count x D ≡ 0) ⊎ (count x D ≡ 1)
    go false e = inl (positive_false (count x D) e)
    go true e = inr (at D m.once (some_count x D ∙ e))

module _ (c : ℕ) (D : List Row) (m : Dom c D) where
  pub lift_count : (F : List Row) (E : Row → List Row) → Lifted D F E → (x : Row) → count x F ≡ count (take c x) D * count (drop c x) (E (take c x))
  lift_count F E l x =
      count_W x F
      ∙ core' c D m F E l (λ y. cond (same_row x y) 1 0) (λ d r. cond (same_row (take c x) d) (cond (same_row (drop c x) r) 1 0) 0)
      (λ d a b r. ap (λ v. cond v 1 0) (rw (← a) (same_cut x d r)) ∙ cond_and (same_row (take c x) d) (same_row (drop c x) r) 1 0)
      ∙ W_cong D (λ d. W_cond (same_row (take c x) d) (λ r. cond (same_row (drop c x) r) 1 0) (E d))
      ∙ W_times (take c x) (λ d. W (λ r. cond (same_row (drop c x) r) 1 0) (E d)) D
      ∙ ap (λ v. count (take c x) D * v) (sym (count_W (drop c x) (E (take c x))))

  pub from_counts : (F : List Row) (E : Row → List Row) → ((x : Row) → count x F ≡ count (take c x) D * count (drop c x) (E (take c x))) → Lifted D F E
  from_counts F E h g =
      bag_from F (lift D E) (λ x. h x ∙ sym (lift_count (lift D E) E (lifted_lift D E) x)) g ∙ lifted_lift D E g

  pub lift_distinct : (F : List Row) (E : Row → List Row) → Lifted D F E → Lifted D (distinct_rows F) (λ d. distinct_rows (E d))
  lift_distinct F E l = from_counts (distinct_rows F) (λ d. distinct_rows (E d)) (λ x. count_distinct x F ∙ ap one (lift_count F E l x) ∙ go x (few c D m (take c x)))
    where
      go : (x : Row) → (count (take c x) D ≡ 0) ⊎ (count (take c x) D ≡ 1)
          → one (count (take c x) D * count (drop c x) (E (take c x))) ≡ count (take c x) D * count (drop c x) (distinct_rows (E (take c x)))
      go x (inl e) = rw (e, zero-mul, zero-mul)
      go x (inr e) = rw (e, one-mul, one-mul) (sym (count_distinct (drop c x) (E (take c x))))

  pub lift_diff : (F G : List Row) (E H : Row → List Row) → Lifted D F E → Lifted D G H → Lifted D (diff_rows F G) (λ d. diff_rows (E d) (H d))
  lift_diff F G E H l k = from_counts (diff_rows F G) (λ d. diff_rows (E d) (H d)) (λ x. count_diff x F G ∙ ap₂ ◌-◌ (lift_count F E l x) (lift_count G H k x) ∙ go x (few c D m (take c x)))
    where
      go : (x : Row) → (count (take c x) D ≡ 0) ⊎ (count (take c x) D ≡ 1)
          → count (take c x) D * count (drop c x) (E (take c x)) - count (take c x) D * count (drop c x) (H (take c x)) ≡ count (take c x) D * count (drop c x) (diff_rows (E (take c x)) (H (take c x)))
      go x (inl e) = rw (e, zero-mul, zero-mul, zero-mul)
      go x (inr e) = rw (e, one-mul, one-mul, one-mul) (sym (count_diff (drop c x) (E (take c x)) (H (take c x))))
