-- Each kind of line, lifted.
use Rattle.std.proofs.Common.{◌≡◌, ℕ, ◌+◌, Bool, true, cond, not, ◌&&◌, List, [], ◌∷◌, ◌++◌, map, length, take, drop, filter, sym, refl, ap, ◌∙◌, ap₂, suc-add, zero-add, arith}
use mathlib.Core.Bool.{and-true}
use Rattle.std.specs.List.{AllByRecursion}
use Rattle.std.proofs.lemmas.List.{append_assoc, take_at, take_all}
use Rattle.std.proofs.ByRecursion.{All-weaker}
use Rattle.cells.specs.Cells.{Row, same_row}
use Rattle.lines.specs.Ops.{count, some_of, alike, match_rows, semi_rows, anti_rows}
use Rattle.lines.specs.Trees.{empty}
use Rattle.lines.proofs.Weights.{W, W_cong, W_append, W_map, W_kept, W_joined, W_plus, all_of}
use Rattle.lines.proofs.Sameness.{same_split}
use Rattle.unnest.proofs.Lifts.{Dom, Lifted, core, core', pick, some_pick}

pub take_under : {A : Type 0} (d l : List A) (c n : ℕ) → length d ≡ c → take (c + n) (d ++ l) ≡ d ++ take n l
take_under [] l c n e = rw (← e, zero-add)
take_under (x ∷ d) l c n e = rw (← e, suc-add) (ap (λ v. x ∷ v) (take_under d l (length d) n refl))

pub drop_under : {A : Type 0} (d l : List A) (c n : ℕ) → length d ≡ c → drop (c + n) (d ++ l) ≡ drop n l
drop_under [] l c n e = rw (← e, zero-add)
drop_under (x ∷ d) l c n e = rw (← e, suc-add) (drop_under d l (length d) n refl)

pub alike_under : (c n : ℕ) (d e l r : Row) → length d ≡ c → length e ≡ c → alike (c + n) (d ++ l) (e ++ r) ≡ (same_row d e && alike n l r)
alike_under c n d e l r p q = ap₂ same_row (take_under d l c n p) (take_under e r c n q) ∙ same_split d e (take n l) (take n r) (p ∙ sym q)

pub alike_at : (c : ℕ) (d e r : Row) → length d ≡ c → length e ≡ c → alike c d (e ++ r) ≡ (same_row d e && true)
alike_at c d e r p q = ap₂ same_row (take_all c d (omega arith)) (take_at e r c q) ∙ sym (and-true (same_row d e))

pub some_any : (xs : List Row) → some_of (λ x. true) xs ≡ not (empty xs)
some_any [] = refl
some_any (x ∷ xs) = refl

module _ (c : ℕ) (D : List Row) (m : Dom c D) (F : List Row) (E : Row → List Row) (l : Lifted D F E) where
  pub lift_map : (h : Row → Row) (k : Row → Row → Row) → ((d : Row) → length d ≡ c → count d D ≡ 1 → AllByRecursion (λ r. h (d ++ r) ≡ d ++ k d r) (E d))
      → Lifted D (map h F) (λ d. map (k d) (E d))
  lift_map h k e g =
      W_map g h F
      ∙ core c D m F E l (λ y. g (h y)) (λ d r. g (d ++ k d r))
      (λ d a b. All-weaker (λ r. h (d ++ r) ≡ d ++ k d r) (λ r. g (h (d ++ r)) ≡ g (d ++ k d r)) (λ r. ap g) (E d) (e d a b))
      ∙ sym (W_cong D (λ d. W_map (λ r. g (d ++ r)) (k d) (E d)))

  pub lift_map' : (h : Row → Row) (k : Row → Row → Row) → ((d : Row) → length d ≡ c → count d D ≡ 1 → (r : Row) → h (d ++ r) ≡ d ++ k d r)
      → Lifted D (map h F) (λ d. map (k d) (E d))
  lift_map' h k e = lift_map h k (λ d a b. all_of (E d) (e d a b))

  pub lift_kept : (p : Row → Bool) (q : Row → Row → Bool) → ((d : Row) → length d ≡ c → count d D ≡ 1 → (r : Row) → p (d ++ r) ≡ q d r)
      → Lifted D (filter p F) (λ d. filter (q d) (E d))
  lift_kept p q e g =
      W_kept g p F
      ∙ core' c D m F E l (λ y. cond (p y) (g y) 0) (λ d r. cond (q d r) (g (d ++ r)) 0) (λ d a b r. ap (λ v. cond v (g (d ++ r)) 0) (e d a b r))
      ∙ sym (W_cong D (λ d. W_kept (λ r. g (d ++ r)) (q d) (E d)))

  module _ (G : List Row) (H : Row → List Row) (k : Lifted D G H) where
    pub lift_union : Lifted D (F ++ G) (λ d. E d ++ H d)
    lift_union g =
        W_append g F G ∙ ap₂ ◌+◌ (l g) (k g)
        ∙ sym (W_plus (λ d. W (λ r. g (d ++ r)) (E d)) (λ d. W (λ r. g (d ++ r)) (H d)) D)
        ∙ sym (W_cong D (λ d. W_append (λ r. g (d ++ r)) (E d) (H d)))

    pub lift_match : (n : ℕ) → Lifted D (match_rows (c + n) F G) (λ d. match_rows n (E d) (H d))
    lift_match n g =
        W_joined g (λ x. map (λ y. x ++ drop (c + n) y) (filter (alike (c + n) x) G)) F
        ∙ core' c D m F E l (λ x. W g (map (λ y. x ++ drop (c + n) y) (filter (alike (c + n) x) G)))
        (λ d x. W (λ y. g (d ++ y)) (map (λ y. x ++ drop n y) (filter (alike n x) (H d))))
        (λ d a b x.
        W_map g (λ y. (d ++ x) ++ drop (c + n) y) (filter (alike (c + n) (d ++ x)) G)
        ∙ W_kept (λ y. g ((d ++ x) ++ drop (c + n) y)) (alike (c + n) (d ++ x)) G
        ∙ pick c D m G H k d b (alike (c + n) (d ++ x)) (alike n x) (λ e r q. alike_under c n d e x r a q) (λ y. g ((d ++ x) ++ drop (c + n) y))
        ∙ W_cong (H d) (λ r. ap (λ v. cond (alike n x r) (g v) 0) (ap (λ v. (d ++ x) ++ v) (drop_under d r c n a) ∙ append_assoc d x (drop n r)))
        ∙ sym (W_kept (λ y. g (d ++ (x ++ drop n y))) (alike n x) (H d))
        ∙ sym (W_map (λ y. g (d ++ y)) (λ y. x ++ drop n y) (filter (alike n x) (H d))))
        ∙ sym (W_cong D (λ d. W_joined (λ y. g (d ++ y)) (λ x. map (λ y. x ++ drop n y) (filter (alike n x) (H d))) (E d)))

    partner : (n : ℕ) (d : Row) → length d ≡ c → count d D ≡ 1 → (x : Row) → some_of (alike (c + n) (d ++ x)) G ≡ some_of (alike n x) (H d)
    partner n d a b x = some_pick c D m G H k d b (alike (c + n) (d ++ x)) (alike n x) (λ e r q. alike_under c n d e x r a q)

    pub lift_semi : (n : ℕ) → Lifted D (semi_rows (c + n) F G) (λ d. semi_rows n (E d) (H d))
    lift_semi n = lift_kept (λ x. some_of (alike (c + n) x) G) (λ d x. some_of (alike n x) (H d)) (partner n)

    pub lift_anti : (n : ℕ) → Lifted D (anti_rows (c + n) F G) (λ d. anti_rows n (E d) (H d))
    lift_anti n = lift_kept (λ x. not (some_of (alike (c + n) x) G)) (λ d x. not (some_of (alike n x) (H d))) (λ d a b x. ap not (partner n d a b x))
