-- Group and Total, lifted.
use Rattle.std.proofs.Common.{◌≡◌, ℕ, ◌+◌, Bool, true, false, cond, not, List, [], ◌∷◌, ◌++◌, map, length, take, filter, sym, refl, ap, ◌∙◌, subst, ap₂, add-zero, arith}
use Rattle.std.proofs.lemmas.List.{append_assoc}
use Rattle.cells.specs.Cells.{Row, same_row}
use Rattle.lines.specs.Ops.{count, some_of, distinct_rows, alike, anti_rows, folded, group_rows, none_of}
use Rattle.lines.specs.Trees.{empty}
use Rattle.lines.specs.declared.line.Aggregate.{Aggregate}
use Rattle.lines.proofs.Weights.{W, W_cong, W_append, W_map, W_kept, W_plus, Bag}
use Rattle.lines.proofs.Sameness.{same_split}
use Rattle.unnest.proofs.Lifts.{Dom, Lifted, in_dom, pick, some_pick, lift_distinct}
use Rattle.lines.proofs.Joins.{kept_all}
use Rattle.unnest.proofs.Raise.{take_under, alike_at, some_any, lift_map'}
use Rattle.lines.proofs.Folds.{folded_bag}

nils : (xs : List Row) → filter (λ z. not (same_row [] z)) (distinct_rows (map (take 0) xs)) ≡ []
nils [] = refl
nils (x ∷ xs) = rw (nils xs)

-- of no columns, all rows are one group
group_none : (f : Aggregate) (k : ℕ) (d : Row) (xs : List Row)
    → group_rows 0 f k d xs ≡ cond (empty xs) [] ((folded f k (map (λ r. d ++ r) xs) ∷ []) ∷ [])
group_none f k d [] = refl
group_none f k d (x ∷ xs) = rw (nils xs, kept_all xs)

module _ (c : ℕ) (D : List Row) (m : Dom c D) (F : List Row) (E : Row → List Row) (l : Lifted D F E) where
  keys : (n : ℕ) → Lifted D (distinct_rows (map (take (c + n)) F)) (λ d. distinct_rows (map (take n) (E d)))
  keys n =
      lift_distinct c D m (map (take (c + n)) F) (λ d. map (take n) (E d))
      (lift_map' c D m F E l (take (c + n)) (λ d. take n) (λ d a b r. take_under d r c n a))

  -- the rows of one group
  members : (n : ℕ) (d : Row) → length d ≡ c → count d D ≡ 1 → (key : Row)
      → Bag (map (λ r. r) (filter (λ y. same_row (d ++ key) (take (c + n) y)) F)) (map (λ r. d ++ r) (filter (λ r. same_row key (take n r)) (E d)))
  members n d a b key g =
      W_map g (λ r. r) (filter (λ y. same_row (d ++ key) (take (c + n) y)) F)
      ∙ W_kept g (λ y. same_row (d ++ key) (take (c + n) y)) F
      ∙ pick c D m F E l d b (λ y. same_row (d ++ key) (take (c + n) y)) (λ r. same_row key (take n r))
      (λ e r q. ap (same_row (d ++ key)) (take_under e r c n q) ∙ same_split d e key (take n r) (a ∙ sym q)) g
      ∙ sym (W_kept (λ r. g (d ++ r)) (λ r. same_row key (take n r)) (E d))
      ∙ sym (W_map g (λ r. d ++ r) (filter (λ r. same_row key (take n r)) (E d)))

  pub lift_group : (n : ℕ) (f : Aggregate) (k : ℕ) → Lifted D (group_rows (c + n) f k [] F) (λ d. group_rows n f k d (E d))
  lift_group n f k =
      lift_map' c D m (distinct_rows (map (take (c + n)) F)) (λ d. distinct_rows (map (take n) (E d))) (keys n)
      (λ key. key ++ (folded f k (map (λ r. r) (filter (λ y. same_row key (take (c + n) y)) F)) ∷ []))
      (λ d key. key ++ (folded f k (map (λ r. d ++ r) (filter (λ r. same_row key (take n r)) (E d))) ∷ []))
      (λ d a b key.
      ap (λ v. (d ++ key) ++ (v ∷ []))
      (folded_bag f k (map (λ r. r) (filter (λ y. same_row (d ++ key) (take (c + n) y)) F)) (map (λ r. d ++ r) (filter (λ r. same_row key (take n r)) (E d)))
      (members n d a b key))
      ∙ append_assoc d key (folded f k (map (λ r. d ++ r) (filter (λ r. same_row key (take n r)) (E d))) ∷ []))

  -- which contexts have rows
  has_rows : (d : Row) → length d ≡ c → count d D ≡ 1 → some_of (alike c d) F ≡ not (empty (E d))
  has_rows d a b = some_pick c D m F E l d b (alike c d) (λ r. true) (λ e r q. alike_at c d e r a q) ∙ some_any (E d)

  pub lift_total : (f : Aggregate) (k : ℕ)
      → Lifted D (group_rows c f k [] F ++ map (λ r. r ++ (none_of f ∷ [])) (anti_rows c D F)) (λ d. (folded f k (map (λ r. d ++ r) (E d)) ∷ []) ∷ [])
  lift_total f k g =
      W_append g (group_rows c f k [] F) (map (λ r. r ++ (none_of f ∷ [])) (anti_rows c D F))
      ∙ ap₂ ◌+◌ grouped others
      ∙ sym (W_plus (λ d. W (λ r. g (d ++ r)) (group_rows 0 f k d (E d))) (λ d. cond (empty (E d)) (g (d ++ (none_of f ∷ []))) 0) D)
      ∙ W_cong D (λ d. ap (λ v. W (λ r. g (d ++ r)) v + cond (empty (E d)) (g (d ++ (none_of f ∷ []))) 0) (group_none f k d (E d)) ∙ joins d (E d))
    where
      grouped : W g (group_rows c f k [] F) ≡ W (λ d. W (λ r. g (d ++ r)) (group_rows 0 f k d (E d))) D
      grouped = subst (λ n. W g (group_rows n f k [] F) ≡ W (λ d. W (λ r. g (d ++ r)) (group_rows 0 f k d (E d))) D) (add-zero c) (lift_group 0 f k g)

      others : W g (map (λ r. r ++ (none_of f ∷ [])) (anti_rows c D F)) ≡ W (λ d. cond (empty (E d)) (g (d ++ (none_of f ∷ []))) 0) D
      others =
          W_map g (λ r. r ++ (none_of f ∷ [])) (anti_rows c D F)
          ∙ W_kept (λ r. g (r ++ (none_of f ∷ []))) (λ x. not (some_of (alike c x) F)) D
          ∙ in_dom c D m (λ x. cond (not (some_of (alike c x) F)) (g (x ++ (none_of f ∷ []))) 0) (λ d. cond (empty (E d)) (g (d ++ (none_of f ∷ []))) 0)
          (λ d a b. ap (λ v. cond (not v) (g (d ++ (none_of f ∷ []))) 0) (has_rows d a b) ∙ twice (empty (E d)) (g (d ++ (none_of f ∷ []))))
        where
          twice : (b : Bool) (n : ℕ) → cond (not (not b)) n 0 ≡ cond b n 0
          twice true n = refl
          twice false n = refl

      joins : (d : Row) (xs : List Row)
          → W (λ r. g (d ++ r)) (cond (empty xs) [] ((folded f k (map (λ r. d ++ r) xs) ∷ []) ∷ [])) + cond (empty xs) (g (d ++ (none_of f ∷ []))) 0
          ≡ g (d ++ (folded f k (map (λ r. d ++ r) xs) ∷ [])) + 0
      joins d [] = omega arith
      joins d (x ∷ xs) = omega arith
