-- Columns that come from no sum hold numbers of the stored range.
use Rattle.std.proofs.Common.{◌≡◌, ℕ, zero, suc, ◌-◌, ◌*◌, ◌<◌, ◌≤◌, Bool, true, false, cond, List, [], ◌∷◌, ◌++◌, map, length, get_or, take, drop, replicate, ℤ, pos, negsuc, ◌+ℤ◌, ◌≤ℤ◌, filter, sym, refl, ap, ◌∙◌, subst, arith}
use Rattle.std.specs.List.{AllByRecursion}
use Rattle.std.proofs.lemmas.List.{length-map, length-replicate}
use Rattle.std.proofs.ByRecursion.{All-append, All-weaker, all_kept_by, All-map}
use Rattle.std.proofs.lemmas.Bool.{or_parts, and_parts, ltb-true}
use Rattle.std.proofs.lemmas.Int.{ints}
use Rattle.lines.specs.declared.line.Aggregate.{Aggregate}
use Rattle.query.specs.Stored.{Calm, InStore, Kept, Moderate, Adds, SumsStored, StoredLaw}
use Rattle.lines.specs.declared.line.Side.TheVariants.{Column, Constant}
use Rattle.lines.specs.Marks.{Marks, SideIn, Sound, either_mark, fold_from, mark_of, own, summed}
use Rattle.cells.specs.declared.cell.Cell.{Cell}
use Rattle.cells.specs.declared.cell.Cell.TheVariants.{Null, Number}
use Rattle.stock.specs.Tables.{Table, Lawful, LawfulRow, widths, width_of, rows_at, every}
use Rattle.lines.specs.declared.line.Aggregate.TheVariants.{Rows, Filled, Sum, Least, Greatest}
use Rattle.cells.specs.Cells.{Row, same_row, stored}
use Rattle.lines.specs.declared.line.Side.{Side}
use Rattle.lines.specs.Trees.{Tree, all, anti, anti_match, cross, diff, distinct, extend, extend_truth, group, keep, match, outer, outer_rows, pad, rows, select, semi, semi_match, side_at, some, table, total, union, unit, width}
use Rattle.lines.specs.Ops.{distinct_rows, folded, plus_cell}
use Rattle.lines.proofs.Widths.{all_distinct, all_diff}
use Rattle.query.proofs.Keeping.{truth_in_store, all_joined, all_both, fold_in_store}
use Rattle.lines.proofs.Soundness.{own_length}
use Rattle.query.proofs.Tabling.{width_is, count_is, lawful_at}

pub kept_append : (m n : Marks) (r s : Row) → Kept m r → Kept n s → Kept (m ++ n) (r ++ s)
kept_append [] n [] s a b = b
kept_append [] n (c ∷ r) s a b = absurd a
kept_append (x ∷ m) n [] s a b = absurd a
kept_append (x ∷ m) n (c ∷ r) s a b = (a.0, kept_append m n r s a.1 b)

kept_take : (n : ℕ) (m : Marks) (r : Row) → Kept m r → Kept (take n m) (take n r)
kept_take zero m r a = tt
kept_take (suc n) [] [] a = tt
kept_take (suc n) [] (c ∷ r) a = absurd a
kept_take (suc n) (x ∷ m) [] a = absurd a
kept_take (suc n) (x ∷ m) (c ∷ r) a = (a.0, kept_take n m r a.1)

kept_drop : (n : ℕ) (m : Marks) (r : Row) → Kept m r → Kept (drop n m) (drop n r)
kept_drop zero m r a = a
kept_drop (suc n) [] [] a = tt
kept_drop (suc n) [] (c ∷ r) a = absurd a
kept_drop (suc n) (x ∷ m) [] a = absurd a
kept_drop (suc n) (x ∷ m) (c ∷ r) a = kept_drop n m r a.1

kept_length : (m : Marks) (r : Row) → Kept m r → length r ≡ length m
kept_length [] [] a = refl
kept_length [] (c ∷ r) a = absurd a
kept_length (x ∷ m) [] a = absurd a
kept_length (x ∷ m) (c ∷ r) a = ap suc (kept_length m r a.1)

kept_stored : (w : ℕ) (r : Row) → length r ≡ w → AllByRecursion InStore r → Kept (replicate w false) r
kept_stored zero [] e a = tt
kept_stored zero (c ∷ r) e a = absurd (omega arith)
kept_stored (suc w) [] e a = absurd (omega arith)
kept_stored (suc w) (c ∷ r) e a = (λ z. a.0, kept_stored w r (omega arith) a.1)

kept_nulls : (m : Marks) (w : ℕ) → length m ≡ w → Kept m (replicate w Null)
kept_nulls [] zero e = tt
kept_nulls [] (suc w) e = absurd (omega arith)
kept_nulls (x ∷ m) zero e = absurd (omega arith)
kept_nulls (x ∷ m) (suc w) e = (λ z. refl, kept_nulls m w (omega arith))

nulls : (m : ℕ) → AllByRecursion InStore (replicate m Null)
nulls zero = tt
nulls (suc m) = (refl, nulls m)

kept_left : (m n : Marks) (r : Row) → Kept m r → Kept (either_mark m n) r
kept_left [] n r a = a
kept_left (x ∷ m) [] r a = a
kept_left (x ∷ m) (y ∷ n) [] a = absurd a
kept_left (x ∷ m) (y ∷ n) (c ∷ r) a = (λ z. a.0 (or_parts x y z).0, kept_left m n r a.1)

kept_right : (m n : Marks) (r : Row) → length m ≡ length n → Kept n r → Kept (either_mark m n) r
kept_right [] [] r e a = a
kept_right [] (y ∷ n) r e a = absurd (omega arith)
kept_right (x ∷ m) [] r e a = absurd (omega arith)
kept_right (x ∷ m) (y ∷ n) [] e a = absurd a
kept_right (x ∷ m) (y ∷ n) (c ∷ r) e a = (λ z. a.0 (or_parts x y z).1, kept_right m n r (omega arith) a.1)

pub kept_at : (m : Marks) (r : Row) (k : ℕ) → Kept m r → get_or m k false ≡ false → InStore (get_or r k Null)
kept_at [] [] k a z = refl
kept_at [] (c ∷ r) k a z = absurd a
kept_at (x ∷ m) [] k a z = absurd a
kept_at (x ∷ m) (c ∷ r) zero a z = a.0 z
kept_at (x ∷ m) (c ∷ r) (suc k) a z = kept_at m r k a.1 z

kept_side : (n : ℕ) (v : Side) (m : Marks) (r : Row) → Kept m r → SideIn n v → mark_of v m ≡ false → InStore (side_at v r)
kept_side n (Column k) m r a h z = kept_at m r k a z
kept_side n (Constant u) m r a h z = h

few_kept : {X : Type 0} {N : ℕ} (p : X → Bool) (xs : List X) → length xs ≤ N → length (filter p xs) ≤ N
few_kept {N = N} p xs h = omega (arith, go xs)
  where
    go : (xs : List _) → length (filter p xs) ≤ length xs
    go [] = omega arith
    go (x ∷ xs) = elim (p x) as (λ b. length (cond b (x ∷ filter p xs) (filter p xs)) ≤ length (x ∷ xs)) [ true ↦ omega (arith, go xs) | false ↦ omega (arith, go xs) ]

every_all : (r : Row) → every stored r ≡ true → AllByRecursion InStore r
every_all [] e = tt
every_all (c ∷ r) e = let f = and_parts (stored c) (every stored r) e in (f.0, every_all r f.1)

-- how large a sum can get
stored_range : (w : ℤ) → stored (Number w) ≡ true → (pos 0 ≤ℤ (w +ℤ pos 2147483648)) × (w ≤ℤ pos 2147483648)
stored_range (pos a) e = let h : a < 2147483648 = ltb-true a 2147483648 e in (omega (arith, ints, h), omega (arith, ints, h))
stored_range (negsuc a) e = let h : a < 2147483648 = ltb-true a 2147483648 e in (omega (arith, ints, h), omega (arith, ints, h))

abbrev Bounded : ℕ → ℤ → Type 0
Bounded n z = (pos 0 ≤ℤ (z +ℤ pos (n * 2147483648))) × (z ≤ℤ pos (n * 2147483648))

step_bound : (c : Cell) → InStore c → (n : ℕ) (z : ℤ) → Bounded n z → (a : Cell) → a ≡ Number z → (y : ℤ) × (plus_cell c a ≡ Number y) × Bounded (suc n) y
step_bound Null h n z b a e = (z, e, (omega (arith, ints, b.0), omega (arith, ints, b.1)))
step_bound (Number w) h n z b a e = let r = stored_range w h in (w +ℤ z, rw e refl, (omega (arith, ints, b.0, r.0), omega (arith, ints, b.1, r.1)))

bounded : (k : ℕ) (xs : List Row) → AllByRecursion (λ x. InStore (get_or x k Null)) xs → (z : ℤ) × (folded Sum k xs ≡ Number z) × Bounded (length xs) z
bounded k [] a = (pos 0, refl, (omega (arith, ints), omega (arith, ints)))
bounded k (x ∷ xs) a =
    let b = bounded k xs a.1 in
    step_bound (get_or x k Null) a.0 (length xs) b.0 b.2 (folded Sum k xs) b.1

moderate : (k : ℕ) (xs : List Row) → length xs ≤ 65536 → AllByRecursion (λ x. InStore (get_or x k Null)) xs → Moderate (folded Sum k xs)
moderate k xs h a =
    let b = bounded k xs a in
    let n = b.2 in
    subst Moderate (sym b.1) (omega (arith, ints, n.0, h), omega (arith, ints, n.1, h))

added : (f : Aggregate) (k : ℕ) (d m : Marks) (x : Row) (ys : List Row) → summed f (get_or (d ++ m) k false) ≡ false → Kept d x → AllByRecursion (Kept m) ys → length ys ≤ 65536 → Adds f k x ys
added Rows k d m x ys z kd K h = tt
added Filled k d m x ys z kd K h = tt
added Least k d m x ys z kd K h = tt
added Greatest k d m x ys z kd K h = tt
added Sum k d m x ys z kd K h =
    let a : AllByRecursion (λ r. InStore (get_or (x ++ r) k Null)) ys = All-weaker (Kept m) (λ r. InStore (get_or (x ++ r) k Null)) (λ r u. kept_at (d ++ m) (x ++ r) k (kept_append d m x r kd u) z) ys K in (
      a,
      moderate k (map (λ r. x ++ r) ys) (rw (length-map ys (λ r. x ++ r)) h) (All-map (λ v. InStore (get_or v k Null)) (λ r. x ++ r) ys a),
      λ p. moderate k (map (λ r. x ++ r) (filter p ys)) (rw (length-map (filter p ys) (λ r. x ++ r)) (few_kept p ys h))
          (All-map (λ v. InStore (get_or v k Null)) (λ r. x ++ r) (filter p ys) (all_kept_by p (λ r. InStore (get_or (x ++ r) k Null)) ys a)),
    )

module _ (s : List Table) (L : Lawful s) where
  abbrev ws : List ℕ
  ws = widths s

  fold_kept : (f : Aggregate) (k : ℕ) (d m : Marks) (x : Row) (ys : List Row) → Kept d x → length ys ≤ 65536 → AllByRecursion (Kept m) ys → fold_from f (get_or (d ++ m) k false) ≡ false → InStore (folded f k (map (λ r. x ++ r) ys))
  fold_kept f k d m x ys kd n a z =
      fold_in_store f (get_or (d ++ m) k false) k (map (λ r. x ++ r) ys) (rw (length-map ys (λ r. x ++ r)) n)
      (λ e. All-map (λ v. InStore (get_or v k Null)) (λ r. x ++ r) ys (All-weaker (Kept m) (λ r. InStore (get_or (x ++ r) k Null)) (λ r u. kept_at (d ++ m) (x ++ r) k (kept_append d m x r kd u) e) ys a)) z

  outer_kept : (m n : Marks) (w : ℕ) (x : Row) → Kept m x → length n ≡ w → (ys : List Row) → AllByRecursion (Kept n) ys → AllByRecursion (Kept (m ++ n)) (outer_rows w x ys)
  outer_kept m n w x a e [] u = (kept_append m n x (replicate w Null) a (kept_nulls n w e), tt)
  outer_kept m n w x a e (y ∷ ys) u = All-map (Kept (m ++ n)) (λ v. x ++ v) (y ∷ ys) (All-weaker (Kept n) (λ v. Kept (m ++ n) (x ++ v)) (λ v b. kept_append m n x v a b) (y ∷ ys) u)

  -- in a context row that keeps its marks, every row keeps its own
  pub law : (t : Tree) (d : Marks) (x : Row) → Sound ws d t → Kept d x → Calm s t x → AllByRecursion (Kept (own ws d t)) (rows s t x)
  unfolding own Sound rows Calm
  law (table t) d x S kd k =
      All-weaker (LawfulRow (width_of s t)) (Kept (replicate (get_or ws t 0) false)) (λ r f. kept_stored (get_or ws t 0) r (f.long ∙ sym (width_is s t)) (every_all r f.stored))
      (rows_at s t) (lawful_at s L.each t (omega (arith, S.0, count_is s))).each
  law unit d x S kd k = ((λ z. refl, tt), tt)
  law (select e q) d x S kd k = all_kept_by _ (Kept (own ws d e)) (rows s e x) (law e d x S.1 kd k)
  law (keep n m e) d x S kd k =
      All-map _ _ (rows s e x) (All-weaker (Kept (own ws d e)) _
      (λ r a. kept_append (take n (own ws d e)) (drop (length (own ws d e) - m) (own ws d e)) (take n r) (drop (length r - m) r) (kept_take n (own ws d e) r a)
      (rw (kept_length (own ws d e) r a) (kept_drop (length (own ws d e) - m) (own ws d e) r a))) (rows s e x) (law e d x S.1 kd k))
  law (extend e v) d x S kd k =
      All-map _ _ (rows s e x) (All-weaker (Kept (own ws d e)) _
      (λ r a. kept_append (own ws d e) (mark_of v (d ++ own ws d e) ∷ []) r (side_at v (x ++ r) ∷ []) a (λ z. kept_side _ v (d ++ own ws d e) (x ++ r) (kept_append d (own ws d e) x r kd a) S.0 z, tt)) (rows s e x) (law e d x S.2 kd k))
  law (extend_truth e q) d x S kd k =
      All-map _ _ (rows s e x) (All-weaker (Kept (own ws d e)) _ (λ r a. kept_append (own ws d e) (false ∷ []) r _ a (λ z. truth_in_store _, tt)) (rows s e x) (law e d x S.2 kd k))
  law (pad m e) d x S kd k =
      All-map _ _ (rows s e x) (All-weaker (Kept (own ws d e)) _ (λ r a. kept_append (own ws d e) (replicate m false) r (replicate m Null) a (kept_stored m (replicate m Null) (length-replicate m Null) (nulls m))) (rows s e x) (law e d x S.1 kd k))
  law (match n l r) d x S kd k =
      all_joined _ (Kept (own ws d l)) _ (rows s l x)
      (λ y a. All-map _ _ _ (All-weaker (Kept (own ws d r)) _ (λ z b. kept_append (own ws d l) (drop n (own ws d r)) y (drop n z) a (kept_drop n (own ws d r) z b)) _ (all_kept_by _ (Kept (own ws d r)) (rows s r x) (law r d x S.3 kd k.1))))
      (law l d x S.2 kd k.0)
  law (semi_match n l r) d x S kd k = all_kept_by _ (Kept (own ws d l)) (rows s l x) (law l d x S.1 kd k.0)
  law (anti_match n l r) d x S kd k = all_kept_by _ (Kept (own ws d l)) (rows s l x) (law l d x S.1 kd k.0)
  law (union l r) d x S kd k =
      let e : length (own ws d l) ≡ length (own ws d r) = own_length ws d l S.1 ∙ sym S.0 ∙ sym (own_length ws d r S.2) in
      All-append _ (rows s l x) (rows s r x)
      (All-weaker (Kept (own ws d l)) _ (λ y a. kept_left (own ws d l) (own ws d r) y a) (rows s l x) (law l d x S.1 kd k.0))
      (All-weaker (Kept (own ws d r)) _ (λ y a. kept_right (own ws d l) (own ws d r) y e a) (rows s r x) (law r d x S.2 kd k.1))
  law (diff l r) d x S kd k = all_diff (Kept (own ws d l)) (rows s l x) (rows s r x) (law l d x S.1 kd k.0)
  law (distinct e) d x S kd k = all_distinct (Kept (own ws d e)) (rows s e x) (law e d x S kd k)
  law (group n f j e) d x S kd k =
      let xs = rows s e x in
      let a = law e d x S.3 kd k.1 in
      All-map _ _ (distinct_rows (map (take n) xs))
      (All-weaker (Kept (take n (own ws d e))) _ (λ key b.
      kept_append (take n (own ws d e)) (fold_from f (get_or (d ++ own ws d e) j false) ∷ []) key _ b
      (λ z. fold_kept f j d (own ws d e) x (filter (λ r. same_row key (take n r)) xs) kd (few_kept _ xs k.0) (all_kept_by _ (Kept (own ws d e)) xs a) z, tt)) (distinct_rows (map (take n) xs))
      (all_distinct (Kept (take n (own ws d e))) (map (take n) xs) (All-map (Kept (take n (own ws d e))) (take n) xs (All-weaker (Kept (own ws d e)) _ (λ r b. kept_take n (own ws d e) r b) xs a))))
  law (total f j e) d x S kd k = ((λ z. fold_kept f j d (own ws d e) x (rows s e x) kd k.0 (law e d x S.2 kd k.1) z, tt), tt)
  law (cross l r) d x S kd k =
      all_joined _ (λ y. Kept (own ws d l) y × Calm s r (x ++ y)) _ (rows s l x)
      (λ y a. All-map _ _ _ (All-weaker (Kept (own ws (d ++ own ws d l) r)) _ (λ z b. kept_append (own ws d l) (own ws (d ++ own ws d l) r) y z a.0 b) _ (law r (d ++ own ws d l) (x ++ y) S.2 (kept_append d (own ws d l) x y kd a.0) a.1)))
      (all_both (Kept (own ws d l)) _ (rows s l x) (law l d x S.1 kd k.0) k.1)
  law (outer l r) d x S kd k =
      all_joined _ (λ y. Kept (own ws d l) y × Calm s r (x ++ y)) _ (rows s l x)
      (λ y a. outer_kept (own ws d l) (own ws (d ++ own ws d l) r) (width ws r) y a.0 (own_length ws (d ++ own ws d l) r S.2) (rows s r (x ++ y)) (law r (d ++ own ws d l) (x ++ y) S.2 (kept_append d (own ws d l) x y kd a.0) a.1))
      (all_both (Kept (own ws d l)) _ (rows s l x) (law l d x S.1 kd k.0) k.1)
  law (semi l r) d x S kd k = all_kept_by _ (Kept (own ws d l)) (rows s l x) (law l d x S.0 kd k.0)
  law (anti l r) d x S kd k = all_kept_by _ (Kept (own ws d l)) (rows s l x) (law l d x S.0 kd k.0)
  law (some g j l r) d x S kd k =
      All-map _ _ (rows s l x) (All-weaker (Kept (own ws d l)) _ (λ y a. kept_append (own ws d l) (false ∷ []) y _ a (λ z. truth_in_store _, tt)) (rows s l x) (law l d x S.3 kd k.0))
  law (all g j l r) d x S kd k =
      All-map _ _ (rows s l x) (All-weaker (Kept (own ws d l)) _ (λ y a. kept_append (own ws d l) (false ∷ []) y _ a (λ z. truth_in_store _, tt)) (rows s l x) (law l d x S.3 kd k.0))

  inside : (l r : Tree) (d : Marks) (x : Row) → Kept d x → AllByRecursion (Kept (own ws d l)) (rows s l x) → AllByRecursion (λ y. Calm s r (x ++ y)) (rows s l x) → ((y : Row) → Kept (d ++ own ws d l) (x ++ y) → Calm s r (x ++ y) → SumsStored s r (x ++ y)) → AllByRecursion (λ y. SumsStored s r (x ++ y)) (rows s l x)
  inside l r d x kd K C h =
      All-weaker (λ y. Kept (own ws d l) y × Calm s r (x ++ y)) (λ y. SumsStored s r (x ++ y)) (λ y a. h y (kept_append d (own ws d l) x y kd a.0) a.1) (rows s l x)
      (all_both (Kept (own ws d l)) (λ y. Calm s r (x ++ y)) (rows s l x) K C)

  -- wherever it sums, it sums stored numbers
  pub adds : (t : Tree) (d : Marks) (x : Row) → Sound ws d t → Kept d x → Calm s t x → SumsStored s t x
  unfolding Sound Calm SumsStored
  adds (table t) d x S kd c = tt
  adds unit d x S kd c = tt
  adds (select e q) d x S kd c = adds e d x S.1 kd c
  adds (keep n m e) d x S kd c = adds e d x S.1 kd c
  adds (extend e v) d x S kd c = adds e d x S.2 kd c
  adds (extend_truth e q) d x S kd c = adds e d x S.2 kd c
  adds (pad m e) d x S kd c = adds e d x S.1 kd c
  adds (match n l r) d x S kd c = (adds l d x S.2 kd c.0, adds r d x S.3 kd c.1)
  adds (semi_match n l r) d x S kd c = (adds l d x S.1 kd c.0, adds r d x S.2 kd c.1)
  adds (anti_match n l r) d x S kd c = (adds l d x S.1 kd c.0, adds r d x S.2 kd c.1)
  adds (union l r) d x S kd c = (adds l d x S.1 kd c.0, adds r d x S.2 kd c.1)
  adds (diff l r) d x S kd c = (adds l d x S.1 kd c.0, adds r d x S.2 kd c.1)
  adds (distinct e) d x S kd c = adds e d x S kd c
  adds (group n f k e) d x S kd c = (added f k d (own ws d e) x (rows s e x) S.2.1 kd (law e d x S.3 kd c.1) c.0, adds e d x S.3 kd c.1)
  adds (total f k e) d x S kd c = (added f k d (own ws d e) x (rows s e x) S.1.1 kd (law e d x S.2 kd c.1) c.0, adds e d x S.2 kd c.1)
  adds (cross l r) d x S kd c = (adds l d x S.1 kd c.0, inside l r d x kd (law l d x S.1 kd c.0) c.1 (λ y u v. adds r (d ++ own ws d l) (x ++ y) S.2 u v))
  adds (outer l r) d x S kd c = (adds l d x S.1 kd c.0, inside l r d x kd (law l d x S.1 kd c.0) c.1 (λ y u v. adds r (d ++ own ws d l) (x ++ y) S.2 u v))
  adds (semi l r) d x S kd c = (adds l d x S.0 kd c.0, inside l r d x kd (law l d x S.0 kd c.0) c.1 (λ y u v. adds r (d ++ own ws d l) (x ++ y) S.1 u v))
  adds (anti l r) d x S kd c = (adds l d x S.0 kd c.0, inside l r d x kd (law l d x S.0 kd c.0) c.1 (λ y u v. adds r (d ++ own ws d l) (x ++ y) S.1 u v))
  adds (some g k l r) d x S kd c = (adds l d x S.3 kd c.0, inside l r d x kd (law l d x S.3 kd c.0) c.1 (λ y u v. adds r (d ++ own ws d l) (x ++ y) S.4 u v))
  adds (all g k l r) d x S kd c = (adds l d x S.3 kd c.0, inside l r d x kd (law l d x S.3 kd c.0) c.1 (λ y u v. adds r (d ++ own ws d l) (x ++ y) S.4 u v))

pub stored_law : (ws : List ℕ) (t : Tree) → Sound ws [] t → StoredLaw ws t
stored_law ws t S s L e c = let Q : List ℕ → Type 0 = λ v. Sound v [] t in adds s L t [] [] (subst Q (sym e) S) tt c
