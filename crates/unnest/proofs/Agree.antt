-- The flat plan has each row exactly as often as the query.
use Rattle.std.proofs.Common.{◌≡◌, ℕ, ◌+◌, ◌-◌, ◌<◌, ◌≤◌, Bool, true, cond, List, [], ◌∷◌, ◌++◌, map, length, get_or, take, drop, replicate, pos, filter, sym, refl, ap, ◌∙◌, ap₂, add-zero, arith}
use Rattle.std.proofs.lemmas.List.{append_assoc, length-append}
use Rattle.std.proofs.ByRecursion.{All-weaker}
use Rattle.cells.specs.Cells.{Row, as_cell, compare_cells}
use Rattle.cells.specs.Truths.{holds, not3}
use Rattle.cells.specs.declared.cell.Cell.{Cell}
use Rattle.cells.specs.declared.cell.Cell.TheVariants.{Null, Number}
use Rattle.cells.specs.declared.sign.Sign.{Sign}
use Rattle.cells.specs.declared.truth.Truth.{Truth}
use Rattle.lines.specs.Ops.{count, some_of, alike, keep_row, distinct_rows, none_of, folded}
use Rattle.lines.specs.Trees.{Tree, table, unit, select, keep, extend, extend_truth, pad, match, semi_match, anti_match, union, diff, distinct, group, total, cross, outer, semi, anti, some, all, width, rows, side_at, truth_at, against, ors, ands}
use Rattle.lines.specs.declared.line.Aggregate.{Aggregate}
use Rattle.stock.specs.Tables.{Table, widths}
use Rattle.lines.proofs.Goods.{Good}
use Rattle.unnest.specs.Flat.{Ctx, top, under, cols, spread, totalled, with_cell, flat}
use Rattle.lines.proofs.Weights.{W, W_cong, W_map, W_joined, same_from}
use Rattle.unnest.proofs.Lifts.{Dom, Lifted, lift_distinct, lift_diff}
use Rattle.lines.proofs.Joins.{kept_all}
use Rattle.unnest.proofs.Raise.{take_under, drop_under, lift_map, lift_map', lift_kept, lift_union, lift_match, lift_semi, lift_anti}
use Rattle.lines.proofs.Folds.{folded_bag}
use Rattle.unnest.proofs.Groups.{lift_group, lift_total}
use Rattle.lines.proofs.Widths.{Fits, Wide, wide}
use Rattle.unnest.proofs.Widths.{wide_flat}
use Rattle.unnest.proofs.Applies.{dom_distinct, lift_cross, lift_exists, lift_lacks, lift_outer, lift_three, passes, some_cong, some_is, all_is, unknown_holds, compared}

abbrev pub domain : List Table → Ctx → List Row
domain s top = [] ∷ []
domain s (under c d) = rows s d []

spreads : (s : List Table) (x : Ctx) (e : Tree) → Lifted (domain s x) (rows s (spread x e) []) (λ d. rows s e [])
unfolding rows
spreads s top e g = sym (add-zero (W g (rows s e [])))
spreads s (under c d) e g =
    W_joined g (λ x. map (λ y. x ++ y) (filter (λ y. true) (rows s e []))) (rows s d [])
    ∙ W_cong (rows s d []) (λ x. W_map g (λ y. x ++ y) (filter (λ y. true) (rows s e [])) ∙ ap (W (λ y. g (x ++ y))) (kept_all (rows s e [])))

keeps : (c n m w : ℕ) (d r : Row) → length d ≡ c → length r ≡ w → n + m ≤ w → keep_row (c + n) m (d ++ r) ≡ d ++ keep_row n m r
keeps c n m w d r a b h =
    let e : length (d ++ r) - m ≡ c + (length r - m) = rw (length-append d r) (omega arith) in
    ap₂ ◌++◌ (take_under d r c n a) (ap (λ v. drop v (d ++ r)) e ∙ drop_under d r c (length r - m) a)
    ∙ append_assoc d (take n r) (drop (length r - m) r)

none_is : (s : List Table) (v : Cell) (e : Tree) → rows s (with_cell v e) [] ≡ map (λ r. r ++ (v ∷ [])) (rows s e [])
unfolding rows
none_is s Null e = refl
none_is s (Number z) e = refl

totals : (s : List Table) (x : Ctx) (f : Aggregate) (k : ℕ) → Dom (cols x) (domain s x) → (F : Tree) (E : Row → List Row) → Lifted (domain s x) (rows s F []) E
    → Lifted (domain s x) (rows s (totalled f k x F) []) (λ d. (folded f k (map (λ r. d ++ r) (E d)) ∷ []) ∷ [])
unfolding rows
totals s top f k m F E l g =
    ap (λ v. g (v ∷ []) + 0) (folded_bag f k (map (λ r. r) (rows s F [])) (map (λ r. r) (E []))
    (λ h. W_map h (λ r. r) (rows s F []) ∙ l h ∙ add-zero (W h (E [])) ∙ sym (W_map h (λ r. r) (E []))))
    ∙ sym (add-zero (g (folded f k (map (λ r. r) (E [])) ∷ []) + 0))
totals s (under c d) f k m F E l g = rw (none_is s (none_of f) (anti_match c d F)) (lift_total c (rows s d []) m (rows s F []) E l f k g)

module _ (s : List Table) (fit : Fits s) where
  abbrev ws : List ℕ
  ws = widths s

  abbrev inner : Tree → Ctx → Ctx
  inner l x = under (cols x + width ws l) (distinct (flat ws l x))

  left : (l : Tree) (x : Ctx) → Good ws (cols x) l → Dom (cols x) (domain s x) → Lifted (domain s x) (rows s (flat ws l x) []) (rows s l)
      → Wide (cols x + width ws l) (rows s (flat ws l x) [])
  left l x g m h = wide_flat (cols x) (domain s x) m (rows s (flat ws l x) []) (rows s l) h (width ws l) (λ d. wide s fit (cols x) l g d)

  inside : (l : Tree) (x : Ctx) → Good ws (cols x) l → Dom (cols x) (domain s x) → Lifted (domain s x) (rows s (flat ws l x) []) (rows s l)
      → Dom (cols x + width ws l) (distinct_rows (rows s (flat ws l x) []))
  inside l x g m h = dom_distinct (cols x + width ws l) (rows s (flat ws l x) []) (left l x g m h)

  module _ (o : Sign) (k : ℕ) (l r : Tree) (x : Ctx) (n : k < cols x + width ws l)
      (a : Wide (cols x + width ws l) (rows s (flat ws l x) []))
      (h : Lifted (domain s x) (rows s (flat ws l x) []) (rows s l))
      (i : Lifted (distinct_rows (rows s (flat ws l x) [])) (rows s (flat ws r (inner l x)) []) (rows s r)) where
    abbrev w : ℕ
    w = cols x + width ws l

    abbrev L : List Row
    L = rows s (flat ws l x) []

    abbrev V : List Row
    V = rows s (flat ws r (inner l x)) []

    -- the truth of the comparison on a flat row
    abbrev cmp : Row → Truth
    cmp y = compare_cells o (get_or y k Null) (get_or y w Null)

    passing : (f : Truth → Bool) (y : Row) → length y ≡ w → count y (distinct_rows L) ≡ 1
        → some_of (alike w y) (filter (λ z. f (cmp z)) V) ≡ some_of (λ z. f (against o (get_or y k Null) z)) (rows s r y)
    passing f y b c =
        passes (domain s x) L (rows s l) h w a V (rows s r) i (λ z. f (cmp z)) y b c
        ∙ some_cong (λ z. f (cmp (y ++ z))) (λ z. f (against o (get_or y k Null) z)) (rows s r y) (λ z. ap f (compared o k w y z b n))

    somes : Lifted (domain s x) (rows s (flat ws (some o k l r) x) []) (rows s (some o k l r))
    unfolding rows flat width Good
    somes =
        lift_three (domain s x) L (rows s l) h w a V (rows s r) i
        (λ y. some_of (alike w y) (filter (λ z. holds (cmp z)) V)) (λ y. some_of (alike w y) (filter (λ z. unknown_holds (cmp z)) V))
        (Number (pos 1)) (Number (pos 0)) (λ y. as_cell (ors (against o (get_or y k Null)) (rows s r y)))
        (λ y b c. ap₂ (λ u v. cond u (Number (pos 1)) (cond v Null (Number (pos 0)))) (passing holds y b c) (passing unknown_holds y b c)
        ∙ some_is (against o (get_or y k Null)) (rows s r y))

    alls : Lifted (domain s x) (rows s (flat ws (all o k l r) x) []) (rows s (all o k l r))
    unfolding rows flat width Good
    alls =
        lift_three (domain s x) L (rows s l) h w a V (rows s r) i
        (λ y. some_of (alike w y) (filter (λ z. holds (not3 (cmp z))) V)) (λ y. some_of (alike w y) (filter (λ z. unknown_holds (cmp z)) V))
        (Number (pos 0)) (Number (pos 1)) (λ y. as_cell (ands (against o (get_or y k Null)) (rows s r y)))
        (λ y b c. ap₂ (λ u v. cond u (Number (pos 0)) (cond v Null (Number (pos 1)))) (passing (λ v. holds (not3 v)) y b c) (passing unknown_holds y b c)
        ∙ all_is (against o (get_or y k Null)) (rows s r y))

  pub agree : (t : Tree) (x : Ctx) → Good ws (cols x) t → Dom (cols x) (domain s x) → Lifted (domain s x) (rows s (flat ws t x) []) (rows s t)
  unfolding rows flat width Good
  agree (table t) x g m = spreads s x (table t)
  agree unit x g m = spreads s x unit
  agree (select e q) x g m =
      lift_kept (cols x) (domain s x) m (rows s (flat ws e x) []) (rows s e) (agree e x g m) (λ r. holds (truth_at q r)) (λ d r. holds (truth_at q (d ++ r))) (λ d a b r. refl)
  agree (keep n k e) x g m =
      lift_map (cols x) (domain s x) m (rows s (flat ws e x) []) (rows s e) (agree e x g.1 m) (keep_row (cols x + n) k) (λ d. keep_row n k)
      (λ d a b. All-weaker (λ r. length r ≡ width ws e) (λ r. keep_row (cols x + n) k (d ++ r) ≡ d ++ keep_row n k r)
      (λ r h. keeps (cols x) n k (width ws e) d r a h g.0) (rows s e d) (wide s fit (cols x) e g.1 d))
  agree (extend e v) x g m =
      lift_map' (cols x) (domain s x) m (rows s (flat ws e x) []) (rows s e) (agree e x g m) (λ r. r ++ (side_at v r ∷ [])) (λ d r. r ++ (side_at v (d ++ r) ∷ []))
      (λ d a b r. append_assoc d r (side_at v (d ++ r) ∷ []))
  agree (extend_truth e q) x g m =
      lift_map' (cols x) (domain s x) m (rows s (flat ws e x) []) (rows s e) (agree e x g m) (λ r. r ++ (as_cell (truth_at q r) ∷ [])) (λ d r. r ++ (as_cell (truth_at q (d ++ r)) ∷ []))
      (λ d a b r. append_assoc d r (as_cell (truth_at q (d ++ r)) ∷ []))
  agree (pad k e) x g m =
      lift_map' (cols x) (domain s x) m (rows s (flat ws e x) []) (rows s e) (agree e x g m) (λ r. r ++ replicate k Null) (λ d r. r ++ replicate k Null)
      (λ d a b r. append_assoc d r (replicate k Null))
  agree (match n l r) x g m =
      lift_match (cols x) (domain s x) m (rows s (flat ws l x) []) (rows s l) (agree l x g.0 m) (rows s (flat ws r x) []) (rows s r) (agree r x g.1 m) n
  agree (semi_match n l r) x g m =
      lift_semi (cols x) (domain s x) m (rows s (flat ws l x) []) (rows s l) (agree l x g.0 m) (rows s (flat ws r x) []) (rows s r) (agree r x g.1 m) n
  agree (anti_match n l r) x g m =
      lift_anti (cols x) (domain s x) m (rows s (flat ws l x) []) (rows s l) (agree l x g.0 m) (rows s (flat ws r x) []) (rows s r) (agree r x g.1 m) n
  agree (union l r) x g m =
      lift_union (cols x) (domain s x) m (rows s (flat ws l x) []) (rows s l) (agree l x g.1 m) (rows s (flat ws r x) []) (rows s r) (agree r x g.2 m)
  agree (diff l r) x g m =
      lift_diff (cols x) (domain s x) m (rows s (flat ws l x) []) (rows s (flat ws r x) []) (rows s l) (rows s r) (agree l x g.0 m) (agree r x g.1 m)
  agree (distinct e) x g m = lift_distinct (cols x) (domain s x) m (rows s (flat ws e x) []) (rows s e) (agree e x g m)
  agree (group n f k e) x g m = lift_group (cols x) (domain s x) m (rows s (flat ws e x) []) (rows s e) (agree e x g.1 m) n f k
  agree (total f k e) x g m = totals s x f k m (flat ws e x) (rows s e) (agree e x g m)
  agree (cross l r) x g m =
      lift_cross (domain s x) (rows s (flat ws l x) []) (rows s l) (agree l x g.0 m) (cols x + width ws l) (left l x g.0 m (agree l x g.0 m))
      (rows s (flat ws r (inner l x)) []) (rows s r) (agree r (inner l x) g.1 (inside l x g.0 m (agree l x g.0 m)))
  agree (outer l r) x g m =
      lift_outer (domain s x) (rows s (flat ws l x) []) (rows s l) (agree l x g.0 m) (cols x + width ws l) (left l x g.0 m (agree l x g.0 m))
      (rows s (flat ws r (inner l x)) []) (rows s r) (agree r (inner l x) g.1 (inside l x g.0 m (agree l x g.0 m))) (width ws r)
  agree (semi l r) x g m =
      lift_exists (domain s x) (rows s (flat ws l x) []) (rows s l) (agree l x g.0 m) (cols x + width ws l) (left l x g.0 m (agree l x g.0 m))
      (rows s (flat ws r (inner l x)) []) (rows s r) (agree r (inner l x) g.1 (inside l x g.0 m (agree l x g.0 m)))
  agree (anti l r) x g m =
      lift_lacks (domain s x) (rows s (flat ws l x) []) (rows s l) (agree l x g.0 m) (cols x + width ws l) (left l x g.0 m (agree l x g.0 m))
      (rows s (flat ws r (inner l x)) []) (rows s r) (agree r (inner l x) g.1 (inside l x g.0 m (agree l x g.0 m)))
  agree (some o k l r) x g m =
      somes o k l r x g.0 (left l x g.1 m (agree l x g.1 m)) (agree l x g.1 m) (agree r (inner l x) g.2 (inside l x g.1 m (agree l x g.1 m)))
  agree (all o k l r) x g m =
      alls o k l r x g.0 (left l x g.1 m (agree l x g.1 m)) (agree l x g.1 m) (agree r (inner l x) g.2 (inside l x g.1 m (agree l x g.1 m)))

pub agree_trees : (s : List Table) → Fits s → (t : Tree) → Good (widths s) 0 t → (r : Row) → count r (rows s (flat (widths s) t top) []) ≡ count r (rows s t [])
agree_trees s fit t g r =
    same_from (rows s (flat (widths s) t top) []) (rows s t [])
    (λ h. agree s fit t top g (record { long = (refl, tt); once = (refl, tt) }) h ∙ add-zero (W h (rows s t []))) r
