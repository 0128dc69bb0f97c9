-- Every row of a line has the line's width.
use Rattle.std.proofs.Common.{◌≡◌, ℕ, zero, suc, ◌+◌, ◌-◌, Bool, true, false, cond, not, List, [], ◌∷◌, ◌++◌, map, length, get_or, take, drop, replicate, filter, refl, ◌∙◌, arith}
use Rattle.std.specs.List.{flat_map, AllByRecursion}
use Rattle.std.proofs.lemmas.List.{length-append, length-take, length-drop, length-replicate}
use Rattle.std.proofs.ByRecursion.{All-weaker, All-append, all_kept_by}
use Rattle.cells.specs.Cells.{Row, same_row}
use Rattle.cells.specs.declared.cell.Cell.{Cell}
use Rattle.cells.specs.declared.cell.Cell.TheVariants.{Null}
use Rattle.lines.specs.Ops.{some_of, distinct_rows, diff_rows, without, keep_row, alike}
use Rattle.lines.specs.Trees.{Tree, table, unit, select, keep, extend, extend_truth, pad, match, semi_match, anti_match, union, diff, distinct, group, total, cross, outer, semi, anti, some, all, width, rows, outer_rows}
use Rattle.stock.specs.Tables.{Table, widths, rows_at, Lawful, LawfulTable, LawfulRow}
use Rattle.lines.specs.Marks.{Marks, Sound}
use Rattle.lines.proofs.Goods.{Good, sound_good}

-- a list of rows of one width
abbrev pub Wide : ℕ → List Row → Type 0
Wide w xs = AllByRecursion (λ r. length r ≡ w) xs

pub wide_map : (h : Row → Row) (w v : ℕ) (xs : List Row) → ((r : Row) → length r ≡ w → length (h r) ≡ v) → Wide w xs → Wide v (map h xs)
wide_map h w v [] e a = tt
wide_map h w v (x ∷ xs) e a = (e x a.0, wide_map h w v xs e a.1)

pub wide_joined : (h : Row → List Row) (w v : ℕ) (xs : List Row) → ((r : Row) → length r ≡ w → Wide v (h r)) → Wide w xs → Wide v (flat_map h xs)
wide_joined h w v [] e a = tt
wide_joined h w v (x ∷ xs) e a = All-append (λ r. length r ≡ v) (h x) (flat_map h xs) (e x a.0) (wide_joined h w v xs e a.1)

pub wide_kept : (p : Row → Bool) (w : ℕ) (xs : List Row) → Wide w xs → Wide w (filter p xs)
wide_kept p w xs a = all_kept_by p (λ r. length r ≡ w) xs a

-- what Distinct and Diff keep has what all rows have
pub all_distinct : (P : Row → Type 0) (xs : List Row) → AllByRecursion P xs → AllByRecursion P (distinct_rows xs)
all_distinct P [] a = tt
all_distinct P (x ∷ xs) a = (a.0, all_kept_by (λ y. not (same_row x y)) P (distinct_rows xs) (all_distinct P xs a.1))

pub all_diff : (P : Row → Type 0) (xs ys : List Row) → AllByRecursion P xs → AllByRecursion P (diff_rows xs ys)
all_diff P [] ys a = tt
all_diff P (x ∷ xs) ys a =
    elim (some_of (same_row x) ys) as (λ b. AllByRecursion P (cond b (diff_rows xs (without x ys)) (x ∷ diff_rows xs ys)))
    [ true ↦ all_diff P xs (without x ys) a.1 | false ↦ (a.0, all_diff P xs ys a.1) ]

pub wide_distinct : (w : ℕ) (xs : List Row) → Wide w xs → Wide w (distinct_rows xs)
wide_distinct w xs a = all_distinct (λ r. length r ≡ w) xs a

pub wide_diff : (w : ℕ) (xs ys : List Row) → Wide w xs → Wide w (diff_rows xs ys)
wide_diff w xs ys a = all_diff (λ r. length r ≡ w) xs ys a

push_one : (r : Row) (c : Cell) (w : ℕ) → length r ≡ w → length (r ++ (c ∷ [])) ≡ w + 1
push_one r c w e = length-append r (c ∷ []) ∙ rw e

wide_outer : (m w : ℕ) (x : Row) → length x ≡ w → (ys : List Row) → Wide m ys → Wide (w + m) (outer_rows m x ys)
wide_outer m w x e [] a = (length-append x (replicate m Null) ∙ rw (e, length-replicate), tt)
wide_outer m w x e (y ∷ ys) a = wide_map (λ r. x ++ r) m (w + m) (y ∷ ys) (λ r h. length-append x r ∙ rw (e, h)) a

-- each table's rows are as long as the table is wide
abbrev pub Fits : List Table → Type 0
Fits s = (t : ℕ) → Wide (get_or (widths s) t 0) (rows_at s t)

pub lawful_fits : (s : List Table) → Lawful s → Fits s
lawful_fits s l t = go s l.each t
  where
    go : (s : List Table) → AllByRecursion LawfulTable s → Fits s
    go [] a t = tt
    go (x ∷ s) a zero = All-weaker (LawfulRow x.width) (λ r. length r ≡ x.width) (λ r h. h.long) x.rows a.0.each
    go (x ∷ s) a (suc t) = go s a.1 t

pub wide : (s : List Table) → Fits s → (c : ℕ) (t : Tree) → Good (widths s) c t → (d : Row) → Wide (width (widths s) t) (rows s t d)
unfolding rows width Good
wide s fit c (table t) g d = fit t
wide s fit c unit g d = (refl, tt)
wide s fit c (select e q) g d = wide_kept _ (width (widths s) e) (rows s e d) (wide s fit c e g d)
wide s fit c (keep n m e) g d =
    wide_map (keep_row n m) (width (widths s) e) (n + m) (rows s e d)
    (λ r h. length-append (take n r) (drop (length r - m) r) ∙ rw (length-take, length-drop) (omega (arith, g.0))) (wide s fit c e g.1 d)
wide s fit c (extend e a) g d = wide_map _ (width (widths s) e) _ (rows s e d) (λ r h. push_one r _ _ h) (wide s fit c e g d)
wide s fit c (extend_truth e q) g d = wide_map _ (width (widths s) e) _ (rows s e d) (λ r h. push_one r _ _ h) (wide s fit c e g d)
wide s fit c (pad m e) g d = wide_map _ (width (widths s) e) _ (rows s e d) (λ r h. length-append r (replicate m Null) ∙ rw (h, length-replicate)) (wide s fit c e g d)
wide s fit c (match n l r) g d =
    wide_joined _ (width (widths s) l) _ (rows s l d)
    (λ x h. wide_map (λ y. x ++ drop n y) (width (widths s) r) _ (filter (alike n x) (rows s r d))
    (λ y k. length-append x (drop n y) ∙ rw (length-drop, h, k)) (wide_kept (alike n x) _ (rows s r d) (wide s fit c r g.1 d)))
    (wide s fit c l g.0 d)
wide s fit c (semi_match n l r) g d = wide_kept _ (width (widths s) l) (rows s l d) (wide s fit c l g.0 d)
wide s fit c (anti_match n l r) g d = wide_kept _ (width (widths s) l) (rows s l d) (wide s fit c l g.0 d)
wide s fit c (union l r) g d =
    All-append (λ x. length x ≡ width (widths s) l) (rows s l d) (rows s r d) (wide s fit c l g.1 d)
    (All-weaker (λ x. length x ≡ width (widths s) r) (λ x. length x ≡ width (widths s) l) (λ x h. h ∙ g.0) (rows s r d) (wide s fit c r g.2 d))
wide s fit c (diff l r) g d = wide_diff (width (widths s) l) (rows s l d) (rows s r d) (wide s fit c l g.0 d)
wide s fit c (distinct e) g d = wide_distinct (width (widths s) e) (rows s e d) (wide s fit c e g d)
wide s fit c (group n f k e) g d =
    wide_map _ n (n + 1) (distinct_rows (map (take n) (rows s e d))) (λ r h. push_one r _ _ h)
    (wide_distinct n (map (take n) (rows s e d))
    (wide_map (take n) (width (widths s) e) n (rows s e d) (λ r h. rw length-take (omega (arith, g.0))) (wide s fit c e g.1 d)))
wide s fit c (total f k e) g d = (refl, tt)
wide s fit c (cross l r) g d =
    wide_joined _ (width (widths s) l) _ (rows s l d)
    (λ x h. wide_map (λ y. x ++ y) (width (widths s) r) _ (rows s r (d ++ x)) (λ y k. length-append x y ∙ rw (h, k)) (wide s fit (c + width (widths s) l) r g.1 (d ++ x)))
    (wide s fit c l g.0 d)
wide s fit c (outer l r) g d =
    wide_joined _ (width (widths s) l) _ (rows s l d)
    (λ x h. wide_outer (width (widths s) r) (width (widths s) l) x h (rows s r (d ++ x)) (wide s fit (c + width (widths s) l) r g.1 (d ++ x)))
    (wide s fit c l g.0 d)
wide s fit c (semi l r) g d = wide_kept _ (width (widths s) l) (rows s l d) (wide s fit c l g.0 d)
wide s fit c (anti l r) g d = wide_kept _ (width (widths s) l) (rows s l d) (wide s fit c l g.0 d)
wide s fit c (some o k l r) g d = wide_map _ (width (widths s) l) _ (rows s l d) (λ r h. push_one r _ _ h) (wide s fit c l g.1 d)
wide s fit c (all o k l r) g d = wide_map _ (width (widths s) l) _ (rows s l d) (λ r h. push_one r _ _ h) (wide s fit c l g.1 d)

pub wide_sound : (s : List Table) → Lawful s → (m : Marks) (t : Tree) → Sound (widths s) m t → (d : Row) → Wide (width (widths s) t) (rows s t d)
wide_sound s h m t g d = wide s (lawful_fits s h) (length m) t (sound_good (widths s) m t g) d
