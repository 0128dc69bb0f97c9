-- Unnesting keeps soundness, and leaves no Apply.
use Rattle.std.proofs.Common.{◌≡◌, ℕ, zero, suc, ◌+◌, ◌-◌, ◌<◌, ◌≤◌, Bool, true, false, ◌||◌, List, [], ◌∷◌, ◌++◌, length, get_or, take, drop, replicate, ℤ, pos, sym, refl, ap, ◌∙◌, subst, ap₂, zero-add, arith}
use Rattle.std.proofs.lemmas.List.{append_assoc, length-append, take_at, drop_at}
use Rattle.cells.specs.Cells.{stored}
use Rattle.cells.specs.declared.cell.Cell.{Cell}
use Rattle.cells.specs.declared.cell.Cell.TheVariants.{Null, Number}
use Rattle.lines.specs.Ops.{none_of}
use Rattle.lines.specs.Marks.{fold_from, summed, Marks, mark_of, either_mark, own, SideIn, CondIn, Sound}
use Rattle.lines.specs.Trees.{Cond, compare, not_of, unknown_of, Tree, table, unit, select, keep, extend, extend_truth, pad, match, semi_match, anti_match, union, diff, distinct, group, total, cross, outer, semi, anti, some, all, width}
use Rattle.lines.specs.declared.line.Aggregate.{Aggregate}
use Rattle.lines.specs.declared.line.Aggregate.TheVariants.{Rows, Filled, Sum, Least, Greatest}
use Rattle.lines.specs.declared.line.Side.{Side}
use Rattle.lines.specs.declared.line.Side.TheVariants.{Column}
use Rattle.lines.proofs.Soundness.{own_length}
use Rattle.unnest.proofs.Raise.{take_under, drop_under}
use Rattle.unnest.specs.Flat.{Ctx, top, under, cols, flat, spread, totalled, with_cell, flat_quant}
use Rattle.unnest.specs.Plans.{Plain}

-- a domain of marks d
pub record Domain (ws : List ℕ) (d : Marks) (c : ℕ) (D : Tree) : Type 0 where
  pub long : c ≡ length d
  pub marks : own ws [] D ≡ d
  pub wide : width ws D ≡ c
  pub sound : Sound ws [] D
  pub plain : Plain D

abbrev pub Stands : List ℕ → Marks → Ctx → Type 0
Stands ws d top = d ≡ []
Stands ws d (under c D) = Domain ws d c D

pub cols_is : (ws : List ℕ) (d : Marks) (x : Ctx) → Stands ws d x → cols x ≡ length d
cols_is ws d top s = rw s
cols_is ws d (under c D) s = s.long

-- marks of rows in a context

keep_under : (d r : Marks) (c n m : ℕ) → c ≡ length d → m ≤ length r → take (c + n) (d ++ r) ++ drop (length (d ++ r) - m) (d ++ r) ≡ d ++ (take n r ++ drop (length r - m) r)
keep_under d r c n m e h =
    let k : length (d ++ r) - m ≡ c + (length r - m) = omega (arith, length-append d r) in
    ap₂ (λ a b. a ++ b) (take_under d r c n (sym e)) (ap (λ v. drop v (d ++ r)) k ∙ drop_under d r c (length r - m) (sym e)) ∙ append_assoc d (take n r) (drop (length r - m) r)

match_under : (d l r : Marks) (c n : ℕ) → c ≡ length d → (d ++ l) ++ drop (c + n) (d ++ r) ≡ d ++ (l ++ drop n r)
match_under d l r c n e = ap (λ v. (d ++ l) ++ v) (drop_under d r c n (sym e)) ∙ append_assoc d l (drop n r)

or_same : (b : Bool) → (b || b) ≡ b
or_same true = refl
or_same false = refl

or_none : (b : Bool) → (b || false) ≡ b
or_none true = refl
or_none false = refl

either_under : (d a b : Marks) → either_mark (d ++ a) (d ++ b) ≡ d ++ either_mark a b
either_under [] a b = refl
either_under (x ∷ d) a b = ap₂ (λ u v. u ∷ v) (or_same x) (either_under d a b)

either_none : (a : Marks) (m : ℕ) → length a ≡ m → either_mark a (replicate m false) ≡ a
either_none [] m e = refl
either_none (x ∷ a) zero e = refl
either_none (x ∷ a) (suc m) e = ap₂ (λ u v. u ∷ v) (or_none x) (either_none a m (omega arith))

side_at : (a : Side) (n m : ℕ) → n ≡ m → SideIn n a → SideIn m a
side_at a n m e h = subst (λ v. SideIn v a) e h

test_at : (q : Cond) (n m : ℕ) → n ≡ m → CondIn n q → CondIn m q
test_at q n m e h = subst (λ v. CondIn v q) e h

-- a flat tree of width w and marks m
pub record Flat (ws : List ℕ) (w : ℕ) (m : Marks) (F : Tree) : Type 0 where
  pub wide : width ws F ≡ w
  pub marks : own ws [] F ≡ m
  pub sound : Sound ws [] F
  pub plain : Plain F

spread_flat : (ws : List ℕ) (d : Marks) (x : Ctx) (t : Tree) (m : Marks) → own ws [] t ≡ m → Sound ws [] t → Plain t → length d + width ws t ≤ 32 → Stands ws d x
    → Flat ws (length d + width ws t) (d ++ m) (spread x t)
unfolding width own Sound Plain
spread_flat ws d top t m e s p h st = record { wide = rw st (sym (zero-add (width ws t))); marks = rw st e; sound = s; plain = p }
spread_flat ws d (under c D) t m e s p h st =
    record {
      wide = omega (arith, st.wide, st.long);
      marks = ap₂ (λ a b. a ++ b) st.marks e;
      sound = ((omega arith, omega arith), omega (arith, st.wide, st.long), st.sound, s);
      plain = (st.plain, p);
    }

-- the aggregate over no rows is a cell that may be added
none_stored : (f : Aggregate) → stored (none_of f) ≡ true
none_stored Rows = refl
none_stored Filled = refl
none_stored Sum = refl
none_stored Least = refl
none_stored Greatest = refl

cell_flat : (ws : List ℕ) (v : Cell) → stored v ≡ true → (w : ℕ) (m : Marks) (X : Tree) → Flat ws w m X → w + 1 ≤ 32 → Flat ws (w + 1) (m ++ (false ∷ [])) (with_cell v X)
unfolding own width Sound Plain
cell_flat ws Null k w m X i h = record { wide = rw i.wide; marks = rw i.marks; sound = (omega (arith, i.wide), i.sound); plain = i.plain }
cell_flat ws (Number z) k w m X i h = record { wide = rw i.wide; marks = rw i.marks; sound = (k, omega (arith, i.wide), i.sound); plain = i.plain }

total_flat : (ws : List ℕ) (d : Marks) (x : Ctx) (f : Aggregate) (k : ℕ) (v : ℕ) (o : Marks) (F : Tree) → Flat ws (length d + v) (d ++ o) F → length d + 1 ≤ 32 → k < length d + v → summed f (get_or (d ++ o) k false) ≡ false → Stands ws d x
    → Flat ws (length d + 1) (d ++ (fold_from f (get_or (d ++ o) k false) ∷ [])) (totalled f k x F)
unfolding width own Sound Plain
total_flat ws d top f k v o F i h l z st =
    record {
      wide = rw st;
      marks = rw (i.marks, st);
      sound = (omega arith, (omega (arith, i.wide), rw i.marks z), i.sound);
      plain = i.plain;
    }
total_flat ws d (under c D) f k v o F i h l z st =
    let n = cell_flat ws (none_of f) (none_stored f) c d (anti_match c D F) (record { wide = st.wide; marks = st.marks; sound = ((omega (arith, st.wide), omega (arith, i.wide, st.long)), st.sound, i.sound); plain = (st.plain, i.plain) }) (omega (arith, st.long)) in
    record {
      wide = omega (arith, st.long);
      marks =
          ap₂ either_mark (ap (λ a. take c a ++ (fold_from f (get_or a k false) ∷ [])) i.marks ∙ ap (λ a. a ++ (fold_from f (get_or (d ++ o) k false) ∷ [])) (take_at d o c (sym st.long))) n.marks
          ∙ either_under d (fold_from f (get_or (d ++ o) k false) ∷ []) (false ∷ []) ∙ ap (λ b. d ++ (b ∷ [])) (or_none (fold_from f (get_or (d ++ o) k false)));
      sound = (n.wide, (omega (arith, i.wide, st.long), omega (arith, st.long), (omega (arith, i.wide), rw i.marks z), i.sound), n.sound);
      plain = (i.plain, n.plain);
    }

quant_flat : (ws : List ℕ) (y n : ℤ) (w : ℕ) (W A B : Tree) (m : Marks) → stored (Number y) ≡ true → stored (Number n) ≡ true → Flat ws w m W → w + 1 ≤ 32 → w ≤ width ws A → w ≤ width ws B → Sound ws [] A → Sound ws [] B → Plain A → Plain B
    → Flat ws (w + 1) (m ++ (false ∷ [])) (flat_quant y n w W A B)
unfolding width own Sound Plain
quant_flat ws y n w W A B m hy hn i h la lb sa sb pa pb =
    record {
      wide = rw i.wide;
      marks = rw i.marks (ap (λ v. either_mark v (m ++ (false ∷ []))) (either_under m (false ∷ []) (false ∷ [])) ∙ either_under m (false ∷ []) (false ∷ []));
      sound = (
        refl,
        (refl, (hy, omega (arith, i.wide), ((omega (arith, i.wide), la), i.sound, sa)), (omega (arith, i.wide), ((omega (arith, i.wide), lb), ((omega (arith, i.wide), la), i.sound, sa), sb))),
        (hn, omega (arith, i.wide), ((omega (arith, i.wide), lb), ((omega (arith, i.wide), la), i.sound, sa), sb)),
      );
      plain = ((((i.plain, pa)), ((i.plain, pa), pb)), ((i.plain, pa), pb));
    }

-- the distinct rows of a left operand, as the domain of the right one
pub domain : (ws : List ℕ) (d : Marks) (x : Ctx) (l L : Tree) → Sound ws d l → cols x ≡ length d → Flat ws (length d + width ws l) (d ++ own ws d l) L → Domain ws (d ++ own ws d l) (cols x + width ws l) (distinct L)
unfolding width own Sound Plain
domain ws d x l L s e i =
    record {
      long = omega (arith, length-append d (own ws d l), own_length ws d l s);
      marks = i.marks;
      wide = i.wide ∙ omega arith;
      sound = i.sound;
      plain = i.plain;
    }

-- a flat right operand behind its context
right_is : (ws : List ℕ) (d : Marks) (l r R : Tree) → Sound ws d l → Flat ws (length (d ++ own ws d l) + width ws r) ((d ++ own ws d l) ++ own ws (d ++ own ws d l) r) R → width ws R ≡ length d + width ws l + width ws r
right_is ws d l r R s i = i.wide ∙ omega (arith, length-append d (own ws d l), own_length ws d l s)

pub flats : (ws : List ℕ) (d : Marks) (t : Tree) (x : Ctx) → Sound ws d t → Stands ws d x → Flat ws (length d + width ws t) (d ++ own ws d t) (flat ws t x)
unfolding flat width own Sound Plain
flats ws d (table t) x s st = spread_flat ws d x (table t) (replicate (get_or ws t 0) false) refl (s.0, omega (arith, s.1)) tt s.1 st
flats ws d unit x s st = spread_flat ws d x unit (false ∷ []) refl (omega arith) tt s st
flats ws d (select e q) x s st =
    let i = flats ws d e x s.1 st in
    record { wide = i.wide; marks = i.marks; sound = (test_at q _ _ (omega (arith, i.wide)) s.0, i.sound); plain = i.plain }
flats ws d (keep n m e) x s st =
    let i = flats ws d e x s.1 st in
    let c = cols_is ws d x st in
    record {
      wide = omega (arith, c);
      marks = ap (λ v. take (cols x + n) v ++ drop (length v - m) v) i.marks ∙ keep_under d (own ws d e) (cols x) n m c (omega (arith, s.0.1, own_length ws d e s.1));
      sound = ((omega (arith, s.0.0), omega (arith, c, s.0.1, i.wide)), i.sound);
      plain = i.plain;
    }
flats ws d (extend e a) x s st =
    let i = flats ws d e x s.2 st in
    record {
      wide = omega (arith, i.wide);
      marks = ap (λ v. v ++ (mark_of a v ∷ [])) i.marks ∙ append_assoc d (own ws d e) _;
      sound = (side_at a _ _ (omega (arith, i.wide)) s.0, omega (arith, i.wide, s.1), i.sound);
      plain = i.plain;
    }
flats ws d (extend_truth e q) x s st =
    let i = flats ws d e x s.2 st in
    record {
      wide = omega (arith, i.wide);
      marks = ap (λ v. v ++ (false ∷ [])) i.marks ∙ append_assoc d (own ws d e) _;
      sound = (test_at q _ _ (omega (arith, i.wide)) s.0, omega (arith, i.wide, s.1), i.sound);
      plain = i.plain;
    }
flats ws d (pad m e) x s st =
    let i = flats ws d e x s.1 st in
    record {
      wide = omega (arith, i.wide);
      marks = ap (λ v. v ++ replicate m false) i.marks ∙ append_assoc d (own ws d e) _;
      sound = (omega (arith, i.wide, s.0), i.sound);
      plain = i.plain;
    }
flats ws d (match n l r) x s st =
    let i = flats ws d l x s.2 st in
    let j = flats ws d r x s.3 st in
    let c = cols_is ws d x st in
    record {
      wide = omega (arith, i.wide, j.wide, c);
      marks = ap₂ (λ a b. a ++ drop (cols x + n) b) i.marks j.marks ∙ match_under d (own ws d l) (own ws d r) (cols x) n c;
      sound = ((omega (arith, i.wide, c, s.0.0), omega (arith, j.wide, c, s.0.1)), omega (arith, i.wide, j.wide, c, s.1), i.sound, j.sound);
      plain = (i.plain, j.plain);
    }
flats ws d (semi_match n l r) x s st =
    let i = flats ws d l x s.1 st in
    let j = flats ws d r x s.2 st in
    let c = cols_is ws d x st in
    record {
      wide = i.wide;
      marks = i.marks;
      sound = ((omega (arith, i.wide, c, s.0.0), omega (arith, j.wide, c, s.0.1)), i.sound, j.sound);
      plain = (i.plain, j.plain);
    }
flats ws d (anti_match n l r) x s st =
    let i = flats ws d l x s.1 st in
    let j = flats ws d r x s.2 st in
    let c = cols_is ws d x st in
    record {
      wide = i.wide;
      marks = i.marks;
      sound = ((omega (arith, i.wide, c, s.0.0), omega (arith, j.wide, c, s.0.1)), i.sound, j.sound);
      plain = (i.plain, j.plain);
    }
flats ws d (union l r) x s st =
    let i = flats ws d l x s.1 st in
    let j = flats ws d r x s.2 st in
    record {
      wide = i.wide;
      marks = ap₂ either_mark i.marks j.marks ∙ either_under d (own ws d l) (own ws d r);
      sound = (omega (arith, i.wide, j.wide, s.0), i.sound, j.sound);
      plain = (i.plain, j.plain);
    }
flats ws d (diff l r) x s st =
    let i = flats ws d l x s.1 st in
    let j = flats ws d r x s.2 st in
    record {
      wide = i.wide;
      marks = i.marks;
      sound = (omega (arith, i.wide, j.wide, s.0), i.sound, j.sound);
      plain = (i.plain, j.plain);
    }
flats ws d (distinct e) x s st =
    let i = flats ws d e x s st in
    record { wide = i.wide; marks = i.marks; sound = i.sound; plain = i.plain }
flats ws d (group n f k e) x s st =
    let i = flats ws d e x s.3 st in
    let c = cols_is ws d x st in
    record {
      wide = omega (arith, c);
      marks = ap (λ a. take (cols x + n) a ++ (fold_from f (get_or a k false) ∷ [])) i.marks ∙ ap (λ a. a ++ (fold_from f (get_or (d ++ own ws d e) k false) ∷ [])) (take_under d (own ws d e) (cols x) n (sym c)) ∙ append_assoc d (take n (own ws d e)) _;
      sound = (omega (arith, i.wide, c, s.0), omega (arith, c, s.1), (omega (arith, i.wide, s.2.0), rw i.marks s.2.1), i.sound);
      plain = i.plain;
    }
flats ws d (total f k e) x s st =
    total_flat ws d x f k (width ws e) (own ws d e) (flat ws e x) (flats ws d e x s.2 st) s.0 s.1.0 s.1.1 st
flats ws d (cross l r) x s st =
    let i = flats ws d l x s.1 st in
    let c = cols_is ws d x st in
    let D = domain ws d x l (flat ws l x) s.1 c i in
    let j = flats ws (d ++ own ws d l) r (under (cols x + width ws l) (distinct (flat ws l x))) s.2 D in
    let v = right_is ws d l r (flat ws r (under (cols x + width ws l) (distinct (flat ws l x)))) s.1 j in
    record {
      wide = omega (arith, i.wide, v, c);
      marks = ap₂ (λ a b. a ++ drop (cols x + width ws l) b) i.marks j.marks ∙ ap (λ a. (d ++ own ws d l) ++ a) (drop_at (d ++ own ws d l) (own ws (d ++ own ws d l) r) (cols x + width ws l) (sym D.long)) ∙ append_assoc d (own ws d l) _;
      sound = ((omega (arith, i.wide, c), omega (arith, v, c)), omega (arith, i.wide, v, c, s.0), i.sound, j.sound);
      plain = (i.plain, j.plain);
    }
flats ws d (outer l r) x s st =
    let i = flats ws d l x s.1 st in
    let c = cols_is ws d x st in
    let D = domain ws d x l (flat ws l x) s.1 c i in
    let j = flats ws (d ++ own ws d l) r (under (cols x + width ws l) (distinct (flat ws l x))) s.2 D in
    let v = right_is ws d l r (flat ws r (under (cols x + width ws l) (distinct (flat ws l x)))) s.1 j in
    record {
      wide = omega (arith, i.wide, v, c);
      marks =
          ap₂ (λ a b. either_mark (a ++ drop (cols x + width ws l) b) (a ++ replicate (width ws r) false)) i.marks j.marks
          ∙ ap (λ a. either_mark ((d ++ own ws d l) ++ a) ((d ++ own ws d l) ++ replicate (width ws r) false)) (drop_at (d ++ own ws d l) (own ws (d ++ own ws d l) r) (cols x + width ws l) (sym D.long))
          ∙ either_under (d ++ own ws d l) (own ws (d ++ own ws d l) r) (replicate (width ws r) false)
          ∙ ap (λ a. (d ++ own ws d l) ++ a) (either_none (own ws (d ++ own ws d l) r) (width ws r) (own_length ws (d ++ own ws d l) r s.2))
          ∙ append_assoc d (own ws d l) _;
      sound = (
        omega (arith, i.wide, v, c),
        ((omega (arith, i.wide, c), omega (arith, v, c)), omega (arith, i.wide, v, c, s.0), i.sound, j.sound),
        (omega (arith, i.wide, c, s.0), ((omega (arith, i.wide, c), omega (arith, v, c)), i.sound, j.sound)),
      );
      plain = ((i.plain, j.plain), (i.plain, j.plain));
    }
flats ws d (semi l r) x s st =
    let i = flats ws d l x s.0 st in
    let c = cols_is ws d x st in
    let D = domain ws d x l (flat ws l x) s.0 c i in
    let j = flats ws (d ++ own ws d l) r (under (cols x + width ws l) (distinct (flat ws l x))) s.1 D in
    let v = right_is ws d l r (flat ws r (under (cols x + width ws l) (distinct (flat ws l x)))) s.0 j in
    record { wide = i.wide; marks = i.marks; sound = ((omega (arith, i.wide, c), omega (arith, v, c)), i.sound, j.sound); plain = (i.plain, j.plain) }
flats ws d (anti l r) x s st =
    let i = flats ws d l x s.0 st in
    let c = cols_is ws d x st in
    let D = domain ws d x l (flat ws l x) s.0 c i in
    let j = flats ws (d ++ own ws d l) r (under (cols x + width ws l) (distinct (flat ws l x))) s.1 D in
    let v = right_is ws d l r (flat ws r (under (cols x + width ws l) (distinct (flat ws l x)))) s.0 j in
    record { wide = i.wide; marks = i.marks; sound = ((omega (arith, i.wide, c), omega (arith, v, c)), i.sound, j.sound); plain = (i.plain, j.plain) }
flats ws d (some g k l r) x s st =
    let i = flats ws d l x s.3 st in
    let c = cols_is ws d x st in
    let D = domain ws d x l (flat ws l x) s.3 c i in
    let V : Tree = flat ws r (under (cols x + width ws l) (distinct (flat ws l x))) in
    let j = flats ws (d ++ own ws d l) r (under (cols x + width ws l) (distinct (flat ws l x))) s.4 D in
    let v = right_is ws d l r V s.3 j in
    let u : Flat ws (cols x + width ws l) (d ++ own ws d l) (flat ws l x) = record { wide = i.wide ∙ omega arith; marks = i.marks; sound = i.sound; plain = i.plain } in
    let q = quant_flat ws (pos 1) (pos 0) (cols x + width ws l) (flat ws l x) (select V (compare g (Column k) (Column (cols x + width ws l)))) (select V (unknown_of (compare g (Column k) (Column (cols x + width ws l))))) (d ++ own ws d l) refl refl u (omega (arith, c, s.2)) (omega (arith, v, c)) (omega (arith, v, c))
    ((omega (arith, v, s.0), omega (arith, v, c, s.1)), j.sound) ((omega (arith, v, s.0), omega (arith, v, c, s.1)), j.sound) j.plain j.plain in
    record { wide = q.wide ∙ omega arith; marks = q.marks ∙ append_assoc d (own ws d l) _; sound = q.sound; plain = q.plain }
flats ws d (all g k l r) x s st =
    let i = flats ws d l x s.3 st in
    let c = cols_is ws d x st in
    let D = domain ws d x l (flat ws l x) s.3 c i in
    let V : Tree = flat ws r (under (cols x + width ws l) (distinct (flat ws l x))) in
    let j = flats ws (d ++ own ws d l) r (under (cols x + width ws l) (distinct (flat ws l x))) s.4 D in
    let v = right_is ws d l r V s.3 j in
    let u : Flat ws (cols x + width ws l) (d ++ own ws d l) (flat ws l x) = record { wide = i.wide ∙ omega arith; marks = i.marks; sound = i.sound; plain = i.plain } in
    let q = quant_flat ws (pos 0) (pos 1) (cols x + width ws l) (flat ws l x) (select V (not_of (compare g (Column k) (Column (cols x + width ws l))))) (select V (unknown_of (compare g (Column k) (Column (cols x + width ws l))))) (d ++ own ws d l) refl refl u (omega (arith, c, s.2)) (omega (arith, v, c)) (omega (arith, v, c))
    ((omega (arith, v, s.0), omega (arith, v, c, s.1)), j.sound) ((omega (arith, v, s.0), omega (arith, v, c, s.1)), j.sound) j.plain j.plain in
    record { wide = q.wide ∙ omega arith; marks = q.marks ∙ append_assoc d (own ws d l) _; sound = q.sound; plain = q.plain }
