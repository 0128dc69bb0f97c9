-- What a sound tree's widths and marks are.
use Rattle.std.proofs.Common.{◌≡◌, ℕ, suc, ◌+◌, ◌-◌, ◌<◌, ◌≤◌, Bool, false, List, [], ◌∷◌, ◌++◌, length, get_or, take, drop, replicate, refl, ap, ◌∙◌, arith}
use Rattle.std.proofs.lemmas.List.{length-append, length-take, length-drop, length-replicate}
use Rattle.lines.specs.Trees.{Tree, table, unit, select, keep, extend, extend_truth, pad, match, semi_match, anti_match, union, diff, distinct, group, total, cross, outer, semi, anti, some, all, width}
use Rattle.lines.specs.Marks.{Marks, either_mark, own, Sound}

pub either_length : (m n : Marks) → length (either_mark m n) ≡ length m
either_length [] n = refl
either_length (a ∷ m) [] = refl
either_length (a ∷ m) (b ∷ n) = ap suc (either_length m n)

pub push_length : (m : Marks) (b : Bool) (w : ℕ) → length m ≡ w → length (m ++ (b ∷ [])) ≡ w + 1
push_length m b w e = length-append m (b ∷ []) ∙ rw e

pub own_length : (ws : List ℕ) (d : Marks) (t : Tree) → Sound ws d t → length (own ws d t) ≡ width ws t
unfolding own Sound width
own_length ws d (table t) s = length-replicate (get_or ws t 0) false
own_length ws d unit s = refl
own_length ws d (select e q) s = own_length ws d e s.1
own_length ws d (keep n m e) s =
    let h = own_length ws d e s.1 in
    length-append (take n (own ws d e)) (drop (length (own ws d e) - m) (own ws d e)) ∙ rw (length-take, length-drop) (omega (arith, s.0.1))
own_length ws d (extend e a) s = push_length (own ws d e) _ _ (own_length ws d e s.2)
own_length ws d (extend_truth e q) s = push_length (own ws d e) _ _ (own_length ws d e s.2)
own_length ws d (pad m e) s = length-append (own ws d e) (replicate m false) ∙ rw (own_length ws d e s.1, length-replicate)
own_length ws d (match n l r) s = length-append (own ws d l) (drop n (own ws d r)) ∙ rw (own_length ws d l s.2, length-drop, own_length ws d r s.3)
own_length ws d (semi_match n l r) s = own_length ws d l s.1
own_length ws d (anti_match n l r) s = own_length ws d l s.1
own_length ws d (union l r) s = either_length (own ws d l) (own ws d r) ∙ own_length ws d l s.1
own_length ws d (diff l r) s = own_length ws d l s.1
own_length ws d (distinct e) s = own_length ws d e s
own_length ws d (group n f k e) s = push_length (take n (own ws d e)) _ n (length-take n (own ws d e) ∙ omega (arith, s.0, own_length ws d e s.3))
own_length ws d (total f k e) s = refl
own_length ws d (cross l r) s = length-append (own ws d l) (own ws (d ++ own ws d l) r) ∙ rw (own_length ws d l s.1, own_length ws (d ++ own ws d l) r s.2)
own_length ws d (outer l r) s = length-append (own ws d l) (own ws (d ++ own ws d l) r) ∙ rw (own_length ws d l s.1, own_length ws (d ++ own ws d l) r s.2)
own_length ws d (semi l r) s = own_length ws d l s.0
own_length ws d (anti l r) s = own_length ws d l s.0
own_length ws d (some g k l r) s = push_length (own ws d l) _ _ (own_length ws d l s.3)
own_length ws d (all g k l r) s = push_length (own ws d l) _ _ (own_length ws d l s.3)

-- long rows have at most 32 columns
pub short : (ws : List ℕ) (d : Marks) (t : Tree) → Sound ws d t → length d + width ws t ≤ 32
unfolding Sound width
short ws d (table t) s = s.1
short ws d unit s = s
short ws d (select e q) s = short ws d e s.1
short ws d (keep n m e) s = omega (arith, short ws d e s.1, s.0.1)
short ws d (extend e a) s = s.1
short ws d (extend_truth e q) s = s.1
short ws d (pad m e) s = s.0
short ws d (match n l r) s = s.1
short ws d (semi_match n l r) s = short ws d l s.1
short ws d (anti_match n l r) s = short ws d l s.1
short ws d (union l r) s = short ws d l s.1
short ws d (diff l r) s = short ws d l s.1
short ws d (distinct e) s = short ws d e s
short ws d (group n f k e) s = s.1
short ws d (total f k e) s = s.0
short ws d (cross l r) s = s.0
short ws d (outer l r) s = s.0
short ws d (semi l r) s = short ws d l s.0
short ws d (anti l r) s = short ws d l s.0
short ws d (some g k l r) s = s.2
short ws d (all g k l r) s = s.2

-- rows are at least one column wide, where tables are
pub thick : (ws : List ℕ) → ((t : ℕ) → t < length ws → 1 ≤ get_or ws t 0) → (d : Marks) (t : Tree) → Sound ws d t → 1 ≤ width ws t
unfolding Sound width
thick ws z d (table t) s = z t s.0
thick ws z d unit s = omega arith
thick ws z d (select e q) s = thick ws z d e s.1
thick ws z d (keep n m e) s = s.0.0
thick ws z d (extend e a) s = omega arith
thick ws z d (extend_truth e q) s = omega arith
thick ws z d (pad m e) s = omega (arith, thick ws z d e s.1)
thick ws z d (match n l r) s = omega (arith, thick ws z d l s.2)
thick ws z d (semi_match n l r) s = thick ws z d l s.1
thick ws z d (anti_match n l r) s = thick ws z d l s.1
thick ws z d (union l r) s = thick ws z d l s.1
thick ws z d (diff l r) s = thick ws z d l s.1
thick ws z d (distinct e) s = thick ws z d e s
thick ws z d (group n f k e) s = omega arith
thick ws z d (total f k e) s = omega arith
thick ws z d (cross l r) s = omega (arith, thick ws z d l s.1)
thick ws z d (outer l r) s = omega (arith, thick ws z d l s.1)
thick ws z d (semi l r) s = thick ws z d l s.0
thick ws z d (anti l r) s = thick ws z d l s.0
thick ws z d (some g k l r) s = omega arith
thick ws z d (all g k l r) s = omega arith
