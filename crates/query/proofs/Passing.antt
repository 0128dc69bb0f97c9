-- What holds of lines for which there is no cause up to some number.
use Rattle.std.proofs.Common.{◌≡◌, ℕ, zero, suc, ◌+◌, ◌-◌, ◌<◌, ◌≤◌, Bool, true, false, not, eqb, ltb, leb, List, [], ◌++◌, length, get_or, take, drop, replicate, sym, refl, ap, ◌∙◌, inl, inr, arith}
use Rattle.std.proofs.lemmas.List.{length-append, length-take, length-drop, length-replicate}
use Rattle.std.proofs.lemmas.Bool.{cases_lt, cases_Bool, lt-ltb, and_parts, and_from, not-false, not_from_false, both_ways, leb-true, eqb-true, eq-eqb, ne_eqb}
use Rattle.stock.specs.declared.refusal.Refusal.TheVariants.{LineCount, Operand, Reading, UnknownTable, Misfit, LongRow, UnknownColumn}
use Rattle.lines.specs.declared.line.Line.{Line}
use Rattle.lines.specs.declared.line.Line.TheVariants.{Table as TableL, Unit as UnitL, Select, Keep, Extend, ExtendTruth, Pad, Match, SemiMatch, AntiMatch, Union, Diff, Distinct, Group, Total, ApplyCross, ApplyOuter, ApplySemi, ApplyAnti, ApplySome, ApplyAll, Compare, IsNull, Not, Unknown as UnknownL, And, Or}
use Rattle.lines.specs.declared.line.Shape.{Shape}
use Rattle.lines.specs.declared.line.Shape.TheVariants.{Leaf, One, Two, Tested, Inner, Part, Parts}
use Rattle.lines.specs.Trees.{width}
use Rattle.lines.specs.Lines.{Node, as_rows, at, build, grow}
use Rattle.lines.specs.Shapes.{shape_of, is_condition, line_at, Lower, Ordered, tree_at, width_at}
use Rattle.lines.specs.Marks.{Marks, own}
use Rattle.query.specs.Reads.{rows_below, condition_below, well_read, misread, times_in, isolated, Never}
use Rattle.query.specs.Fits.{unknown_table, misfit, unfit}
use Rattle.query.specs.Sums.{longer, marks_at}
use Rattle.query.specs.Contexts.{read_under, wider, context_at, overlong, stray}
use Rattle.query.specs.Verdicts.{Passed}
use Rattle.lines.proofs.Growing.{node_is}
use Rattle.query.proofs.Handing.{under_end}
use Rattle.query.proofs.Readers.{ordered_from, under_skip, lower_zero, under_map}
use Rattle.lines.proofs.Soundness.{either_length, push_length}

pub never_from : (p : ℕ → Bool) (n : ℕ) → ((j : ℕ) → (j < n) × (p j ≡ true) → ⊥) → Never p n
never_from p n h j k = elim (cases_Bool (p j)) [ inl e ↦ absurd (h j (k, e)) | inr e ↦ e ]

not_t : (b : Bool) → not b ≡ true → b ≡ false
not_t true e = sym e
not_t false e = refl

-- the kinds of the operands
abbrev pub Kinds : List Line → Shape → Type 0
Kinds ls Leaf = Unit {0}
Kinds ls (One a) = is_condition (line_at ls a) ≡ false
Kinds ls (Two a b) = (is_condition (line_at ls a) ≡ false) × (is_condition (line_at ls b) ≡ false)
Kinds ls (Tested a q) = (is_condition (line_at ls a) ≡ false) × (is_condition (line_at ls q) ≡ true)
Kinds ls (Inner a b) = (is_condition (line_at ls a) ≡ false) × (is_condition (line_at ls b) ≡ false)
Kinds ls (Part p) = is_condition (line_at ls p) ≡ true
Kinds ls (Parts p q) = (is_condition (line_at ls p) ≡ true) × (is_condition (line_at ls q) ≡ true)

pub kinds : (ls : List Line) (i : ℕ) (r : Shape) → well_read ls i r ≡ true → Kinds ls r
kinds ls i Leaf e = tt
kinds ls i (One a) e = not_t _ (and_parts (ltb a i) _ e).1
kinds ls i (Two a b) e = let f = and_parts (rows_below ls i a) _ e in (not_t _ (and_parts (ltb a i) _ f.0).1, not_t _ (and_parts (ltb b i) _ f.1).1)
kinds ls i (Tested a b) e = let f = and_parts (rows_below ls i a) _ e in (not_t _ (and_parts (ltb a i) _ f.0).1, (and_parts (ltb b i) _ f.1).1)
kinds ls i (Inner a b) e = let f = and_parts (rows_below ls i a) _ e in (not_t _ (and_parts (ltb a i) _ f.0).1, not_t _ (and_parts (ltb b i) _ f.1).1)
kinds ls i (Part a) e = (and_parts (ltb a i) _ e).1
kinds ls i (Parts a b) e = let f = and_parts (condition_below ls i a) _ e in ((and_parts (ltb a i) _ f.0).1, (and_parts (ltb b i) _ f.1).1)

own_build : (ws : List ℕ) (i : ℕ) (o : List Node) (l : Line) → Lower i l → misfit (λ a. width ws (as_rows (at o a))) l ≡ false → ((a : ℕ) → a < i → (d : Marks) → length (own ws d (as_rows (at o a))) ≡ width ws (as_rows (at o a))) → (d : Marks) → length (own ws d (as_rows (build o l))) ≡ width ws (as_rows (build o l))
unfolding build own width
own_build ws i o (TableL t) w f h d = length-replicate (get_or ws t 0) false
own_build ws i o UnitL w f h d = refl
own_build ws i o (Select a q) w f h d = h a w.0 d
own_build ws i o (Keep n m a) w f h d = length-append (take n (own ws d (as_rows (at o a)))) (drop (length (own ws d (as_rows (at o a))) - m) (own ws d (as_rows (at o a)))) ∙ rw (length-take, length-drop) (omega (arith, h a w d, leb-true (n + m) (width ws (as_rows (at o a))) (and_parts (leb 1 (n + m)) _ (not-false _ f)).1))
own_build ws i o (Extend a v) w f h d = push_length (own ws d (as_rows (at o a))) _ _ (h a w d)
own_build ws i o (ExtendTruth a q) w f h d = push_length (own ws d (as_rows (at o a))) _ _ (h a w.0 d)
own_build ws i o (Pad m a) w f h d = length-append (own ws d (as_rows (at o a))) (replicate m false) ∙ rw (h a w d, length-replicate)
own_build ws i o (Match n a b) w f h d = length-append (own ws d (as_rows (at o a))) (drop n (own ws d (as_rows (at o b)))) ∙ rw (h a w.0 d, length-drop, h b w.1 d)
own_build ws i o (SemiMatch n a b) w f h d = h a w.0 d
own_build ws i o (AntiMatch n a b) w f h d = h a w.0 d
own_build ws i o (Union a b) w f h d = either_length (own ws d (as_rows (at o a))) (own ws d (as_rows (at o b))) ∙ h a w.0 d
own_build ws i o (Diff a b) w f h d = h a w.0 d
own_build ws i o (Distinct a) w f h d = h a w d
own_build ws i o (Group n u k a) w f h d = push_length (take n (own ws d (as_rows (at o a)))) _ n (length-take n (own ws d (as_rows (at o a))) ∙ omega (arith, h a w d, leb-true n (width ws (as_rows (at o a))) (and_parts (leb 1 n) _ (not-false _ f)).1))
own_build ws i o (Total u k a) w f h d = refl
own_build ws i o (ApplyCross a b) w f h d = length-append (own ws d (as_rows (at o a))) (own ws (d ++ (own ws d (as_rows (at o a)))) (as_rows (at o b))) ∙ rw (h a w.0 d, h b w.1 (d ++ (own ws d (as_rows (at o a)))))
own_build ws i o (ApplyOuter a b) w f h d = length-append (own ws d (as_rows (at o a))) (own ws (d ++ (own ws d (as_rows (at o a)))) (as_rows (at o b))) ∙ rw (h a w.0 d, h b w.1 (d ++ (own ws d (as_rows (at o a)))))
own_build ws i o (ApplySemi a b) w f h d = h a w.0 d
own_build ws i o (ApplyAnti a b) w f h d = h a w.0 d
own_build ws i o (ApplySome s k a b) w f h d = push_length (own ws d (as_rows (at o a))) _ _ (h a w.0 d)
own_build ws i o (ApplyAll s k a b) w f h d = push_length (own ws d (as_rows (at o a))) _ _ (h a w.0 d)
own_build ws i o (Compare s a b) w f h d = refl
own_build ws i o (IsNull k) w f h d = refl
own_build ws i o (Not a) w f h d = refl
own_build ws i o (UnknownL a) w f h d = refl
own_build ws i o (And a b) w f h d = refl
own_build ws i o (Or a b) w f h d = refl

module _ (ls : List Line) (ws : List ℕ) (n : ℕ) (P : Passed ls ws n) where
  pub counted : 1 ≤ n → (1 ≤ length ls) × (length ls ≤ 32)
  counted m =
      elim (cases_lt 0 (length ls)) [
        | inl a ↦ elim (cases_lt 32 (length ls)) [ inl b ↦ absurd (P (LineCount (length ls)) m (refl, λ q. omega (arith, q.1))) | inr b ↦ (a, b) ]
        | inr a ↦ absurd (P (LineCount (length ls)) m (refl, λ q. omega (arith, q.0)))
      ]

  pub reads : 2 ≤ n → Never (misread ls) (length ls)
  reads m = never_from (misread ls) (length ls) (λ j. P (Operand j) m)

  pub ordered : 2 ≤ n → Ordered ls
  ordered m = ordered_from ls (reads m)

  pub kinds_at : 2 ≤ n → (i : ℕ) → i < length ls → Kinds ls (shape_of (line_at ls i))
  kinds_at m i l = kinds ls i (shape_of (line_at ls i)) (not-false _ (reads m i l))

  alone : 3 ≤ n → Never (isolated ls) (length ls)
  alone m = never_from (isolated ls) (length ls) (λ j. P (Reading j) m)

  pub once : 3 ≤ n → (a : ℕ) → a + 1 < length ls → times_in ls a ≡ 1
  once m a l =
      let e : eqb (a + 1) (length ls) ≡ false = ne_eqb (a + 1) (length ls) (λ q. omega arith) in
      let f = alone m a (omega arith) in
      eqb-true (times_in ls a) 1 (not-false (eqb (times_in ls a) 1) (rw e at f))

  -- the last line has rows
  pub last_rows : 3 ≤ n → is_condition (line_at ls (length ls - 1)) ≡ false
  last_rows m =
      let some = (counted (omega arith)).0 in
      let f = alone m (length ls - 1) (omega arith) in
      let q : length ls - 1 + 1 ≡ length ls = omega arith in
      let e : eqb (length ls - 1 + 1) (length ls) ≡ true = eq-eqb (length ls - 1 + 1) (length ls) q in
      rw e at f

  pub tables : 4 ≤ n → Never (λ i. unknown_table ws (line_at ls i)) (length ls)
  tables m = never_from (λ i. unknown_table ws (line_at ls i)) (length ls) (λ j. P (UnknownTable j) m)

  pub fits : 5 ≤ n → Never (unfit ls ws) (length ls)
  fits m = never_from (unfit ls ws) (length ls) (λ j. P (Misfit j) m)

  -- the long row of a line with rows
  pub fitting : 6 ≤ n → (i : ℕ) → i < length ls → is_condition (line_at ls i) ≡ false → context_at ls ws i + width_at ls ws i ≤ 32
  fitting m i l t =
      let f = never_from (overlong ls ws) (length ls) (λ j. P (LongRow j) m) i l in
      let v = context_at ls ws i + width_at ls ws i in
      elim (cases_lt 32 v) [
        | inl y ↦ absurd (both_ways (overlong ls ws i) f (and_from _ _ (not_from_false _ t) (lt-ltb 32 v y)))
        | inr y ↦ y
      ]

  pub named : 7 ≤ n → Never (stray ls ws) (length ls)
  named m = never_from (stray ls ws) (length ls) (λ j. P (UnknownColumn j) m)

  own_long : 5 ≤ n → (k i : ℕ) → i < k → k ≤ length ls → (d : Marks) → length (own ws d (tree_at ls i)) ≡ width_at ls ws i
  own_long m zero i l k d = absurd (omega arith)
  own_long m (suc j) i l k d =
      rw (node_is ls i UnitL (omega arith) (ordered (omega arith) i (omega arith)))
      (own_build ws i (grow [] ls) (line_at ls i) (ordered (omega arith) i (omega arith)) (fits m i (omega arith)) (λ a y d. own_long m j a (omega arith) (omega arith) d) d)

  -- a mark for each column
  pub own_is : 5 ≤ n → (i : ℕ) → i < length ls → (d : Marks) → length (own ws d (tree_at ls i)) ≡ width_at ls ws i
  own_is m i l d = own_long m (length ls) i l (omega arith) d

  -- what the last line is read under
  pub at_last : 2 ≤ n → {X : Type 0} (f : ℕ → X → X) (e : X) (i : ℕ) → i + 1 ≡ length ls → read_under f e 0 ls i ≡ e
  at_last m f e i l =
      under_skip f e ls i (length ls) (omega arith) (lower_zero ls (ordered m) i (length ls) (omega arith) (omega arith)) ∙ under_end f e ls (length ls) (length ls) i (omega arith)

  -- the marks of a context are as many as its columns
  pub marks_long : 5 ≤ n → (i : ℕ) → length (marks_at ls ws i) ≡ context_at ls ws i
  marks_long m i =
      under_map length (longer ls ws) (wider ls ws) [] ls (ordered (omega arith)) (λ a x l. length-append x (own ws x (tree_at ls a)) ∙ ap (λ v. length x + v) (own_is m a l x)) i

  -- a line's context, seen from its successor on
  pub seen_from : 2 ≤ n → {X : Type 0} (f : ℕ → X → X) (e : X) (i : ℕ) → i < length ls → read_under f e 0 ls i ≡ read_under f e (i + 1) (drop (i + 1) ls) i
  seen_from m f e i l = under_skip f e ls i (i + 1) (omega arith) (lower_zero ls (ordered m) i (i + 1) (omega arith) (omega arith))
