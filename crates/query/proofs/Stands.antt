-- The marks of a line by those of its operands.
use Rattle.std.proofs.Common.{◌≡◌, ℕ, ◌+◌, ◌<◌, ◌≤◌, true, false, ◌⊎◌, List, [], ◌++◌, length, sym, refl, ap, ◌∙◌, subst, inl, inr, arith}
use Rattle.std.proofs.lemmas.List.{length-append}
use Rattle.std.proofs.lemmas.Bool.{both_ways}
use Rattle.lines.specs.declared.line.Line.{Line}
use Rattle.lines.specs.declared.line.Line.TheVariants.{Table as TableL, Unit as UnitL, Select, Keep, Extend, ExtendTruth, Pad, Match, SemiMatch, AntiMatch, Union, Diff, Distinct, Group, Total, ApplyCross, ApplyOuter, ApplySemi, ApplyAnti, ApplySome, ApplyAll, Compare, IsNull, Not, Unknown as UnknownL, And, Or}
use Rattle.lines.specs.declared.line.Shape.{Shape}
use Rattle.lines.specs.declared.line.Shape.TheVariants.{Leaf, One, Two, Tested, Inner, Part, Parts}
use Rattle.lines.specs.Lines.{Node, as_rows, at, build, grow}
use Rattle.lines.specs.Shapes.{shape_of, is_condition, line_at, Below, tree_at, width_at}
use Rattle.lines.specs.Marks.{Marks, own}
use Rattle.query.specs.Contexts.{wider, context_at}
use Rattle.query.specs.Sums.{longer}
use Rattle.query.specs.Marking.{own_by, Placed, Standing}
use Rattle.lines.proofs.Growing.{node_is}
use Rattle.query.proofs.Readers.{ContextsOf, contexts_of}
use Rattle.query.proofs.Passing.{Kinds, kinds_at, ordered, once, own_is, fitting}

-- the marks that a line's own columns have, where its operands' nodes are known
abbrev Built : List ℕ → Marks → List Node → Line → Shape → Type 0
Built ws d o l Leaf = (x y : Marks) → own ws d (as_rows (build o l)) ≡ own_by ws d x y l
Built ws d o l (One a) = (y : Marks) → own ws d (as_rows (build o l)) ≡ own_by ws d (own ws d (as_rows (at o a))) y l
Built ws d o l (Tested a q) = (y : Marks) → own ws d (as_rows (build o l)) ≡ own_by ws d (own ws d (as_rows (at o a))) y l
Built ws d o l (Two a b) = own ws d (as_rows (build o l)) ≡ own_by ws d (own ws d (as_rows (at o a))) (own ws d (as_rows (at o b))) l
Built ws d o l (Inner a b) = own ws d (as_rows (build o l)) ≡ own_by ws d (own ws d (as_rows (at o a))) (own ws (d ++ own ws d (as_rows (at o a))) (as_rows (at o b))) l
Built ws d o l (Part p) = ⊥
Built ws d o l (Parts p q) = ⊥

built : (ws : List ℕ) (d : Marks) (o : List Node) (l : Line) → is_condition l ≡ false → Built ws d o l (shape_of l)
unfolding build own
built ws d o (TableL t) h = λ x y. refl
built ws d o UnitL h = λ x y. refl
built ws d o (Select a q) h = λ y. refl
built ws d o (Keep n m a) h = λ y. refl
built ws d o (Extend a v) h = λ y. refl
built ws d o (ExtendTruth a q) h = λ y. refl
built ws d o (Pad m a) h = λ y. refl
built ws d o (Match n a b) h = refl
built ws d o (SemiMatch n a b) h = refl
built ws d o (AntiMatch n a b) h = refl
built ws d o (Union a b) h = refl
built ws d o (Diff a b) h = refl
built ws d o (Distinct a) h = λ y. refl
built ws d o (Group n f k a) h = λ y. refl
built ws d o (Total f k a) h = λ y. refl
built ws d o (ApplyCross a b) h = refl
built ws d o (ApplyOuter a b) h = refl
built ws d o (ApplySemi a b) h = refl
built ws d o (ApplyAnti a b) h = refl
built ws d o (ApplySome s k a b) h = refl
built ws d o (ApplyAll s k a b) h = refl
built ws d o (Compare s a b) h = absurd (both_ways true h refl)
built ws d o (IsNull k) h = absurd (both_ways true h refl)
built ws d o (Not a) h = absurd (both_ways true h refl)
built ws d o (UnknownL a) h = absurd (both_ways true h refl)
built ws d o (And a b) h = absurd (both_ways true h refl)
built ws d o (Or a b) h = absurd (both_ways true h refl)

module _ (ls : List Line) (ws : List ℕ) (i : ℕ) (d : Marks) (S : Placed ls ws i d) where
  -- the operands stand likewise, the inner one under the longer row
  abbrev pub Ready : Shape → Type 0
  Ready Leaf = Unit {0}
  Ready (One a) = (a < i) × Standing ls ws a d
  Ready (Tested a q) = (a < i) × Standing ls ws a d
  Ready (Two a b) = ((a < i) × Standing ls ws a d) × ((b < i) × Standing ls ws b d)
  Ready (Inner a b) = ((a < i) × Standing ls ws a d) × ((b < i) × Standing ls ws b (longer ls ws a d))
  Ready (Part p) = Unit {0}
  Ready (Parts p q) = Unit {0}

  same : (a : ℕ) → a < i → is_condition (line_at ls a) ≡ false → context_at ls ws a ≡ context_at ls ws i → (a < i) × Standing ls ws a d
  same a l t e = (l, record { passed = S.passed; within = omega (arith, S.within); rows = t; long = S.long ∙ sym e })

  more : (a b : ℕ) → a < i → b < i → is_condition (line_at ls b) ≡ false → context_at ls ws b ≡ context_at ls ws i + width_at ls ws a → (b < i) × Standing ls ws b (longer ls ws a d)
  more a b l k t e = (
    k,
    record {
      passed = S.passed;
      within = omega (arith, S.within);
      rows = t;
      long = length-append d (own ws d (tree_at ls a)) ∙ omega (arith, S.long, e, own_is ls ws 7 S.passed (omega arith) a (omega (arith, S.within)) d);
    },
  )

  ready_by : (r : Shape) → Below i r → Kinds ls r → ContextsOf (wider ls ws) (context_at ls ws) i r → Ready r
  ready_by Leaf b k c = tt
  ready_by (One a) b k c = same a b k c
  ready_by (Tested a q) b k c = same a b.0 k.0 c.0
  ready_by (Two a b') b k c = (same a b.0 k.0 c.0, same b' b.1 k.1 c.1)
  ready_by (Inner a b') b k c = (same a b.0 k.0 c.0, more a b' b.0 b.1 k.1 c.1)
  ready_by (Part p) b k c = tt
  ready_by (Parts p q) b k c = tt

  pub placed : (r : Shape) → r ≡ shape_of (line_at ls i) → Ready r
  placed r e =
      let P : Shape → Type 0 = Ready in
      subst P (sym e)
      (ready_by (shape_of (line_at ls i)) (ordered ls ws 7 S.passed (omega arith) i S.within) (kinds_at ls ws 7 S.passed (omega arith) i S.within)
      (contexts_of (wider ls ws) 0 ls (ordered ls ws 7 S.passed (omega arith)) (once ls ws 7 S.passed (omega arith)) i S.within))

  pub placed_one : (a : ℕ) → One a ≡ shape_of (line_at ls i) → Standing ls ws a d
  placed_one a e = (placed (One a) e).1

-- line i, and its shape
module _ (ls : List Line) (ws : List ℕ) (i : ℕ) (d : Marks) (l : Line) (r : Shape) (q : l ≡ line_at ls i) (e : r ≡ shape_of l) where
  shaped : r ≡ shape_of (line_at ls i)
  shaped = e ∙ ap shape_of q

  module _ (S : Placed ls ws i d) where
    pub placed_first : (a : ℕ) → ((x : ℕ) × (r ≡ Tested a x)) ⊎ ((x : ℕ) × (r ≡ Inner a x)) → Standing ls ws a d
    placed_first a f = elim f [
      | inl g ↦ (placed ls ws i d S (Tested a g.0) (sym g.1 ∙ shaped)).1
      | inr g ↦ (placed ls ws i d S (Inner a g.0) (sym g.1 ∙ shaped)).0.1
    ]

  module _ (S : Standing ls ws i d) where
    ready : (o : Shape) → r ≡ o → Ready ls ws i d (record { passed = S.passed; within = S.within; long = S.long }) o
    ready o f = placed ls ws i d (record { passed = S.passed; within = S.within; long = S.long }) o (sym f ∙ shaped)

    pub ready_first : (a : ℕ) → (r ≡ One a) ⊎ ((x : ℕ) × (r ≡ Tested a x)) → (a < i) × Standing ls ws a d
    ready_first a f = elim f [ inl g ↦ ready (One a) g | inr g ↦ ready (Tested a g.0) g.1 ]

    pub ready_two : (a b : ℕ) → r ≡ Two a b → ((a < i) × Standing ls ws a d) × ((b < i) × Standing ls ws b d)
    ready_two a b f = ready (Two a b) f

    pub ready_inner : (a b : ℕ) → r ≡ Inner a b → ((a < i) × Standing ls ws a d) × ((b < i) × Standing ls ws b (longer ls ws a d))
    ready_inner a b f = ready (Inner a b) f

    node : as_rows (at (grow [] ls) i) ≡ as_rows (build (grow [] ls) l)
    node = ap as_rows (node_is ls i UnitL S.within (ordered ls ws 7 S.passed (omega arith) i S.within) ∙ ap (build (grow [] ls)) (sym q))

    made : (o : Shape) → r ≡ o → Built ws d (grow [] ls) l o
    made o f = let P : Shape → Type 0 = Built ws d (grow [] ls) l in subst P (sym e ∙ f) (built ws d (grow [] ls) l (rw q S.rows))

    tree_is : own ws d (tree_at ls i) ≡ own ws d (as_rows (build (grow [] ls) l))
    tree_is = ap (own ws d) node

    pub room : length (own ws d (tree_at ls i)) ≤ 32
    room = omega (arith, own_is ls ws 7 S.passed (omega arith) i S.within d, fitting ls ws 7 S.passed (omega arith) i S.within S.rows)

    pub roomy : (x : Marks) → x ≡ own ws d (tree_at ls i) → length x ≤ 32
    roomy x f = rw f room

    -- the line's marks by those that were worked out for its operands
    pub by_first : (a : ℕ) (x y : Marks) → (r ≡ One a) ⊎ ((x : ℕ) × (r ≡ Tested a x)) → x ≡ own ws d (tree_at ls a) → own_by ws d x y l ≡ own ws d (tree_at ls i)
    by_first a x y f h = rw h (sym (tree_is ∙ elim f [ inl g ↦ made (One a) g y | inr g ↦ made (Tested a g.0) g.1 y ]))

    pub by_two : (a b : ℕ) (x y : Marks) → r ≡ Two a b → x ≡ own ws d (tree_at ls a) → y ≡ own ws d (tree_at ls b) → own_by ws d x y l ≡ own ws d (tree_at ls i)
    by_two a b x y f h k = rw (h, k) (sym (tree_is ∙ made (Two a b) f))

    pub by_inner : (a b : ℕ) (x y : Marks) → r ≡ Inner a b → x ≡ own ws d (tree_at ls a) → y ≡ own ws (longer ls ws a d) (tree_at ls b) → own_by ws d x y l ≡ own ws d (tree_at ls i)
    by_inner a b x y f h k = rw (h, k) (sym (tree_is ∙ made (Inner a b) f))

    pub by_rest : (x y : Marks) → ((a : ℕ) → r ≡ One a → ⊥) → ((a b : ℕ) → r ≡ Tested a b → ⊥) → ((a b : ℕ) → r ≡ Two a b → ⊥) → ((a b : ℕ) → r ≡ Inner a b → ⊥) → own_by ws d x y l ≡ own ws d (tree_at ls i)
    by_rest x y n1 n2 n3 n4 = go r refl
      where
        go : (o : Shape) → r ≡ o → own_by ws d x y l ≡ own ws d (tree_at ls i)
        go Leaf f = sym (tree_is ∙ made Leaf f x y)
        go (One a) f = absurd (n1 a f)
        go (Two a b) f = absurd (n3 a b f)
        go (Tested a b) f = absurd (n2 a b f)
        go (Inner a b) f = absurd (n4 a b f)
        go (Part p) f = absurd (made (Part p) f)
        go (Parts p o) f = absurd (made (Parts p o) f)

module _ (ls : List Line) (ws : List ℕ) (i : ℕ) (d : Marks) (S : Standing ls ws i d) where
  pub long_room : length (longer ls ws i d) ≤ 32
  long_room = omega (arith, length-append d (own ws d (tree_at ls i)), S.long, own_is ls ws 7 S.passed (omega arith) i S.within d, fitting ls ws 7 S.passed (omega arith) i S.within S.rows)
