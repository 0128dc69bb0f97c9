-- An accepted query stands for a sound tree.
use Rattle.std.proofs.Common.{◌≡◌, ℕ, zero, suc, ◌+◌, ◌-◌, ◌<◌, ◌≤◌, true, false, leb, List, [], length, sym, refl, ap, ◌∙◌, subst, arith}
use Rattle.std.proofs.lemmas.Bool.{and_parts, not-false, both_ways, or_parts, leb-true, leb-false, eqb-true}
use Rattle.lines.specs.declared.line.Side.{Side}
use Rattle.lines.specs.declared.line.Side.TheVariants.{Column, Constant}
use Rattle.lines.specs.declared.line.Line.{Line}
use Rattle.lines.specs.declared.line.Line.TheVariants.{Table as TableL, Unit as UnitL, Select, Keep, Extend, ExtendTruth, Pad, Match, SemiMatch, AntiMatch, Union, Diff, Distinct, Group, Total, ApplyCross, ApplyOuter, ApplySemi, ApplyAnti, ApplySome, ApplyAll, Compare, IsNull, Not, Unknown as UnknownL, And, Or}
use Rattle.lines.specs.Trees.{width}
use Rattle.lines.specs.Lines.{as_rows, as_cond, at, build, grow, answer}
use Rattle.lines.specs.Shapes.{shape_of, is_condition, line_at, Lower, Ordered, tree_at, width_at}
use Rattle.lines.specs.Marks.{Marks, SideIn, CondIn, Sound}
use Rattle.query.specs.Reads.{times_in}
use Rattle.query.specs.Fits.{unknown_table, stored_side, misfit, width_by}
use Rattle.query.specs.Contexts.{wider, context_at, beyond, outside}
use Rattle.query.specs.Sums.{longer, marks_at, resums, resummed}
use Rattle.query.specs.Verdicts.{Passed, Accepted}
use Rattle.stock.specs.declared.refusal.Refusal.TheVariants.{SumOfSum}
use Rattle.lines.proofs.Growing.{node_is}
use Rattle.query.proofs.Fitting.{width_at_is}
use Rattle.query.proofs.Readers.{ContextsOf, contexts_of}
use Rattle.query.proofs.Passing.{never_from, Kinds, kinds_at, counted, ordered, once, last_rows, tables, fits, fitting, named, marks_long, at_last}

side_in : (n : ℕ) (v : Side) → beyond n v ≡ false → stored_side v ≡ true → SideIn n v
side_in n (Column k) h s = leb-false n k h
side_in n (Constant z) h s = s

module _ (ls : List Line) (ws : List ℕ) (K : Accepted ls ws) where
  P : Passed ls ws 8
  P b h = K b

  abbrev c : ℕ → ℕ
  c = context_at ls ws

  abbrev w : ℕ → ℕ
  w = width_at ls ws

  abbrev m : ℕ → Marks
  m = marks_at ls ws

  o : Ordered ls
  o = ordered ls ws 8 P (omega arith)

  -- all that the check says of a line
  record Facts (i : ℕ) (l : Line) : Type 0 where
    pub low : Lower i l
    pub ctx : ContextsOf (wider ls ws) c i (shape_of l)
    pub marks : ContextsOf (longer ls ws) m i (shape_of l)
    pub kind : Kinds ls (shape_of l)
    pub stored : unknown_table ws l ≡ false
    pub fit : misfit w l ≡ false
    pub named : outside (c i) w l ≡ false
    pub width : w i ≡ width_by ws w l
    pub long : is_condition l ≡ false → c i + w i ≤ 32
    pub apart : resums ls ws (m i) l ≡ false
    pub deep : length (m i) ≡ c i

  facts : (i : ℕ) → i < length ls → Facts i (line_at ls i)
  facts i l =
      record {
        low = o i l;
        ctx = contexts_of (wider ls ws) 0 ls o (once ls ws 8 P (omega arith)) i l;
        marks = contexts_of (longer ls ws) [] ls o (once ls ws 8 P (omega arith)) i l;
        kind = kinds_at ls ws 8 P (omega arith) i l;
        stored = tables ls ws 8 P (omega arith) i l;
        fit = fits ls ws 8 P (omega arith) i l;
        named = named ls ws 8 P (omega arith) i l;
        width = width_at_is ls ws i l (o i l);
        long = fitting ls ws 8 P (omega arith) i l;
        apart = never_from (resummed ls ws) (length ls) (λ j. K (SumOfSum j)) i l;
        deep = marks_long ls ws 8 P (omega arith) i;
      }

  abbrev Test : ℕ → Type 0
  Test a = CondIn (c a) (as_cond (at (grow [] ls) a))

  abbrev Good : ℕ → Type 0
  Good a = Sound ws (m a) (tree_at ls a)

  module _ (i : ℕ) (hyp : (a : ℕ) → a < i → is_condition (line_at ls a) ≡ false → Good a) (hypT : (a : ℕ) → a < i → is_condition (line_at ls a) ≡ true → Test a) where
    under : (a : ℕ) (d : Marks) → a < i → is_condition (line_at ls a) ≡ false → m a ≡ d → Sound ws d (tree_at ls a)
    under a d l t e = let Q : Marks → Type 0 = λ v. Sound ws v (tree_at ls a) in subst Q e (hyp a l t)

    tested : (a q : ℕ) → q < i → is_condition (line_at ls q) ≡ true → c q ≡ c i + w a → length (m i) ≡ c i → CondIn (length (m i) + width ws (tree_at ls a)) (as_cond (at (grow [] ls) q))
    tested a q l t e d = let Q : ℕ → Type 0 = λ v. CondIn v (as_cond (at (grow [] ls) q)) in subst Q (e ∙ ap (λ v. v + w a) (sym d)) (hypT q l t)

    sound_build : (l : Line) → Facts i l → is_condition l ≡ false → Sound ws (m i) (as_rows (build (grow [] ls) l))
    unfolding build Sound
    sound_build (TableL t') B t = (leb-false (length ws) t' B.stored, omega (arith, B.long refl, B.width, B.deep))
    sound_build UnitL B t = omega (arith, B.long refl, B.width, B.deep)
    sound_build (Select a q) B t = (tested a q B.low.1 B.kind.1 B.ctx.1 B.deep, under a (m i) B.low.0 B.kind.0 B.marks.0)
    sound_build (Keep n k a) B t =
        let f = and_parts (leb 1 (n + k)) (leb (n + k) (w a)) (not-false _ B.fit) in
        ((leb-true 1 (n + k) f.0, leb-true (n + k) (w a) f.1), under a (m i) B.low B.kind B.marks)
    sound_build (Extend a v) B t =
        let Q : ℕ → Type 0 = λ x. SideIn x v in (
          subst Q (ap (λ x. x + w a) (sym B.deep)) (side_in (c i + w a) v B.named (not-false _ B.fit)),
          omega (arith, B.long refl, B.width, B.deep),
          under a (m i) B.low B.kind B.marks,
        )
    sound_build (ExtendTruth a q) B t =
        (tested a q B.low.1 B.kind.1 B.ctx.1 B.deep, omega (arith, B.long refl, B.width, B.deep), under a (m i) B.low.0 B.kind.0 B.marks.0)
    sound_build (Pad k a) B t = (omega (arith, B.long refl, B.width, B.deep), under a (m i) B.low B.kind B.marks)
    sound_build (Match n a b) B t =
        let f = and_parts (leb n (w a)) (leb n (w b)) (not-false _ B.fit) in (
          (leb-true n (w a) f.0, leb-true n (w b) f.1),
          omega (arith, B.long refl, B.width, B.deep),
          under a (m i) B.low.0 B.kind.0 B.marks.0,
          under b (m i) B.low.1 B.kind.1 B.marks.1,
        )
    sound_build (SemiMatch n a b) B t =
        let f = and_parts (leb n (w a)) (leb n (w b)) (not-false _ B.fit) in
        ((leb-true n (w a) f.0, leb-true n (w b) f.1), under a (m i) B.low.0 B.kind.0 B.marks.0, under b (m i) B.low.1 B.kind.1 B.marks.1)
    sound_build (AntiMatch n a b) B t =
        let f = and_parts (leb n (w a)) (leb n (w b)) (not-false _ B.fit) in
        ((leb-true n (w a) f.0, leb-true n (w b) f.1), under a (m i) B.low.0 B.kind.0 B.marks.0, under b (m i) B.low.1 B.kind.1 B.marks.1)
    sound_build (Union a b) B t = (sym (eqb-true (w a) (w b) (not-false _ B.fit)), under a (m i) B.low.0 B.kind.0 B.marks.0, under b (m i) B.low.1 B.kind.1 B.marks.1)
    sound_build (Diff a b) B t = (sym (eqb-true (w a) (w b) (not-false _ B.fit)), under a (m i) B.low.0 B.kind.0 B.marks.0, under b (m i) B.low.1 B.kind.1 B.marks.1)
    sound_build (Distinct a) B t = under a (m i) B.low B.kind B.marks
    sound_build (Group n f k a) B t = (
      leb-true n (w a) (and_parts (leb 1 n) (leb n (w a)) (not-false _ B.fit)).1,
      omega (arith, B.long refl, B.width, B.deep),
      (omega (arith, leb-false (c i + w a) k B.named, B.deep), B.apart),
      under a (m i) B.low B.kind B.marks,
    )
    sound_build (Total f k a) B t =
        (omega (arith, B.long refl, B.width, B.deep), (omega (arith, leb-false (c i + w a) k B.named, B.deep), B.apart), under a (m i) B.low B.kind B.marks)
    sound_build (ApplyCross a b) B t =
        (omega (arith, B.long refl, B.width, B.deep), under a (m i) B.low.0 B.kind.0 B.marks.0, under b (longer ls ws a (m i)) B.low.1 B.kind.1 B.marks.1)
    sound_build (ApplyOuter a b) B t =
        (omega (arith, B.long refl, B.width, B.deep), under a (m i) B.low.0 B.kind.0 B.marks.0, under b (longer ls ws a (m i)) B.low.1 B.kind.1 B.marks.1)
    sound_build (ApplySemi a b) B t = (under a (m i) B.low.0 B.kind.0 B.marks.0, under b (longer ls ws a (m i)) B.low.1 B.kind.1 B.marks.1)
    sound_build (ApplyAnti a b) B t = (under a (m i) B.low.0 B.kind.0 B.marks.0, under b (longer ls ws a (m i)) B.low.1 B.kind.1 B.marks.1)
    sound_build (ApplySome s k a b) B t = (
      omega (arith, leb-false (c i + w a) k B.named, B.deep),
      eqb-true (w b) 1 (not-false _ B.fit),
      omega (arith, B.long refl, B.width, B.deep),
      under a (m i) B.low.0 B.kind.0 B.marks.0,
      under b (longer ls ws a (m i)) B.low.1 B.kind.1 B.marks.1,
    )
    sound_build (ApplyAll s k a b) B t = (
      omega (arith, leb-false (c i + w a) k B.named, B.deep),
      eqb-true (w b) 1 (not-false _ B.fit),
      omega (arith, B.long refl, B.width, B.deep),
      under a (m i) B.low.0 B.kind.0 B.marks.0,
      under b (longer ls ws a (m i)) B.low.1 B.kind.1 B.marks.1,
    )
    sound_build (Compare s a b) B t = absurd (both_ways true t refl)
    sound_build (IsNull k) B t = absurd (both_ways true t refl)
    sound_build (Not a) B t = absurd (both_ways true t refl)
    sound_build (UnknownL a) B t = absurd (both_ways true t refl)
    sound_build (And a b) B t = absurd (both_ways true t refl)
    sound_build (Or a b) B t = absurd (both_ways true t refl)

  cond_build : (i : ℕ) (l : Line) → Facts i l → is_condition l ≡ true → ((a : ℕ) → a < i → is_condition (line_at ls a) ≡ true → CondIn (c a) (as_cond (at (grow [] ls) a))) → CondIn (c i) (as_cond (build (grow [] ls) l))
  unfolding build
  cond_build i (TableL t') B t hypT = absurd (both_ways false refl t)
  cond_build i UnitL B t hypT = absurd (both_ways false refl t)
  cond_build i (Select a q) B t hypT = absurd (both_ways false refl t)
  cond_build i (Keep n m a) B t hypT = absurd (both_ways false refl t)
  cond_build i (Extend a v) B t hypT = absurd (both_ways false refl t)
  cond_build i (ExtendTruth a q) B t hypT = absurd (both_ways false refl t)
  cond_build i (Pad m a) B t hypT = absurd (both_ways false refl t)
  cond_build i (Match n a b) B t hypT = absurd (both_ways false refl t)
  cond_build i (SemiMatch n a b) B t hypT = absurd (both_ways false refl t)
  cond_build i (AntiMatch n a b) B t hypT = absurd (both_ways false refl t)
  cond_build i (Union a b) B t hypT = absurd (both_ways false refl t)
  cond_build i (Diff a b) B t hypT = absurd (both_ways false refl t)
  cond_build i (Distinct a) B t hypT = absurd (both_ways false refl t)
  cond_build i (Group n f j a) B t hypT = absurd (both_ways false refl t)
  cond_build i (Total f j a) B t hypT = absurd (both_ways false refl t)
  cond_build i (ApplyCross a b) B t hypT = absurd (both_ways false refl t)
  cond_build i (ApplyOuter a b) B t hypT = absurd (both_ways false refl t)
  cond_build i (ApplySemi a b) B t hypT = absurd (both_ways false refl t)
  cond_build i (ApplyAnti a b) B t hypT = absurd (both_ways false refl t)
  cond_build i (ApplySome s j a b) B t hypT = absurd (both_ways false refl t)
  cond_build i (ApplyAll s j a b) B t hypT = absurd (both_ways false refl t)
  cond_build i (Compare s a b) B t hypT =
      let f = or_parts (beyond (c i) a) (beyond (c i) b) B.named in
      let e = and_parts (stored_side a) (stored_side b) (not-false _ B.fit) in
      (side_in (c i) a f.0 e.0, side_in (c i) b f.1 e.1)
  cond_build i (IsNull j) B t hypT = leb-false (c i) j B.named
  cond_build i (Not a) B t hypT = subst (λ v. CondIn v (as_cond (at (grow [] ls) a))) B.ctx (hypT a B.low B.kind)
  cond_build i (UnknownL a) B t hypT = subst (λ v. CondIn v (as_cond (at (grow [] ls) a))) B.ctx (hypT a B.low B.kind)
  cond_build i (And a b) B t hypT = (subst (λ v. CondIn v (as_cond (at (grow [] ls) a))) B.ctx.0 (hypT a B.low.0 B.kind.0), subst (λ v. CondIn v (as_cond (at (grow [] ls) b))) B.ctx.1 (hypT b B.low.1 B.kind.1))
  cond_build i (Or a b) B t hypT = (subst (λ v. CondIn v (as_cond (at (grow [] ls) a))) B.ctx.0 (hypT a B.low.0 B.kind.0), subst (λ v. CondIn v (as_cond (at (grow [] ls) b))) B.ctx.1 (hypT b B.low.1 B.kind.1))

  cond_line : (n i : ℕ) → i < n → n ≤ length ls → is_condition (line_at ls i) ≡ true → Test i
  cond_line zero i l k t = absurd (omega arith)
  cond_line (suc n) i l k t =
      rw (node_is ls i UnitL (omega arith) (o i (omega arith)))
      (cond_build i (line_at ls i) (facts i (omega arith)) t (λ a j. cond_line n a (omega arith) (omega arith)))

  sound_line : (n i : ℕ) → i < n → n ≤ length ls → is_condition (line_at ls i) ≡ false → Good i
  sound_line zero i l k t = absurd (omega arith)
  sound_line (suc n) i l k t =
      rw (node_is ls i UnitL (omega arith) (o i (omega arith)))
      (sound_build i (λ a j. sound_line n a (omega arith) (omega arith)) (λ a j. cond_line (length ls) a (omega arith) (omega arith)) (line_at ls i) (facts i (omega arith)) t)

  -- every line with rows is sound in its context
  pub sound_at : (i : ℕ) → i < length ls → is_condition (line_at ls i) ≡ false → Sound ws (marks_at ls ws i) (tree_at ls i)
  sound_at i l t = sound_line (length ls) i l (omega arith) t

  -- and every condition names columns of the long row that it is read with
  pub condition_at : (i : ℕ) → i < length ls → is_condition (line_at ls i) ≡ true → CondIn (context_at ls ws i) (as_cond (at (grow [] ls) i))
  condition_at i l t = cond_line (length ls) i l (omega arith) t

  pub accepted_counted : (1 ≤ length ls) × (length ls ≤ 32)
  accepted_counted = counted ls ws 8 P (omega arith)

  pub accepted_ordered : Ordered ls
  accepted_ordered = o

  pub accepted_kinds : (i : ℕ) → i < length ls → Kinds ls (shape_of (line_at ls i))
  accepted_kinds = kinds_at ls ws 8 P (omega arith)

  pub accepted_once : (a : ℕ) → a + 1 < length ls → times_in ls a ≡ 1
  accepted_once = once ls ws 8 P (omega arith)

  pub accepted_last : is_condition (line_at ls (length ls - 1)) ≡ false
  accepted_last = last_rows ls ws 8 P (omega arith)

  pub sound_answer : Sound ws [] (answer ls)
  sound_answer =
      let some = accepted_counted.0 in
      let e : marks_at ls ws (length ls - 1) ≡ [] = at_last ls ws 8 P (omega arith) (longer ls ws) [] (length ls - 1) (omega arith) in
      let Q : Marks → Type 0 = λ v. Sound ws v (answer ls) in
      subst Q e (sound_at (length ls - 1) (omega arith) accepted_last)
