-- Widths.
use Rattle.std.proofs.Common.{◌≡◌, ℕ, zero, suc, ◌+◌, ◌-◌, ◌*◌, ◌^◌, ◌<◌, ◌≤◌, false, leb, List, [], ◌∷◌, ◌++◌, length, get_or, replicate, sym, refl, ap, ◌∙◌, inl, inr, pow-suc, add-one, arith, pow_pos, below_more}
use Rattle.std.proofs.Math.Pow.{pow_mono}
use Rattle.std.proofs.lemmas.Bool.{and_parts, not-false, leb-true, cases_lt}
use Rattle.std.proofs.lemmas.List.{get_or_past, get_or_append_left, get_or-append_right, get_or-replicate, length-replicate}
use Rattle.lines.specs.declared.line.Line.TheVariants.{And, AntiMatch, ApplyAll, ApplyAnti, ApplyCross, ApplyOuter, ApplySemi, ApplySome, Compare, Diff, Distinct, Extend, ExtendTruth, Group, IsNull, Keep, Match, Not, Or, Pad, Select, SemiMatch, Table as TableL, Total, Union, Unit as UnitL, Unknown as UnknownL}
use Rattle.lines.specs.declared.line.Line.{Line}
use Rattle.lines.specs.Shapes.{Lower, Ordered, line_at, width_at}
use Rattle.lines.specs.Lines.{Node, as_rows, at, build, grow}
use Rattle.query.specs.Fits.{Slim, misfit, unfit, width_by}
use Rattle.query.specs.Working.{listed}
use Rattle.lines.specs.Trees.{width}
use Rattle.lines.proofs.Growing.{node_is}

pub misfit_below : (i : ℕ) (u w : ℕ → ℕ) (l : Line) → Lower i l → ((a : ℕ) → a < i → u a ≡ w a) → misfit u l ≡ misfit w l
misfit_below i u w (TableL t) g h = refl
misfit_below i u w UnitL g h = refl
misfit_below i u w (Select a q) g h = refl
misfit_below i u w (Keep n m a) g h = rw (h a g)
misfit_below i u w (Extend a v) g h = refl
misfit_below i u w (ExtendTruth a q) g h = refl
misfit_below i u w (Pad m a) g h = refl
misfit_below i u w (Match n a b) g h = rw (h a g.0, h b g.1)
misfit_below i u w (SemiMatch n a b) g h = rw (h a g.0, h b g.1)
misfit_below i u w (AntiMatch n a b) g h = rw (h a g.0, h b g.1)
misfit_below i u w (Union a b) g h = rw (h a g.0, h b g.1)
misfit_below i u w (Diff a b) g h = rw (h a g.0, h b g.1)
misfit_below i u w (Distinct a) g h = refl
misfit_below i u w (Group n f k a) g h = rw (h a g)
misfit_below i u w (Total f k a) g h = refl
misfit_below i u w (ApplyCross a b) g h = refl
misfit_below i u w (ApplyOuter a b) g h = refl
misfit_below i u w (ApplySemi a b) g h = refl
misfit_below i u w (ApplyAnti a b) g h = refl
misfit_below i u w (ApplySome s k a b) g h = rw (h b g.1)
misfit_below i u w (ApplyAll s k a b) g h = rw (h b g.1)
misfit_below i u w (Compare s a b) g h = refl
misfit_below i u w (IsNull k) g h = refl
misfit_below i u w (Not a) g h = refl
misfit_below i u w (UnknownL a) g h = refl
misfit_below i u w (And a b) g h = refl
misfit_below i u w (Or a b) g h = refl

pub width_below : (ws : List ℕ) (i : ℕ) (u w : ℕ → ℕ) (l : Line) → Lower i l → ((a : ℕ) → a < i → u a ≡ w a) → width_by ws u l ≡ width_by ws w l
width_below ws i u w (TableL t) g h = refl
width_below ws i u w UnitL g h = refl
width_below ws i u w (Select a q) g h = h a g.0
width_below ws i u w (Keep n m a) g h = refl
width_below ws i u w (Extend a v) g h = rw (h a g)
width_below ws i u w (ExtendTruth a q) g h = rw (h a g.0)
width_below ws i u w (Pad m a) g h = rw (h a g)
width_below ws i u w (Match n a b) g h = rw (h a g.0, h b g.1)
width_below ws i u w (SemiMatch n a b) g h = h a g.0
width_below ws i u w (AntiMatch n a b) g h = h a g.0
width_below ws i u w (Union a b) g h = h a g.0
width_below ws i u w (Diff a b) g h = h a g.0
width_below ws i u w (Distinct a) g h = h a g
width_below ws i u w (Group n f k a) g h = refl
width_below ws i u w (Total f k a) g h = refl
width_below ws i u w (ApplyCross a b) g h = rw (h a g.0, h b g.1)
width_below ws i u w (ApplyOuter a b) g h = rw (h a g.0, h b g.1)
width_below ws i u w (ApplySemi a b) g h = h a g.0
width_below ws i u w (ApplyAnti a b) g h = h a g.0
width_below ws i u w (ApplySome s k a b) g h = rw (h a g.0)
width_below ws i u w (ApplyAll s k a b) g h = rw (h a g.0)
width_below ws i u w (Compare s a b) g h = refl
width_below ws i u w (IsNull k) g h = refl
width_below ws i u w (Not a) g h = refl
width_below ws i u w (UnknownL a) g h = refl
width_below ws i u w (And a b) g h = refl
width_below ws i u w (Or a b) g h = refl

width_build : (ws : List ℕ) (o : List Node) (l : Line) → width ws (as_rows (build o l)) ≡ width_by ws (λ a. width ws (as_rows (at o a))) l
unfolding build width
width_build ws o (TableL t) = refl
width_build ws o UnitL = refl
width_build ws o (Select a q) = refl
width_build ws o (Keep n m a) = refl
width_build ws o (Extend a v) = refl
width_build ws o (ExtendTruth a q) = refl
width_build ws o (Pad m a) = refl
width_build ws o (Match n a b) = refl
width_build ws o (SemiMatch n a b) = refl
width_build ws o (AntiMatch n a b) = refl
width_build ws o (Union a b) = refl
width_build ws o (Diff a b) = refl
width_build ws o (Distinct a) = refl
width_build ws o (Group n f k a) = refl
width_build ws o (Total f k a) = refl
width_build ws o (ApplyCross a b) = refl
width_build ws o (ApplyOuter a b) = refl
width_build ws o (ApplySemi a b) = refl
width_build ws o (ApplyAnti a b) = refl
width_build ws o (ApplySome s k a b) = refl
width_build ws o (ApplyAll s k a b) = refl
width_build ws o (Compare s a b) = refl
width_build ws o (IsNull k) = refl
width_build ws o (Not a) = refl
width_build ws o (UnknownL a) = refl
width_build ws o (And a b) = refl
width_build ws o (Or a b) = refl

pub width_at_is : (ls : List Line) (ws : List ℕ) (i : ℕ) → i < length ls → Lower i (line_at ls i) → width_at ls ws i ≡ width_by ws (width_at ls ws) (line_at ls i)
width_at_is ls ws i h low = ap (λ v. width ws (as_rows v)) (node_is ls i UnitL h low) ∙ width_build ws (grow [] ls) (line_at ls i)

pub width_small : (ws : List ℕ) (w : ℕ → ℕ) (B : ℕ) (l : Line) → Slim ws → 32 ≤ B → ((a : ℕ) → w a ≤ B) → misfit w l ≡ false → width_by ws w l ≤ B + B
width_small ws w B (TableL t) sl g h e = omega (arith, sl t)
width_small ws w B UnitL sl g h e = omega arith
width_small ws w B (Select a q) sl g h e = omega (arith, h a)
width_small ws w B (Keep n m a) sl g h e = omega (arith, h a, leb-true (n + m) (w a) (and_parts (leb 1 (n + m)) (leb (n + m) (w a)) (not-false _ e)).1)
width_small ws w B (Extend a v) sl g h e = omega (arith, h a)
width_small ws w B (ExtendTruth a q) sl g h e = omega (arith, h a)
width_small ws w B (Pad m a) sl g h e = omega (arith, h a, leb-true m 31 (and_parts (leb 1 m) (leb m 31) (not-false _ e)).1)
width_small ws w B (Match n a b) sl g h e = omega (arith, h a, h b)
width_small ws w B (SemiMatch n a b) sl g h e = omega (arith, h a)
width_small ws w B (AntiMatch n a b) sl g h e = omega (arith, h a)
width_small ws w B (Union a b) sl g h e = omega (arith, h a)
width_small ws w B (Diff a b) sl g h e = omega (arith, h a)
width_small ws w B (Distinct a) sl g h e = omega (arith, h a)
width_small ws w B (Group n f k a) sl g h e = omega (arith, h a, leb-true n (w a) (and_parts (leb 1 n) (leb n (w a)) (not-false _ e)).1)
width_small ws w B (Total f k a) sl g h e = omega arith
width_small ws w B (ApplyCross a b) sl g h e = omega (arith, h a, h b)
width_small ws w B (ApplyOuter a b) sl g h e = omega (arith, h a, h b)
width_small ws w B (ApplySemi a b) sl g h e = omega (arith, h a)
width_small ws w B (ApplyAnti a b) sl g h e = omega (arith, h a)
width_small ws w B (ApplySome s k a b) sl g h e = omega (arith, h a)
width_small ws w B (ApplyAll s k a b) sl g h e = omega (arith, h a)
width_small ws w B (Compare s a b) sl g h e = omega arith
width_small ws w B (IsNull k) sl g h e = omega arith
width_small ws w B (Not a) sl g h e = omega arith
width_small ws w B (UnknownL a) sl g h e = omega arith
width_small ws w B (And a b) sl g h e = omega arith
width_small ws w B (Or a b) sl g h e = omega arith

pub zeros : (n i : ℕ) → ◌≡◌ {A = ℕ} (get_or (replicate n 0) i 0) 0
zeros n i = elim (cases_lt i n) [ inl h ↦ get_or-replicate n i 0 0 h | inr h ↦ get_or_past (replicate n 0) i 0 (omega (arith, length-replicate {A = ℕ} n 0)) ]

-- line i comes to a list w of the widths of the lines below it
module _ (ls : List Line) (ws w : List ℕ) (i : ℕ) (slim : Slim ws) (few : length ls ≤ 32) (o : Ordered ls) (h : i < length ls) (long : length w ≡ i)
    (measured : (j : ℕ) → j < i → listed w j ≡ width_at ls ws j) (small : (a : ℕ) → listed w a ≤ 32 * 2 ^ i) where
  pub unfit_is : misfit (listed w) (line_at ls i) ≡ unfit ls ws i
  unfit_is = misfit_below i (listed w) (width_at ls ws) (line_at ls i) (o i h) measured

  -- and its width is added
  module _ (v : ℕ) (e : v ≡ width_by ws (listed w) (line_at ls i)) where
    none : i - i ≡ 0
    none = omega arith

    pub measured_more : (j : ℕ) → j < i + 1 → listed (w ++ v ∷ []) j ≡ width_at ls ws j
    measured_more =
        below_more (λ j. listed (w ++ v ∷ []) j ≡ width_at ls ws j) i
        (λ j k. get_or_append_left w (v ∷ []) 0 j (omega arith) ∙ measured j k)
        (get_or-append_right w (v ∷ []) i i 0 long (omega arith) ∙ ap (λ k. get_or (v ∷ []) k 0) none ∙ e ∙ width_below ws i (listed w) (width_at ls ws) (line_at ls i) (o i h) measured ∙ sym (width_at_is ls ws i h (o i h)))

    module _ (ok : misfit (listed w) (line_at ls i) ≡ false) where
      double : 2 ^ (i + 1) ≡ 2 * 2 ^ i
      double = rw (add-one i) (pow-suc 2 i ∙ omega arith)

      grown : v ≤ 32 * 2 ^ (i + 1)
      grown = omega (arith, width_small ws (listed w) (32 * 2 ^ i) (line_at ls i) slim (omega (arith, pow_pos i)) small ok, e, double)

      pub added_small : v ≤ 137438953472
      added_small = omega (arith, grown, pow_mono {i = i + 1} {j = 32} (omega arith))

      pub small_more : (a : ℕ) → listed (w ++ v ∷ []) a ≤ 32 * 2 ^ (i + 1)
      small_more a =
          elim (cases_lt a i) [
            | inl k ↦ rw (get_or_append_left w (v ∷ []) 0 a (omega arith)) (omega (arith, small a, double))
            | inr k ↦ rw (get_or-append_right w (v ∷ []) i a 0 long k) (pushed_small (a - i))
          ]
        where
          pushed_small : (k : ℕ) → get_or (v ∷ []) k 0 ≤ 32 * 2 ^ (i + 1)
          pushed_small zero = grown
          pushed_small (suc k) = rw (get_or_past {X = ℕ} [] k 0 (omega arith)) (omega arith)
