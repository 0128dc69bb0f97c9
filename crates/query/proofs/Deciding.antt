-- The order in which the causes are tried.
use Rattle.std.proofs.Common.{◌≡◌, ℕ, ◌+◌, ◌<◌, ◌≤◌, Bool, true, cond, eqb, List, length, sym, refl, ap, ◌∙◌, subst, inl, inr, arith}
use Rattle.std.proofs.lemmas.Bool.{both_ways, cases_lt}
use Rattle.stock.specs.declared.refusal.Refusal.{Refusal}
use Rattle.stock.specs.declared.refusal.Refusal.TheVariants.{LineCount, Operand, Reading, UnknownTable, Misfit, LongRow, UnknownColumn, SumOfSum, NothingStands, LongPlan, ManyCells, CellsOut, NotShown, BadRow, NoRoom, BadTable}
use Rattle.stock.specs.Refusals.{number_of, value_of}
use Rattle.lines.specs.declared.line.Line.{Line}
use Rattle.lines.specs.declared.line.Line.TheVariants.{Table as TableL, Unit as UnitL, Select, Keep, Extend, ExtendTruth, Pad, Match, SemiMatch, AntiMatch, Union, Diff, Distinct, Group, Total, ApplyCross, ApplyOuter, ApplySemi, ApplyAnti, ApplySome, ApplyAll, Compare, IsNull, Not, Unknown as UnknownL, And, Or}
use Rattle.lines.specs.Shapes.{line_at, width_at, Lower, Ordered}
use Rattle.query.specs.Reads.{Never, First, misread, isolated}
use Rattle.query.specs.Fits.{unknown_table, unfit}
use Rattle.query.specs.Contexts.{read_under, wider, context_at, too_long, overlong, outside, stray}
use Rattle.query.specs.Sums.{resummed}
use Rattle.query.specs.Verdicts.{Faulty, Refused, Passed, Accepted}
use Rattle.query.specs.Working.{listed, wider_by, Measured}
use Rattle.query.proofs.Readers.{under_same}
use Rattle.query.proofs.Passing.{counted, ordered}

-- the refusal of a number from 1 to 8 with a value
abbrev pub cause : ℕ → ℕ → Refusal
cause n v = cond (eqb n 1) (LineCount v) (cond (eqb n 2) (Operand v) (cond (eqb n 3) (Reading v) (cond (eqb n 4) (UnknownTable v) (cond (eqb n 5) (Misfit v) (cond (eqb n 6) (LongRow v) (cond (eqb n 7) (UnknownColumn v) (SumOfSum v)))))))

cause_is : (b : Refusal) → number_of b ≤ 8 → b ≡ cause (number_of b) (value_of b)
cause_is (LineCount n) h = refl
cause_is (Operand n) h = refl
cause_is (Reading n) h = refl
cause_is (UnknownTable n) h = refl
cause_is (Misfit n) h = refl
cause_is (LongRow n) h = refl
cause_is (UnknownColumn n) h = refl
cause_is (SumOfSum n) h = refl
cause_is NothingStands h = absurd (omega arith)
cause_is LongPlan h = absurd (omega arith)
cause_is ManyCells h = absurd (omega arith)
cause_is (CellsOut n) h = absurd (omega arith)
cause_is NotShown h = absurd (omega arith)
cause_is (BadRow n) h = absurd (omega arith)
cause_is NoRoom h = absurd (omega arith)
cause_is (BadTable n) h = absurd (omega arith)

pub from_never : (p : ℕ → Bool) (n : ℕ) → Never p n → (j : ℕ) → (j < n) × (p j ≡ true) → ⊥
from_never p n h j k = both_ways (p j) (h j k.0) k.1

pub never_like : (p q : ℕ → Bool) (n : ℕ) → ((i : ℕ) → i < n → p i ≡ q i) → Never p n → Never q n
never_like p q n e h j k = sym (e j k) ∙ h j k

pub first_like : (p q : ℕ → Bool) (n i : ℕ) → ((i : ℕ) → i < n → p i ≡ q i) → First p n i → First q n i
first_like p q n i e h = record { within = h.within; fault = sym (e i h.within) ∙ h.fault; before = never_like p q i (λ j k. e j (omega (arith, h.within))) h.before }

module _ (ls : List Line) (ws : List ℕ) where
  same_number : (b : Refusal) (n : ℕ) → n ≤ 8 → number_of b ≡ n → ((j : ℕ) → Faulty ls ws (cause n j) → ⊥) → Faulty ls ws b → ⊥
  same_number b n m e h = let P : Refusal → Type 0 = λ v. Faulty ls ws v → ⊥ in subst P (sym (cause_is b (omega arith) ∙ ap (λ v. cause v (value_of b)) e)) (h (value_of b))

  pub pass : (n : ℕ) → n < 8 → Passed ls ws n → ((j : ℕ) → Faulty ls ws (cause (n + 1) j) → ⊥) → Passed ls ws (n + 1)
  pass n m h k b l =
      elim (cases_lt n (number_of b)) [
        | inl g ↦ same_number b (n + 1) (omega arith) (omega arith) k
        | inr g ↦ h b g
      ]

  pub refuse : (n i : ℕ) (r : Refusal) → n < 8 → r ≡ cause (n + 1) i → number_of r ≡ n + 1 → value_of r ≡ i → Passed ls ws n → Faulty ls ws r → ((j : ℕ) → j < i → Faulty ls ws (cause (n + 1) j) → ⊥) → Refused ls ws r
  refuse n i r m e f v h q k =
      record {
        fault = q;
        first = λ b s. elim s [
          | inl g ↦ h b (omega (arith, f))
          | inr g ↦ (let P : Refusal → Type 0 = λ v. Faulty ls ws v → ⊥ in
              subst P (sym (cause_is b (omega (arith, f, g.0)) ∙ ap (λ v. cause v (value_of b)) (g.0 ∙ f))) (k (value_of b) (omega (arith, v, g.1))))
        ];
      }

  pub refuse_first : (n i : ℕ) (r : Refusal) (p : ℕ → Bool) → n < 8 → r ≡ cause (n + 1) i → number_of r ≡ n + 1 → value_of r ≡ i → Passed ls ws n → ((j : ℕ) → Faulty ls ws (cause (n + 1) j) → (j < length ls) × (p j ≡ true)) → ((i < length ls) × (p i ≡ true) → Faulty ls ws r) → First p (length ls) i → Refused ls ws r
  refuse_first n i r p m e f v h k q F = refuse n i r m e f v h (q (F.within, F.fault)) (λ j l z. both_ways (p j) (F.before j l) (k j z).1)

  pub none_passed : Passed ls ws 0
  none_passed (LineCount n) h = absurd (omega arith)
  none_passed (Operand n) h = absurd (omega arith)
  none_passed (Reading n) h = absurd (omega arith)
  none_passed (UnknownTable n) h = absurd (omega arith)
  none_passed (Misfit n) h = absurd (omega arith)
  none_passed (LongRow n) h = absurd (omega arith)
  none_passed (UnknownColumn n) h = absurd (omega arith)
  none_passed (SumOfSum n) h = absurd (omega arith)
  none_passed NothingStands h = λ z. z
  none_passed LongPlan h = λ z. z
  none_passed ManyCells h = λ z. z
  none_passed (CellsOut n) h = λ z. z
  none_passed NotShown h = λ z. z
  none_passed (BadRow n) h = λ z. z
  none_passed NoRoom h = λ z. z
  none_passed (BadTable n) h = λ z. z

  pub accept : Passed ls ws 8 → Accepted ls ws
  accept P (LineCount n) = P (LineCount n) (omega arith)
  accept P (Operand n) = P (Operand n) (omega arith)
  accept P (Reading n) = P (Reading n) (omega arith)
  accept P (UnknownTable n) = P (UnknownTable n) (omega arith)
  accept P (Misfit n) = P (Misfit n) (omega arith)
  accept P (LongRow n) = P (LongRow n) (omega arith)
  accept P (UnknownColumn n) = P (UnknownColumn n) (omega arith)
  accept P (SumOfSum n) = P (SumOfSum n) (omega arith)
  accept P NothingStands = λ z. z
  accept P LongPlan = λ z. z
  accept P ManyCells = λ z. z
  accept P (CellsOut n) = λ z. z
  accept P NotShown = λ z. z
  accept P (BadRow n) = λ z. z
  accept P NoRoom = λ z. z
  accept P (BadTable n) = λ z. z

  -- what the first fault of a kind is refused with
  pub refuse_with : (K : ℕ → Refusal) (p : ℕ → Bool) (e : Refusal) → ((i : ℕ) → First p (length ls) i → Refused ls ws (K i)) → (i : ℕ) × First p (length ls) i × (e ≡ K i) → Refused ls ws e
  refuse_with K p e f q = rw q.2 (f q.0 q.1)

  -- 1 to 4
  pub passed1 : 1 ≤ length ls → length ls ≤ 32 → Passed ls ws 1
  passed1 h k = pass 0 (omega arith) none_passed (λ j z. z.1 (omega (arith, z.0), omega (arith, z.0)))

  pub refuse2 : (i : ℕ) → Passed ls ws 1 → First (misread ls) (length ls) i → Refused ls ws (Operand i)
  refuse2 i P F = refuse_first 1 i (Operand i) (misread ls) (omega arith) refl refl refl P (λ j z. z) (λ z. z) F

  pub passed2 : Passed ls ws 1 → Never (misread ls) (length ls) → Passed ls ws 2
  passed2 P N = pass 1 (omega arith) P (from_never (misread ls) (length ls) N)

  pub refuse3 : (i : ℕ) → Passed ls ws 2 → First (isolated ls) (length ls) i → Refused ls ws (Reading i)
  refuse3 i P F = refuse_first 2 i (Reading i) (isolated ls) (omega arith) refl refl refl P (λ j z. z) (λ z. z) F

  pub passed3 : Passed ls ws 2 → Never (isolated ls) (length ls) → Passed ls ws 3
  passed3 P N = pass 2 (omega arith) P (from_never (isolated ls) (length ls) N)

  pub refuse4 : (i : ℕ) → Passed ls ws 3 → First (λ i. unknown_table ws (line_at ls i)) (length ls) i → Refused ls ws (UnknownTable i)
  refuse4 i P F = refuse_first 3 i (UnknownTable i) (λ i. unknown_table ws (line_at ls i)) (omega arith) refl refl refl P (λ j z. z) (λ z. z) F

  pub passed4 : Passed ls ws 3 → Never (λ i. unknown_table ws (line_at ls i)) (length ls) → Passed ls ws 4
  passed4 P N = pass 3 (omega arith) P (from_never (λ i. unknown_table ws (line_at ls i)) (length ls) N)

  pub refuse5 : (i : ℕ) → Passed ls ws 4 → First (unfit ls ws) (length ls) i → Refused ls ws (Misfit i)
  refuse5 i P F = refuse_first 4 i (Misfit i) (unfit ls ws) (omega arith) refl refl refl P (λ j z. z) (λ z. z) F

  pub passed5 : Passed ls ws 4 → Never (unfit ls ws) (length ls) → Passed ls ws 5
  passed5 P N = pass 4 (omega arith) P (from_never (unfit ls ws) (length ls) N)

  pub refuse8 : (i : ℕ) → Passed ls ws 7 → First (resummed ls ws) (length ls) i → Refused ls ws (SumOfSum i)
  refuse8 i P F = refuse_first 7 i (SumOfSum i) (resummed ls ws) (omega arith) refl refl refl P (λ j z. z) (λ z. z) F

  pub passed8 : Passed ls ws 7 → Never (resummed ls ws) (length ls) → Passed ls ws 8
  passed8 P N = pass 7 (omega arith) P (from_never (resummed ls ws) (length ls) N)

outside_below : (i c : ℕ) (u w : ℕ → ℕ) (l : Line) → Lower i l → ((a : ℕ) → a < i → u a ≡ w a) → outside c u l ≡ outside c w l
outside_below i c u w (TableL t) g h = refl
outside_below i c u w UnitL g h = refl
outside_below i c u w (Select a q) g h = refl
outside_below i c u w (Keep n m a) g h = refl
outside_below i c u w (Extend a v) g h = rw (h a g)
outside_below i c u w (ExtendTruth a q) g h = refl
outside_below i c u w (Pad m a) g h = refl
outside_below i c u w (Match n a b) g h = refl
outside_below i c u w (SemiMatch n a b) g h = refl
outside_below i c u w (AntiMatch n a b) g h = refl
outside_below i c u w (Union a b) g h = refl
outside_below i c u w (Diff a b) g h = refl
outside_below i c u w (Distinct a) g h = refl
outside_below i c u w (Group n f j a) g h = rw (h a g)
outside_below i c u w (Total f j a) g h = rw (h a g)
outside_below i c u w (ApplyCross a b) g h = refl
outside_below i c u w (ApplyOuter a b) g h = refl
outside_below i c u w (ApplySemi a b) g h = refl
outside_below i c u w (ApplyAnti a b) g h = refl
outside_below i c u w (ApplySome s j a b) g h = rw (h a g.0)
outside_below i c u w (ApplyAll s j a b) g h = rw (h a g.0)
outside_below i c u w (Compare s a b) g h = refl
outside_below i c u w (IsNull j) g h = refl
outside_below i c u w (Not a) g h = refl
outside_below i c u w (UnknownL a) g h = refl
outside_below i c u w (And a b) g h = refl
outside_below i c u w (Or a b) g h = refl

-- 6 and 7, by the lists of widths and of context widths
module _ (ls : List Line) (ws w c : List ℕ) (P : Passed ls ws 4) (M : Measured ls ws w) (C : (i : ℕ) → i < 32 → listed c i ≡ read_under (wider_by w) 0 0 ls i) where
  few : length ls ≤ 32
  few = (counted ls ws 4 P (omega arith)).1

  o : Ordered ls
  o = ordered ls ws 4 P (omega arith)

  context_is : (i : ℕ) → i < length ls → listed c i ≡ context_at ls ws i
  context_is i k = C i (omega (arith, few)) ∙ under_same (wider_by w) (wider ls ws) 0 ls o (λ a x m. ap (λ v. x + v) (M.widths a m)) i

  long_is : (i : ℕ) → i < length ls → too_long (listed c i) (listed w i) (line_at ls i) ≡ overlong ls ws i
  long_is i k = rw (context_is i k, M.widths i k)

  stray_is : (i : ℕ) → i < length ls → outside (listed c i) (listed w) (line_at ls i) ≡ stray ls ws i
  stray_is i k = rw (context_is i k) (outside_below i (context_at ls ws i) (listed w) (width_at ls ws) (line_at ls i) (o i k) (λ a m. M.widths a (omega arith)))

  pub refuse6 : (i : ℕ) → First (λ i. too_long (listed c i) (listed w i) (line_at ls i)) (length ls) i → Refused ls ws (LongRow i)
  refuse6 i F =
      refuse_first ls ws 5 i (LongRow i) (overlong ls ws) (omega arith) refl refl refl (passed5 ls ws P M.fits) (λ j z. z) (λ z. z)
      (first_like (λ i. too_long (listed c i) (listed w i) (line_at ls i)) (overlong ls ws) (length ls) i long_is F)

  pub passed6 : Never (λ i. too_long (listed c i) (listed w i) (line_at ls i)) (length ls) → Passed ls ws 6
  passed6 N =
      pass ls ws 5 (omega arith) (passed5 ls ws P M.fits)
      (from_never (overlong ls ws) (length ls) (never_like (λ i. too_long (listed c i) (listed w i) (line_at ls i)) (overlong ls ws) (length ls) long_is N))

  pub refuse7 : (i : ℕ) → Passed ls ws 6 → First (λ i. outside (listed c i) (listed w) (line_at ls i)) (length ls) i → Refused ls ws (UnknownColumn i)
  refuse7 i Q F =
      refuse_first ls ws 6 i (UnknownColumn i) (stray ls ws) (omega arith) refl refl refl Q (λ j z. z) (λ z. z)
      (first_like (λ i. outside (listed c i) (listed w) (line_at ls i)) (stray ls ws) (length ls) i stray_is F)

  pub passed7 : Passed ls ws 6 → Never (λ i. outside (listed c i) (listed w) (line_at ls i)) (length ls) → Passed ls ws 7
  passed7 Q N =
      pass ls ws 6 (omega arith) Q
      (from_never (stray ls ws) (length ls) (never_like (λ i. outside (listed c i) (listed w) (line_at ls i)) (stray ls ws) (length ls) stray_is N))
