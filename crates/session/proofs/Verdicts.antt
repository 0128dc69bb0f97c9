-- The check's verdict is the model's cause to refuse a lay.
use Rattle.std.proofs.Common.{◌≡◌, ℕ, ◌<◌, ◌≤◌, Bool, List, [], ◌∷◌, length, Some, None, sym, refl, ap, ◌∙◌, inl, inr, ⊎_elim, arith}
use Rattle.std.proofs.lemmas.Bool.{cases_lt, false_from_ne_true}
use Rattle.stock.specs.Refusals.{number_of}
use Rattle.stock.specs.declared.refusal.Refusal.{Refusal}
use Rattle.stock.specs.declared.refusal.Refusal.TheVariants.{LineCount, Operand, Reading, UnknownTable, Misfit, LongRow, UnknownColumn, SumOfSum, NothingStands, LongPlan, ManyCells, CellsOut, NotShown, BadRow, NoRoom, BadTable}
use Rattle.lines.specs.Shapes.{line_at}
use Rattle.lines.specs.declared.line.Line.{Line}
use Rattle.query.specs.Reads.{misread, isolated}
use Rattle.query.specs.Fits.{unknown_table, unfit}
use Rattle.query.specs.Contexts.{overlong, stray}
use Rattle.query.specs.Sums.{resummed}
use Rattle.query.specs.Verdicts.{Faulty, Refused, Accepted}
use Rattle.session.specs.Checks.{Test, line_tests, lay_refusal, first_failed}
use Rattle.session.proofs.Tests.{passed, failed, counted, none_laid, too_many}

-- a test as a function of lines, and what it refuses
abbrev test : (ℕ → Bool) → (ℕ → Refusal) → Test
test f r = record { fails = f; refusal = r }

module _ (ws : List ℕ) (ls : List Line) where
  -- the tests, and those from one of them on
  abbrev T1 : Test
  T1 = test (misread ls) (λ i. Operand i)

  abbrev T2 : Test
  T2 = test (isolated ls) (λ i. Reading i)

  abbrev T3 : Test
  T3 = test (λ i. unknown_table ws (line_at ls i)) (λ i. UnknownTable i)

  abbrev T4 : Test
  T4 = test (unfit ls ws) (λ i. Misfit i)

  abbrev T5 : Test
  T5 = test (overlong ls ws) (λ i. LongRow i)

  abbrev T6 : Test
  T6 = test (stray ls ws) (λ i. UnknownColumn i)

  abbrev T7 : Test
  T7 = test (resummed ls ws) (λ i. SumOfSum i)

  -- no cause of a number below k
  abbrev Below : ℕ → Type 0
  Below k = (b : Refusal) → number_of b < k → Faulty ls ws b → ⊥

  few : Below 2 → (1 ≤ length ls) × (length ls ≤ 32)
  few h =
      ⊎_elim
      (λ l. absurd (h (LineCount (length ls)) (omega arith) (refl, λ p. let a = p.0 in omega arith)))
      (λ g. ⊎_elim (λ l. absurd (h (LineCount (length ls)) (omega arith) (refl, λ p. let a = p.1 in omega arith))) (λ k. (g, k)) (cases_lt 32 (length ls)))
      (cases_lt (length ls) 1)

  less : (k j : ℕ) → j ≤ k → Below k → Below j
  less k j l h b m = h b (omega arith)

  at1 : Below 2 → lay_refusal ws ls ≡ first_failed (line_tests ws ls) (length ls)
  at1 h = let p = few h in counted ws ls p.0 p.1

  at2 : Below 3 → lay_refusal ws ls ≡ first_failed (T2 ∷ T3 ∷ T4 ∷ T5 ∷ T6 ∷ T7 ∷ []) (length ls)
  at2 h = at1 (less 3 2 (omega arith) h) ∙ passed T1 (T2 ∷ T3 ∷ T4 ∷ T5 ∷ T6 ∷ T7 ∷ []) (length ls) (λ i l. false_from_ne_true (misread ls i) (λ y. h (Operand i) (omega arith) (l, y)))

  at3 : Below 4 → lay_refusal ws ls ≡ first_failed (T3 ∷ T4 ∷ T5 ∷ T6 ∷ T7 ∷ []) (length ls)
  at3 h = at2 (less 4 3 (omega arith) h) ∙ passed T2 (T3 ∷ T4 ∷ T5 ∷ T6 ∷ T7 ∷ []) (length ls) (λ i l. false_from_ne_true (isolated ls i) (λ y. h (Reading i) (omega arith) (l, y)))

  at4 : Below 5 → lay_refusal ws ls ≡ first_failed (T4 ∷ T5 ∷ T6 ∷ T7 ∷ []) (length ls)
  at4 h = at3 (less 5 4 (omega arith) h) ∙ passed T3 (T4 ∷ T5 ∷ T6 ∷ T7 ∷ []) (length ls) (λ i l. false_from_ne_true (unknown_table ws (line_at ls i)) (λ y. h (UnknownTable i) (omega arith) (l, y)))

  at5 : Below 6 → lay_refusal ws ls ≡ first_failed (T5 ∷ T6 ∷ T7 ∷ []) (length ls)
  at5 h = at4 (less 6 5 (omega arith) h) ∙ passed T4 (T5 ∷ T6 ∷ T7 ∷ []) (length ls) (λ i l. false_from_ne_true (unfit ls ws i) (λ y. h (Misfit i) (omega arith) (l, y)))

  at6 : Below 7 → lay_refusal ws ls ≡ first_failed (T6 ∷ T7 ∷ []) (length ls)
  at6 h = at5 (less 7 6 (omega arith) h) ∙ passed T5 (T6 ∷ T7 ∷ []) (length ls) (λ i l. false_from_ne_true (overlong ls ws i) (λ y. h (LongRow i) (omega arith) (l, y)))

  at7 : Below 8 → lay_refusal ws ls ≡ first_failed (T7 ∷ []) (length ls)
  at7 h = at6 (less 8 7 (omega arith) h) ∙ passed T6 (T7 ∷ []) (length ls) (λ i l. false_from_ne_true (stray ls ws i) (λ y. h (UnknownColumn i) (omega arith) (l, y)))

  pub accepted_none : Accepted ls ws → lay_refusal ws ls ≡ None
  accepted_none a = at7 (λ b l. a b) ∙ passed T7 [] (length ls) (λ i l. false_from_ne_true (resummed ls ws i) (λ y. a (SumOfSum i) (l, y)))

  pub refused_some : (e : Refusal) → Refused ls ws e → lay_refusal ws ls ≡ Some e
  refused_some (LineCount n) r =
      ⊎_elim
      (λ l. none_laid ws ls (omega arith) ∙ ap (λ k. Some (LineCount k)) (sym r.fault.0))
      (λ g. ⊎_elim
      (λ l. too_many ws ls l ∙ ap (λ k. Some (LineCount k)) (sym r.fault.0))
      (λ k. let e = r.fault.0 in let a : 1 ≤ n = omega arith in let b : n ≤ 32 = omega arith in absurd (r.fault.1 (a, b)))
      (cases_lt 32 (length ls)))
      (cases_lt (length ls) 1)
  refused_some (Operand i) r = at1 (λ b l. r.first b (inl l)) ∙ failed T1 (T2 ∷ T3 ∷ T4 ∷ T5 ∷ T6 ∷ T7 ∷ []) (length ls) i r.fault.0 r.fault.1 (λ j l. false_from_ne_true (misread ls j) (λ y. let q = r.fault.0 in r.first (Operand j) (inr (refl, l)) (omega arith, y)))
  refused_some (Reading i) r = at2 (λ b l. r.first b (inl l)) ∙ failed T2 (T3 ∷ T4 ∷ T5 ∷ T6 ∷ T7 ∷ []) (length ls) i r.fault.0 r.fault.1 (λ j l. false_from_ne_true (isolated ls j) (λ y. let q = r.fault.0 in r.first (Reading j) (inr (refl, l)) (omega arith, y)))
  refused_some (UnknownTable i) r = at3 (λ b l. r.first b (inl l)) ∙ failed T3 (T4 ∷ T5 ∷ T6 ∷ T7 ∷ []) (length ls) i r.fault.0 r.fault.1 (λ j l. false_from_ne_true (unknown_table ws (line_at ls j)) (λ y. let q = r.fault.0 in r.first (UnknownTable j) (inr (refl, l)) (omega arith, y)))
  refused_some (Misfit i) r = at4 (λ b l. r.first b (inl l)) ∙ failed T4 (T5 ∷ T6 ∷ T7 ∷ []) (length ls) i r.fault.0 r.fault.1 (λ j l. false_from_ne_true (unfit ls ws j) (λ y. let q = r.fault.0 in r.first (Misfit j) (inr (refl, l)) (omega arith, y)))
  refused_some (LongRow i) r = at5 (λ b l. r.first b (inl l)) ∙ failed T5 (T6 ∷ T7 ∷ []) (length ls) i r.fault.0 r.fault.1 (λ j l. false_from_ne_true (overlong ls ws j) (λ y. let q = r.fault.0 in r.first (LongRow j) (inr (refl, l)) (omega arith, y)))
  refused_some (UnknownColumn i) r = at6 (λ b l. r.first b (inl l)) ∙ failed T6 (T7 ∷ []) (length ls) i r.fault.0 r.fault.1 (λ j l. false_from_ne_true (stray ls ws j) (λ y. let q = r.fault.0 in r.first (UnknownColumn j) (inr (refl, l)) (omega arith, y)))
  refused_some (SumOfSum i) r = at7 (λ b l. r.first b (inl l)) ∙ failed T7 [] (length ls) i r.fault.0 r.fault.1 (λ j l. false_from_ne_true (resummed ls ws j) (λ y. let q = r.fault.0 in r.first (SumOfSum j) (inr (refl, l)) (omega arith, y)))
  refused_some NothingStands r = absurd r.fault
  refused_some LongPlan r = absurd r.fault
  refused_some ManyCells r = absurd r.fault
  refused_some (CellsOut i) r = absurd r.fault
  refused_some NotShown r = absurd r.fault
  refused_some (BadRow i) r = absurd r.fault
  refused_some NoRoom r = absurd r.fault
  refused_some (BadTable i) r = absurd r.fault
