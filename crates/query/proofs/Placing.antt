-- The loop that works out the marks of every line's context.
use Rattle.std.proofs.Common.{◌≡◌, ℕ, ◌+◌, ◌-◌, ◌<◌, ◌≤◌, Bool, true, List, [], length, get_or, drop, replicate, sym, refl, ap, ◌∙◌, arith}
use Rattle.std.proofs.lemmas.List.{get_or_default, get_or-replicate}
use Rattle.lines.specs.declared.line.Line.{Line}
use Rattle.lines.specs.declared.line.Shape.{Shape}
use Rattle.lines.specs.Shapes.{shape_of, line_at}
use Rattle.lines.specs.Marks.{Marks}
use Rattle.query.specs.Contexts.{widens, first_of, handed, read_under}
use Rattle.query.specs.Sums.{longer, marks_at, resums, resummed}
use Rattle.query.specs.Verdicts.{Passed}
use Rattle.query.specs.Marking.{marked, Placed}
use Rattle.query.proofs.Handing.{under_step}
use Rattle.query.proofs.Passing.{counted, marks_long, seen_from}

pub plain_marks : (x : Marks) (i : ℕ) → i < 32 → x ≡ [] → marked (replicate 32 x) i ≡ []
plain_marks x i h e = get_or-replicate 32 i x [] h ∙ e

module _ (ls : List Line) (ws : List ℕ) (P : Passed ls ws 7) (m : List Marks) (j : ℕ) (z : Marks) (some : 0 < j) (few : j ≤ length ls) (long : length m ≡ 32)
    (inv : (i : ℕ) → i < 32 → marked m i ≡ read_under (longer ls ws) [] j (drop j ls) i) where
  short : length ls ≤ 32
  short = (counted ls ws 7 P (omega arith)).1

  at_line : get_or m (j - 1) z ≡ marked m (j - 1)
  at_line = get_or_default m (j - 1) z [] (omega (arith, short))

  here : marked m (j - 1) ≡ marks_at ls ws (j - 1)
  here =
      let e : j ≡ j - 1 + 1 = omega arith in
      inv (j - 1) (omega (arith, short)) ∙ ap (λ v. read_under (longer ls ws) [] v (drop v ls) (j - 1)) e ∙ sym (seen_from ls ws 7 P (omega arith) (longer ls ws) [] (j - 1) (omega arith))

  pub in_place : Placed ls ws (j - 1) (get_or m (j - 1) z)
  in_place = record { passed = P; within = omega arith; long = ap length (at_line ∙ here) ∙ marks_long ls ws 7 P (omega arith) (j - 1) }

  pub handed_on : (n : List Marks) (r : Shape) (y : Marks) → r ≡ shape_of (line_at ls (j - 1))
      → ((k : ℕ) → widens (shape_of (line_at ls (j - 1))) k ≡ true → y ≡ longer ls ws (first_of (shape_of (line_at ls (j - 1)))) (get_or m (j - 1) z))
      → ((w : Marks) (i : ℕ) → i < length m → get_or n i w ≡ handed r (get_or m (j - 1) z) y (get_or m i w) i)
      → (i : ℕ) → i < 32 → marked n i ≡ read_under (longer ls ws) [] (j - 1) (drop (j - 1) ls) i
  handed_on n r y e h s =
      under_step (longer ls ws) [] ls (marked m) (marked n) (j - 1) j r y (omega arith) (omega arith) short e
      (λ i q. h i (ap (λ v. widens v i) (sym e) ∙ q) ∙ rw (sym e, at_line) refl)
      inv
      (λ i l. s [] i (omega arith) ∙ ap (λ v. handed r v y (marked m i) i) at_line)

-- the marks of the contexts, once all are worked out
module _ (ls : List Line) (ws : List ℕ) (P : Passed ls ws 7) (m : List Marks) (long : length m ≡ 32) (is : (i : ℕ) → i < 32 → marked m i ≡ marks_at ls ws i) (i : ℕ) (z : Marks) (h : i < length ls) where
  few : i < 32
  few = omega (arith, (counted ls ws 7 P (omega arith)).1)

  mark_is : get_or m i z ≡ marks_at ls ws i
  mark_is = get_or_default m i z [] (omega (arith, few)) ∙ is i few

  pub placed_at : Placed ls ws i (get_or m i z)
  placed_at = record { passed = P; within = h; long = ap length mark_is ∙ marks_long ls ws 7 P (omega arith) i }

  pub resummed_is : (b : Bool) → b ≡ resums ls ws (get_or m i z) (line_at ls i) → b ≡ resummed ls ws i
  resummed_is b e = e ∙ ap (λ v. resums ls ws v (line_at ls i)) mark_is
