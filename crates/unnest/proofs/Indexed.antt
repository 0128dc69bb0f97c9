-- From the emitted lines, one after the other, to what is said of each line by its number.
use Rattle.std.proofs.Common.{◌≡◌, ℕ, zero, suc, ◌-◌, ◌<◌, ◌≤◌, Bool, true, false, List, [], ◌∷◌, ◌++◌, length, get_or, take, sym, refl, ap, ◌∙◌, subst, zero-add, arith}
use Rattle.lines.specs.Lines.{Node, rows_node, cond_node, at, build, grow, answer}
use Rattle.lines.specs.Marks.{Sound}
use Rattle.lines.specs.Shapes.{shape_of, Below, Ordered, line_at, is_condition}
use Rattle.lines.specs.Trees.{width}
use Rattle.lines.specs.declared.line.Line.{Line}
use Rattle.lines.specs.declared.line.Line.TheVariants.{Table as TableL, Unit as UnitL, Select, Keep, Extend, ExtendTruth, Pad, Match, SemiMatch, AntiMatch, Union, Diff, Distinct, Group, Total, ApplyCross, ApplyOuter, ApplySemi, ApplyAnti, ApplySome, ApplyAll, Compare, IsNull, Not, Unknown as UnknownL, And, Or}
use Rattle.lines.specs.declared.line.Shape.{Shape}
use Rattle.lines.specs.declared.line.Shape.TheVariants.{Leaf, One, Two, Tested, Inner, Part, Parts}
use Rattle.unnest.specs.Emit.{outermost, flat_lines}
use Rattle.unnest.specs.Flat.{flat, top}
use Rattle.unnest.specs.Plans.{Runnable, is_apply, RowsBelow, ConditionBelow, Reads, WellFormed}
use Rattle.unnest.proofs.Feeding.{IsRows, IsCondition, HasRows, HasCondition, Fed, PlanFrom}
use Rattle.lines.proofs.Growing.{grow_length, front_length, front_at, build_lower, node_is}
use Rattle.unnest.proofs.Emits.{emits, unnested}
use Rattle.unnest.proofs.Flats.{flats}
use Rattle.unnest.proofs.Lays.{lays_plan}

each : (ws : List ℕ) (o : List Node) (ls : List Line) (j : ℕ) (z : Line) → j < length ls → PlanFrom ws o ls
    → Fed (grow o (take j ls)) (shape_of (get_or ls j z)) × Runnable ws (build (grow o (take j ls)) (get_or ls j z))
each ws o [] j z h p = absurd (omega arith)
each ws o (l ∷ ls) zero z h p = (p.0, p.1)
each ws o (l ∷ ls) (suc j) z h p = each ws (o ++ (build o l ∷ [])) ls j z (omega arith) p.2

fed_below : (o : List Node) (r : Shape) → Fed o r → Below (length o) r
fed_below o Leaf f = tt
fed_below o (One a) f = f.0
fed_below o (Two a b) f = (f.0.0, f.1.0)
fed_below o (Tested a b) f = (f.0.0, f.1.0)
fed_below o (Inner a b) f = absurd f
fed_below o (Part a) f = f.0
fed_below o (Parts a b) f = (f.0.0, f.1.0)

fed_plain : (o : List Node) (r : Shape) → Fed o r → is_apply r ≡ false
fed_plain o Leaf f = refl
fed_plain o (One a) f = refl
fed_plain o (Two a b) f = refl
fed_plain o (Tested a b) f = refl
fed_plain o (Inner a b) f = absurd f
fed_plain o (Part a) f = refl
fed_plain o (Parts a b) f = refl

-- a node is a condition if its line is
is_condition_node : Node → Bool
is_condition_node (rows_node t) = false
is_condition_node (cond_node q) = true

kind_build : (o : List Node) (l : Line) → is_condition_node (build o l) ≡ is_condition l
unfolding build is_condition_node
kind_build o (TableL t) = refl
kind_build o UnitL = refl
kind_build o (Select a q) = refl
kind_build o (Keep n m a) = refl
kind_build o (Extend a v) = refl
kind_build o (ExtendTruth a q) = refl
kind_build o (Pad m a) = refl
kind_build o (Match n a b) = refl
kind_build o (SemiMatch n a b) = refl
kind_build o (AntiMatch n a b) = refl
kind_build o (Union a b) = refl
kind_build o (Diff a b) = refl
kind_build o (Distinct a) = refl
kind_build o (Group n f j a) = refl
kind_build o (Total f j a) = refl
kind_build o (ApplyCross a b) = refl
kind_build o (ApplyOuter a b) = refl
kind_build o (ApplySemi a b) = refl
kind_build o (ApplyAnti a b) = refl
kind_build o (ApplySome s j a b) = refl
kind_build o (ApplyAll s j a b) = refl
kind_build o (Compare s a b) = refl
kind_build o (IsNull j) = refl
kind_build o (Not a) = refl
kind_build o (UnknownL a) = refl
kind_build o (And a b) = refl
kind_build o (Or a b) = refl

rows_kind : (v : Node) → IsRows v → is_condition_node v ≡ false
unfolding is_condition_node
rows_kind (rows_node t) h = refl
rows_kind (cond_node q) h = absurd h

condition_kind : (v : Node) → IsCondition v → is_condition_node v ≡ true
unfolding is_condition_node
condition_kind (rows_node t) h = absurd h
condition_kind (cond_node q) h = refl

module _ (ws : List ℕ) (ls : List Line) (P : PlanFrom ws [] ls) where
  front : ℕ → List Node
  front i = grow [] (take i ls)

  fed : (i : ℕ) → i < length ls → Fed (grow [] (take i ls)) (shape_of (line_at ls i))
  fed i h = (each ws [] ls i (UnitL) h P).0

  ordered : Ordered ls
  ordered i h = subst (λ v. Below v (shape_of (line_at ls i))) (front_length ls i (omega arith)) (fed_below (grow [] (take i ls)) (shape_of (line_at ls i)) (fed i h))

  kind_at : (i : ℕ) → i < length ls → is_condition_node (at (grow [] ls) i) ≡ is_condition (line_at ls i)
  kind_at i h = ap is_condition_node (node_is ls i (UnitL) h (ordered i h)) ∙ kind_build (grow [] ls) (line_at ls i)

  module _ (i : ℕ) (h : i < length ls) where
    rows_low : (a : ℕ) → HasRows (grow [] (take i ls)) a → RowsBelow ls i a
    rows_low a r =
        let l : a < i = omega (arith, r.0, front_length ls i (omega arith)) in
        (l, sym (kind_at a (omega arith)) ∙ ap is_condition_node (sym (front_at ls i (omega arith) a l)) ∙ rows_kind _ r.1)

    condition_low : (a : ℕ) → HasCondition (grow [] (take i ls)) a → ConditionBelow ls i a
    condition_low a r =
        let l : a < i = omega (arith, r.0, front_length ls i (omega arith)) in
        (l, sym (kind_at a (omega arith)) ∙ ap is_condition_node (sym (front_at ls i (omega arith) a l)) ∙ condition_kind _ r.1)

    well : (r : Shape) → Fed (grow [] (take i ls)) r → Reads ls i r
    well Leaf f = tt
    well (One a) f = rows_low a f
    well (Two a b) f = (rows_low a f.0, rows_low b f.1)
    well (Tested a b) f = (rows_low a f.0, condition_low b f.1)
    well (Inner a b) f = absurd f
    well (Part a) f = condition_low a f
    well (Parts a b) f = (condition_low a f.0, condition_low b f.1)

  pub indexed : 1 ≤ length ls → IsRows (at (grow [] ls) (length ls - 1)) → WellFormed ws ls
  indexed s r =
      record {
        some_line = s;
        last_rows = sym (kind_at (length ls - 1) (omega arith)) ∙ rows_kind _ r;
        reads = λ i h. well i h (shape_of (line_at ls i)) (fed i h);
        no_apply = λ i h. fed_plain (grow [] (take i ls)) (shape_of (line_at ls i)) (fed i h);
        sound = λ i h. subst (Runnable ws) (build_lower i (grow [] (take i ls)) (grow [] ls) (line_at ls i) (ordered i h) (front_at ls i (omega arith))) (each ws [] ls i UnitL h P).1;
      }

pub well_formed : (ws : List ℕ) (ls : List Line) → Sound ws [] (answer ls) → WellFormed ws (flat_lines ws ls)
well_formed ws ls S =
    let t = answer ls in
    let s = emits ws t outermost [] tt in
    let p = flat_lines ws ls in
    let n = grow_length [] p in
    let m : at (grow [] p) (length p - 1) ≡ rows_node (flat ws t top) = ap (λ v. at (grow [] p) (v - 1)) (sym (n ∙ zero-add (length p))) ∙ s.made in
    indexed ws p (lays_plan ws t S) (omega (arith, s.grew, n)) (subst IsRows (sym m) tt)

pub same_width : (ws : List ℕ) (ls : List Line) → Sound ws [] (answer ls) → width ws (answer (flat_lines ws ls)) ≡ width ws (answer ls)
same_width ws ls S = let t = answer ls in ap (width ws) (unnested ws t) ∙ (flats ws [] t top S refl).wide ∙ zero-add (width ws t)
