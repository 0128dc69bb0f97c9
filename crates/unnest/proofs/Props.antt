-- What a flat plan carries may be known in one way only, so that a truncated fact gives the fact itself.
use Rattle.std.proofs.Common.{◌≡◌, ℕ, List, [], ◌++◌, refl}
use mathlib.Core.Logic.{∥∥₁_elim}
use native.Mathlib.Bridge.{le_prop}
use native.Mathlib.Nat.{ℕ_set}
use mathlib.Core.Bool.{Bool-set}
use Rattle.lines.specs.declared.line.Line.{Line}
use Rattle.lines.specs.declared.line.Shape.{Shape}
use Rattle.lines.specs.declared.line.Shape.TheVariants.{Leaf, One, Two, Tested, Inner, Part, Parts}
use Rattle.lines.specs.declared.line.Side.{Side}
use Rattle.lines.specs.declared.line.Side.TheVariants.{Column, Constant}
use Rattle.lines.specs.Lines.{Node, rows_node, cond_node, build, grow}
use Rattle.lines.specs.Marks.{Marks, own, SideIn, CondIn, Sound}
use Rattle.lines.specs.Shapes.{shape_of, line_at}
use Rattle.lines.specs.Trees.{Cond, compare, is_null, not_of, unknown_of, and_of, or_of, Tree, table, unit, select, keep, extend, extend_truth, pad, match, semi_match, anti_match, union, diff, distinct, group, total, cross, outer, semi, anti, some, all}
use Rattle.unnest.specs.declared.plan.FlatPlan.{FlatPlan}
use Rattle.unnest.specs.FlatPlans.{plan_lines, plan_widths}
use Rattle.unnest.specs.Plans.{Plain, RowsBelow, ConditionBelow, Reads, Runnable, WellFormed}

side_prop : (n : ℕ) (a : Side) → (x y : SideIn n a) → x ≡ y
side_prop n (Column k) x y = le_prop x y
side_prop n (Constant z) x y = Bool-set _ _ x y

cond_prop : (n : ℕ) (q : Cond) → (x y : CondIn n q) → x ≡ y
cond_prop n (compare s a b) x y = λ i. (side_prop n a x.0 y.0 i, side_prop n b x.1 y.1 i)
cond_prop n (is_null k) x y = le_prop x y
cond_prop n (not_of q) x y = cond_prop n q x y
cond_prop n (unknown_of q) x y = cond_prop n q x y
cond_prop n (and_of p q) x y = λ i. (cond_prop n p x.0 y.0 i, cond_prop n q x.1 y.1 i)
cond_prop n (or_of p q) x y = λ i. (cond_prop n p x.0 y.0 i, cond_prop n q x.1 y.1 i)

pub sound_prop : (ws : List ℕ) (d : Marks) (t : Tree) → (x y : Sound ws d t) → x ≡ y
unfolding Sound
sound_prop ws d (table t) x y = λ i. (le_prop x.0 y.0 i, le_prop x.1 y.1 i)
sound_prop ws d unit x y = le_prop x y
sound_prop ws d (select e q) x y = λ i. (cond_prop _ q x.0 y.0 i, sound_prop ws d e x.1 y.1 i)
sound_prop ws d (keep n m e) x y = λ i. ((le_prop x.0.0 y.0.0 i, le_prop x.0.1 y.0.1 i), sound_prop ws d e x.1 y.1 i)
sound_prop ws d (extend e a) x y = λ i. (side_prop _ a x.0 y.0 i, le_prop x.1 y.1 i, sound_prop ws d e x.2 y.2 i)
sound_prop ws d (extend_truth e q) x y = λ i. (cond_prop _ q x.0 y.0 i, le_prop x.1 y.1 i, sound_prop ws d e x.2 y.2 i)
sound_prop ws d (pad m e) x y = λ i. (le_prop x.0 y.0 i, sound_prop ws d e x.1 y.1 i)
sound_prop ws d (match n l r) x y = λ i. ((le_prop x.0.0 y.0.0 i, le_prop x.0.1 y.0.1 i), le_prop x.1 y.1 i, sound_prop ws d l x.2 y.2 i, sound_prop ws d r x.3 y.3 i)
sound_prop ws d (semi_match n l r) x y = λ i. ((le_prop x.0.0 y.0.0 i, le_prop x.0.1 y.0.1 i), sound_prop ws d l x.1 y.1 i, sound_prop ws d r x.2 y.2 i)
sound_prop ws d (anti_match n l r) x y = λ i. ((le_prop x.0.0 y.0.0 i, le_prop x.0.1 y.0.1 i), sound_prop ws d l x.1 y.1 i, sound_prop ws d r x.2 y.2 i)
sound_prop ws d (union l r) x y = λ i. (ℕ_set _ _ x.0 y.0 i, sound_prop ws d l x.1 y.1 i, sound_prop ws d r x.2 y.2 i)
sound_prop ws d (diff l r) x y = λ i. (ℕ_set _ _ x.0 y.0 i, sound_prop ws d l x.1 y.1 i, sound_prop ws d r x.2 y.2 i)
sound_prop ws d (distinct e) x y = sound_prop ws d e x y
sound_prop ws d (group n f k e) x y = λ i. (le_prop x.0 y.0 i, le_prop x.1 y.1 i, (le_prop x.2.0 y.2.0 i, Bool-set _ _ x.2.1 y.2.1 i), sound_prop ws d e x.3 y.3 i)
sound_prop ws d (total f k e) x y = λ i. (le_prop x.0 y.0 i, (le_prop x.1.0 y.1.0 i, Bool-set _ _ x.1.1 y.1.1 i), sound_prop ws d e x.2 y.2 i)
sound_prop ws d (cross l r) x y = λ i. (le_prop x.0 y.0 i, sound_prop ws d l x.1 y.1 i, sound_prop ws (d ++ own ws d l) r x.2 y.2 i)
sound_prop ws d (outer l r) x y = λ i. (le_prop x.0 y.0 i, sound_prop ws d l x.1 y.1 i, sound_prop ws (d ++ own ws d l) r x.2 y.2 i)
sound_prop ws d (semi l r) x y = λ i. (sound_prop ws d l x.0 y.0 i, sound_prop ws (d ++ own ws d l) r x.1 y.1 i)
sound_prop ws d (anti l r) x y = λ i. (sound_prop ws d l x.0 y.0 i, sound_prop ws (d ++ own ws d l) r x.1 y.1 i)
sound_prop ws d (some g k l r) x y = λ i. (le_prop x.0 y.0 i, ℕ_set _ _ x.1 y.1 i, le_prop x.2 y.2 i, sound_prop ws d l x.3 y.3 i, sound_prop ws (d ++ own ws d l) r x.4 y.4 i)
sound_prop ws d (all g k l r) x y = λ i. (le_prop x.0 y.0 i, ℕ_set _ _ x.1 y.1 i, le_prop x.2 y.2 i, sound_prop ws d l x.3 y.3 i, sound_prop ws (d ++ own ws d l) r x.4 y.4 i)

plain_prop : (t : Tree) → (x y : Plain t) → x ≡ y
unfolding Plain
plain_prop (table t) x y = refl
plain_prop unit x y = refl
plain_prop (select e q) x y = plain_prop e x y
plain_prop (keep n m e) x y = plain_prop e x y
plain_prop (extend e a) x y = plain_prop e x y
plain_prop (extend_truth e q) x y = plain_prop e x y
plain_prop (pad m e) x y = plain_prop e x y
plain_prop (distinct e) x y = plain_prop e x y
plain_prop (group n f k e) x y = plain_prop e x y
plain_prop (total f k e) x y = plain_prop e x y
plain_prop (match n l r) x y = λ i. (plain_prop l x.0 y.0 i, plain_prop r x.1 y.1 i)
plain_prop (semi_match n l r) x y = λ i. (plain_prop l x.0 y.0 i, plain_prop r x.1 y.1 i)
plain_prop (anti_match n l r) x y = λ i. (plain_prop l x.0 y.0 i, plain_prop r x.1 y.1 i)
plain_prop (union l r) x y = λ i. (plain_prop l x.0 y.0 i, plain_prop r x.1 y.1 i)
plain_prop (diff l r) x y = λ i. (plain_prop l x.0 y.0 i, plain_prop r x.1 y.1 i)
plain_prop (cross l r) x y = absurd x
plain_prop (outer l r) x y = absurd x
plain_prop (semi l r) x y = absurd x
plain_prop (anti l r) x y = absurd x
plain_prop (some g k l r) x y = absurd x
plain_prop (all g k l r) x y = absurd x

runnable_prop : (ws : List ℕ) (v : Node) → (x y : Runnable ws v) → x ≡ y
runnable_prop ws (rows_node t) x y = λ i. (sound_prop ws [] t x.0 y.0 i, plain_prop t x.1 y.1 i)
runnable_prop ws (cond_node q) x y = refl

rows_prop : (ls : List Line) (i a : ℕ) → (x y : RowsBelow ls i a) → x ≡ y
rows_prop ls i a x y = λ j. (le_prop x.0 y.0 j, Bool-set _ _ x.1 y.1 j)

condition_prop : (ls : List Line) (i a : ℕ) → (x y : ConditionBelow ls i a) → x ≡ y
condition_prop ls i a x y = λ j. (le_prop x.0 y.0 j, Bool-set _ _ x.1 y.1 j)

reads_prop : (ls : List Line) (i : ℕ) (s : Shape) → (x y : Reads ls i s) → x ≡ y
reads_prop ls i Leaf x y = refl
reads_prop ls i (One a) x y = rows_prop ls i a x y
reads_prop ls i (Two a b) x y = λ j. (rows_prop ls i a x.0 y.0 j, rows_prop ls i b x.1 y.1 j)
reads_prop ls i (Tested a q) x y = λ j. (rows_prop ls i a x.0 y.0 j, condition_prop ls i q x.1 y.1 j)
reads_prop ls i (Inner a b) x y = λ j. (rows_prop ls i a x.0 y.0 j, rows_prop ls i b x.1 y.1 j)
reads_prop ls i (Part p) x y = condition_prop ls i p x y
reads_prop ls i (Parts p q) x y = λ j. (condition_prop ls i p x.0 y.0 j, condition_prop ls i q x.1 y.1 j)

pub well_formed_prop : (ws : List ℕ) (ls : List Line) → (x y : WellFormed ws ls) → x ≡ y
well_formed_prop ws ls x y = λ j. record {
  some_line = le_prop x.some_line y.some_line j;
  last_rows = Bool-set _ _ x.last_rows y.last_rows j;
  reads = λ i h. reads_prop ls i (shape_of (line_at ls i)) (x.reads i h) (y.reads i h) j;
  no_apply = λ i h. Bool-set _ _ (x.no_apply i h) (y.no_apply i h) j;
  sound = λ i h. runnable_prop ws (build (grow [] ls) (line_at ls i)) (x.sound i h) (y.sound i h) j;
}

untruncated : (ws : List ℕ) (ls : List Line) → ∥ WellFormed ws ls ∥₁ → WellFormed ws ls
untruncated ws ls t = ∥∥₁_elim t (well_formed_prop ws ls) (λ x. x)

-- what every flat plan brings for its evaluator
pub plan_formed : (p : FlatPlan) → WellFormed (plan_widths p) (plan_lines p)
plan_formed p = untruncated (plan_widths p) (plan_lines p) p.formed
