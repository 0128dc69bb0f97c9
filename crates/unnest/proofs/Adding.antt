-- Each kind's flat lines and counts, from its operands.
use Rattle.std.proofs.Common.{◌≡◌, ℕ, ◌≤◌, false, List, [], ◌∷◌, refl, arith}
use Rattle.lines.specs.declared.line.Aggregate.{Aggregate}
use Rattle.lines.specs.declared.line.Line.{Line}
use Rattle.lines.specs.declared.line.Line.TheVariants.{Table as TableL, Unit as UnitL, Select, Keep, Extend, ExtendTruth, Pad, Match, SemiMatch, AntiMatch, Union, Diff, Distinct, Group, Total, ApplyCross, ApplyOuter, ApplySemi, ApplyAnti, ApplySome, ApplyAll, Compare, IsNull, Not, Unknown as UnknownL, And, Or}
use Rattle.lines.specs.Lines.{Node, as_rows, as_cond, build}
use Rattle.lines.specs.Marks.{Marks, Sound}
use Rattle.lines.specs.Shapes.{shape_of, is_condition}
use Rattle.unnest.specs.Emit.{Place, breadth, emit_condition, emit}
use Rattle.unnest.specs.Kinds.{own_count, raised, own_lines, rows_of, lines_by, condition_by}
use Rattle.lines.proofs.Soundness.{short}

-- a line with rows that is neither a leaf nor a Total
pub rest_lines : (l : Line) (x : Place) (i j n : ℕ) → is_condition l ≡ false
    → (l ≡ UnitL → ⊥)
    → ((t : ℕ) → l ≡ TableL t → ⊥)
    → ((f : Aggregate) (k : ℕ) (a : ℕ) → l ≡ Total f k a → ⊥)
    → own_lines l x i j n ≡ raised l (breadth x) i j ∷ []
rest_lines (TableL t) x i j n h p0 p1 p2 = absurd (p1 t refl)
rest_lines UnitL x i j n h p0 p1 p2 = absurd (p0 refl)
rest_lines (Select a q) x i j n h p0 p1 p2 = refl
rest_lines (Keep p z a) x i j n h p0 p1 p2 = refl
rest_lines (Extend a v) x i j n h p0 p1 p2 = refl
rest_lines (ExtendTruth a q) x i j n h p0 p1 p2 = refl
rest_lines (Pad z a) x i j n h p0 p1 p2 = refl
rest_lines (Match p a b) x i j n h p0 p1 p2 = refl
rest_lines (SemiMatch p a b) x i j n h p0 p1 p2 = refl
rest_lines (AntiMatch p a b) x i j n h p0 p1 p2 = refl
rest_lines (Union a b) x i j n h p0 p1 p2 = refl
rest_lines (Diff a b) x i j n h p0 p1 p2 = refl
rest_lines (Distinct a) x i j n h p0 p1 p2 = refl
rest_lines (Group p f k a) x i j n h p0 p1 p2 = refl
rest_lines (Total f k a) x i j n h p0 p1 p2 = absurd (p2 f k a refl)
rest_lines (ApplyCross a b) x i j n h p0 p1 p2 = refl
rest_lines (ApplyOuter a b) x i j n h p0 p1 p2 = refl
rest_lines (ApplySemi a b) x i j n h p0 p1 p2 = refl
rest_lines (ApplyAnti a b) x i j n h p0 p1 p2 = refl
rest_lines (ApplySome s k a b) x i j n h p0 p1 p2 = refl
rest_lines (ApplyAll s k a b) x i j n h p0 p1 p2 = refl
rest_lines (Compare s a b) x i j n h p0 p1 p2 = cc
rest_lines (IsNull k) x i j n h p0 p1 p2 = cc
rest_lines (Not a) x i j n h p0 p1 p2 = cc
rest_lines (UnknownL a) x i j n h p0 p1 p2 = cc
rest_lines (And a b) x i j n h p0 p1 p2 = cc
rest_lines (Or a b) x i j n h p0 p1 p2 = cc

-- the flat lines of a line, from its operands'
pub emit_by : (ws : List ℕ) (o : List Node) (l : Line) (x : Place) (n : ℕ) → emit ws (as_rows (build o l)) x n ≡ lines_by ws o l x n (shape_of l)
unfolding emit build
emit_by ws o (TableL t) x n = refl
emit_by ws o UnitL x n = refl
emit_by ws o (Select a q) x n = refl
emit_by ws o (Keep p z a) x n = refl
emit_by ws o (Extend a v) x n = refl
emit_by ws o (ExtendTruth a q) x n = refl
emit_by ws o (Pad z a) x n = refl
emit_by ws o (Match p a b) x n = refl
emit_by ws o (SemiMatch p a b) x n = refl
emit_by ws o (AntiMatch p a b) x n = refl
emit_by ws o (Union a b) x n = refl
emit_by ws o (Diff a b) x n = refl
emit_by ws o (Distinct a) x n = refl
emit_by ws o (Group p f k a) x n = refl
emit_by ws o (Total f k a) x n = refl
emit_by ws o (ApplyCross a b) x n = refl
emit_by ws o (ApplyOuter a b) x n = refl
emit_by ws o (ApplySemi a b) x n = refl
emit_by ws o (ApplyAnti a b) x n = refl
emit_by ws o (ApplySome s k a b) x n = refl
emit_by ws o (ApplyAll s k a b) x n = refl
emit_by ws o (Compare s a b) x n = refl
emit_by ws o (IsNull k) x n = refl
emit_by ws o (Not a) x n = refl
emit_by ws o (UnknownL a) x n = refl
emit_by ws o (And a b) x n = refl
emit_by ws o (Or a b) x n = refl

-- the flat lines of a condition, from its parts'
pub condition_is : (o : List Node) (l : Line) (n : ℕ) → emit_condition (as_cond (build o l)) n ≡ condition_by o l n (shape_of l)
unfolding emit_condition build
condition_is o (TableL t) n = refl
condition_is o UnitL n = refl
condition_is o (Select a q) n = refl
condition_is o (Keep p z a) n = refl
condition_is o (Extend a v) n = refl
condition_is o (ExtendTruth a q) n = refl
condition_is o (Pad z a) n = refl
condition_is o (Match p a b) n = refl
condition_is o (SemiMatch p a b) n = refl
condition_is o (AntiMatch p a b) n = refl
condition_is o (Union a b) n = refl
condition_is o (Diff a b) n = refl
condition_is o (Distinct a) n = refl
condition_is o (Group p f k a) n = refl
condition_is o (Total f k a) n = refl
condition_is o (ApplyCross a b) n = refl
condition_is o (ApplyOuter a b) n = refl
condition_is o (ApplySemi a b) n = refl
condition_is o (ApplyAnti a b) n = refl
condition_is o (ApplySome s k a b) n = refl
condition_is o (ApplyAll s k a b) n = refl
condition_is o (Compare s a b) n = refl
condition_is o (IsNull k) n = refl
condition_is o (Not a) n = refl
condition_is o (UnknownL a) n = refl
condition_is o (And a b) n = refl
condition_is o (Or a b) n = refl

-- counts of own columns are small in a sound line
pub count_small : (ws : List ℕ) (d : Marks) (o : List Node) (l : Line) → Sound ws d (as_rows (build o l)) → own_count l ≤ 32
unfolding Sound build
count_small ws d o (TableL t) s = omega arith
count_small ws d o UnitL s = omega arith
count_small ws d o (Select a q) s = omega arith
count_small ws d o (Keep p z a) s = omega (arith, s.0.1, short ws d (rows_of o a) s.1)
count_small ws d o (Extend a v) s = omega arith
count_small ws d o (ExtendTruth a q) s = omega arith
count_small ws d o (Pad z a) s = omega arith
count_small ws d o (Match p a b) s = omega (arith, s.0.0, short ws d (rows_of o a) s.2)
count_small ws d o (SemiMatch p a b) s = omega (arith, s.0.0, short ws d (rows_of o a) s.1)
count_small ws d o (AntiMatch p a b) s = omega (arith, s.0.0, short ws d (rows_of o a) s.1)
count_small ws d o (Union a b) s = omega arith
count_small ws d o (Diff a b) s = omega arith
count_small ws d o (Distinct a) s = omega arith
count_small ws d o (Group p f k a) s = omega (arith, s.0, short ws d (rows_of o a) s.3)
count_small ws d o (Total f k a) s = omega arith
count_small ws d o (ApplyCross a b) s = omega arith
count_small ws d o (ApplyOuter a b) s = omega arith
count_small ws d o (ApplySemi a b) s = omega arith
count_small ws d o (ApplyAnti a b) s = omega arith
count_small ws d o (ApplySome g k a b) s = omega arith
count_small ws d o (ApplyAll g k a b) s = omega arith
count_small ws d o (Compare g a b) s = omega arith
count_small ws d o (IsNull k) s = omega arith
count_small ws d o (Not a) s = omega arith
count_small ws d o (UnknownL a) s = omega arith
count_small ws d o (And a b) s = omega arith
count_small ws d o (Or a b) s = omega arith
