-- Which lines read which.
use Rattle.std.proofs.Common.{◌≡◌, ℕ, ◌+◌, ◌<◌, List, [], ◌∷◌, ◌++◌, length, map, sum, take, refl, sym, ◌∙◌, arith}
use Rattle.std.proofs.lemmas.List.{take_more}
use Rattle.std.proofs.lemmas.List.Recursion.{is_sum_by}
use Rattle.std.proofs.lemmas.List.Sums.{sum-map}
use Rattle.lines.specs.declared.line.Line.{Line}
use Rattle.lines.specs.declared.line.Line.TheVariants.{Unit as UnitL}
use Rattle.lines.specs.Shapes.{line_at, shape_of}
use Rattle.query.specs.Reads.{times, times_in}

pub times_in_append : (xs ys : List Line) (i : ℕ) → times_in (xs ++ ys) i ≡ times_in xs i + times_in ys i
times_in_append [] ys i = omega arith
times_in_append (x ∷ xs) ys i = omega (arith, times_in_append xs ys i)

pub times_in_more : (ls : List Line) (k i : ℕ) → k < length ls → times_in (take (k + 1) ls) i ≡ times_in (take k ls) i + times (shape_of (line_at ls k)) i
times_in_more ls k i h = rw (take_more ls k UnitL h) (times_in_append (take k ls) _ i ∙ omega arith)

pub times_in_sum : (ls : List Line) (i : ℕ) → times_in ls i ≡ sum (map (λ l. times (shape_of l) i) ls)
times_in_sum ls i = is_sum_by (λ v. times_in v i) (λ l. times (shape_of l) i) refl (λ _ _. refl) ls ∙ sym (sum-map (λ l. times (shape_of l) i) ls)
