-- The agreement and the lifted law, on lines.
use Rattle.std.proofs.Common.{◌≡◌, ℕ, ◌+◌, ◌-◌, ◌<◌, ◌≤◌, cond, List, [], ◌∷◌, ◌++◌, length, sym, ap, ◌∙◌, subst, zero-add, arith}
use Rattle.std.specs.List.{AllByRecursion}
use Rattle.std.proofs.lemmas.List.{length-append}
use Rattle.cells.specs.Cells.{Row, same_row}
use Rattle.lines.specs.declared.line.Line.{Line}
use Rattle.lines.specs.Lines.{Node, rows_node, as_rows, at, grow, answer}
use Rattle.lines.specs.Marks.{Sound}
use Rattle.lines.specs.Ops.{count}
use Rattle.lines.specs.Shapes.{tree_at}
use Rattle.lines.specs.Trees.{Tree, rows}
use Rattle.stock.specs.Tables.{widths}
use Rattle.unnest.specs.Emit.{emit, inside, flat_lines}
use Rattle.unnest.specs.Flat.{flat, under}
use Rattle.unnest.specs.Statement.{Agree, followed, line_rows, LiftedLaw}
use Rattle.lines.proofs.Weights.{count_W, count_here}
use Rattle.unnest.proofs.Lifts.{Dom, Lifted, lifted_lift}
use Rattle.lines.proofs.Widths.{lawful_fits}
use Rattle.lines.proofs.Goods.{sound_good}
use Rattle.unnest.proofs.Agree.{agree, agree_trees}
use Rattle.lines.proofs.Growing.{grow_append, grow_length}
use Rattle.unnest.proofs.Emits.{Step, emits, unnested}

pub agreed : (ws : List ℕ) (query : List Line) → Sound ws [] (answer query) → Agree ws query (flat_lines ws query)
agreed ws query s ts lawful e r =
    let s' : Sound (widths ts) [] (answer query) = subst (λ v. Sound v [] (answer query)) (sym e) s in
    ap (λ v. count r (rows ts (answer (flat_lines v query)) [])) (sym e)
    ∙ ap (λ t. count r (rows ts t [])) (unnested (widths ts) (answer query))
    ∙ agree_trees ts (lawful_fits ts lawful) (answer query) (sound_good (widths ts) [] (answer query) s') r

-- no row twice: each row of the list once
once_each : (ds xs : List Row) → ((d : Row) → count d ds ≤ 1) → ((d : Row) → count d xs ≤ count d ds) → AllByRecursion (λ d. count d ds ≡ 1) xs
once_each ds [] o h = tt
once_each ds (x ∷ xs) o h =
    (omega (arith, o x, h x, count_here x xs), once_each ds xs o (λ d. omega (arith, h d)))

counts : (ds fs : List Row) (of : Row → List Row) → Lifted ds fs of → (r : Row) → count r fs ≡ count r (followed ds of)
counts ds fs of l r =
    let g : Row → ℕ = λ x. cond (same_row r x) 1 0 in
    count_W r fs ∙ l g ∙ sym (lifted_lift ds of g) ∙ sym (count_W r (followed ds of))

-- the last of the lines put behind a plan stands for the flat tree under the domain
behind : (ws : List ℕ) (t : Tree) (plan : List Line) (c i : ℕ) → i < length plan → answer (plan ++ emit ws t (inside c i) (length plan)) ≡ flat ws t (under c (tree_at plan i))
behind ws t plan c i h =
    let o = grow [] plan in
    let n : length o ≡ length plan = grow_length [] plan ∙ zero-add (length plan) in
    let new = emit ws t (inside c i) (length plan) in
    let y : Node = rows_node (flat ws t (under c (tree_at plan i))) in
    let s : Step o (grow o new) y = subst (λ v. Step o (grow o (emit ws t (inside c i) v)) y) n (emits ws t (inside c i) o (omega arith)) in
    let m : length (plan ++ new) ≡ length (grow o new) = length-append plan new ∙ ap (λ v. v + length new) (sym n) ∙ sym (grow_length o new) in
    ap as_rows (ap (λ v. at v (length (plan ++ new) - 1)) (grow_append [] plan new) ∙ ap (λ v. at (grow o new) (v - 1)) m ∙ s.made)

pub lifted_law : LiftedLaw
lifted_law ts lawful query plan j i context s h d r =
    let ws = widths ts in
    let t = tree_at query j in
    let c = length context in
    let m : Dom c (line_rows ts plan i) = record { long = d.long; once = once_each (line_rows ts plan i) (line_rows ts plan i) d.once (λ x. omega arith) } in
    ap (λ v. count r (rows ts v [])) (behind ws t plan c i h)
    ∙ counts (line_rows ts plan i) _ (rows ts t) (agree ts (lawful_fits ts lawful) t (under c (tree_at plan i)) (sound_good ws context t s) m) r
