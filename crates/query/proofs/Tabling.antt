-- The widths of a stock's tables, and what a query holds.
use Rattle.std.proofs.Common.{◌≡◌, ℕ, zero, suc, ◌<◌, ◌≤◌, List, [], ◌∷◌, length, get_or, sym, refl, ap, ◌∙◌, inl, inr, arith}
use Rattle.std.specs.List.{AllByRecursion}
use Rattle.std.proofs.lemmas.List.{length-map, get_or_past}
use Rattle.std.proofs.lemmas.Bool.{cases_lt}
use Rattle.stock.specs.Tables.{Table, Lawful, LawfulTable, no_table, width_of, widths}
use Rattle.lines.specs.declared.line.Line.{Line}
use Rattle.lines.specs.Trees.{unit, width}
use Rattle.lines.specs.Lines.{as_rows, grow, rows_node}
use Rattle.lines.specs.Shapes.{width_at}
use Rattle.query.specs.Sizes.{Sized}
use Rattle.lines.proofs.Growing.{grow_length}

pub width_is : (ts : List Table) (t : ℕ) → get_or (widths ts) t 0 ≡ width_of ts t
width_is [] t = get_or_past [] t 0 (omega arith) ∙ sym (ap (λ v. v.width) (get_or_past [] t no_table (omega arith)))
width_is (x ∷ ts) zero = refl
width_is (x ∷ ts) (suc t) = width_is ts t

pub count_is : (ts : List Table) → length (widths ts) ≡ length ts
count_is ts = length-map ts (λ t. t.width)

pub lawful_at : (ts : List Table) → AllByRecursion LawfulTable ts → (t : ℕ) → t < length ts → LawfulTable (get_or ts t no_table)
lawful_at [] a t h = absurd (omega arith)
lawful_at (x ∷ ts) a zero h = a.0
lawful_at (x ∷ ts) a (suc t) h = lawful_at ts a.1 t (omega arith)

pub sized_from : (ts : List Table) → Lawful ts → Sized (widths ts)
sized_from ts L =
    record {
      few = omega (arith, count_is ts, L.few);
      least = λ t h. rw (width_is ts t) (lawful_at ts L.each t (omega (arith, count_is ts))).least;
      most = λ t. elim (cases_lt t (length ts)) [
        | inl h ↦ rw (width_is ts t) (lawful_at ts L.each t h).most
        | inr h ↦ rw (get_or_past (widths ts) t 0 (omega (arith, count_is ts))) (omega arith)
      ];
    }

pub past_width : (ls : List Line) (ws : List ℕ) (i : ℕ) → length ls ≤ i → width_at ls ws i ≡ 1
unfolding width
past_width ls ws i h = ap (λ v. width ws (as_rows v)) (get_or_past (grow [] ls) i (rows_node unit) (omega (arith, grow_length [] ls)))
