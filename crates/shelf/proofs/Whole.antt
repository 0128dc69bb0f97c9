-- The tables of a shelf that passes hold just the lent cells.
use Rattle.std.proofs.Common.{◌≡◌, ℕ, zero, suc, ◌+◌, ◌-◌, ◌*◌, eqb, List, [], ◌∷◌, ◌++◌, length, take, drop, Some, None, sym, refl, ap, ◌∙◌, suc-mul, zero-mul, arith, take-append-drop, take-add}
use Rattle.std.proofs.lemmas.Bool.{cond-false, ne_eqb}
use Rattle.std.specs.List.{flat_map}
use Rattle.cells.specs.declared.cell.Cell.{Cell}
use Rattle.shelf.specs.Cut.{rows_cut, cut, fault_from, fault, unless_fault, shelved, laid_out}
use Rattle.shelf.specs.Cutting.{fault_parts}

rows_whole : (w r : ℕ) (cs : List Cell) → flat_map (λ x. x) (rows_cut w r cs) ≡ take (r * w) cs
rows_whole w zero cs = ap (λ k. take k cs) (sym (zero-mul w))
rows_whole w (suc r) cs =
    let k = suc-mul r w in
    let e : w + r * w ≡ suc r * w = omega arith in
    ap (λ x. take w cs ++ x) (rows_whole w r (drop w cs)) ∙ sym (take-add w (r * w) cs) ∙ ap (λ j. take j cs) e

none_left : (i : ℕ) (cs : List Cell) → fault_from i [] cs ≡ None → [] ≡ cs
none_left i [] e = refl
none_left i (c ∷ cs) e =
    let some = cond-false (eqb (suc (length cs)) 0) None (Some (i - 1)) (ne_eqb (suc (length cs)) 0 (λ z. omega arith)) in
    let z : ◌≡◌ {A = ℕ} 0 1 = cc in
    absurd (omega arith)

whole_from : (i : ℕ) (ps : List (ℕ × ℕ)) (cs : List Cell) → fault_from i ps cs ≡ None → laid_out (cut ps cs) ≡ cs
whole_from i [] cs e = none_left i cs e
whole_from i (p ∷ ps) cs e =
    let n = p.1 * p.0 in
    ap (λ x. x ++ laid_out (cut ps (drop n cs))) (rows_whole p.0 p.1 cs)
    ∙ ap (λ x. take n cs ++ x) (whole_from (suc i) ps (drop n cs) (fault_parts i p ps cs e).2)
    ∙ take-append-drop n cs

pub whole : (ps : List (ℕ × ℕ)) (cs : List Cell) → fault ps cs ≡ None → laid_out (shelved ps cs) ≡ cs
whole ps cs e = ap (λ o. laid_out (unless_fault o (cut ps cs))) e ∙ whole_from 0 ps cs e
