-- The emitted lines stand for the flat tree.
use Rattle.std.proofs.Common.{◌≡◌, ℕ, ◌+◌, ◌-◌, ◌<◌, List, [], ◌∷◌, ◌++◌, length, None, Some, ℤ, pos, sym, refl, ap, ◌∙◌, subst, add-zero, zero-add, arith}
use Rattle.std.proofs.lemmas.List.{append_assoc, append-nil, length-append, length_push, get_or_append_left, get_or_push, get_or-append-add}
use Rattle.cells.specs.declared.cell.Cell.{Cell}
use Rattle.cells.specs.declared.cell.Cell.TheVariants.{Null, Number}
use Rattle.lines.specs.Ops.{none_of}
use Rattle.cells.specs.declared.sign.Sign.{Sign}
use Rattle.lines.specs.Lines.{Node, rows_node, cond_node, as_rows, at, build, grow, answer}
use Rattle.lines.specs.Trees.{Cond, compare, is_null, not_of, unknown_of, and_of, or_of, Tree, table, unit, select, keep, extend, extend_truth, pad, match, semi_match, anti_match, union, diff, distinct, group, total, cross, outer, semi, anti, some, all, width}
use Rattle.lines.specs.declared.line.Aggregate.{Aggregate}
use Rattle.lines.specs.declared.line.Line.{Line}
use Rattle.lines.specs.declared.line.Line.TheVariants.{Table as TableL, Unit as UnitL, Select, Keep, Extend, ExtendTruth, Pad, Match, SemiMatch, AntiMatch, Union, Diff, Distinct, Group, Total, Compare, IsNull, Not, Unknown as UnknownL, And, Or}
use Rattle.lines.specs.declared.line.Side.TheVariants.{Column, Constant}
use Rattle.lines.proofs.Growing.{grow_append, grow_length}
use Rattle.unnest.specs.Emit.{Place, outermost, inside, breadth, chain, emit_condition, emit, spread_lines, total_lines, cell_line, outer_lines, quant_lines, some_lines, all_lines}
use Rattle.unnest.specs.Flat.{Ctx, top, under, cols, flat, spread, totalled, with_cell, flat_outer, flat_quant, flat_some, flat_all}

pub grow_chain : (o : List Node) (a : List Line) (k : ℕ → List Line) → grow o (chain (length o) a k) ≡ grow (grow o a) (k (length (grow o a)))
grow_chain o a k = grow_append o a (k (length o + length a)) ∙ ap (λ v. grow (grow o a) (k v)) (sym (grow_length o a))

-- p came from o by some lines, of which the last stands for x
pub record Step (o p : List Node) (x : Node) : Type 0 where
  pub grew : length o < length p
  pub kept : (i : ℕ) → i < length o → at p i ≡ at o i
  pub made : at p (length p - 1) ≡ x

pub onward : {o p q : List Node} {x y : Node} → Step o p x → Step p q y → Step o q y
onward {o} {p} {q} s t = record {
  grew = omega (arith, s.grew, t.grew);
  kept = λ i h. t.kept i (omega (arith, s.grew)) ∙ s.kept i h;
  made = t.made;
}

-- an operand, when more lines stand
pub reach : {o p q : List Node} {x y : Node} → Step o p x → Step p q y → at q (length p - 1) ≡ x
reach {o} {p} {q} s t = t.kept (length p - 1) (omega (arith, s.grew)) ∙ s.made

pub one_line : (o : List Node) (l : Line) → Step o (grow o (l ∷ [])) (build o l)
one_line o l = record {
  grew = omega (arith, length_push o (build o l));
  kept = λ i h. get_or_append_left o (build o l ∷ []) (rows_node unit) i h;
  made = get_or_push o (build o l) (rows_node unit) (length (o ++ (build o l ∷ [])) - 1) (omega (arith, length_push o (build o l)));
}

pub step_is : {o p : List Node} {x y : Node} → x ≡ y → Step o p x → Step o p y
step_is {o} {p} e s = subst (Step o p) e s

pub step_to : {o p q : List Node} {x : Node} → p ≡ q → Step o q x → Step o p x
step_to {o} {x = x} e s = subst (λ v. Step o v x) (sym e) s

-- one operand, then a line that reads it
unary : (o : List Node) (a : List Line) (x : Node) (f : ℕ → Line) (y : Node) → Step o (grow o a) x
    → ((p : List Node) (i : ℕ) → at p i ≡ x → build p (f i) ≡ y) → Step o (grow o (chain (length o) a (λ i. f (i - 1) ∷ []))) y
unary o a x f y s h =
    step_to (grow_chain o a (λ i. f (i - 1) ∷ []))
    (onward s (step_is (h (grow o a) (length (grow o a) - 1) s.made) (one_line (grow o a) (f (length (grow o a) - 1)))))

-- two operands, then a line that reads them
binary : (o : List Node) (a : List Line) (b : ℕ → List Line) (x x' : Node) (f : ℕ → ℕ → Line) (y : Node)
    → Step o (grow o a) x → Step (grow o a) (grow (grow o a) (b (length (grow o a)))) x'
    → ((p : List Node) (i j : ℕ) → at p i ≡ x → at p j ≡ x' → build p (f i j) ≡ y)
    → Step o (grow o (chain (length o) a (λ i. chain i (b i) (λ j. f (i - 1) (j - 1) ∷ [])))) y
binary o a b x x' f y s t h =
    let p = grow o a in
    let q = grow p (b (length p)) in
    step_to (grow_chain o a (λ i. chain i (b i) (λ j. f (i - 1) (j - 1) ∷ [])) ∙ grow_chain p (b (length p)) (λ j. f (length p - 1) (j - 1) ∷ []))
    (onward s (onward t (step_is (h q (length p - 1) (length q - 1) (reach s t) t.made) (one_line q (f (length p - 1) (length q - 1))))))

pub emits_condition : (q : Cond) (o : List Node) → Step o (grow o (emit_condition q (length o))) (cond_node q)
unfolding emit_condition build
emits_condition (compare s a b) o = one_line o (Compare s a b)
emits_condition (is_null k) o = one_line o (IsNull k)
emits_condition (not_of q) o = unary o (emit_condition q (length o)) (cond_node q) Not (cond_node (not_of q)) (emits_condition q o) (λ p i e. rw e)
emits_condition (unknown_of q) o = unary o (emit_condition q (length o)) (cond_node q) UnknownL (cond_node (unknown_of q)) (emits_condition q o) (λ p i e. rw e)
emits_condition (and_of a b) o =
    binary o (emit_condition a (length o)) (emit_condition b) (cond_node a) (cond_node b) And (cond_node (and_of a b)) (emits_condition a o) (emits_condition b (grow o (emit_condition a (length o)))) (λ p i j e f. rw (e, f))
emits_condition (or_of a b) o =
    binary o (emit_condition a (length o)) (emit_condition b) (cond_node a) (cond_node b) Or (cond_node (or_of a b)) (emits_condition a o) (emits_condition b (grow o (emit_condition a (length o)))) (λ p i j e f. rw (e, f))

-- straight lines: what each stands for, one after the other

abbrev Runs : List Node → List Node → List Line → List Node → Type 0
Runs o n [] [] = Unit {0}
Runs o n [] (y ∷ ys) = ⊥
Runs o n (l ∷ ls) [] = ⊥
Runs o n (l ∷ ls) (y ∷ ys) = (build (o ++ n) l ≡ y) × Runs o (n ++ (y ∷ [])) ls ys

run_grow : (o n : List Node) (ls : List Line) (ys : List Node) → Runs o n ls ys → grow (o ++ n) ls ≡ o ++ (n ++ ys)
run_grow o n [] [] h = ap (λ v. o ++ v) (sym (append-nil n))
run_grow o n [] (y ∷ ys) h = absurd h
run_grow o n (l ∷ ls) [] h = absurd h
run_grow o n (l ∷ ls) (y ∷ ys) h =
    ap (λ v. grow v ls) (ap (λ v. (o ++ n) ++ (v ∷ [])) h.0 ∙ append_assoc o n (y ∷ []))
    ∙ run_grow o (n ++ (y ∷ [])) ls ys h.1
    ∙ ap (λ v. o ++ v) (append_assoc n (y ∷ []) ys)

run_step : (o : List Node) (ls : List Line) (ys : List Node) (y : Node) → Runs o [] ls (ys ++ (y ∷ [])) → Step o (grow o ls) y
run_step o ls ys y h =
    let e : grow o ls ≡ o ++ (ys ++ (y ∷ [])) = ap (λ v. grow v ls) (sym (append-nil o)) ∙ run_grow o [] ls (ys ++ (y ∷ [])) h in
    let e' : grow o ls ≡ (o ++ ys) ++ (y ∷ []) = e ∙ sym (append_assoc o ys (y ∷ [])) in
    step_to e' (record {
      grew = omega (arith, length_push (o ++ ys) y, length-append o ys);
      kept = λ i k. get_or_append_left (o ++ ys) (y ∷ []) (rows_node unit) i (omega (arith, length-append o ys)) ∙ get_or_append_left o ys (rows_node unit) i k;
      made = get_or_push (o ++ ys) y (rows_node unit) (length ((o ++ ys) ++ (y ∷ [])) - 1) (omega (arith, length_push (o ++ ys) y));
    })

pub at_old : (o n : List Node) (i : ℕ) → i < length o → at (o ++ n) i ≡ at o i
at_old o n i h = get_or_append_left o n (rows_node unit) i h

pub at_new : (o n : List Node) (i : ℕ) → at (o ++ n) (length o + i) ≡ at n i
at_new o n i = get_or-append-add o n i (rows_node unit)

pub at_first : (o n : List Node) (x : Node) → at (o ++ (x ∷ n)) (length o) ≡ x
at_first o n x = ap (at (o ++ (x ∷ n))) (sym (add-zero (length o))) ∙ at_new o (x ∷ n) 0

-- lines behind lines that stand for known nodes
pub behind : (o : List Node) (front rest : List Line) (ys : List Node) (y : Node) → Runs o [] front ys → Step (o ++ ys) (grow (o ++ ys) rest) y → Step o (grow o (front ++ rest)) y
behind o front rest ys y h s =
    let e : grow o front ≡ o ++ ys = ap (λ v. grow v front) (sym (append-nil o)) ∙ run_grow o [] front ys h in
    step_to (grow_append o front rest ∙ ap (λ v. grow v rest) e) (record {
      grew = omega (arith, s.grew, length-append o ys);
      kept = λ i k. s.kept i (omega (arith, length-append o ys)) ∙ at_old o ys i k;
      made = s.made;
    })

-- the lines that some and all share, over their operands
step_quant : (won lost : ℤ) (p : List Node) (w l a b : ℕ) (L A B : Tree) → l < length p → a < length p → b < length p → at p l ≡ rows_node L → at p a ≡ rows_node A → at p b ≡ rows_node B
    → Step p (grow p (quant_lines won lost w l a b (length p))) (rows_node (flat_quant won lost w L A B))
unfolding build
step_quant won lost p w l a b L A B hl ha hb el ea eb =
    let T0 : Tree = semi_match w L A in
    let T2 : Tree = anti_match w L A in
    let T3 : Tree = semi_match w T2 B in
    let T5 : Tree = anti_match w T2 B in
    let T1 : Tree = extend T0 (Constant won) in
    let T4 : Tree = pad 1 T3 in
    run_step p (quant_lines won lost w l a b (length p))
    (rows_node T0 ∷ rows_node T1 ∷ rows_node T2 ∷ rows_node T3 ∷ rows_node T4 ∷ rows_node T5 ∷ rows_node (extend T5 (Constant lost)) ∷ rows_node (union T1 T4) ∷ [])
    (rows_node (flat_quant won lost w L A B)) (
      simp (at_old, el, ea),
      (
        simp at_first,
        (simp (at_old, el, ea), (simp (at_new, at_old, eb), (simp at_new, (simp (at_new, at_old, eb), (simp at_new, (simp at_new, (simp at_new, tt))))))),
      ),
    )

module _ (o : List Node) (l r : ℕ) (L R : Tree) (hl : l < length o) (hr : r < length o) (el : at o l ≡ rows_node L) (er : at o r ≡ rows_node R) (w : ℕ) where
  step_outer : (m : ℕ) → Step o (grow o (outer_lines m w l r (length o))) (rows_node (flat_outer m w L R))
  unfolding build
  step_outer m =
      run_step o (outer_lines m w l r (length o)) (rows_node (match w L R) ∷ rows_node (anti_match w L R) ∷ rows_node (pad m (anti_match w L R)) ∷ []) (rows_node (flat_outer m w L R))
      (simp (at_old, el, er), (simp (at_old, el, er), (simp at_new, (simp (at_new, at_first), tt))))

  step_some : (g : Sign) (k : ℕ) → Step o (grow o (some_lines g k w l r (length o))) (rows_node (flat_some g k w L R))
  unfolding build
  step_some g k =
      let q : Cond = compare g (Column k) (Column w) in
      let n : ℕ = length o in
      let ys : List Node = cond_node q ∷ cond_node (unknown_of q) ∷ rows_node (select R q) ∷ rows_node (select R (unknown_of q)) ∷ [] in
      let len = length-append o ys in
      behind o (Compare g (Column k) (Column w) ∷ UnknownL n ∷ Select r n ∷ Select r (n + 1) ∷ []) (quant_lines (pos 1) (pos 0) w l (n + 2) (n + 3) (n + 4)) ys (rows_node (flat_some g k w L R))
      (refl, (simp at_first, (simp (at_old, at_first, er), (simp (at_old, at_new, er), tt))))
      (subst (λ v. Step (o ++ ys) (grow (o ++ ys) (quant_lines (pos 1) (pos 0) w l (n + 2) (n + 3) v)) (rows_node (flat_some g k w L R))) len
      (step_quant (pos 1) (pos 0) (o ++ ys) w l (n + 2) (n + 3) L (select R q) (select R (unknown_of q)) (omega arith) (omega arith) (omega arith) (at_old o ys l hl ∙ el) (at_new o ys 2) (at_new o ys 3)))

  step_all : (g : Sign) (k : ℕ) → Step o (grow o (all_lines g k w l r (length o))) (rows_node (flat_all g k w L R))
  unfolding build
  step_all g k =
      let q : Cond = compare g (Column k) (Column w) in
      let n : ℕ = length o in
      let ys : List Node = cond_node q ∷ cond_node (unknown_of q) ∷ cond_node (not_of q) ∷ rows_node (select R (not_of q)) ∷ rows_node (select R (unknown_of q)) ∷ [] in
      let len = length-append o ys in
      behind o (Compare g (Column k) (Column w) ∷ UnknownL n ∷ Not n ∷ Select r (n + 2) ∷ Select r (n + 1) ∷ []) (quant_lines (pos 0) (pos 1) w l (n + 3) (n + 4) (n + 5)) ys (rows_node (flat_all g k w L R))
      (refl, (simp at_first, (simp at_first, (simp (at_old, at_new, er), (simp (at_old, at_new, er), tt)))))
      (subst (λ v. Step (o ++ ys) (grow (o ++ ys) (quant_lines (pos 0) (pos 1) w l (n + 3) (n + 4) v)) (rows_node (flat_all g k w L R))) len
      (step_quant (pos 0) (pos 1) (o ++ ys) w l (n + 3) (n + 4) L (select R (not_of q)) (select R (unknown_of q)) (omega arith) (omega arith) (omega arith) (at_old o ys l hl ∙ el) (at_new o ys 3) (at_new o ys 4)))

-- the context that a place stands for
abbrev pub ctx : Place → List Node → Ctx
ctx None o = top
ctx (Some x) o = under x.columns (as_rows (at o x.domain))

abbrev pub Ready : Place → List Node → Type 0
Ready None o = Unit {0}
Ready (Some x) o = x.domain < length o

pub breadth_is : (x : Place) (o : List Node) → breadth x ≡ cols (ctx x o)
breadth_is None o = refl
breadth_is (Some x) o = refl

pub ctx_kept : (x : Place) (o p : List Node) {y : Node} → Step o p y → Ready x o → ctx x p ≡ ctx x o
ctx_kept None o p s h = refl
ctx_kept (Some x) o p s h = ap (λ v. under x.columns (as_rows v)) (s.kept x.domain h)

pub ready_kept : (x : Place) (o p : List Node) {y : Node} → Step o p y → Ready x o → Ready x p
ready_kept None o p s h = tt
ready_kept (Some x) o p s h = omega (arith, s.grew)

step_spread : (x : Place) (o : List Node) (l : Line) (t : Tree) → ((p : List Node) → build p l ≡ rows_node t) → Ready x o
    → Step o (grow o (spread_lines x l (length o))) (rows_node (spread (ctx x o) t))
unfolding build
step_spread None o l t e h = step_is (e o) (one_line o l)
step_spread (Some x) o l t e h =
    run_step o (l ∷ Match 0 x.domain (length o) ∷ []) (rows_node t ∷ []) (rows_node (match 0 (as_rows (at o x.domain)) t)) (e (o ++ []), (simp (at_old, at_first), tt))

pub cell_builds : (v : Cell) (p : List Node) (i : ℕ) (t : Tree) → at p i ≡ rows_node t → build p (cell_line v i) ≡ rows_node (with_cell v t)
unfolding build
cell_builds Null p i t e = rw e
cell_builds (Number z) p i t e = rw e

step_total : (f : Aggregate) (k : ℕ) (x : Place) (o : List Node) (a : ℕ) (t : Tree) → a < length o → at o a ≡ rows_node t → Ready x o
    → Step o (grow o (total_lines f k x a (length o))) (rows_node (totalled f k (ctx x o) t))
unfolding build
step_total f k None o a t h e r = step_is (rw e) (one_line o (Total f k a))
step_total f k (Some x) o a t h e r =
    run_step o (total_lines f k (Some x) a (length o))
    (rows_node (group x.columns f k t) ∷ rows_node (anti_match x.columns (as_rows (at o x.domain)) t) ∷ rows_node (with_cell (none_of f) (anti_match x.columns (as_rows (at o x.domain)) t)) ∷ [])
    (rows_node (totalled f k (ctx (Some x) o) t))
    (simp (at_old, e), (simp (at_old, e), (cell_builds (none_of f) (o ++ (rows_node (group x.columns f k t) ∷ rows_node (anti_match x.columns (as_rows (at o x.domain)) t) ∷ [])) (length o + 1) (anti_match x.columns (as_rows (at o x.domain)) t) (at_new o _ 1), (simp (at_new, at_first), tt))))

module _ (ws : List ℕ) where
  -- a second operand, in the same context
  again : (x : Place) (o p : List Node) {y : Node} (r : Tree) → Step o p y → Ready x o → Step p (grow p (emit ws r x (length p))) (rows_node (flat ws r (ctx x p)))
      → Step p (grow p (emit ws r x (length p))) (rows_node (flat ws r (ctx x o)))
  again x o p r s h t = step_is (ap (λ v. rows_node (flat ws r v)) (ctx_kept x o p s h)) t

  -- the left operand, its distinct rows, and the right operand under these; then what the Apply asks for
  step_apply : (x : Place) (o : List Node) (l r : Tree) (F : ℕ → ℕ → ℕ → ℕ → List Line) (G : ℕ → Tree → Tree → Tree)
      → Step o (grow o (emit ws l x (length o))) (rows_node (flat ws l (ctx x o)))
      → ((p : List Node) (c i : ℕ) → i < length p → Step p (grow p (emit ws r (inside c i) (length p))) (rows_node (flat ws r (under c (as_rows (at p i))))))
      → ((p : List Node) (i j : ℕ) (L R : Tree) (w : ℕ) → i < length p → j < length p → at p i ≡ rows_node L → at p j ≡ rows_node R → Step p (grow p (F w i j (length p))) (rows_node (G w L R)))
      → Step o (grow o (chain (length o) (emit ws l x (length o)) (λ i. Distinct (i - 1) ∷ chain (i + 1) (emit ws r (inside (breadth x + width ws l) i) (i + 1)) (λ j. F (breadth x + width ws l) (i - 1) (j - 1) j))))
      (rows_node (G (cols (ctx x o) + width ws l) (flat ws l (ctx x o)) (flat ws r (under (cols (ctx x o) + width ws l) (distinct (flat ws l (ctx x o)))))))
  unfolding build
  step_apply x o l r F G s t u =
      let w : ℕ = breadth x + width ws l in
      let L : Tree = flat ws l (ctx x o) in
      let p : List Node = grow o (emit ws l x (length o)) in
      let k : ℕ → ℕ → List Line = λ i j. F w (i - 1) (j - 1) j in
      let b : Step p (grow p (Distinct (length p - 1) ∷ [])) (rows_node (distinct L)) = step_is (ap (λ v. rows_node (distinct (as_rows v))) s.made) (one_line p (Distinct (length p - 1))) in
      let p' : List Node = grow p (Distinct (length p - 1) ∷ []) in
      let e : length p + 1 ≡ length p' = sym (length_push p (build p (Distinct (length p - 1)))) in
      let v : Step p' (grow p' (emit ws r (inside w (length p)) (length p'))) (rows_node (flat ws r (under w (as_rows (at p' (length p)))))) = t p' w (length p) (omega arith) in
      let f : at p' (length p) ≡ rows_node (distinct L) = ap (at p') (omega arith) ∙ b.made in
      let v' : Step p' (grow p' (emit ws r (inside w (length p)) (length p'))) (rows_node (flat ws r (under w (distinct L)))) = step_is (ap (λ z. rows_node (flat ws r (under w (as_rows z)))) f) v in
      let q : List Node = grow p' (emit ws r (inside w (length p)) (length p')) in
      let z : Step q (grow q (F w (length p - 1) (length q - 1) (length q))) (rows_node (G w L (flat ws r (under w (distinct L)))))
      = u q (length p - 1) (length q - 1) L (flat ws r (under w (distinct L))) w (omega (arith, s.grew, b.grew, v.grew)) (omega (arith, v.grew)) (reach s (onward b v')) v'.made in
      step_is (ap (λ y. rows_node (G (y + width ws l) L (flat ws r (under (y + width ws l) (distinct L))))) (breadth_is x o))
      (step_to
      (grow_chain o (emit ws l x (length o)) (λ i. Distinct (i - 1) ∷ chain (i + 1) (emit ws r (inside w i) (i + 1)) (k i))
      ∙ ap (λ y. grow p' (chain y (emit ws r (inside w (length p)) y) (k (length p)))) e
      ∙ grow_chain p' (emit ws r (inside w (length p)) (length p')) (k (length p)))
      (onward s (onward b (onward v' z))))

  pub emits : (t : Tree) (x : Place) (o : List Node) → Ready x o → Step o (grow o (emit ws t x (length o))) (rows_node (flat ws t (ctx x o)))
  unfolding emit flat build
  emits (table t) x o h = step_spread x o (TableL t) (table t) (λ p. refl) h
  emits unit x o h = step_spread x o UnitL unit (λ p. refl) h
  emits (select e q) x o h =
      binary o (emit ws e x (length o)) (emit_condition q) (rows_node (flat ws e (ctx x o))) (cond_node q) Select (rows_node (select (flat ws e (ctx x o)) q))
      (emits e x o h) (emits_condition q (grow o (emit ws e x (length o)))) (λ p i j a b. rw (a, b))
  emits (keep n m e) x o h =
      unary o (emit ws e x (length o)) (rows_node (flat ws e (ctx x o))) (Keep (breadth x + n) m) (rows_node (keep (cols (ctx x o) + n) m (flat ws e (ctx x o))))
      (emits e x o h) (λ p i a. rw (a, breadth_is x o))
  emits (extend e v) x o h =
      unary o (emit ws e x (length o)) (rows_node (flat ws e (ctx x o))) (λ i. Extend i v) (rows_node (extend (flat ws e (ctx x o)) v)) (emits e x o h) (λ p i a. rw a)
  emits (extend_truth e q) x o h =
      binary o (emit ws e x (length o)) (emit_condition q) (rows_node (flat ws e (ctx x o))) (cond_node q) ExtendTruth (rows_node (extend_truth (flat ws e (ctx x o)) q))
      (emits e x o h) (emits_condition q (grow o (emit ws e x (length o)))) (λ p i j a b. rw (a, b))
  emits (pad m e) x o h =
      unary o (emit ws e x (length o)) (rows_node (flat ws e (ctx x o))) (Pad m) (rows_node (pad m (flat ws e (ctx x o)))) (emits e x o h) (λ p i a. rw a)
  emits (match n l r) x o h =
      binary o (emit ws l x (length o)) (emit ws r x) (rows_node (flat ws l (ctx x o))) (rows_node (flat ws r (ctx x o))) (Match (breadth x + n)) (rows_node (match (cols (ctx x o) + n) (flat ws l (ctx x o)) (flat ws r (ctx x o))))
      (emits l x o h) (again x o _ r (emits l x o h) h (emits r x _ (ready_kept x o _ (emits l x o h) h))) (λ p i j a b. rw (a, b, breadth_is x o))
  emits (semi_match n l r) x o h =
      binary o (emit ws l x (length o)) (emit ws r x) (rows_node (flat ws l (ctx x o))) (rows_node (flat ws r (ctx x o))) (SemiMatch (breadth x + n)) (rows_node (semi_match (cols (ctx x o) + n) (flat ws l (ctx x o)) (flat ws r (ctx x o))))
      (emits l x o h) (again x o _ r (emits l x o h) h (emits r x _ (ready_kept x o _ (emits l x o h) h))) (λ p i j a b. rw (a, b, breadth_is x o))
  emits (anti_match n l r) x o h =
      binary o (emit ws l x (length o)) (emit ws r x) (rows_node (flat ws l (ctx x o))) (rows_node (flat ws r (ctx x o))) (AntiMatch (breadth x + n)) (rows_node (anti_match (cols (ctx x o) + n) (flat ws l (ctx x o)) (flat ws r (ctx x o))))
      (emits l x o h) (again x o _ r (emits l x o h) h (emits r x _ (ready_kept x o _ (emits l x o h) h))) (λ p i j a b. rw (a, b, breadth_is x o))
  emits (union l r) x o h =
      binary o (emit ws l x (length o)) (emit ws r x) (rows_node (flat ws l (ctx x o))) (rows_node (flat ws r (ctx x o))) Union (rows_node (union (flat ws l (ctx x o)) (flat ws r (ctx x o))))
      (emits l x o h) (again x o _ r (emits l x o h) h (emits r x _ (ready_kept x o _ (emits l x o h) h))) (λ p i j a b. rw (a, b))
  emits (diff l r) x o h =
      binary o (emit ws l x (length o)) (emit ws r x) (rows_node (flat ws l (ctx x o))) (rows_node (flat ws r (ctx x o))) Diff (rows_node (diff (flat ws l (ctx x o)) (flat ws r (ctx x o))))
      (emits l x o h) (again x o _ r (emits l x o h) h (emits r x _ (ready_kept x o _ (emits l x o h) h))) (λ p i j a b. rw (a, b))
  emits (distinct e) x o h =
      unary o (emit ws e x (length o)) (rows_node (flat ws e (ctx x o))) Distinct (rows_node (distinct (flat ws e (ctx x o)))) (emits e x o h) (λ p i a. rw a)
  emits (group n f k e) x o h =
      unary o (emit ws e x (length o)) (rows_node (flat ws e (ctx x o))) (Group (breadth x + n) f k) (rows_node (group (cols (ctx x o) + n) f k (flat ws e (ctx x o))))
      (emits e x o h) (λ p i a. rw (a, breadth_is x o))
  emits (total f k e) x o h =
      let s = emits e x o h in
      let p : List Node = grow o (emit ws e x (length o)) in
      step_to (grow_chain o (emit ws e x (length o)) (λ i. total_lines f k x (i - 1) i))
      (onward s (step_is (ap (λ v. rows_node (totalled f k v (flat ws e (ctx x o)))) (ctx_kept x o p s h))
      (step_total f k x p (length p - 1) (flat ws e (ctx x o)) (omega (arith, s.grew)) s.made (ready_kept x o p s h))))
  emits (cross l r) x o h =
      step_apply x o l r (λ w i j n. Match w i j ∷ []) match (emits l x o h) (λ p c i k. emits r (inside c i) p k)
      (λ p i j L R w a b c d. step_is (rw (c, d)) (one_line p (Match w i j)))
  emits (outer l r) x o h =
      step_apply x o l r (λ w i j n. outer_lines (width ws r) w i j n) (flat_outer (width ws r)) (emits l x o h) (λ p c i k. emits r (inside c i) p k)
      (λ p i j L R w a b c d. step_outer p i j L R a b c d w (width ws r))
  emits (semi l r) x o h =
      step_apply x o l r (λ w i j n. SemiMatch w i j ∷ []) semi_match (emits l x o h) (λ p c i k. emits r (inside c i) p k)
      (λ p i j L R w a b c d. step_is (rw (c, d)) (one_line p (SemiMatch w i j)))
  emits (anti l r) x o h =
      step_apply x o l r (λ w i j n. AntiMatch w i j ∷ []) anti_match (emits l x o h) (λ p c i k. emits r (inside c i) p k)
      (λ p i j L R w a b c d. step_is (rw (c, d)) (one_line p (AntiMatch w i j)))
  emits (some g k l r) x o h =
      step_apply x o l r (λ w i j n. some_lines g k w i j n) (flat_some g k) (emits l x o h) (λ p c i y. emits r (inside c i) p y)
      (λ p i j L R w a b c d. step_some p i j L R a b c d w g k)
  emits (all g k l r) x o h =
      step_apply x o l r (λ w i j n. all_lines g k w i j n) (flat_all g k) (emits l x o h) (λ p c i y. emits r (inside c i) p y)
      (λ p i j L R w a b c d. step_all p i j L R a b c d w g k)

  pub unnested : (t : Tree) → answer (emit ws t outermost 0) ≡ flat ws t top
  unnested t =
      let s = emits t outermost [] tt in
      ap as_rows (ap (λ v. at (grow [] (emit ws t outermost 0)) (v - 1)) (sym (grow_length [] (emit ws t outermost 0) ∙ zero-add (length (emit ws t outermost 0)))) ∙ s.made)
