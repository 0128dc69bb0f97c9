-- The emitted lines are lines of a flat plan.
use Rattle.std.proofs.Common.{◌≡◌, ℕ, ◌+◌, ◌-◌, ◌<◌, List, [], ◌∷◌, ◌++◌, length, None, Some, ℤ, pos, sym, refl, ap, ◌∙◌, subst, arith}
use Rattle.std.proofs.lemmas.List.{append_assoc, append-nil, length-append, length_push}
use Rattle.cells.specs.declared.cell.Cell.{Cell}
use Rattle.cells.specs.declared.cell.Cell.TheVariants.{Null, Number}
use Rattle.lines.specs.Ops.{none_of}
use Rattle.cells.specs.declared.sign.Sign.{Sign}
use Rattle.lines.specs.Lines.{Node, rows_node, cond_node, as_rows, at, build, grow}
use Rattle.lines.specs.Marks.{Marks, own, Sound}
use Rattle.lines.specs.Shapes.{shape_of}
use Rattle.lines.specs.Trees.{Cond, compare, is_null, not_of, unknown_of, and_of, or_of, Tree, table, unit, select, keep, extend, extend_truth, pad, match, semi_match, anti_match, union, diff, distinct, group, total, cross, outer, semi, anti, some, all, width}
use Rattle.lines.specs.declared.line.Aggregate.{Aggregate}
use Rattle.lines.specs.declared.line.Line.{Line}
use Rattle.lines.specs.declared.line.Line.TheVariants.{Table as TableL, Unit as UnitL, Select, Keep, Extend, ExtendTruth, Pad, Match, SemiMatch, AntiMatch, Union, Diff, Distinct, Group, Total, Compare, Not, Unknown as UnknownL, And, Or}
use Rattle.lines.specs.declared.line.Side.TheVariants.{Column, Constant}
use Rattle.unnest.specs.Emit.{Place, outermost, inside, breadth, chain, emit_condition, emit, spread_lines, total_lines, cell_line, outer_lines, some_lines, all_lines, quant_lines}
use Rattle.unnest.specs.Flat.{under, cols, flat, spread, totalled, with_cell, flat_outer, flat_quant, flat_some, flat_all}
use Rattle.unnest.specs.Plans.{Plain, Runnable}
use Rattle.unnest.proofs.Feeding.{IsRows, IsCondition, HasRows, HasCondition, Fed, PlanFrom}
use Rattle.lines.proofs.Growing.{grow_length}
use Rattle.unnest.proofs.Emits.{cell_builds, Step, onward, reach, one_line, step_is, at_old, at_new, at_first, ctx, Ready, breadth_is, ctx_kept, ready_kept, emits_condition, emits}
use Rattle.unnest.proofs.Flats.{Domain, Stands, Flat, flats, domain, cols_is}

module _ (ws : List ℕ) where
  plan_append : (o : List Node) (a b : List Line) → PlanFrom ws o a → PlanFrom ws (grow o a) b → PlanFrom ws o (a ++ b)
  plan_append o [] b p q = q
  plan_append o (l ∷ a) b p q = (p.0, p.1, plan_append (o ++ (build o l ∷ [])) a b p.2 q)

  plan_chain : (o : List Node) (a : List Line) (k : ℕ → List Line) → PlanFrom ws o a → PlanFrom ws (grow o a) (k (length (grow o a))) → PlanFrom ws o (chain (length o) a k)
  plan_chain o a k p q = plan_append o a (k (length o + length a)) p (subst (λ v. PlanFrom ws (grow o a) (k v)) (grow_length o a) q)

  rows_at : (o : List Node) (i : ℕ) (t : Tree) → i < length o → at o i ≡ rows_node t → HasRows o i
  rows_at o i t h e = (h, subst IsRows (sym e) tt)

  condition_at : (o : List Node) (i : ℕ) (q : Cond) → i < length o → at o i ≡ cond_node q → HasCondition o i
  condition_at o i q h e = (h, subst IsCondition (sym e) tt)

  one : (p : List Node) (l : Line) (y : Node) → Fed p (shape_of l) → build p l ≡ y → Runnable ws y → PlanFrom ws p (l ∷ [])
  one p l y f e r = (f, subst (Runnable ws) (sym e) r, tt)

  unary : (o : List Node) (a : List Line) (x : Node) (f : ℕ → Line) (y : Node) → Step o (grow o a) x → PlanFrom ws o a
      → ((p : List Node) (i : ℕ) → i < length p → at p i ≡ x → Fed p (shape_of (f i)) × (build p (f i) ≡ y)) → Runnable ws y → PlanFrom ws o (chain (length o) a (λ i. f (i - 1) ∷ []))
  unary o a x f y s P h r =
      let p = grow o a in
      let k = h p (length p - 1) (omega (arith, s.grew)) s.made in
      plan_chain o a (λ i. f (i - 1) ∷ []) P (one p (f (length p - 1)) y k.0 k.1 r)

  binary : (o : List Node) (a : List Line) (b : ℕ → List Line) (x x' : Node) (f : ℕ → ℕ → Line) (y : Node)
      → Step o (grow o a) x → Step (grow o a) (grow (grow o a) (b (length (grow o a)))) x'
      → PlanFrom ws o a → PlanFrom ws (grow o a) (b (length (grow o a)))
      → ((p : List Node) (i j : ℕ) → i < length p → j < length p → at p i ≡ x → at p j ≡ x' → Fed p (shape_of (f i j)) × (build p (f i j) ≡ y)) → Runnable ws y
      → PlanFrom ws o (chain (length o) a (λ i. chain i (b i) (λ j. f (i - 1) (j - 1) ∷ [])))
  binary o a b x x' f y s t P Q h r =
      let p = grow o a in
      let q = grow p (b (length p)) in
      let k = h q (length p - 1) (length q - 1) (omega (arith, s.grew, t.grew)) (omega (arith, t.grew)) (reach s t) t.made in
      plan_chain o a (λ i. chain i (b i) (λ j. f (i - 1) (j - 1) ∷ [])) P
      (plan_chain p (b (length p)) (λ j. f (length p - 1) (j - 1) ∷ []) Q (one q (f (length p - 1) (length q - 1)) y k.0 k.1 r))

  lays_condition : (q : Cond) (o : List Node) → PlanFrom ws o (emit_condition q (length o))
  unfolding emit_condition build
  lays_condition (compare s a b) o = (tt, tt, tt)
  lays_condition (is_null k) o = (tt, tt, tt)
  lays_condition (not_of q) o = unary o (emit_condition q (length o)) (cond_node q) Not (cond_node (not_of q)) (emits_condition q o) (lays_condition q o) (λ p i h e. (condition_at p i q h e, rw e)) tt
  lays_condition (unknown_of q) o = unary o (emit_condition q (length o)) (cond_node q) UnknownL (cond_node (unknown_of q)) (emits_condition q o) (lays_condition q o) (λ p i h e. (condition_at p i q h e, rw e)) tt
  lays_condition (and_of a b) o =
      binary o (emit_condition a (length o)) (emit_condition b) (cond_node a) (cond_node b) And (cond_node (and_of a b)) (emits_condition a o) (emits_condition b (grow o (emit_condition a (length o)))) (lays_condition a o) (lays_condition b _)
      (λ p i j h k e f. ((condition_at p i a h e, condition_at p j b k f), rw (e, f))) tt
  lays_condition (or_of a b) o =
      binary o (emit_condition a (length o)) (emit_condition b) (cond_node a) (cond_node b) Or (cond_node (or_of a b)) (emits_condition a o) (emits_condition b (grow o (emit_condition a (length o)))) (lays_condition a o) (lays_condition b _)
      (λ p i j h k e f. ((condition_at p i a h e, condition_at p j b k f), rw (e, f))) tt

  -- straight lines
  abbrev Lays : List Node → List Node → List Line → List Node → Type 0
  Lays o n [] [] = Unit {0}
  Lays o n [] (y ∷ ys) = ⊥
  Lays o n (l ∷ ls) [] = ⊥
  Lays o n (l ∷ ls) (y ∷ ys) = Fed (o ++ n) (shape_of l) × (build (o ++ n) l ≡ y) × Runnable ws y × Lays o (n ++ (y ∷ [])) ls ys

  lays_from : (o n : List Node) (ls : List Line) (ys : List Node) → Lays o n ls ys → PlanFrom ws (o ++ n) ls
  lays_from o n [] [] h = tt
  lays_from o n [] (y ∷ ys) h = absurd h
  lays_from o n (l ∷ ls) [] h = absurd h
  lays_from o n (l ∷ ls) (y ∷ ys) h = (
    h.0,
    subst (Runnable ws) (sym h.1) h.2,
    subst (λ v. PlanFrom ws v ls) (sym (ap (λ v. (o ++ n) ++ (v ∷ [])) h.1 ∙ append_assoc o n (y ∷ []))) (lays_from o (n ++ (y ∷ [])) ls ys h.3),
  )

  straight : (o : List Node) (ls : List Line) (ys : List Node) → Lays o [] ls ys → PlanFrom ws o ls
  straight o ls ys h = subst (λ v. PlanFrom ws v ls) (append-nil o) (lays_from o [] ls ys h)

  old_rows : (o n : List Node) (a : ℕ) → HasRows o a → HasRows (o ++ n) a
  old_rows o n a h = (omega (arith, h.0, length-append o n), subst IsRows (sym (at_old o n a h.0)) h.1)

  new_rows : (o n : List Node) (a i : ℕ) → a ≡ length o + i → i < length n → IsRows (at n i) → HasRows (o ++ n) a
  new_rows o n a i e h r = (omega (arith, length-append o n), subst IsRows (sym (ap (at (o ++ n)) e ∙ at_new o n i)) r)

  new_condition : (o n : List Node) (a i : ℕ) → a ≡ length o + i → i < length n → IsCondition (at n i) → HasCondition (o ++ n) a
  new_condition o n a i e h r = (omega (arith, length-append o n), subst IsCondition (sym (ap (at (o ++ n)) e ∙ at_new o n i)) r)

  -- the domain's line stands and has rows
  abbrev Placed : Place → List Node → Type 0
  Placed None o = Unit {0}
  Placed (Some x) o = HasRows o x.domain

  ready_of : (x : Place) (o : List Node) → Placed x o → Ready x o
  ready_of None o h = tt
  ready_of (Some x) o h = h.0

  placed_kept : (x : Place) (o p : List Node) {y : Node} → Step o p y → Placed x o → Placed x p
  placed_kept None o p s h = tt
  placed_kept (Some x) o p s h = (omega (arith, s.grew, h.0), subst IsRows (sym (s.kept x.domain h.0)) h.1)

  lay_spread : (x : Place) (o : List Node) (l : Line) (t : Tree) → ((p : List Node) → Fed p (shape_of l)) → ((p : List Node) → build p l ≡ rows_node t) → Placed x o
      → Runnable ws (rows_node t) → Runnable ws (rows_node (spread (ctx x o) t)) → PlanFrom ws o (spread_lines x l (length o))
  unfolding build
  lay_spread None o l t f e h r u = one o l (rows_node t) (f o) (e o) r
  lay_spread (Some x) o l t f e h r u =
      straight o (l ∷ Match 0 x.domain (length o) ∷ []) (rows_node t ∷ rows_node (match 0 (as_rows (at o x.domain)) t) ∷ []) (
        f (o ++ []),
        e (o ++ []),
        r,
        (
          (old_rows o (rows_node t ∷ []) x.domain h, new_rows o (rows_node t ∷ []) (length o) 0 (omega arith) (omega arith) tt),
          (let k = h.0 in simp (at_old, at_first)),
          u,
          tt,
        ),
      )

  cell_sound : (v : Cell) (X : Tree) → Sound ws [] (with_cell v X) → Sound ws [] X
  unfolding Sound
  cell_sound Null X s = s.1
  cell_sound (Number z) X s = s.2

  cell_plain : (v : Cell) (X : Tree) → Plain (with_cell v X) → Plain X
  unfolding Plain
  cell_plain Null X s = s
  cell_plain (Number z) X s = s

  cell_fed : (v : Cell) (p : List Node) (i : ℕ) → HasRows p i → Fed p (shape_of (cell_line v i))
  cell_fed Null p i h = h
  cell_fed (Number z) p i h = h

  lay_total : (f : Aggregate) (k : ℕ) (x : Place) (o : List Node) (a : ℕ) (t : Tree) → a < length o → at o a ≡ rows_node t → Placed x o
      → Runnable ws (rows_node (totalled f k (ctx x o) t)) → PlanFrom ws o (total_lines f k x a (length o))
  unfolding build Sound Plain
  lay_total f k None o a t h e pl r = one o (Total f k a) (rows_node (total f k t)) (rows_at o a t h e) (rw e) r
  lay_total f k (Some x) o a t h e pl r =
      let c : ℕ = x.columns in
      let D : Tree = as_rows (at o x.domain) in
      let G : Node = rows_node (group c f k t) in
      let X : Node = rows_node (anti_match c D t) in
      let N : Node = rows_node (with_cell (none_of f) (anti_match c D t)) in
      let ha : HasRows o a = rows_at o a t h e in
      let k' = pl.0 in
      straight o (total_lines f k (Some x) a (length o)) (G ∷ X ∷ N ∷ rows_node (union (group c f k t) (with_cell (none_of f) (anti_match c D t))) ∷ []) (
        old_rows o [] a ha,
        simp (at_old, e),
        (r.0.1, r.1.0),
        (
          (old_rows o (G ∷ []) x.domain pl, old_rows o (G ∷ []) a ha),
          simp (at_old, e),
          (cell_sound (none_of f) (anti_match c D t) r.0.2, cell_plain (none_of f) (anti_match c D t) r.1.1),
          (
            cell_fed (none_of f) _ (length o + 1) (new_rows o (G ∷ X ∷ []) (length o + 1) 1 refl (omega arith) tt),
            cell_builds (none_of f) (o ++ (G ∷ X ∷ [])) (length o + 1) (anti_match c D t) (at_new o _ 1),
            (r.0.2, r.1.1),
            (
              (new_rows o (G ∷ X ∷ N ∷ []) (length o) 0 (omega arith) (omega arith) tt, new_rows o (G ∷ X ∷ N ∷ []) (length o + 2) 2 refl (omega arith) tt),
              simp (at_new, at_first),
              r,
              tt,
            ),
          ),
        ),
      )

  module _ (o : List Node) (l r : ℕ) (L R : Tree) (hl : l < length o) (hr : r < length o) (el : at o l ≡ rows_node L) (er : at o r ≡ rows_node R) (w : ℕ) where
    rl : HasRows o l
    rl = rows_at o l L hl el

    rr : HasRows o r
    rr = rows_at o r R hr er

    lay_outer : (m : ℕ) → Runnable ws (rows_node (flat_outer m w L R)) → PlanFrom ws o (outer_lines m w l r (length o))
    unfolding build Sound Plain
    lay_outer m u =
        let M : Node = rows_node (match w L R) in
        let X : Node = rows_node (anti_match w L R) in
        let P : Node = rows_node (pad m (anti_match w L R)) in
        straight o (outer_lines m w l r (length o)) (M ∷ X ∷ P ∷ rows_node (flat_outer m w L R) ∷ []) (
          (old_rows o [] l rl, old_rows o [] r rr),
          simp (at_old, el, er),
          (u.0.1, u.1.0),
          (
            (old_rows o (M ∷ []) l rl, old_rows o (M ∷ []) r rr),
            simp (at_old, el, er),
            (u.0.2.1, u.1.1),
            (
              new_rows o (M ∷ X ∷ []) (length o + 1) 1 refl (omega arith) tt,
              simp at_new,
              (u.0.2, u.1.1),
              (
                (new_rows o (M ∷ X ∷ P ∷ []) (length o) 0 (omega arith) (omega arith) tt, new_rows o (M ∷ X ∷ P ∷ []) (length o + 2) 2 refl (omega arith) tt),
                simp (at_new, at_first),
                u,
                tt,
              ),
            ),
          ),
        )

  lay_quant : (y n : ℤ) (p : List Node) (w l a b : ℕ) (L A B : Tree) → l < length p → a < length p → b < length p → at p l ≡ rows_node L → at p a ≡ rows_node A → at p b ≡ rows_node B
      → Runnable ws (rows_node (flat_quant y n w L A B)) → PlanFrom ws p (quant_lines y n w l a b (length p))
  unfolding build Sound Plain
  lay_quant y n p w l a b L A B hl ha hb el ea eb u =
      let rl : HasRows p l = rows_at p l L hl el in
      let ra : HasRows p a = rows_at p a A ha ea in
      let rb : HasRows p b = rows_at p b B hb eb in
      let T0 : Tree = semi_match w L A in
      let T1 : Tree = extend T0 (Constant y) in
      let T2 : Tree = anti_match w L A in
      let T3 : Tree = semi_match w T2 B in
      let T4 : Tree = pad 1 T3 in
      let T5 : Tree = anti_match w T2 B in
      let T6 : Tree = extend T5 (Constant n) in
      let T7 : Tree = union T1 T4 in
      straight p (quant_lines y n w l a b (length p)) (rows_node T0 ∷ rows_node T1 ∷ rows_node T2 ∷ rows_node T3 ∷ rows_node T4 ∷ rows_node T5 ∷ rows_node T6 ∷ rows_node T7 ∷ rows_node (union T7 T6) ∷ []) (
        (old_rows p ([]) l rl, old_rows p ([]) a ra),
        simp (at_new, at_first, at_old, el, ea, eb),
        (u.0.1.1.2, u.1.0.0),
        (
          new_rows p (rows_node T0 ∷ []) (length p) 0 (omega arith) (omega arith) tt,
          simp (at_new, at_first, at_old, el, ea, eb),
          (u.0.1.1, u.1.0.0),
          (
            (old_rows p (rows_node T0 ∷ rows_node T1 ∷ []) l rl, old_rows p (rows_node T0 ∷ rows_node T1 ∷ []) a ra),
            simp (at_new, at_first, at_old, el, ea, eb),
            (u.0.1.2.1.1, u.1.0.1.0),
            (
              (new_rows p (rows_node T0 ∷ rows_node T1 ∷ rows_node T2 ∷ []) (length p + 2) 2 refl (omega arith) tt, old_rows p (rows_node T0 ∷ rows_node T1 ∷ rows_node T2 ∷ []) b rb),
              simp (at_new, at_first, at_old, el, ea, eb),
              (u.0.1.2.1, u.1.0.1),
              (
                new_rows p (rows_node T0 ∷ rows_node T1 ∷ rows_node T2 ∷ rows_node T3 ∷ []) (length p + 3) 3 refl (omega arith) tt,
                simp (at_new, at_first, at_old, el, ea, eb),
                (u.0.1.2, u.1.0.1),
                (
                  (new_rows p (rows_node T0 ∷ rows_node T1 ∷ rows_node T2 ∷ rows_node T3 ∷ rows_node T4 ∷ []) (length p + 2) 2 refl (omega arith) tt, old_rows p (rows_node T0 ∷ rows_node T1 ∷ rows_node T2 ∷ rows_node T3 ∷ rows_node T4 ∷ []) b rb),
                  simp (at_new, at_first, at_old, el, ea, eb),
                  (u.0.2.2, u.1.1),
                  (
                    new_rows p (rows_node T0 ∷ rows_node T1 ∷ rows_node T2 ∷ rows_node T3 ∷ rows_node T4 ∷ rows_node T5 ∷ []) (length p + 5) 5 refl (omega arith) tt,
                    simp (at_new, at_first, at_old, el, ea, eb),
                    (u.0.2, u.1.1),
                    (
                      (new_rows p (rows_node T0 ∷ rows_node T1 ∷ rows_node T2 ∷ rows_node T3 ∷ rows_node T4 ∷ rows_node T5 ∷ rows_node T6 ∷ []) (length p + 1) 1 refl (omega arith) tt, new_rows p (rows_node T0 ∷ rows_node T1 ∷ rows_node T2 ∷ rows_node T3 ∷ rows_node T4 ∷ rows_node T5 ∷ rows_node T6 ∷ []) (length p + 4) 4 refl (omega arith) tt),
                      simp (at_new, at_first, at_old, el, ea, eb),
                      (u.0.1, u.1.0),
                      (
                        (new_rows p (rows_node T0 ∷ rows_node T1 ∷ rows_node T2 ∷ rows_node T3 ∷ rows_node T4 ∷ rows_node T5 ∷ rows_node T6 ∷ rows_node T7 ∷ []) (length p + 7) 7 refl (omega arith) tt, new_rows p (rows_node T0 ∷ rows_node T1 ∷ rows_node T2 ∷ rows_node T3 ∷ rows_node T4 ∷ rows_node T5 ∷ rows_node T6 ∷ rows_node T7 ∷ []) (length p + 6) 6 refl (omega arith) tt),
                        simp (at_new, at_first, at_old, el, ea, eb),
                        u,
                        tt,
                      ),
                    ),
                  ),
                ),
              ),
            ),
          ),
        ),
      )

  -- lines behind lines that stand for known nodes
  behind : (o : List Node) (front rest : List Line) (ys : List Node) → Lays o [] front ys → PlanFrom ws (o ++ ys) rest → PlanFrom ws o (front ++ rest)
  behind o front rest ys h q =
      plan_append o front rest (straight o front ys h) (subst (λ v. PlanFrom ws v rest) (sym (ap (λ v. grow v front) (sym (append-nil o)) ∙ grown o [] front ys h)) q)
    where
      grown : (o n : List Node) (ls : List Line) (ys : List Node) → Lays o n ls ys → grow (o ++ n) ls ≡ o ++ (n ++ ys)
      grown o n [] [] h = ap (λ v. o ++ v) (sym (append-nil n))
      grown o n [] (y ∷ ys) h = absurd h
      grown o n (l ∷ ls) [] h = absurd h
      grown o n (l ∷ ls) (y ∷ ys) h =
          ap (λ v. grow v ls) (ap (λ v. (o ++ n) ++ (v ∷ [])) h.1 ∙ append_assoc o n (y ∷ []))
          ∙ grown o (n ++ (y ∷ [])) ls ys h.3
          ∙ ap (λ v. o ++ v) (append_assoc n (y ∷ []) ys)

  module _ (o : List Node) (l r : ℕ) (L R : Tree) (hl : l < length o) (hr : r < length o) (el : at o l ≡ rows_node L) (er : at o r ≡ rows_node R) (w : ℕ) (g : Sign) (k : ℕ) where
    has_r : HasRows o r
    has_r = rows_at o r R hr er

    lay_some : Runnable ws (rows_node (flat_some g k w L R)) → PlanFrom ws o (some_lines g k w l r (length o))
    unfolding build Sound Plain
    lay_some u =
        let q : Cond = compare g (Column k) (Column w) in
        let n : ℕ = length o in
        let ys : List Node = cond_node q ∷ cond_node (unknown_of q) ∷ rows_node (select R q) ∷ rows_node (select R (unknown_of q)) ∷ [] in
        let len = length-append o ys in
        behind o (Compare g (Column k) (Column w) ∷ UnknownL n ∷ Select r n ∷ Select r (n + 1) ∷ []) (quant_lines (pos 1) (pos 0) w l (n + 2) (n + 3) (n + 4)) ys (
          tt,
          refl,
          tt,
          (
            new_condition o (cond_node q ∷ []) n 0 (omega arith) (omega arith) tt,
            simp at_first,
            tt,
            (
              (old_rows o (cond_node q ∷ cond_node (unknown_of q) ∷ []) r has_r, new_condition o (cond_node q ∷ cond_node (unknown_of q) ∷ []) n 0 (omega arith) (omega arith) tt),
              simp (at_old, at_first, er),
              (u.0.1.1.2.2, u.1.0.0.1),
              (
                (old_rows o (cond_node q ∷ cond_node (unknown_of q) ∷ rows_node (select R q) ∷ []) r has_r, new_condition o (cond_node q ∷ cond_node (unknown_of q) ∷ rows_node (select R q) ∷ []) (n + 1) 1 refl (omega arith) tt),
                simp (at_old, at_new, er),
                (u.0.1.2.1.2, u.1.0.1.1),
                tt,
              ),
            ),
          ),
        )
        (subst (λ v. PlanFrom ws (o ++ ys) (quant_lines (pos 1) (pos 0) w l (n + 2) (n + 3) v)) len
        (lay_quant (pos 1) (pos 0) (o ++ ys) w l (n + 2) (n + 3) L (select R q) (select R (unknown_of q)) (omega arith) (omega arith) (omega arith) (at_old o ys l hl ∙ el) (at_new o ys 2) (at_new o ys 3) u))

    lay_all : Runnable ws (rows_node (flat_all g k w L R)) → PlanFrom ws o (all_lines g k w l r (length o))
    unfolding build Sound Plain
    lay_all u =
        let q : Cond = compare g (Column k) (Column w) in
        let n : ℕ = length o in
        let ys : List Node = cond_node q ∷ cond_node (unknown_of q) ∷ cond_node (not_of q) ∷ rows_node (select R (not_of q)) ∷ rows_node (select R (unknown_of q)) ∷ [] in
        let len = length-append o ys in
        behind o (Compare g (Column k) (Column w) ∷ UnknownL n ∷ Not n ∷ Select r (n + 2) ∷ Select r (n + 1) ∷ []) (quant_lines (pos 0) (pos 1) w l (n + 3) (n + 4) (n + 5)) ys (
          tt,
          refl,
          tt,
          (
            new_condition o (cond_node q ∷ []) n 0 (omega arith) (omega arith) tt,
            simp at_first,
            tt,
            (
              new_condition o (cond_node q ∷ cond_node (unknown_of q) ∷ []) n 0 (omega arith) (omega arith) tt,
              simp at_first,
              tt,
              (
                (old_rows o (cond_node q ∷ cond_node (unknown_of q) ∷ cond_node (not_of q) ∷ []) r has_r, new_condition o (cond_node q ∷ cond_node (unknown_of q) ∷ cond_node (not_of q) ∷ []) (n + 2) 2 refl (omega arith) tt),
                simp (at_old, at_new, er),
                (u.0.1.1.2.2, u.1.0.0.1),
                (
                  (old_rows o (cond_node q ∷ cond_node (unknown_of q) ∷ cond_node (not_of q) ∷ rows_node (select R (not_of q)) ∷ []) r has_r, new_condition o (cond_node q ∷ cond_node (unknown_of q) ∷ cond_node (not_of q) ∷ rows_node (select R (not_of q)) ∷ []) (n + 1) 1 refl (omega arith) tt),
                  simp (at_old, at_new, er),
                  (u.0.1.2.1.2, u.1.0.1.1),
                  tt,
                ),
              ),
            ),
          ),
        )
        (subst (λ v. PlanFrom ws (o ++ ys) (quant_lines (pos 0) (pos 1) w l (n + 3) (n + 4) v)) len
        (lay_quant (pos 0) (pos 1) (o ++ ys) w l (n + 3) (n + 4) L (select R (not_of q)) (select R (unknown_of q)) (omega arith) (omega arith) (omega arith) (at_old o ys l hl ∙ el) (at_new o ys 3) (at_new o ys 4) u))

  runs : {w : ℕ} {m : Marks} {t : Tree} → Flat ws w m t → Runnable ws (rows_node t)
  runs i = (i.sound, i.plain)

  -- the left operand, its distinct rows, and the right operand under these; then what the Apply asks for
  lay_apply : (x : Place) (o : List Node) (d : Marks) (l r : Tree) (F : ℕ → ℕ → ℕ → ℕ → List Line) → Sound ws d l → Placed x o → Stands ws d (ctx x o)
      → PlanFrom ws o (emit ws l x (length o))
      → ((p : List Node) (c i : ℕ) → Placed (inside c i) p → Stands ws (d ++ own ws d l) (ctx (inside c i) p) → PlanFrom ws p (emit ws r (inside c i) (length p)))
      → ((p : List Node) (i j : ℕ) (w : ℕ) → w ≡ cols (ctx x o) + width ws l → i < length p → j < length p → at p i ≡ rows_node (flat ws l (ctx x o)) → at p j ≡ rows_node (flat ws r (under w (distinct (flat ws l (ctx x o))))) → PlanFrom ws p (F w i j (length p)))
      → PlanFrom ws o (chain (length o) (emit ws l x (length o)) (λ i. Distinct (i - 1) ∷ chain (i + 1) (emit ws r (inside (breadth x + width ws l) i) (i + 1)) (λ j. F (breadth x + width ws l) (i - 1) (j - 1) j)))
  unfolding build Sound Plain
  lay_apply x o d l r F sl pl st P Q U =
      let w : ℕ = breadth x + width ws l in
      let L : Tree = flat ws l (ctx x o) in
      let s : Step o (grow o (emit ws l x (length o))) (rows_node L) = emits ws l x o (ready_of x o pl) in
      let i = flats ws d l (ctx x o) sl st in
      let wc : w ≡ cols (ctx x o) + width ws l = ap (λ v. v + width ws l) (breadth_is x o) in
      let p : List Node = grow o (emit ws l x (length o)) in
      let k : ℕ → ℕ → List Line = λ i j. F w (i - 1) (j - 1) j in
      let b : Step p (grow p (Distinct (length p - 1) ∷ [])) (rows_node (distinct L)) = step_is (ap (λ v. rows_node (distinct (as_rows v))) s.made) (one_line p (Distinct (length p - 1))) in
      let p' : List Node = grow p (Distinct (length p - 1) ∷ []) in
      let e : length p + 1 ≡ length p' = sym (length_push p (build p (Distinct (length p - 1)))) in
      let f : at p' (length p) ≡ rows_node (distinct L) = ap (at p') (omega arith) ∙ b.made in
      let pl' : Placed (inside w (length p)) p' = rows_at p' (length p) (distinct L) (omega arith) f in
      let D : Domain ws (d ++ own ws d l) w (distinct L) = subst (λ v. Domain ws (d ++ own ws d l) v (distinct L)) (sym wc) (domain ws d (ctx x o) l L sl (cols_is ws d (ctx x o) st) i) in
      let st' : Stands ws (d ++ own ws d l) (ctx (inside w (length p)) p') = subst (λ v. Domain ws (d ++ own ws d l) w (as_rows v)) (sym f) D in
      let v : Step p' (grow p' (emit ws r (inside w (length p)) (length p'))) (rows_node (flat ws r (under w (distinct L))))
      = step_is (ap (λ z. rows_node (flat ws r (under w (as_rows z)))) f) (emits ws r (inside w (length p)) p' pl'.0) in
      let q : List Node = grow p' (emit ws r (inside w (length p)) (length p')) in
      plan_chain o (emit ws l x (length o)) (λ i. Distinct (i - 1) ∷ chain (i + 1) (emit ws r (inside w i) (i + 1)) (k i)) P (
        rows_at p (length p - 1) L (omega (arith, s.grew)) s.made,
        (let m = s.made in rw m (runs i)),
        subst (λ y. PlanFrom ws p' (chain y (emit ws r (inside w (length p)) y) (k (length p)))) (sym e)
            (plan_chain p' (emit ws r (inside w (length p)) (length p')) (k (length p)) (Q p' w (length p) pl' st')
            (U q (length p - 1) (length q - 1) w wc (omega (arith, s.grew, b.grew, v.grew)) (omega (arith, v.grew)) (reach s (onward b v)) v.made)),
      )

  -- a second operand, in the same context
  next : (x : Place) (o p : List Node) {y : Node} (r : Tree) → Step o p y → Placed x o → Step p (grow p (emit ws r x (length p))) (rows_node (flat ws r (ctx x o)))
  next x o p r s h = step_is (ap (λ v. rows_node (flat ws r v)) (ctx_kept x o p s (ready_of x o h))) (emits ws r x p (ready_kept x o p s (ready_of x o h)))

  stands_on : (x : Place) (o p : List Node) {y : Node} (d : Marks) → Step o p y → Placed x o → Stands ws d (ctx x o) → Stands ws d (ctx x p)
  stands_on x o p d s h st = subst (Stands ws d) (sym (ctx_kept x o p s (ready_of x o h))) st

  pub lays : (t : Tree) (x : Place) (o : List Node) (d : Marks) → Sound ws d t → Placed x o → Stands ws d (ctx x o) → PlanFrom ws o (emit ws t x (length o))
  unfolding emit flat build Sound Plain
  lays (table t) x o d s h st =
      lay_spread x o (TableL t) (table t) (λ p. tt) (λ p. refl) h ((s.0, omega (arith, s.1)), tt) (runs (flats ws d (table t) (ctx x o) s st))
  lays unit x o d s h st =
      lay_spread x o UnitL unit (λ p. tt) (λ p. refl) h (omega arith, tt) (runs (flats ws d unit (ctx x o) s st))
  lays (select e q) x o d s h st =
      binary o (emit ws e x (length o)) (emit_condition q) (rows_node (flat ws e (ctx x o))) (cond_node q) Select (rows_node (select (flat ws e (ctx x o)) q))
      (emits ws e x o (ready_of x o h)) (emits_condition q (grow o (emit ws e x (length o)))) (lays e x o d s.1 h st) (lays_condition q _)
      (λ p i j a b f g. ((rows_at p i _ a f, condition_at p j q b g), rw (f, g))) (runs (flats ws d (select e q) (ctx x o) s st))
  lays (extend_truth e q) x o d s h st =
      binary o (emit ws e x (length o)) (emit_condition q) (rows_node (flat ws e (ctx x o))) (cond_node q) ExtendTruth (rows_node (extend_truth (flat ws e (ctx x o)) q))
      (emits ws e x o (ready_of x o h)) (emits_condition q (grow o (emit ws e x (length o)))) (lays e x o d s.2 h st) (lays_condition q _)
      (λ p i j a b f g. ((rows_at p i _ a f, condition_at p j q b g), rw (f, g))) (runs (flats ws d (extend_truth e q) (ctx x o) s st))
  lays (keep n m e) x o d s h st =
      unary o (emit ws e x (length o)) (rows_node (flat ws e (ctx x o))) (Keep (breadth x + n) m) (rows_node (flat ws (keep n m e) (ctx x o)))
      (emits ws e x o (ready_of x o h)) (lays e x o d s.1 h st) (λ p i a f. (rows_at p i _ a f, rw (f, breadth_is x o))) (runs (flats ws d (keep n m e) (ctx x o) s st))
  lays (extend e v) x o d s h st =
      unary o (emit ws e x (length o)) (rows_node (flat ws e (ctx x o))) (λ i. Extend i v) (rows_node (flat ws (extend e v) (ctx x o)))
      (emits ws e x o (ready_of x o h)) (lays e x o d s.2 h st) (λ p i a f. (rows_at p i _ a f, rw f)) (runs (flats ws d (extend e v) (ctx x o) s st))
  lays (pad m e) x o d s h st =
      unary o (emit ws e x (length o)) (rows_node (flat ws e (ctx x o))) (Pad m) (rows_node (flat ws (pad m e) (ctx x o)))
      (emits ws e x o (ready_of x o h)) (lays e x o d s.1 h st) (λ p i a f. (rows_at p i _ a f, rw f)) (runs (flats ws d (pad m e) (ctx x o) s st))
  lays (distinct e) x o d s h st =
      unary o (emit ws e x (length o)) (rows_node (flat ws e (ctx x o))) Distinct (rows_node (flat ws (distinct e) (ctx x o)))
      (emits ws e x o (ready_of x o h)) (lays e x o d (s) h st) (λ p i a f. (rows_at p i _ a f, rw f)) (runs (flats ws d (distinct e) (ctx x o) s st))
  lays (group n f k e) x o d s h st =
      unary o (emit ws e x (length o)) (rows_node (flat ws e (ctx x o))) (Group (breadth x + n) f k) (rows_node (flat ws (group n f k e) (ctx x o)))
      (emits ws e x o (ready_of x o h)) (lays e x o d s.3 h st) (λ p i a f. (rows_at p i _ a f, rw (f, breadth_is x o))) (runs (flats ws d (group n f k e) (ctx x o) s st))
  lays (match n l r) x o d s h st =
      let a = emits ws l x o (ready_of x o h) in
      binary o (emit ws l x (length o)) (emit ws r x) (rows_node (flat ws l (ctx x o))) (rows_node (flat ws r (ctx x o))) (Match (breadth x + n)) (rows_node (flat ws (match n l r) (ctx x o)))
      a (next x o _ r a h) (lays l x o d s.2 h st) (lays r x _ d s.3 (placed_kept x o _ a h) (stands_on x o _ d a h st))
      (λ p i j b c f g. ((rows_at p i _ b f, rows_at p j _ c g), rw (f, g, breadth_is x o))) (runs (flats ws d (match n l r) (ctx x o) s st))
  lays (semi_match n l r) x o d s h st =
      let a = emits ws l x o (ready_of x o h) in
      binary o (emit ws l x (length o)) (emit ws r x) (rows_node (flat ws l (ctx x o))) (rows_node (flat ws r (ctx x o))) (SemiMatch (breadth x + n)) (rows_node (flat ws (semi_match n l r) (ctx x o)))
      a (next x o _ r a h) (lays l x o d s.1 h st) (lays r x _ d s.2 (placed_kept x o _ a h) (stands_on x o _ d a h st))
      (λ p i j b c f g. ((rows_at p i _ b f, rows_at p j _ c g), rw (f, g, breadth_is x o))) (runs (flats ws d (semi_match n l r) (ctx x o) s st))
  lays (anti_match n l r) x o d s h st =
      let a = emits ws l x o (ready_of x o h) in
      binary o (emit ws l x (length o)) (emit ws r x) (rows_node (flat ws l (ctx x o))) (rows_node (flat ws r (ctx x o))) (AntiMatch (breadth x + n)) (rows_node (flat ws (anti_match n l r) (ctx x o)))
      a (next x o _ r a h) (lays l x o d s.1 h st) (lays r x _ d s.2 (placed_kept x o _ a h) (stands_on x o _ d a h st))
      (λ p i j b c f g. ((rows_at p i _ b f, rows_at p j _ c g), rw (f, g, breadth_is x o))) (runs (flats ws d (anti_match n l r) (ctx x o) s st))
  lays (union l r) x o d s h st =
      let a = emits ws l x o (ready_of x o h) in
      binary o (emit ws l x (length o)) (emit ws r x) (rows_node (flat ws l (ctx x o))) (rows_node (flat ws r (ctx x o))) Union (rows_node (flat ws (union l r) (ctx x o)))
      a (next x o _ r a h) (lays l x o d s.1 h st) (lays r x _ d s.2 (placed_kept x o _ a h) (stands_on x o _ d a h st))
      (λ p i j b c f g. ((rows_at p i _ b f, rows_at p j _ c g), rw (f, g))) (runs (flats ws d (union l r) (ctx x o) s st))
  lays (diff l r) x o d s h st =
      let a = emits ws l x o (ready_of x o h) in
      binary o (emit ws l x (length o)) (emit ws r x) (rows_node (flat ws l (ctx x o))) (rows_node (flat ws r (ctx x o))) Diff (rows_node (flat ws (diff l r) (ctx x o)))
      a (next x o _ r a h) (lays l x o d s.1 h st) (lays r x _ d s.2 (placed_kept x o _ a h) (stands_on x o _ d a h st))
      (λ p i j b c f g. ((rows_at p i _ b f, rows_at p j _ c g), rw (f, g))) (runs (flats ws d (diff l r) (ctx x o) s st))
  lays (total f k e) x o d s h st =
      let a = emits ws e x o (ready_of x o h) in
      let p : List Node = grow o (emit ws e x (length o)) in
      plan_chain o (emit ws e x (length o)) (λ i. total_lines f k x (i - 1) i) (lays e x o d s.2 h st)
      (lay_total f k x p (length p - 1) (flat ws e (ctx x o)) (omega (arith, a.grew)) a.made (placed_kept x o p a h)
      (subst (λ v. Runnable ws (rows_node (totalled f k v (flat ws e (ctx x o))))) (sym (ctx_kept x o p a (ready_of x o h))) (runs (flats ws d (total f k e) (ctx x o) s st))))
  lays (cross l r) x o d s h st =
      let L : Tree = flat ws l (ctx x o) in
      let R : ℕ → Tree = λ w. flat ws r (under w (distinct (flat ws l (ctx x o)))) in
      let u = runs (flats ws d (cross l r) (ctx x o) s st) in
      lay_apply x o d l r (λ w i j n. Match w i j ∷ []) s.1 h st (lays l x o d s.1 h st) (λ p c i pl k. lays r (inside c i) p (d ++ own ws d l) s.2 pl k)
      (λ p i j w c a b e f. let v : Runnable ws (rows_node (match w L (R w))) = subst (λ w. Runnable ws (rows_node (match w L (R w)))) (sym c) u in one p (Match w i j) (rows_node (match w L (R w))) (rows_at p i L a e, rows_at p j (R w) b f) (rw (e, f)) v)
  lays (outer l r) x o d s h st =
      let L : Tree = flat ws l (ctx x o) in
      let R : ℕ → Tree = λ w. flat ws r (under w (distinct (flat ws l (ctx x o)))) in
      let u = runs (flats ws d (outer l r) (ctx x o) s st) in
      lay_apply x o d l r (λ w i j n. outer_lines (width ws r) w i j n) s.1 h st (lays l x o d s.1 h st) (λ p c i pl k. lays r (inside c i) p (d ++ own ws d l) s.2 pl k)
      (λ p i j w c a b e f. let v : Runnable ws (rows_node (flat_outer (width ws r) w L (R w))) = subst (λ w. Runnable ws (rows_node (flat_outer (width ws r) w L (R w)))) (sym c) u in lay_outer p i j L (R w) a b e f w (width ws r) v)
  lays (semi l r) x o d s h st =
      let L : Tree = flat ws l (ctx x o) in
      let R : ℕ → Tree = λ w. flat ws r (under w (distinct (flat ws l (ctx x o)))) in
      let u = runs (flats ws d (semi l r) (ctx x o) s st) in
      lay_apply x o d l r (λ w i j n. SemiMatch w i j ∷ []) s.0 h st (lays l x o d s.0 h st) (λ p c i pl k. lays r (inside c i) p (d ++ own ws d l) s.1 pl k)
      (λ p i j w c a b e f. let v : Runnable ws (rows_node (semi_match w L (R w))) = subst (λ w. Runnable ws (rows_node (semi_match w L (R w)))) (sym c) u in one p (SemiMatch w i j) (rows_node (semi_match w L (R w))) (rows_at p i L a e, rows_at p j (R w) b f) (rw (e, f)) v)
  lays (anti l r) x o d s h st =
      let L : Tree = flat ws l (ctx x o) in
      let R : ℕ → Tree = λ w. flat ws r (under w (distinct (flat ws l (ctx x o)))) in
      let u = runs (flats ws d (anti l r) (ctx x o) s st) in
      lay_apply x o d l r (λ w i j n. AntiMatch w i j ∷ []) s.0 h st (lays l x o d s.0 h st) (λ p c i pl k. lays r (inside c i) p (d ++ own ws d l) s.1 pl k)
      (λ p i j w c a b e f. let v : Runnable ws (rows_node (anti_match w L (R w))) = subst (λ w. Runnable ws (rows_node (anti_match w L (R w)))) (sym c) u in one p (AntiMatch w i j) (rows_node (anti_match w L (R w))) (rows_at p i L a e, rows_at p j (R w) b f) (rw (e, f)) v)
  lays (some g k l r) x o d s h st =
      let L : Tree = flat ws l (ctx x o) in
      let R : ℕ → Tree = λ w. flat ws r (under w (distinct (flat ws l (ctx x o)))) in
      let u = runs (flats ws d (some g k l r) (ctx x o) s st) in
      lay_apply x o d l r (λ w i j n. some_lines g k w i j n) s.3 h st (lays l x o d s.3 h st) (λ p c i pl k. lays r (inside c i) p (d ++ own ws d l) s.4 pl k)
      (λ p i j w c a b e f. let v : Runnable ws (rows_node (flat_some g k w L (R w))) = subst (λ w. Runnable ws (rows_node (flat_some g k w L (R w)))) (sym c) u in lay_some p i j L (R w) a b e f w g k v)
  lays (all g k l r) x o d s h st =
      let L : Tree = flat ws l (ctx x o) in
      let R : ℕ → Tree = λ w. flat ws r (under w (distinct (flat ws l (ctx x o)))) in
      let u = runs (flats ws d (all g k l r) (ctx x o) s st) in
      lay_apply x o d l r (λ w i j n. all_lines g k w i j n) s.3 h st (lays l x o d s.3 h st) (λ p c i pl k. lays r (inside c i) p (d ++ own ws d l) s.4 pl k)
      (λ p i j w c a b e f. let v : Runnable ws (rows_node (flat_all g k w L (R w))) = subst (λ w. Runnable ws (rows_node (flat_all g k w L (R w)))) (sym c) u in lay_all p i j L (R w) a b e f w g k v)

  -- the flat plan of a sound query
  pub lays_plan : (t : Tree) → Sound ws [] t → PlanFrom ws [] (emit ws t outermost 0)
  lays_plan t s = lays t outermost [] [] s tt refl
