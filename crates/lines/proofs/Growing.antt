-- The nodes of lines.
use Rattle.std.proofs.Common.{◌≡◌, ℕ, ◌+◌, ◌<◌, ◌≤◌, List, [], ◌∷◌, ◌++◌, length, get_or, take, drop, sym, refl, ap, ◌∙◌, add-zero, zero-add, arith}
use Rattle.std.proofs.lemmas.List.{take-append-drop, length-take-le, take_more, get_or_push, get_or_default, length_push, get_or_append_left}
use Rattle.lines.specs.declared.line.Line.TheVariants.{And, AntiMatch, ApplyAll, ApplyAnti, ApplyCross, ApplyOuter, ApplySemi, ApplySome, Compare, Diff, Distinct, Extend, ExtendTruth, Group, IsNull, Keep, Match, Not, Or, Pad, Select, SemiMatch, Table as TableL, Total, Union, Unit as UnitL, Unknown as UnknownL}
use Rattle.cells.specs.declared.sign.Sign.{Sign}
use Rattle.lines.specs.declared.line.Side.{Side}
use Rattle.lines.specs.declared.line.Line.{Line}
use Rattle.lines.specs.Shapes.{Lower, Ordered}
use Rattle.lines.specs.Lines.{Node, as_cond, at, build, grow, rows_node}
use Rattle.lines.specs.Trees.{unit, is_null}

pub grow_append : (o : List Node) (a b : List Line) → grow o (a ++ b) ≡ grow (grow o a) b
grow_append o [] b = refl
grow_append o (l ∷ a) b = grow_append (o ++ (build o l ∷ [])) a b

pub grow_length : (o : List Node) (a : List Line) → length (grow o a) ≡ length o + length a
grow_length o [] = sym (add-zero (length o))
grow_length o (l ∷ a) = omega (arith, grow_length (o ++ (build o l ∷ [])) a, length_push o (build o l))

pub grow_keeps : (o : List Node) (a : List Line) (i : ℕ) → i < length o → at (grow o a) i ≡ at o i
grow_keeps o [] i h = refl
grow_keeps o (l ∷ a) i h =
    grow_keeps (o ++ (build o l ∷ [])) a i (omega (arith, length_push o (build o l))) ∙ get_or_append_left o (build o l ∷ []) (rows_node unit) i h

pub build_lower : (i : ℕ) (o p : List Node) (l : Line) → Lower i l → ((a : ℕ) → a < i → at o a ≡ at p a) → build o l ≡ build p l
unfolding build
build_lower i o p (TableL t) g h = refl
build_lower i o p UnitL g h = refl
build_lower i o p (Select a q) g h = rw (h a g.0, h q g.1)
build_lower i o p (Keep n m a) g h = rw (h a g)
build_lower i o p (Extend a v) g h = rw (h a g)
build_lower i o p (ExtendTruth a q) g h = rw (h a g.0, h q g.1)
build_lower i o p (Pad m a) g h = rw (h a g)
build_lower i o p (Match n a b) g h = rw (h a g.0, h b g.1)
build_lower i o p (SemiMatch n a b) g h = rw (h a g.0, h b g.1)
build_lower i o p (AntiMatch n a b) g h = rw (h a g.0, h b g.1)
build_lower i o p (Union a b) g h = rw (h a g.0, h b g.1)
build_lower i o p (Diff a b) g h = rw (h a g.0, h b g.1)
build_lower i o p (Distinct a) g h = rw (h a g)
build_lower i o p (Group n u k a) g h = rw (h a g)
build_lower i o p (Total u k a) g h = rw (h a g)
build_lower i o p (ApplyCross a b) g h = rw (h a g.0, h b g.1)
build_lower i o p (ApplyOuter a b) g h = rw (h a g.0, h b g.1)
build_lower i o p (ApplySemi a b) g h = rw (h a g.0, h b g.1)
build_lower i o p (ApplyAnti a b) g h = rw (h a g.0, h b g.1)
build_lower i o p (ApplySome s k a b) g h = rw (h a g.0, h b g.1)
build_lower i o p (ApplyAll s k a b) g h = rw (h a g.0, h b g.1)
build_lower i o p (Compare s a b) g h = refl
build_lower i o p (IsNull k) g h = refl
build_lower i o p (Not a) g h = rw (h a g)
build_lower i o p (UnknownL a) g h = rw (h a g)
build_lower i o p (And a b) g h = rw (h a g.0, h b g.1)
build_lower i o p (Or a b) g h = rw (h a g.0, h b g.1)

module _ (ls : List Line) (i : ℕ) (h : i ≤ length ls) where
  pub front_length : length (grow [] (take i ls)) ≡ i
  front_length = grow_length [] (take i ls) ∙ zero-add (length (take i ls)) ∙ length-take-le i ls h

  pub front_at : (a : ℕ) → a < i → at (grow [] (take i ls)) a ≡ at (grow [] ls) a
  front_at a k =
      sym (ap (λ v. at (grow [] v) a) (sym (take-append-drop i ls)) ∙ ap (λ v. at v a) (grow_append [] (take i ls) (drop i ls))
      ∙ grow_keeps (grow [] (take i ls)) (drop i ls) a (omega (arith, front_length)))

-- a line's node, by the nodes of its operands
pub node_is : (ls : List Line) (i : ℕ) (d : Line) → i < length ls → Lower i (get_or ls i d) → at (grow [] ls) i ≡ build (grow [] ls) (get_or ls i d)
node_is ls i d h low =
    let l = get_or ls i d in
    let o = grow [] (take i ls) in
    let e : grow [] (take (i + 1) ls) ≡ o ++ (build o l ∷ []) = ap (grow []) (take_more ls i d h) ∙ grow_append [] (take i ls) (l ∷ []) in
    sym (front_at ls (i + 1) (omega arith) i (omega arith)) ∙ ap (λ v. at v i) e ∙ get_or_push o (build o l) (rows_node unit) i (front_length ls i (omega arith))
    ∙ build_lower i o (grow [] ls) l low (front_at ls i (omega arith))

-- a checked line: its operands are lower, and its node is built from theirs
pub node_at : (ls : List Line) (i : ℕ) (d l : Line) → Ordered ls → i < length ls → get_or ls i d ≡ l → Lower i l × (at (grow [] ls) i ≡ build (grow [] ls) l)
node_at ls i d l o h e =
    let e' : get_or ls i UnitL ≡ l = get_or_default ls i UnitL d h ∙ e in
    (rw e' at (o i h), node_is ls i UnitL h (o i h) ∙ ap (build (grow [] ls)) e')

-- a line that is no condition
pub no_condition : (o : List Node) (l : Line) → ((s : Sign) (a b : Side) → l ≡ Compare s a b → ⊥) → ((k : ℕ) → l ≡ IsNull k → ⊥) → ((a : ℕ) → l ≡ Not a → ⊥)
    → ((a : ℕ) → l ≡ UnknownL a → ⊥) → ((a b : ℕ) → l ≡ And a b → ⊥) → ((a b : ℕ) → l ≡ Or a b → ⊥) → as_cond (build o l) ≡ is_null 0
unfolding build
no_condition o (TableL t) p₁ p₂ p₃ p₄ p₅ p₆ = refl
no_condition o UnitL p₁ p₂ p₃ p₄ p₅ p₆ = refl
no_condition o (Select a q) p₁ p₂ p₃ p₄ p₅ p₆ = refl
no_condition o (Keep n m a) p₁ p₂ p₃ p₄ p₅ p₆ = refl
no_condition o (Extend a v) p₁ p₂ p₃ p₄ p₅ p₆ = refl
no_condition o (ExtendTruth a q) p₁ p₂ p₃ p₄ p₅ p₆ = refl
no_condition o (Pad m a) p₁ p₂ p₃ p₄ p₅ p₆ = refl
no_condition o (Match n a b) p₁ p₂ p₃ p₄ p₅ p₆ = refl
no_condition o (SemiMatch n a b) p₁ p₂ p₃ p₄ p₅ p₆ = refl
no_condition o (AntiMatch n a b) p₁ p₂ p₃ p₄ p₅ p₆ = refl
no_condition o (Union a b) p₁ p₂ p₃ p₄ p₅ p₆ = refl
no_condition o (Diff a b) p₁ p₂ p₃ p₄ p₅ p₆ = refl
no_condition o (Distinct a) p₁ p₂ p₃ p₄ p₅ p₆ = refl
no_condition o (Group n u k a) p₁ p₂ p₃ p₄ p₅ p₆ = refl
no_condition o (Total u k a) p₁ p₂ p₃ p₄ p₅ p₆ = refl
no_condition o (ApplyCross a b) p₁ p₂ p₃ p₄ p₅ p₆ = refl
no_condition o (ApplyOuter a b) p₁ p₂ p₃ p₄ p₅ p₆ = refl
no_condition o (ApplySemi a b) p₁ p₂ p₃ p₄ p₅ p₆ = refl
no_condition o (ApplyAnti a b) p₁ p₂ p₃ p₄ p₅ p₆ = refl
no_condition o (ApplySome g k a b) p₁ p₂ p₃ p₄ p₅ p₆ = refl
no_condition o (ApplyAll g k a b) p₁ p₂ p₃ p₄ p₅ p₆ = refl
no_condition o (Compare s a b) p₁ p₂ p₃ p₄ p₅ p₆ = absurd (p₁ s a b refl)
no_condition o (IsNull k) p₁ p₂ p₃ p₄ p₅ p₆ = absurd (p₂ k refl)
no_condition o (Not a) p₁ p₂ p₃ p₄ p₅ p₆ = absurd (p₃ a refl)
no_condition o (UnknownL a) p₁ p₂ p₃ p₄ p₅ p₆ = absurd (p₄ a refl)
no_condition o (And a b) p₁ p₂ p₃ p₄ p₅ p₆ = absurd (p₅ a b refl)
no_condition o (Or a b) p₁ p₂ p₃ p₄ p₅ p₆ = absurd (p₆ a b refl)
