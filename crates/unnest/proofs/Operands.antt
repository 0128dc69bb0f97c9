-- From a line to its operands, and from their flat lines to the line's.
use Rattle.std.proofs.Common.{◌≡◌, ℕ, ◌+◌, ◌-◌, ◌<◌, ◌≤◌, List, [], ◌∷◌, ◌++◌, length, IsErrAnd, Err, Result, sym, refl, ap, ◌∙◌, subst, arith}
use Rattle.std.proofs.lemmas.List.{length-append}
use Rattle.lines.specs.declared.line.Line.{Line}
use Rattle.lines.specs.declared.line.Line.TheVariants.{Table as TableL, Unit as UnitL, Select, Keep, Extend, ExtendTruth, Pad, Match, SemiMatch, AntiMatch, Union, Diff, Distinct, Group, Total, ApplyCross, ApplyOuter, ApplySemi, ApplyAnti, ApplySome, ApplyAll, Compare, IsNull, Not, Unknown as UnknownL, And, Or}
use Rattle.lines.specs.declared.line.Shape.{Shape}
use Rattle.lines.specs.declared.line.Shape.TheVariants.{Leaf, One, Two, Tested, Inner, Part, Parts}
use Rattle.lines.specs.Lines.{Node, as_rows, as_cond, at, build, grow}
use Rattle.lines.specs.Marks.{Marks, own, Sound}
use Rattle.lines.specs.Shapes.{shape_of, Below, Ordered, line_at, tree_at}
use Rattle.lines.specs.Trees.{width}
use Rattle.query.specs.declared.query.Query.{Query}
use Rattle.query.specs.Queries.{lines_of, widths_of}
use Rattle.query.proofs.Sounds.{accepted_ordered}
use Rattle.stock.specs.declared.refusal.Refusal.{Refusal}
use Rattle.unnest.specs.Emit.{Place, inside, breadth, chain, emit, emit_condition}
use Rattle.unnest.specs.Kinds.{own_count, over, own_lines, apply_own, rows_of, lines_by, condition_by, InContext}
use Rattle.unnest.specs.Rooms.{Emitted, TooLong, Puts}
use Rattle.unnest.proofs.Adding.{emit_by, condition_is, count_small}
use Rattle.lines.proofs.Soundness.{short, own_length}
use Rattle.lines.proofs.Growing.{node_is}
use Rattle.unnest.proofs.Puts.{err_puts, front_long, second_long, then_puts, chained, twice, mid_length}

-- line i of a query is l, and it reads s
pub record IsLine (q : Query) (i : ℕ) (l : Line) (s : Shape) : Type 0 where
  pub within : i < length (lines_of q)
  pub line : l ≡ line_at (lines_of q) i
  pub shape : s ≡ shape_of l

pub is_line : (q : Query) (i : ℕ) (l : Line) (s : Shape) → i < length (lines_of q) → l ≡ line_at (lines_of q) i → s ≡ shape_of l → IsLine q i l s
is_line q i l s h e f = record { within = h; line = e; shape = f }

-- what soundness of a line says of its operands
abbrev pub SoundOperands : List ℕ → Marks → List Node → Shape → Type 0
SoundOperands ws d o Leaf = Unit {0}
SoundOperands ws d o (One a) = Sound ws d (rows_of o a)
SoundOperands ws d o (Two a b) = Sound ws d (rows_of o a) × Sound ws d (rows_of o b)
SoundOperands ws d o (Tested a q) = Sound ws d (rows_of o a)
SoundOperands ws d o (Inner a b) = Sound ws d (rows_of o a) × Sound ws (d ++ own ws d (rows_of o a)) (rows_of o b)
SoundOperands ws d o (Part p) = Unit {0}
SoundOperands ws d o (Parts p q) = Unit {0}

sound_operands : (ws : List ℕ) (d : Marks) (o : List Node) (l : Line) → Sound ws d (as_rows (build o l)) → SoundOperands ws d o (shape_of l)
unfolding Sound build
sound_operands ws d o (TableL t) s = tt
sound_operands ws d o UnitL s = tt
sound_operands ws d o (Select a q) s = s.1
sound_operands ws d o (Keep p z a) s = s.1
sound_operands ws d o (Extend a v) s = s.2
sound_operands ws d o (ExtendTruth a q) s = s.2
sound_operands ws d o (Pad z a) s = s.1
sound_operands ws d o (Match p a b) s = (s.2, s.3)
sound_operands ws d o (SemiMatch p a b) s = (s.1, s.2)
sound_operands ws d o (AntiMatch p a b) s = (s.1, s.2)
sound_operands ws d o (Union a b) s = (s.1, s.2)
sound_operands ws d o (Diff a b) s = (s.1, s.2)
sound_operands ws d o (Distinct a) s = s
sound_operands ws d o (Group p f k a) s = s.3
sound_operands ws d o (Total f k a) s = s.2
sound_operands ws d o (ApplyCross a b) s = (s.1, s.2)
sound_operands ws d o (ApplyOuter a b) s = (s.1, s.2)
sound_operands ws d o (ApplySemi a b) s = (s.0, s.1)
sound_operands ws d o (ApplyAnti a b) s = (s.0, s.1)
sound_operands ws d o (ApplySome g k a b) s = (s.3, s.4)
sound_operands ws d o (ApplyAll g k a b) s = (s.3, s.4)
sound_operands ws d o (Compare g a b) s = tt
sound_operands ws d o (IsNull k) s = tt
sound_operands ws d o (Not a) s = tt
sound_operands ws d o (UnknownL a) s = tt
sound_operands ws d o (And a b) s = tt
sound_operands ws d o (Or a b) s = tt

-- the contexts of the operands, where the line stands in one of c columns
abbrev pub Contexts : List ℕ → ℕ → List Line → Shape → Type 0
Contexts ws c ls Leaf = Unit {0}
Contexts ws c ls (One a) = InContext ws c (tree_at ls a)
Contexts ws c ls (Two a b) = InContext ws c (tree_at ls a) × InContext ws c (tree_at ls b)
Contexts ws c ls (Tested a q) = InContext ws c (tree_at ls a)
Contexts ws c ls (Inner a b) = InContext ws c (tree_at ls a) × InContext ws (c + width ws (tree_at ls a)) (tree_at ls b) × (c + width ws (tree_at ls a) ≤ 64)
Contexts ws c ls (Part p) = Unit {0}
Contexts ws c ls (Parts p q) = Unit {0}

contexts_from : (ws : List ℕ) (c : ℕ) (ls : List Line) (d : Marks) (s : Shape) → length d ≡ c → SoundOperands ws d (grow [] ls) s → Contexts ws c ls s
contexts_from ws c ls d Leaf e t = tt
contexts_from ws c ls d (One a) e t = record { marks = d; long = e; sound = t }
contexts_from ws c ls d (Two a b) e t = (record { marks = d; long = e; sound = t.0 }, record { marks = d; long = e; sound = t.1 })
contexts_from ws c ls d (Tested a q) e t = record { marks = d; long = e; sound = t }
contexts_from ws c ls d (Inner a b) e t =
    let u = own ws d (tree_at ls a) in (
      record { marks = d; long = e; sound = t.0 },
      record { marks = d ++ u; long = omega (arith, length-append d u, own_length ws d (tree_at ls a) t.0); sound = t.1 },
      omega (arith, short ws d (tree_at ls a) t.0),
    )
contexts_from ws c ls d (Part p) e t = tt
contexts_from ws c ls d (Parts p q) e t = tt

-- the flat lines from number n on of line i of a query, with rows and as a condition
abbrev pub flat_at : Query → Place → ℕ → ℕ → List Line
flat_at q x i n = emit (widths_of q) (tree_at (lines_of q) i) x n

abbrev pub condition_at : Query → ℕ → ℕ → List Line
condition_at q i n = emit_condition (as_cond (at (grow [] (lines_of q)) i)) n

module _ {q : Query} {i : ℕ} {l : Line} {s : Shape} (h : IsLine q i l s) where
  abbrev o : List Node
  o = grow [] (lines_of q)

  ordered : Ordered (lines_of q)
  ordered = accepted_ordered (lines_of q) (widths_of q) q.accepted

  pub below : Below i s
  below = subst (Below i) (sym h.shape) (subst (λ v. Below i (shape_of v)) (sym h.line) (ordered i h.within))

  node : at o i ≡ build o l
  node = node_is (lines_of q) i UnitL h.within (ordered i h.within) ∙ ap (build o) (sym h.line)

  module _ {c : ℕ} (k : InContext (widths_of q) c (tree_at (lines_of q) i)) where
    sound : Sound (widths_of q) k.marks (as_rows (build o l))
    sound = subst (λ v. Sound (widths_of q) k.marks (as_rows v)) node k.sound

    pub contexts : Contexts (widths_of q) c (lines_of q) s
    contexts =
        contexts_from (widths_of q) c (lines_of q) k.marks s k.long
        (subst (SoundOperands (widths_of q) k.marks o) (sym h.shape) (sound_operands (widths_of q) k.marks o l sound))

    pub counts : c + own_count l ≤ 64
    counts = omega (arith, k.long, short (widths_of q) k.marks (tree_at (lines_of q) i) k.sound, count_small (widths_of q) k.marks o l sound)

  -- the line's own lines behind its operands' lines are its flat lines
  lays : (x : Place) (o₀ o₁ : List Line) (r : Result ℕ Refusal) → Puts o₀ o₁ (lines_by (widths_of q) o l x (length o₀) s) r → Puts o₀ o₁ (flat_at q x i (length o₀)) r
  lays x o₀ o₁ r p =
      subst (λ v. Puts o₀ o₁ v r)
      (ap (lines_by (widths_of q) o l x (length o₀)) h.shape ∙ sym (emit_by (widths_of q) o l x (length o₀)) ∙ ap (λ t. emit (widths_of q) (as_rows t) x (length o₀)) (sym node)) p

  pub stops : (x : Place) (o₀ o₁ : List Line) (r : Result ℕ Refusal) (e : Refusal) → IsErrAnd r (λ y. y ≡ e) → TooLong o₀ (lines_by (widths_of q) o l x (length o₀) s) e
      → Puts o₀ o₁ (flat_at q x i (length o₀)) r
  stops x o₀ o₁ r e f t = lays x o₀ o₁ r (err_puts o₀ o₁ _ r e f t)

  -- the same for a condition
  lays_condition : (o₀ o₁ : List Line) (r : Result ℕ Refusal) → Puts o₀ o₁ (condition_by o l (length o₀) s) r → Puts o₀ o₁ (condition_at q i (length o₀)) r
  lays_condition o₀ o₁ r p =
      subst (λ v. Puts o₀ o₁ v r) (ap (condition_by o l (length o₀)) h.shape ∙ sym (condition_is o l (length o₀)) ∙ ap (λ t. emit_condition (as_cond t) (length o₀)) (sym node)) p

  pub stops_condition : (o₀ o₁ : List Line) (r : Result ℕ Refusal) (e : Refusal) → IsErrAnd r (λ y. y ≡ e) → TooLong o₀ (condition_by o l (length o₀) s) e
      → Puts o₀ o₁ (condition_at q i (length o₀)) r
  stops_condition o₀ o₁ r e f t = lays_condition o₀ o₁ r (err_puts o₀ o₁ _ r e f t)

  -- lines that read nothing
  pub rest_laid : (x : Place) → ((a : ℕ) → s ≡ One a → ⊥) → ((a b : ℕ) → s ≡ Two a b → ⊥) → ((a b : ℕ) → s ≡ Tested a b → ⊥) → ((a b : ℕ) → s ≡ Inner a b → ⊥)
      → (o₀ o₁ : List Line) (r : Result ℕ Refusal) → Puts o₀ o₁ (own_lines l x 0 0 (length o₀)) r → Puts o₀ o₁ (flat_at q x i (length o₀)) r
  rest_laid x p₁ p₂ p₃ p₄ o₀ o₁ r z = lays x o₀ o₁ r (by s p₁ p₂ p₃ p₄)
    where
      by : (u : Shape) → ((a : ℕ) → u ≡ One a → ⊥) → ((a b : ℕ) → u ≡ Two a b → ⊥) → ((a b : ℕ) → u ≡ Tested a b → ⊥) → ((a b : ℕ) → u ≡ Inner a b → ⊥)
          → Puts o₀ o₁ (lines_by (widths_of q) o l x (length o₀) u) r
      by Leaf q₁ q₂ q₃ q₄ = z
      by (One a) q₁ q₂ q₃ q₄ = absurd (q₁ a refl)
      by (Two a b) q₁ q₂ q₃ q₄ = absurd (q₂ a b refl)
      by (Tested a b) q₁ q₂ q₃ q₄ = absurd (q₃ a b refl)
      by (Inner a b) q₁ q₂ q₃ q₄ = absurd (q₄ a b refl)
      by (Part a) q₁ q₂ q₃ q₄ = z
      by (Parts a b) q₁ q₂ q₃ q₄ = z

  pub rest_condition : ((a : ℕ) → s ≡ Part a → ⊥) → ((a b : ℕ) → s ≡ Parts a b → ⊥)
      → (o₀ o₁ : List Line) (r : Result ℕ Refusal) → Puts o₀ o₁ (over l 0 0 ∷ []) r → Puts o₀ o₁ (condition_at q i (length o₀)) r
  rest_condition p₁ p₂ o₀ o₁ r z = lays_condition o₀ o₁ r (by s p₁ p₂)
    where
      by : (u : Shape) → ((a : ℕ) → u ≡ Part a → ⊥) → ((a b : ℕ) → u ≡ Parts a b → ⊥) → Puts o₀ o₁ (condition_by o l (length o₀) u) r
      by Leaf q₁ q₂ = z
      by (One a) q₁ q₂ = z
      by (Two a b) q₁ q₂ = z
      by (Tested a b) q₁ q₂ = z
      by (Inner a b) q₁ q₂ = z
      by (Part a) q₁ q₂ = absurd (q₁ a refl)
      by (Parts a b) q₁ q₂ = absurd (q₂ a b refl)

-- a line of each shape: what comes of its operands' flat lines and of its own, and of too many of its second operand
module _ {q : Query} {i a : ℕ} {l : Line} where
  pub one_laid : IsLine q i l (One a) → (x : Place) (o₀ o₁ o₂ : List Line) (p : ℕ) (r : Result ℕ Refusal) → Emitted o₀ o₁ (flat_at q x a (length o₀)) p
      → Puts o₁ o₂ (own_lines l x p 0 (length o₁)) r → Puts o₀ o₂ (flat_at q x i (length o₀)) r
  one_laid h x o₀ o₁ o₂ p r m z = lays h x o₀ o₂ r (chained o₀ o₁ o₂ (flat_at q x a (length o₀)) p (λ g j. own_lines l x g 0 j) r m z)

  pub part_laid : IsLine q i l (Part a) → (o₀ o₁ o₂ : List Line) (p : ℕ) (r : Result ℕ Refusal) → Emitted o₀ o₁ (condition_at q a (length o₀)) p
      → Puts o₁ o₂ (over l p 0 ∷ []) r → Puts o₀ o₂ (condition_at q i (length o₀)) r
  part_laid h o₀ o₁ o₂ p r m z = lays_condition h o₀ o₂ r (chained o₀ o₁ o₂ (condition_at q a (length o₀)) p (λ g j. over l g 0 ∷ []) r m z)

module _ {q : Query} {i a b : ℕ} {l : Line} where
  pub two_laid : IsLine q i l (Two a b) → (x : Place) (o₀ o₁ o₂ o₃ : List Line) (p t : ℕ) (r : Result ℕ Refusal) → Emitted o₀ o₁ (flat_at q x a (length o₀)) p
      → Emitted o₁ o₂ (flat_at q x b (length o₁)) t → Puts o₂ o₃ (own_lines l x p t (length o₂)) r → Puts o₀ o₃ (flat_at q x i (length o₀)) r
  two_laid h x o₀ o₁ o₂ o₃ p t r m k z = lays h x o₀ o₃ r (twice o₀ o₁ o₂ o₃ _ (flat_at q x b) (λ g f j. own_lines l x g f j) p t r m k z)

  pub two_long : IsLine q i l (Two a b) → (x : Place) (o₀ o₁ o₂ : List Line) (p : ℕ) (r : Result ℕ Refusal) (e : Refusal) → IsErrAnd r (λ y. y ≡ e)
      → Emitted o₀ o₁ (flat_at q x a (length o₀)) p → TooLong o₁ (flat_at q x b (length o₁)) e → Puts o₀ o₂ (flat_at q x i (length o₀)) r
  two_long h x o₀ o₁ o₂ p r e f m t = stops h x o₀ o₂ r e f (second_long o₀ o₁ _ (flat_at q x b) (λ g f j. own_lines l x g f j) p e m t)

  pub tested_laid : IsLine q i l (Tested a b) → (x : Place) (o₀ o₁ o₂ o₃ : List Line) (p t : ℕ) (r : Result ℕ Refusal) → Emitted o₀ o₁ (flat_at q x a (length o₀)) p
      → Emitted o₁ o₂ (condition_at q b (length o₁)) t → Puts o₂ o₃ (own_lines l x p t (length o₂)) r → Puts o₀ o₃ (flat_at q x i (length o₀)) r
  tested_laid h x o₀ o₁ o₂ o₃ p t r m k z = lays h x o₀ o₃ r (twice o₀ o₁ o₂ o₃ _ (condition_at q b) (λ g f j. own_lines l x g f j) p t r m k z)

  pub tested_long : IsLine q i l (Tested a b) → (x : Place) (o₀ o₁ o₂ : List Line) (p : ℕ) (r : Result ℕ Refusal) (e : Refusal) → IsErrAnd r (λ y. y ≡ e)
      → Emitted o₀ o₁ (flat_at q x a (length o₀)) p → TooLong o₁ (condition_at q b (length o₁)) e → Puts o₀ o₂ (flat_at q x i (length o₀)) r
  tested_long h x o₀ o₁ o₂ p r e f m t = stops h x o₀ o₂ r e f (second_long o₀ o₁ _ (condition_at q b) (λ g f j. own_lines l x g f j) p e m t)

  pub parts_laid : IsLine q i l (Parts a b) → (o₀ o₁ o₂ o₃ : List Line) (p t : ℕ) (r : Result ℕ Refusal) → Emitted o₀ o₁ (condition_at q a (length o₀)) p
      → Emitted o₁ o₂ (condition_at q b (length o₁)) t → Puts o₂ o₃ (over l p t ∷ []) r → Puts o₀ o₃ (condition_at q i (length o₀)) r
  parts_laid h o₀ o₁ o₂ o₃ p t r m k z = lays_condition h o₀ o₃ r (twice o₀ o₁ o₂ o₃ _ (condition_at q b) (λ g f j. over l g f ∷ []) p t r m k z)

  pub parts_long : IsLine q i l (Parts a b) → (o₀ o₁ o₂ : List Line) (p : ℕ) (r : Result ℕ Refusal) (e : Refusal) → IsErrAnd r (λ y. y ≡ e)
      → Emitted o₀ o₁ (condition_at q a (length o₀)) p → TooLong o₁ (condition_at q b (length o₁)) e → Puts o₀ o₂ (condition_at q i (length o₀)) r
  parts_long h o₀ o₁ o₂ p r e f m t = stops_condition h o₀ o₂ r e f (second_long o₀ o₁ _ (condition_at q b) (λ g f j. over l g f ∷ []) p e m t)

  module _ (h : IsLine q i l (Inner a b)) (x : Place) where
    abbrev w : ℕ
    w = breadth x + width (widths_of q) (tree_at (lines_of q) a)

    abbrev m : ℕ
    m = width (widths_of q) (tree_at (lines_of q) b)

    -- what follows the left operand: its domain, which is line j, then the right operand inside it, then the Apply's own lines
    abbrev behind : ℕ → ℕ → List Line
    behind g j = Distinct g ∷ chain (j + 1) (flat_at q (inside w j) b (j + 1)) (λ k. apply_own l w m g (k - 1) k)

    pub domain_long : (o₀ o₁ o₂ : List Line) (p : ℕ) (r : Result ℕ Refusal) (e : Refusal) → IsErrAnd r (λ y. y ≡ e)
        → Emitted o₀ o₁ (flat_at q x a (length o₀)) p → TooLong o₁ (Distinct p ∷ []) e → Puts o₀ o₂ (flat_at q x i (length o₀)) r
    domain_long o₀ o₁ o₂ p r e f k t = stops h x o₀ o₂ r e f (chained o₀ o₁ [] _ p behind (Err e) k (front_long o₁ (Distinct p ∷ []) _ e t))

    -- behind the domain line, whose number is the length of what stood
    inner_then : (v : ℕ) (o₀ o₁ o₂ o₃ : List Line) (p d : ℕ) (r : Result ℕ Refusal) → v ≡ w → Emitted o₀ o₁ (flat_at q x a (length o₀)) p → Emitted o₁ o₂ (Distinct p ∷ []) d
        → Puts o₂ o₃ (chain (length o₂) (flat_at q (inside v d) b (length o₂)) (λ k. apply_own l v m p (k - 1) k)) r
        → Puts o₀ o₃ (lines_by (widths_of q) (grow [] (lines_of q)) l x (length o₀) (Inner a b)) r
    inner_then v o₀ o₁ o₂ o₃ p d r g k n z =
        let e : length o₂ ≡ length o₁ + 1 = mid_length o₁ o₂ _ d n in
        let f : d ≡ length o₁ = omega (arith, n.last) in
        let K : ℕ → ℕ → ℕ → List Line = λ u c j. chain j (flat_at q (inside u c) b j) (λ k. apply_own l u m p (k - 1) k) in
        chained o₀ o₁ o₃ (flat_at q x a (length o₀)) p behind r k
        (then_puts o₁ o₂ o₃ (Distinct p ∷ []) _ d r n
        (subst (λ u. Puts o₂ o₃ (K u (length o₁) (length o₁ + 1)) r) g
        (subst (λ u. Puts o₂ o₃ (K v (length o₁) u) r) e (subst (λ u. Puts o₂ o₃ (K v u (length o₂)) r) f z))))

    pub inner_long : (v : ℕ) (o₀ o₁ o₂ o₃ : List Line) (p d : ℕ) (r : Result ℕ Refusal) (e : Refusal) → IsErrAnd r (λ y. y ≡ e) → v ≡ w
        → Emitted o₀ o₁ (flat_at q x a (length o₀)) p → Emitted o₁ o₂ (Distinct p ∷ []) d → TooLong o₂ (flat_at q (inside v d) b (length o₂)) e
        → Puts o₀ o₃ (flat_at q x i (length o₀)) r
    inner_long v o₀ o₁ o₂ o₃ p d r e f g k n t = stops h x o₀ o₃ r e f (inner_then v o₀ o₁ o₂ [] p d (Err e) g k n (front_long _ _ _ e t))

    pub inner_laid : (v u : ℕ) (o₀ o₁ o₂ o₃ o₄ : List Line) (p d t : ℕ) (r : Result ℕ Refusal) → v ≡ w → u ≡ m
        → Emitted o₀ o₁ (flat_at q x a (length o₀)) p → Emitted o₁ o₂ (Distinct p ∷ []) d → Emitted o₂ o₃ (flat_at q (inside v d) b (length o₂)) t
        → Puts o₃ o₄ (apply_own l v u p t (length o₃)) r → Puts o₀ o₄ (flat_at q x i (length o₀)) r
    inner_laid v u o₀ o₁ o₂ o₃ o₄ p d t r e f k n c z =
        lays h x o₀ o₄ r
        (inner_then v o₀ o₁ o₂ o₄ p d r e k n
        (chained o₂ o₃ o₄ (flat_at q (inside v d) b (length o₂)) t (λ g j. apply_own l v m p g j) r c
        (subst (λ y. Puts o₃ o₄ (apply_own l v y p t (length o₃)) r) f z)))
