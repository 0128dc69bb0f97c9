-- A line and its reader.
use Rattle.std.proofs.Common.{◌≡◌, ℕ, zero, suc, ◌+◌, ◌<◌, ◌≤◌, Bool, true, false, cond, eqb, ltb, List, length, take, drop, sym, refl, ap, ◌∙◌, add-one, arith}
use Rattle.std.proofs.lemmas.Bool.{and_parts, not-false, ltb-true, eq-eqb, ne_eqb, or_left, or_right, or_from, both_ways}
use Rattle.std.proofs.lemmas.List.{take-append-drop}
use Rattle.lines.specs.Shapes.{Below, Ordered, line_at, shape_of}
use Rattle.lines.specs.declared.line.Shape.TheVariants.{Inner, Leaf, One, Part, Parts, Tested, Two}
use Rattle.lines.specs.declared.line.Line.{Line}
use Rattle.query.specs.Reads.{Never, condition_below, misread, one_if, rows_below, times, times_in, well_read}
use Rattle.lines.specs.declared.line.Shape.{Shape}
use Rattle.query.specs.Contexts.{first_of, handed, handed_by, read_under, shares, widens}
use Rattle.query.proofs.Reading.{times_in_append, times_in_more}
use Rattle.query.proofs.Handing.{under_at, under_end}

-- lines that are well read have lower operands
pub below_read : (ls : List Line) (i : ℕ) (r : Shape) → well_read ls i r ≡ true → Below i r
below_read ls i Leaf e = tt
below_read ls i (One a) e = ltb-true a i (and_parts (ltb a i) _ e).0
below_read ls i (Two a b) e = let f = and_parts (rows_below ls i a) _ e in (ltb-true a i (and_parts (ltb a i) _ f.0).0, ltb-true b i (and_parts (ltb b i) _ f.1).0)
below_read ls i (Tested a b) e = let f = and_parts (rows_below ls i a) _ e in (ltb-true a i (and_parts (ltb a i) _ f.0).0, ltb-true b i (and_parts (ltb b i) _ f.1).0)
below_read ls i (Inner a b) e = let f = and_parts (rows_below ls i a) _ e in (ltb-true a i (and_parts (ltb a i) _ f.0).0, ltb-true b i (and_parts (ltb b i) _ f.1).0)
below_read ls i (Part a) e = ltb-true a i (and_parts (ltb a i) _ e).0
below_read ls i (Parts a b) e = let f = and_parts (condition_below ls i a) _ e in (ltb-true a i (and_parts (ltb a i) _ f.0).0, ltb-true b i (and_parts (ltb b i) _ f.1).0)

pub ordered_from : (ls : List Line) → Never (misread ls) (length ls) → Ordered ls
ordered_from ls h j k = below_read ls j (shape_of (line_at ls j)) (not-false (well_read ls j (shape_of (line_at ls j))) (h j k))

-- how often a line is read
none_one : (b : Bool) → one_if b ≡ 0 → b ≡ false
none_one true e = absurd (omega arith)
none_one false e = refl

one_none : (b : Bool) → b ≡ false → one_if b ≡ 0
one_none true e = absurd (both_ways true e refl)
one_none false e = refl

apart : (a i j : ℕ) → a < j → j ≤ i → one_if (eqb a i) ≡ 0
apart a i j h k = one_none (eqb a i) (ne_eqb a i (λ e. omega arith))

below_zero : (i j : ℕ) (r : Shape) → Below j r → j ≤ i → times r i ≡ 0
below_zero i j Leaf b k = refl
below_zero i j (One a) b k = apart a i j b k
below_zero i j (Two x y) b k = rw (apart x i j b.0 k, apart y i j b.1 k)
below_zero i j (Tested x y) b k = rw (apart x i j b.0 k, apart y i j b.1 k)
below_zero i j (Inner x y) b k = rw (apart x i j b.0 k, apart y i j b.1 k)
below_zero i j (Part a) b k = apart a i j b k
below_zero i j (Parts x y) b k = rw (apart x i j b.0 k, apart y i j b.1 k)

not_read : (r : Shape) (i : ℕ) → times r i ≡ 0 → (widens r i ≡ false) × (shares r i ≡ false)
not_read Leaf i e = (refl, refl)
not_read (One a) i e = (refl, none_one (eqb a i) e)
not_read (Two a b) i e = (refl, or_from (eqb a i) (eqb b i) (none_one (eqb a i) (omega arith)) (none_one (eqb b i) (omega arith)))
not_read (Tested a b) i e = (none_one (eqb b i) (omega arith), none_one (eqb a i) (omega arith))
not_read (Inner a b) i e = (none_one (eqb b i) (omega arith), none_one (eqb a i) (omega arith))
not_read (Part a) i e = (refl, none_one (eqb a i) e)
not_read (Parts a b) i e = (refl, or_from (eqb a i) (eqb b i) (none_one (eqb a i) (omega arith)) (none_one (eqb b i) (omega arith)))

module _ {X : Type 0} (f : ℕ → X → X) (e : X) (ls : List Line) where
  -- lines that do not read line i
  pub under_skip : (i j : ℕ) → j ≤ length ls → times_in (take j ls) i ≡ 0 → read_under f e 0 ls i ≡ read_under f e j (drop j ls) i
  under_skip i zero h t = refl
  under_skip i (suc j) h t =
      let m = times_in_more ls j i (omega arith) in
      let t' : times_in (take (j + 1) ls) i ≡ 0 = rw (add-one j) t in
      let n = not_read (shape_of (line_at ls j)) i (omega arith) in
      under_skip i j (omega arith) (omega arith) ∙ under_at f e ls j i (omega arith) ∙ rw (n.0, n.1, add-one j)

module _ (ls : List Line) (o : Ordered ls) where
  pub lower_zero : (i k : ℕ) → k ≤ i + 1 → k ≤ length ls → times_in (take k ls) i ≡ 0
  lower_zero i zero h n = refl
  lower_zero i (suc k) h n =
      rw (sym (add-one k)) (omega (arith, times_in_more ls k i (omega arith), lower_zero i k (omega arith) (omega arith), below_zero i k (shape_of (line_at ls k)) (o k (omega arith)) (omega arith)))

once_before : (ls : List Line) (i a : ℕ) → i < length ls → times_in ls a ≡ 1 → 1 ≤ times (shape_of (line_at ls i)) a → (times_in (take i ls) a ≡ 0) × (times (shape_of (line_at ls i)) a ≡ 1)
once_before ls i a h t r =
    let s : times_in (take (i + 1) ls) a + times_in (drop (i + 1) ls) a ≡ 1 = sym (times_in_append (take (i + 1) ls) (drop (i + 1) ls) a) ∙ ap (λ v. times_in v a) (take-append-drop (i + 1) ls) ∙ t in
    let m = times_in_more ls i a h in
    (omega arith, omega arith)

hand_plain : {X : Type 0} (f : ℕ → X → X) (r : Shape) (x z : X) (a : ℕ) → widens r a ≡ false → shares r a ≡ true → handed_by f r x z a ≡ x
hand_plain f r x z a h k = rw (h, k)

hand_inner : {X : Type 0} (f : ℕ → X → X) (r : Shape) (x z : X) (a : ℕ) → widens r a ≡ true → handed_by f r x z a ≡ f (first_of r) x
hand_inner f r x z a h = rw h

-- what operands are read under
abbrev pub ContextsOf : {X : Type 0} → (ℕ → X → X) → (ℕ → X) → ℕ → Shape → Type 0
ContextsOf f c i Leaf = Unit {0}
ContextsOf f c i (One a) = c a ≡ c i
ContextsOf f c i (Two a b) = (c a ≡ c i) × (c b ≡ c i)
ContextsOf f c i (Tested a q) = (c a ≡ c i) × (c q ≡ f a (c i))
ContextsOf f c i (Inner a b) = (c a ≡ c i) × (c b ≡ f a (c i))
ContextsOf f c i (Part p) = c p ≡ c i
ContextsOf f c i (Parts p q) = (c p ≡ c i) × (c q ≡ c i)

module _ {X : Type 0} (f : ℕ → X → X) (e : X) (ls : List Line) (o : Ordered ls) (once : (a : ℕ) → a + 1 < length ls → times_in ls a ≡ 1) where
  at_reader : (i a : ℕ) → i < length ls → a < i → 1 ≤ times (shape_of (line_at ls i)) a
      → (z : X) × (times (shape_of (line_at ls i)) a ≡ 1) × (read_under f e 0 ls a ≡ handed_by f (shape_of (line_at ls i)) (read_under f e 0 ls i) z a)
  at_reader i a h l r =
      let b = once_before ls i a h (once a (omega arith)) r in
      let own : read_under f e 0 ls i ≡ read_under f e (i + 1) (drop (i + 1) ls) i = under_skip f e ls i (i + 1) (omega arith) (lower_zero ls o i (i + 1) (omega arith) (omega arith)) in (
        read_under f e (i + 1) (drop (i + 1) ls) a,
        b.1,
        under_skip f e ls a i (omega arith) b.0 ∙ under_at f e ls i a h ∙ rw own,
      )

  eq_self : (a : ℕ) → eqb a a ≡ true
  eq_self a = eq-eqb a a refl

  one_self : (a : ℕ) → one_if (eqb a a) ≡ 1
  one_self a = rw (eq_self a)

  plainly : (i a : ℕ) (r : Shape) → shape_of (line_at ls i) ≡ r → i < length ls → a < i → 1 ≤ times r a → (times r a ≡ 1 → widens r a ≡ false) → shares r a ≡ true → read_under f e 0 ls a ≡ read_under f e 0 ls i
  plainly i a r q h l t n y =
      let s = at_reader i a h l (rw q t) in
      s.2 ∙ ap (λ v. handed_by f v (read_under f e 0 ls i) s.0 a) q ∙ hand_plain f r (read_under f e 0 ls i) s.0 a (n (rw q at s.1)) y

  innerly : (i a : ℕ) (r : Shape) → shape_of (line_at ls i) ≡ r → i < length ls → a < i → 1 ≤ times r a → widens r a ≡ true → read_under f e 0 ls a ≡ f (first_of r) (read_under f e 0 ls i)
  innerly i a r q h l t y =
      let s = at_reader i a h l (rw q t) in
      s.2 ∙ ap (λ v. handed_by f v (read_under f e 0 ls i) s.0 a) q ∙ hand_inner f r (read_under f e 0 ls i) s.0 a y

  contexts_by : (i : ℕ) → i < length ls → (r : Shape) → shape_of (line_at ls i) ≡ r → Below i r → ContextsOf f (read_under f e 0 ls) i r
  contexts_by i h Leaf q b = tt
  contexts_by i h (One a) q b = plainly i a (One a) q h b (omega (arith, one_self a)) (λ t. refl) (eq_self a)
  contexts_by i h (Two a b) q l = (
    plainly i a (Two a b) q h l.0 (omega (arith, one_self a)) (λ t. refl) (or_left (eqb a a) (eqb b a) (eq_self a)),
    plainly i b (Two a b) q h l.1 (omega (arith, one_self b)) (λ t. refl) (or_right (eqb a b) (eqb b b) (eq_self b)),
  )
  contexts_by i h (Tested a b) q l = (
    plainly i a (Tested a b) q h l.0 (omega (arith, one_self a)) (λ t. none_one (eqb b a) (omega (arith, one_self a))) (eq_self a),
    innerly i b (Tested a b) q h l.1 (omega (arith, one_self b)) (eq_self b),
  )
  contexts_by i h (Inner a b) q l = (
    plainly i a (Inner a b) q h l.0 (omega (arith, one_self a)) (λ t. none_one (eqb b a) (omega (arith, one_self a))) (eq_self a),
    innerly i b (Inner a b) q h l.1 (omega (arith, one_self b)) (eq_self b),
  )
  contexts_by i h (Part a) q b = plainly i a (Part a) q h b (omega (arith, one_self a)) (λ t. refl) (eq_self a)
  contexts_by i h (Parts a b) q l = (
    plainly i a (Parts a b) q h l.0 (omega (arith, one_self a)) (λ t. refl) (or_left (eqb a a) (eqb b a) (eq_self a)),
    plainly i b (Parts a b) q h l.1 (omega (arith, one_self b)) (λ t. refl) (or_right (eqb a b) (eqb b b) (eq_self b)),
  )

  pub contexts_of : (i : ℕ) → i < length ls → ContextsOf f (read_under f e 0 ls) i (shape_of (line_at ls i))
  contexts_of i h = contexts_by i h (shape_of (line_at ls i)) refl (o i h)

-- two ways to add columns that agree
first_within : (i n : ℕ) (r : Shape) → Below i r → i < n → first_of r < n
first_within i n Leaf b h = omega arith
first_within i n (One a) b h = omega arith
first_within i n (Two a c) b h = omega (arith, b.0)
first_within i n (Tested a c) b h = omega (arith, b.0)
first_within i n (Inner a c) b h = omega (arith, b.0)
first_within i n (Part a) b h = omega arith
first_within i n (Parts a c) b h = omega (arith, b.0)

module _ {X : Type 0} (f g : ℕ → X → X) (e : X) (ls : List Line) (o : Ordered ls) (same : (a : ℕ) (x : X) → a < length ls → f a x ≡ g a x) where
  under_from : (d j i : ℕ) → j + d ≡ length ls → read_under f e j (drop j ls) i ≡ read_under g e j (drop j ls) i
  under_from zero j i h = under_end f e ls j j i (omega arith) ∙ sym (under_end g e ls j j i (omega arith))
  under_from (suc d) j i h =
      let r = shape_of (line_at ls j) in
      under_at f e ls j i (omega arith)
      ∙ rw (under_from d (j + 1) j (omega arith), under_from d (j + 1) i (omega arith), same (first_of r) (read_under g e (j + 1) (drop (j + 1) ls) j) (first_within j (length ls) r (o j (omega arith)) (omega arith)))
      (sym (under_at g e ls j i (omega arith)))

  pub under_same : (i : ℕ) → read_under f e 0 ls i ≡ read_under g e 0 ls i
  under_same i = under_from (length ls) 0 i (omega arith)

-- a measure of what lines are read under
cond_map : {X Y : Type 0} (g : X → Y) (b : Bool) (x y : X) → g (cond b x y) ≡ cond b (g x) (g y)
cond_map g true x y = refl
cond_map g false x y = refl

pub handed_map : {X Y : Type 0} (g : X → Y) (r : Shape) (x y z : X) (i : ℕ) → g (handed r x y z i) ≡ handed r (g x) (g y) (g z) i
handed_map g r x y z i = cond_map g (widens r i) y (cond (shares r i) x z) ∙ ap (λ v. cond (widens r i) (g y) v) (cond_map g (shares r i) x z)

module _ {X Y : Type 0} (g : X → Y) (f : ℕ → X → X) (f' : ℕ → Y → Y) (e : X) (ls : List Line) (o : Ordered ls) (same : (a : ℕ) (x : X) → a < length ls → g (f a x) ≡ f' a (g x)) where
  map_from : (d j i : ℕ) → j + d ≡ length ls → g (read_under f e j (drop j ls) i) ≡ read_under f' (g e) j (drop j ls) i
  map_from zero j i h = ap g (under_end f e ls j j i (omega arith)) ∙ sym (under_end f' (g e) ls j j i (omega arith))
  map_from (suc d) j i h =
      let r = shape_of (line_at ls j) in
      let x = read_under f e (j + 1) (drop (j + 1) ls) j in
      let z = read_under f e (j + 1) (drop (j + 1) ls) i in
      ap g (under_at f e ls j i (omega arith)) ∙ handed_map g r x (f (first_of r) x) z i
      ∙ rw (same (first_of r) x (first_within j (length ls) r (o j (omega arith)) (omega arith)), map_from d (j + 1) j (omega arith), map_from d (j + 1) i (omega arith))
      (sym (under_at f' (g e) ls j i (omega arith)))

  pub under_map : (i : ℕ) → g (read_under f e 0 ls i) ≡ read_under f' (g e) 0 ls i
  under_map i = map_from (length ls) 0 i (omega arith)
