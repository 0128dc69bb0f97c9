-- What lines are read under.
use Rattle.std.proofs.Common.{◌≡◌, ℕ, ◌+◌, ◌<◌, ◌≤◌, Bool, true, false, cond, ◌||◌, eqb, List, length, get_or, drop, set, sym, refl, ap, ◌∙◌, inl, inr, arith}
use Rattle.std.proofs.lemmas.Bool.{cases_Bool, eqb-true, eqb-false}
use Rattle.std.proofs.lemmas.List.{get_or-set_same, get_or-set_other, length-set, drop_more, drop_all}
use Rattle.lines.specs.declared.line.Line.{Line}
use Rattle.lines.specs.declared.line.Shape.{Shape}
use Rattle.lines.specs.declared.line.Line.TheVariants.{Unit as UnitL}
use Rattle.query.specs.Contexts.{first_of, handed, handed_by, read_under, shares, widens}
use Rattle.lines.specs.Shapes.{line_at, shape_of}

pub put_one : {X : Type 0} (c : List X) (a : ℕ) (x z : X) (i : ℕ) → i < length c → get_or (set c a x) i z ≡ cond (eqb a i) x (get_or c i z)
put_one c a x z i h = go (eqb a i) refl
  where
    go : (b : Bool) → eqb a i ≡ b → get_or (set c a x) i z ≡ cond b x (get_or c i z)
    go true e = let q : a ≡ i = eqb-true a i e in rw q (get_or-set_same c i x z h)
    go false e = get_or-set_other c a i x z (λ q. eqb-false a i e (sym q))

pub either_way : {X : Type 0} (p q : Bool) (x y : X) → cond q x (cond p x y) ≡ cond (p || q) x y
either_way true true x y = refl
either_way true false x y = refl
either_way false true x y = refl
either_way false false x y = refl

pub handed_small : (r : Shape) (x y z i B : ℕ) → x ≤ B → y ≤ B → z ≤ B → handed r x y z i ≤ B
handed_small r x y z i B h k m =
    elim (widens r i) as (λ b. cond b y (cond (shares r i) x z) ≤ B) [
      | true ↦ k
      | false ↦ elim (shares r i) as (λ b. cond b x z ≤ B) [ true ↦ h | false ↦ m ]
    ]

pub under_at : {X : Type 0} (f : ℕ → X → X) (e : X) (ls : List Line) (j i : ℕ) → j < length ls
    → read_under f e j (drop j ls) i ≡ handed_by f (shape_of (line_at ls j)) (read_under f e (j + 1) (drop (j + 1) ls) j) (read_under f e (j + 1) (drop (j + 1) ls) i) i
unfolding read_under
under_at f e ls j i h = ap (λ v. read_under f e j v i) (drop_more ls j UnitL h)

pub under_end : {X : Type 0} (f : ℕ → X → X) (e : X) (ls : List Line) (j k i : ℕ) → length ls ≤ j → read_under f e k (drop j ls) i ≡ e
unfolding read_under
under_end f e ls j k i h = ap (λ v. read_under f e k v i) (drop_all j ls h)

-- one step of a loop that goes down the lines: c and d hold what the lines are read under, before and after line j hands it down
pub under_step : {X : Type 0} (f : ℕ → X → X) (e : X) (ls : List Line) (c d : ℕ → X) (j k : ℕ) (r : Shape) (y : X) → k ≡ j + 1 → j < length ls → length ls ≤ 32 → r ≡ shape_of (line_at ls j) → ((i : ℕ) → widens r i ≡ true → y ≡ f (first_of r) (c j))
    → ((i : ℕ) → i < 32 → c i ≡ read_under f e k (drop k ls) i)
    → ((i : ℕ) → i < 32 → d i ≡ handed r (c j) y (c i) i)
    → (i : ℕ) → i < 32 → d i ≡ read_under f e j (drop j ls) i
under_step f e ls c d j k r y p h n q s inv step i m =
    let inv' : (i : ℕ) → i < 32 → c i ≡ read_under f e (j + 1) (drop (j + 1) ls) i = λ i g. rw p at (inv i g) in
    let z : handed r (c j) y (c i) i ≡ handed r (c j) (f (first_of r) (c j)) (c i) i =
    elim (cases_Bool (widens r i)) [ inl e ↦ ap (λ v. handed r (c j) v (c i) i) (s i e) | inr e ↦ rw e refl ] in
    step i m ∙ z ∙ rw (q, inv' i m, inv' j (omega arith)) (sym (under_at f e ls j i h))

-- what one or two writes leave at place i
module _ {X : Type 0} (c d : List X) (x z : X) (i : ℕ) (h : i < length c) where
  pub put_once : (a : ℕ) → d ≡ set c a x → get_or d i z ≡ cond (eqb a i) x (get_or c i z)
  put_once a e = rw e (put_one c a x z i h)

  pub put_twice : (b : List X) (y : X) (p q : ℕ) → b ≡ set c p x → d ≡ set b q y → get_or d i z ≡ cond (eqb q i) y (cond (eqb p i) x (get_or c i z))
  put_twice b y p q e f =
      rw (f, e) (put_one (set c p x) q y z i (rw (length-set c p x) h) ∙ ap (λ v. cond (eqb q i) y v) (put_one c p x z i h))
