-- Lines put behind lines, and lines put behind those.
use Rattle.std.proofs.Common.{◌≡◌, ℕ, ◌+◌, ◌-◌, List, [], ◌∷◌, ◌++◌, length, ℤ, pos, IsErrAnd, Ok, Err, Result, sym, ap, ◌∙◌, subst, add_assoc, arith}
use Rattle.cells.specs.declared.sign.Sign.{Sign}
use Rattle.lines.specs.declared.line.Side.TheVariants.{Column, Constant}
use Rattle.std.proofs.lemmas.List.{append_assoc, length-append}
use Rattle.lines.specs.declared.line.Line.{Line}
use Rattle.lines.specs.declared.line.Line.TheVariants.{Select, Extend, Pad, SemiMatch, AntiMatch, Union, Compare, Not, Unknown as UnknownL}
use Rattle.stock.specs.declared.refusal.Refusal.{Refusal}
use Rattle.unnest.specs.Emit.{chain, tried_lines, some_lines, all_lines}
use Rattle.unnest.specs.Rooms.{Emitted, TooLong, Puts}

-- no room for the front of what was to be put, so none for all of it
pub front_long : (before a b : List Line) (e : Refusal) → TooLong before a e → TooLong before (a ++ b) e
front_long before a b e t = record { cause = t.cause; over = omega (arith, t.over, length-append a b) }

-- no room for the rest, behind what was put
pub rest_long : (before mid a b : List Line) (k : ℕ) (e : Refusal) → Emitted before mid a k → TooLong mid b e → TooLong before (a ++ b) e
rest_long before mid a b k e m t = record { cause = t.cause; over = omega (arith, t.over, length-append a b, ap length m.lines, length-append before a) }

pub both_put : (before mid after a b : List Line) (j k : ℕ) → Emitted before mid a j → Emitted mid after b k → Emitted before after (a ++ b) k
both_put before mid after a b j k m n = record { lines = n.lines ∙ ap (λ v. v ++ b) m.lines ∙ append_assoc before a b; last = n.last }

pub then_puts : (before mid after a b : List Line) (j : ℕ) (r : Result ℕ Refusal) → Emitted before mid a j → Puts mid after b r → Puts before after (a ++ b) r
then_puts before mid after a b j (Ok k) m p = both_put before mid after a b j k m p
then_puts before mid after a b j (Err e) m t = rest_long before mid a b j e m t

pub mid_length : (before mid a : List Line) (k : ℕ) → Emitted before mid a k → length mid ≡ length before + length a
mid_length before mid a k m = ap length m.lines ∙ length-append before a

pub last_is : (before mid a : List Line) (k : ℕ) → Emitted before mid a k → k ≡ length mid - 1
last_is before mid a k m = omega (arith, m.last)

-- one line, then the rest
then_put : {o o₁ : List Line} {l : Line} {k : ℕ} (o₂ rest : List Line) (r : Result ℕ Refusal) → Emitted o o₁ (l ∷ []) k → Puts o₁ o₂ rest r → Puts o o₂ (l ∷ rest) r
then_put {o} {o₁} {l} {k} o₂ rest r m p = then_puts o o₁ o₂ (l ∷ []) rest k r m p

-- the number of one line, and how many lines then stand, where some stood behind the first n
number_is : {o o₁ : List Line} {l : Line} {k : ℕ} (n i : ℕ) → Emitted o o₁ (l ∷ []) k → length o ≡ n + i → k ≡ n + i
number_is {o} {o₁} {l} {k} n i m e = omega (arith, m.last, mid_length o o₁ (l ∷ []) k m)

grown_to : {o o₁ : List Line} {l : Line} {k : ℕ} (n i : ℕ) → Emitted o o₁ (l ∷ []) k → length o ≡ n + i → length o₁ ≡ n + (i + 1)
grown_to {o} {o₁} {l} {k} n i m e = omega (arith, mid_length o o₁ (l ∷ []) k m)

-- the lines that some and all share, each by its number
pub tried_put : (won lost y z : ℤ) (w l r p q : ℕ) (o o₁ o₂ o₃ o₄ o₅ o₆ o₇ o₈ o₉ o₁₀ o₁₁ : List Line) (a b c d e f g h i j : ℕ) (s : Result ℕ Refusal) → y ≡ won → z ≡ lost
    → Emitted o o₁ (Select r p ∷ []) a → Emitted o₁ o₂ (Select r q ∷ []) b → Emitted o₂ o₃ (SemiMatch w l a ∷ []) c → Emitted o₃ o₄ (Extend c (Constant y) ∷ []) d
    → Emitted o₄ o₅ (AntiMatch w l a ∷ []) e → Emitted o₅ o₆ (SemiMatch w e b ∷ []) f → Emitted o₆ o₇ (Pad 1 f ∷ []) g → Emitted o₇ o₈ (AntiMatch w e b ∷ []) h
    → Emitted o₈ o₉ (Extend h (Constant z) ∷ []) i → Emitted o₉ o₁₀ (Union d g ∷ []) j → Puts o₁₀ o₁₁ (Union j i ∷ []) s
    → Puts o o₁₁ (tried_lines won lost w l r p q (length o)) s
tried_put won lost y z w l r p q o o₁ o₂ o₃ o₄ o₅ o₆ o₇ o₈ o₉ o₁₀ o₁₁ a b c d e f g h i j s u v m₁ m₂ m₃ m₄ m₅ m₆ m₇ m₈ m₉ m₁₀ t =
    let n : ℕ = length o in
    let u₀ : length o ≡ n + 0 = omega arith in
    let u₁ : length o₁ ≡ n + 1 = grown_to n 0 m₁ u₀ in
    let u₂ : length o₂ ≡ n + 2 = grown_to n 1 m₂ u₁ in
    let u₃ : length o₃ ≡ n + 3 = grown_to n 2 m₃ u₂ in
    let u₄ : length o₄ ≡ n + 4 = grown_to n 3 m₄ u₃ in
    let u₅ : length o₅ ≡ n + 5 = grown_to n 4 m₅ u₄ in
    let u₆ : length o₆ ≡ n + 6 = grown_to n 5 m₆ u₅ in
    let u₇ : length o₇ ≡ n + 7 = grown_to n 6 m₇ u₆ in
    let u₈ : length o₈ ≡ n + 8 = grown_to n 7 m₈ u₇ in
    let u₉ : length o₉ ≡ n + 9 = grown_to n 8 m₉ u₈ in
    let k₁ : a ≡ n = omega (arith, number_is n 0 m₁ u₀) in
    let k₂ : b ≡ n + 1 = number_is n 1 m₂ u₁ in
    let k₃ : c ≡ n + 2 = number_is n 2 m₃ u₂ in
    let k₄ : d ≡ n + 3 = number_is n 3 m₄ u₃ in
    let k₅ : e ≡ n + 4 = number_is n 4 m₅ u₄ in
    let k₆ : f ≡ n + 5 = number_is n 5 m₆ u₅ in
    let k₇ : g ≡ n + 6 = number_is n 6 m₇ u₆ in
    let k₈ : h ≡ n + 7 = number_is n 7 m₈ u₇ in
    let k₉ : i ≡ n + 8 = number_is n 8 m₉ u₈ in
    let k₁₀ : j ≡ n + 9 = number_is n 9 m₁₀ u₉ in
    let is : Select r p ∷ Select r q ∷ SemiMatch w l a ∷ Extend c (Constant y) ∷ AntiMatch w l a ∷ SemiMatch w e b ∷ Pad 1 f ∷ AntiMatch w e b ∷ Extend h (Constant z) ∷ Union d g ∷ Union j i ∷ []
    ≡ tried_lines won lost w l r p q n = rw (u, v, k₁, k₂, k₃, k₄, k₅, k₆, k₇, k₈, k₉, k₁₀) (simp add_assoc) in
    subst (λ x. Puts o o₁₁ x s) is
    (then_put _ _ s m₁ (then_put _ _ s m₂ (then_put _ _ s m₃ (then_put _ _ s m₄ (then_put _ _ s m₅ (then_put _ _ s m₆ (then_put _ _ s m₇ (then_put _ _ s m₈ (then_put _ _ s m₉ (then_put _ _ s m₁₀ t))))))))))

-- the conditions of some and of all, then what they share
pub some_put : (g : Sign) (k w l r : ℕ) (o o₁ o₂ o₃ : List Line) (a b : ℕ) (s : Result ℕ Refusal)
    → Emitted o o₁ (Compare g (Column k) (Column w) ∷ []) a → Emitted o₁ o₂ (UnknownL a ∷ []) b → Puts o₂ o₃ (tried_lines (pos 1) (pos 0) w l r a b (length o₂)) s
    → Puts o o₃ (some_lines g k w l r (length o)) s
some_put g k w l r o o₁ o₂ o₃ a b s m₁ m₂ z =
    let n : ℕ = length o in
    let u₀ : length o ≡ n + 0 = omega arith in
    let u₁ : length o₁ ≡ n + 1 = grown_to n 0 m₁ u₀ in
    let u₂ : length o₂ ≡ n + 2 = grown_to n 1 m₂ u₁ in
    let k₁ : a ≡ n = omega (arith, number_is n 0 m₁ u₀) in
    let k₂ : b ≡ n + 1 = number_is n 1 m₂ u₁ in
    let is : Compare g (Column k) (Column w) ∷ UnknownL a ∷ tried_lines (pos 1) (pos 0) w l r a b (length o₂) ≡ some_lines g k w l r n = rw (u₂, k₁, k₂) (simp add_assoc) in
    subst (λ v. Puts o o₃ v s) is (then_put _ _ s m₁ (then_put _ _ s m₂ z))

pub all_put : (g : Sign) (k w l r : ℕ) (o o₁ o₂ o₃ o₄ : List Line) (a b c : ℕ) (s : Result ℕ Refusal)
    → Emitted o o₁ (Compare g (Column k) (Column w) ∷ []) a → Emitted o₁ o₂ (UnknownL a ∷ []) b → Emitted o₂ o₃ (Not a ∷ []) c
    → Puts o₃ o₄ (tried_lines (pos 0) (pos 1) w l r c b (length o₃)) s → Puts o o₄ (all_lines g k w l r (length o)) s
all_put g k w l r o o₁ o₂ o₃ o₄ a b c s m₁ m₂ m₃ z =
    let n : ℕ = length o in
    let u₀ : length o ≡ n + 0 = omega arith in
    let u₁ : length o₁ ≡ n + 1 = grown_to n 0 m₁ u₀ in
    let u₂ : length o₂ ≡ n + 2 = grown_to n 1 m₂ u₁ in
    let u₃ : length o₃ ≡ n + 3 = grown_to n 2 m₃ u₂ in
    let k₁ : a ≡ n = omega (arith, number_is n 0 m₁ u₀) in
    let k₂ : b ≡ n + 1 = number_is n 1 m₂ u₁ in
    let k₃ : c ≡ n + 2 = number_is n 2 m₃ u₂ in
    let is : Compare g (Column k) (Column w) ∷ UnknownL a ∷ Not a ∷ tried_lines (pos 0) (pos 1) w l r c b (length o₃) ≡ all_lines g k w l r n = rw (u₃, k₁, k₂, k₃) (simp add_assoc) in
    subst (λ v. Puts o o₄ v s) is (then_put _ _ s m₁ (then_put _ _ s m₂ (then_put _ _ s m₃ z)))

-- lines that follow once the number of the last line put is known
pub chained : (o₀ o₁ o₂ a : List Line) (k : ℕ) (K : ℕ → ℕ → List Line) (r : Result ℕ Refusal) → Emitted o₀ o₁ a k → Puts o₁ o₂ (K k (length o₁)) r → Puts o₀ o₂ (chain (length o₀) a (λ i. K (i - 1) i)) r
chained o₀ o₁ o₂ a k K r m p =
    then_puts o₀ o₁ o₂ a (K (length o₀ + length a - 1) (length o₀ + length a)) k r m
    (subst (λ v. Puts o₁ o₂ (K (v - 1) v) r) (mid_length o₀ o₁ a k m) (subst (λ v. Puts o₁ o₂ (K v (length o₁)) r) (last_is o₀ o₁ a k m) p))

-- a refusal that is handed on
pub err_puts : (o₀ o₁ new : List Line) (r : Result ℕ Refusal) (e : Refusal) → IsErrAnd r (λ x. x ≡ e) → TooLong o₀ new e → Puts o₀ o₁ new r
err_puts o₀ o₁ new (Ok k) e h t = absurd h
err_puts o₀ o₁ new (Err x) e h t = subst (TooLong o₀ new) (sym h) t

-- no room for the second operand's lines
pub second_long : (o₀ o₁ a : List Line) (b : ℕ → List Line) (K : ℕ → ℕ → ℕ → List Line) (k : ℕ) (e : Refusal) → Emitted o₀ o₁ a k → TooLong o₁ (b (length o₁)) e
    → TooLong o₀ (chain (length o₀) a (λ i. chain i (b i) (λ j. K (i - 1) (j - 1) j))) e
second_long o₀ o₁ a b K k e m t = chained o₀ o₁ o₁ a k (λ h i. chain i (b i) (λ j. K h (j - 1) j)) (Err e) m (front_long o₁ (b (length o₁)) _ e t)

-- two operands, then what follows
pub twice : (o₀ o₁ o₂ o₃ a : List Line) (b : ℕ → List Line) (K : ℕ → ℕ → ℕ → List Line) (j k : ℕ) (r : Result ℕ Refusal) → Emitted o₀ o₁ a j → Emitted o₁ o₂ (b (length o₁)) k → Puts o₂ o₃ (K j k (length o₂)) r
    → Puts o₀ o₃ (chain (length o₀) a (λ i. chain i (b i) (λ h. K (i - 1) (h - 1) h))) r
twice o₀ o₁ o₂ o₃ a b K j k r m n p =
    chained o₀ o₁ o₃ a j (λ h i. chain i (b i) (λ g. K h (g - 1) g)) r m (chained o₁ o₂ o₃ (b (length o₁)) k (λ h i. K j h i) r n p)
