-- Digits read one by one, by a fold over a slice that may break off.
use Rattle.std.proofs.Common.{◌≡◌, ℕ, ◌<◌, List, [], ◌∷◌, length, Option, Some, None, Bor, Iter, refl, sym, ap, ◌∙◌, arith}
use Rattle.std.specs.Iterator.{Yields, YieldsThen}
use Rattle.std.specs.Slice.Iter.{iter_steps, iter_rest}
use Rattle.std.specs.List.{FoldsTo}
use Rattle.std.specs.Option.{MatchOption}
use Rattle.std.proofs.lemmas.List.{nil_from_length}
use Rattle.commands.specs.Numbers.{one_more, more_digits, digits_of}

stuck : (cs : List ℕ) → more_digits cs None ≡ None
stuck [] = refl
stuck (c ∷ cs) = refl

pub digits_of-some : (w : List ℕ) → 0 < length w → more_digits w (Some 0) ≡ digits_of w
digits_of-some [] h = absurd (omega arith)
digits_of-some (c ∷ cs) h = refl

-- in a turn R the number in the fold's state gets one digit more
module _ {F : Type 0} (R : F × ℕ → Bor ℕ → F × ℕ → Type 0) (turns : (f g : F) (n m : ℕ) (x : Bor ℕ) → R (f, n) x (g, m) → one_more n x.now ≡ Some m) where
  read_on : (xs : List (Bor ℕ)) (s t : Iter ℕ) (f g : F) (n m : ℕ) → Yields iter_steps s xs t → FoldsTo R (f, n) xs (g, m) → more_digits (iter_rest s) (Some n) ≡ more_digits (iter_rest t) (Some m)
  read_on [] s t f g n m y r =
      ap (λ u. more_digits (iter_rest u) (Some n)) y ∙ ap (λ p. more_digits (iter_rest t) (Some p.1)) r
  read_on (x ∷ xs) s t f g n m y r =
      ap (λ ys. more_digits ys (Some n)) y.1
      ∙ (ap (more_digits (iter_rest y.0)) (turns f r.0.0 n r.0.1 x r.1) ∙ read_on xs y.0 t r.0.0 g r.0.1 m y.2 r.2)

-- after the last turn the slice is read out, or the next byte is no digit of it
last : (Ended : ℕ → Type 0) (Broke : Bor ℕ → Type 0) (o : Option (Bor ℕ)) (t u : Iter ℕ) (m : ℕ) (r : Option ℕ) → iter_steps t o u → MatchOption o (Ended m) Broke
    → (Ended m → r ≡ Some m) → ((x : Bor ℕ) → Broke x → (one_more m x.now ≡ None) × (r ≡ None)) → r ≡ more_digits (iter_rest t) (Some m)
last Ended Broke None t u m r e h ended broke =
    ended h ∙ sym (ap (λ ys. more_digits ys (Some m)) (nil_from_length (iter_rest t) e.0))
last Ended Broke (Some x) t u m r e h ended broke =
    let b = broke x h in
    b.1 ∙ sym (ap (λ ys. more_digits ys (Some m)) e ∙ (ap (more_digits (iter_rest u)) b.0 ∙ stuck (iter_rest u)))

-- what the fold gives
pub read_all : {F : Type 0} {R : F × ℕ → Bor ℕ → F × ℕ → Type 0} {Ended : ℕ → Type 0} {Broke : F → ℕ → Bor ℕ → Type 0} (s u : Iter ℕ) (f : F) (n : ℕ) (r : Option ℕ)
    → (xs : List (Bor ℕ)) × (o : Option (Bor ℕ)) × (g : F) × (m : ℕ) × YieldsThen iter_steps s xs o u × FoldsTo R (f, n) xs (g, m) × MatchOption o (Ended m) (Broke g m)
    → ((f g : F) (n m : ℕ) (x : Bor ℕ) → R (f, n) x (g, m) → one_more n x.now ≡ Some m)
    → ((m : ℕ) → Ended m → r ≡ Some m)
    → ((g : F) (m : ℕ) (x : Bor ℕ) → Broke g m x → (one_more m x.now ≡ None) × (r ≡ None))
    → r ≡ more_digits (iter_rest s) (Some n)
read_all {R = R} {Ended = Ended} {Broke = Broke} s u f n r ran turns ended broke =
    last Ended (Broke ran.2 ran.3) ran.1 ran.4.0 u ran.3 r ran.4.2 ran.6 (ended ran.3) (broke ran.2 ran.3)
    ∙ sym (read_on R turns ran.0 s ran.4.0 f ran.2 n ran.3 ran.4.1 ran.5)
