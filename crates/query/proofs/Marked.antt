-- Lists of marks.
use Rattle.std.proofs.Common.{◌≡◌, ℕ, zero, suc, ◌+◌, ◌-◌, ◌<◌, ◌≤◌, Bool, true, false, ◌||◌, List, [], ◌∷◌, ◌++◌, length, get_or, take, drop, set, replicate, sym, refl, ap, ◌∙◌, arith}
use Rattle.std.proofs.lemmas.List.{length-append, length_push, length-set, get_or_past, take_more, drop_more, drop_all, drop-replicate, drop-set-lt, append_assoc, append-nil}
use Rattle.query.specs.Inside.{Blank}
use Rattle.lines.specs.Marks.{either_mark}
use Rattle.lines.proofs.Soundness.{either_length}

-- one mark more in an array whose last marks are blank
pub pushed_blank : (m : List Bool) (n : ℕ) (b : Bool) → Blank m n → n < 32 → Blank (set m n b) (n + 1)
pushed_blank m n b B h =
    let e : drop (n + 1) m ≡ replicate (32 - n - 1) false = ap (drop 1) (sym (drop_more m n false (omega (arith, B.long))) ∙ B.rest) ∙ drop-replicate 1 (32 - n) false in
    let k : 32 - n - 1 ≡ 32 - (n + 1) = omega arith in
    record { few = omega arith; long = length-set m n b ∙ B.long; rest = drop-set-lt (n + 1) m n b (omega arith) ∙ e ∙ ap (λ v. replicate v false) k }

-- a loop that adds ys from k on to what stands
module _ (all start ys : List Bool) (from k : ℕ) (inv : all ++ drop k ys ≡ start ++ drop from ys) where
  pub room : k < length ys → length (start ++ drop from ys) ≤ 32 → length all + 1 ≤ 32
  room h r =
      let e : length (all ++ drop k ys) ≡ length all + suc (length (drop (k + 1) ys)) = length-append all (drop k ys) ∙ ap (λ v. length all + length v) (drop_more ys k false h) in
      omega (arith, e, ap length inv)

  pub added : (next : List Bool) (b : Bool) → k < length ys → b ≡ get_or ys k false → next ≡ all ++ (b ∷ []) → next ++ drop (k + 1) ys ≡ start ++ drop from ys
  added next b h e f = rw (f, e) (append_assoc all (get_or ys k false ∷ []) (drop (k + 1) ys)) ∙ ap (λ v. all ++ v) (sym (drop_more ys k false h)) ∙ inv

  pub ended : length ys ≤ k → all ≡ start ++ drop from ys
  ended h = sym (append-nil all) ∙ ap (λ v. all ++ v) (sym (drop_all k ys h)) ∙ inv

-- what stands before the end of a short list is short
pub push_room : (x : List Bool) (b : Bool) → length (x ++ (b ∷ [])) ≤ 32 → length x + 1 ≤ 32
push_room x b h = omega (arith, length_push x b)

pub right_room : (x y : List Bool) → length (x ++ y) ≤ 32 → length y ≤ 32
right_room x y h = omega (arith, length-append x y)

or_none : (b : Bool) → (b || false) ≡ b
or_none true = refl
or_none false = refl

pub either_at : (x y : List Bool) (k : ℕ) → k < length x → get_or (either_mark x y) k false ≡ (get_or x k false || get_or y k false)
either_at [] y k h = absurd (omega arith)
either_at (a ∷ x) [] k h = sym (ap (λ v. get_or (a ∷ x) k false || v) (get_or_past [] k false (omega arith)) ∙ or_none (get_or (a ∷ x) k false))
either_at (a ∷ x) (b ∷ y) zero h = refl
either_at (a ∷ x) (b ∷ y) (suc k) h = either_at x y k (omega arith)

-- a loop that works out either_mark x y, column by column
module _ (all next x y : List Bool) (k : ℕ) (inv : all ≡ take k (either_mark x y)) (h : k < length x) where
  pub either_more : (b : Bool) → b ≡ (get_or x k false || get_or y k false) → next ≡ all ++ (b ∷ []) → next ≡ take (k + 1) (either_mark x y)
  either_more b e f = f ∙ rw (inv, e, sym (either_at x y k h)) (sym (take_more (either_mark x y) k false (omega (arith, either_length x y))))
