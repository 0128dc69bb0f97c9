-- The weight of a list: the sum of a number for each element. Two lists with the same weights, whatever the numbers, have each row equally often.
use Rattle.std.proofs.Common.{◌≡◌, ℕ, zero, suc, ◌+◌, ◌≤◌, Bool, true, false, cond, ◌&&◌, ◌||◌, List, [], ◌∷◌, ◌++◌, map, filter, sym, refl, ap, ◌∙◌, zero-add, one-add, arith}
use Rattle.std.specs.List.{flat_map, AllByRecursion}
use Rattle.cells.specs.Cells.{Row, same_row}
use Rattle.lines.specs.Ops.{count, some_of, without, over_rows}
pub use Rattle.lines.proofs.Sameness.{same_ℤ_refl, same_ℤ_eq, same_cell_refl, same_cell_eq, same_refl, same_eq, same_split}

abbrev pub W : {X : Type 0} → (X → ℕ) → List X → ℕ
W g [] = 0
W g (x ∷ xs) = g x + W g xs

pub W_all : {X : Type 0} (f g : X → ℕ) (xs : List X) → AllByRecursion (λ x. f x ≡ g x) xs → W f xs ≡ W g xs
W_all f g [] h = refl
W_all f g (x ∷ xs) h = let e = h.0 in let i = W_all f g xs h.1 in cc

pub all_of : {X : Type 0} {P : X → Type 0} (xs : List X) → ((x : X) → P x) → AllByRecursion P xs
all_of [] h = tt
all_of (x ∷ xs) h = (h x, all_of xs h)

pub W_cong : {X : Type 0} {f g : X → ℕ} (xs : List X) → ((x : X) → f x ≡ g x) → W f xs ≡ W g xs
W_cong {f} {g} xs h = W_all f g xs (all_of xs h)

pub W_append : {X : Type 0} (g : X → ℕ) (xs ys : List X) → W g (xs ++ ys) ≡ W g xs + W g ys
W_append g [] ys = omega arith
W_append g (x ∷ xs) ys = omega (arith, W_append g xs ys)

pub W_map : {X Y : Type 0} (g : Y → ℕ) (f : X → Y) (xs : List X) → W g (map f xs) ≡ W (λ x. g (f x)) xs
W_map g f [] = refl
W_map g f (x ∷ xs) = omega (arith, W_map g f xs)

pub W_kept : {X : Type 0} (g : X → ℕ) (p : X → Bool) (xs : List X) → W g (filter p xs) ≡ W (λ x. cond (p x) (g x) 0) xs
W_kept g p [] = refl
W_kept g p (x ∷ xs) =
    elim (p x) as (λ b. W g (cond b (x ∷ filter p xs) (filter p xs)) ≡ cond b (g x) 0 + W (λ y. cond (p y) (g y) 0) xs)
    [ true ↦ omega (arith, W_kept g p xs) | false ↦ omega (arith, W_kept g p xs) ]

pub W_joined : {X Y : Type 0} (g : Y → ℕ) (f : X → List Y) (xs : List X) → W g (flat_map f xs) ≡ W (λ x. W g (f x)) xs
W_joined g f [] = refl
W_joined g f (x ∷ xs) = omega (arith, W_joined g f xs, W_append g (f x) (flat_map f xs))

pub W_plus : {X : Type 0} (f g : X → ℕ) (xs : List X) → W (λ x. f x + g x) xs ≡ W f xs + W g xs
W_plus f g [] = refl
W_plus f g (x ∷ xs) = omega (arith, W_plus f g xs)

pub W_zero : {X : Type 0} (xs : List X) → W (λ x. 0) xs ≡ 0
W_zero [] = refl
W_zero (x ∷ xs) = omega (arith, W_zero xs)

pub W_cond : {X : Type 0} (b : Bool) (f : X → ℕ) (xs : List X) → W (λ x. cond b (f x) 0) xs ≡ cond b (W f xs) 0
W_cond true f xs = refl
W_cond false f xs = W_zero xs

pub cond_and : {A : Type 0} (a b : Bool) (x z : A) → cond (a && b) x z ≡ cond a (cond b x z) z
cond_and true b x z = refl
cond_and false b x z = refl

-- counts

pub count_W : (r : Row) (xs : List Row) → count r xs ≡ W (λ x. cond (same_row r x) 1 0) xs
count_W r [] = refl
count_W r (x ∷ xs) = omega (arith, count_W r xs)

abbrev pub positive : ℕ → Bool
positive zero = false
positive (suc n) = true

pub positive_one : (n : ℕ) → positive (1 + n) ≡ true
positive_one n = rw one-add

pub some_W : {X : Type 0} (p : X → Bool) (xs : List X) → some_of p xs ≡ positive (W (λ x. cond (p x) 1 0) xs)
some_W p [] = refl
some_W p (x ∷ xs) =
    elim (p x) as (λ b. (b || some_of p xs) ≡ positive (cond b 1 0 + W (λ y. cond (p y) 1 0) xs))
    [ true ↦ sym (positive_one (W (λ y. cond (p y) 1 0) xs)) | false ↦ rw zero-add (some_W p xs) ]

-- a fold in which the order does not matter goes by counts

module _ {A : Type 0} (f : Row → A → A) (any_order : (x y : Row) (a : A) → f x (f y a) ≡ f y (f x a)) (z : A) where
  pub taken_out : (x : Row) (ys : List Row) → some_of (same_row x) ys ≡ true → over_rows f z ys ≡ f x (over_rows f z (without x ys))
  taken_out x [] h = cc
  taken_out x (y ∷ ys) h = go (same_row x y) refl h (taken_out x ys)
    where
      go : (b : Bool) → same_row x y ≡ b → (b || some_of (same_row x) ys) ≡ true → (some_of (same_row x) ys ≡ true → over_rows f z ys ≡ f x (over_rows f z (without x ys))) → f y (over_rows f z ys) ≡ f x (over_rows f z (cond b ys (y ∷ without x ys)))
      go true e k ih = let i = same_eq x y e in cc
      go false e k ih = let i = ih k in cc (any_order x y (over_rows f z (without x ys)))

pub count_over : (r : Row) (xs : List Row) → count r xs ≡ over_rows (λ x a. cond (same_row r x) 1 0 + a) 0 xs
count_over r [] = refl
count_over r (x ∷ xs) = omega (arith, count_over r xs)

pub W_over : (g : Row → ℕ) (xs : List Row) → W g xs ≡ over_rows (λ x a. g x + a) 0 xs
W_over g [] = refl
W_over g (x ∷ xs) = omega (arith, W_over g xs)

pub count_out : (r x : Row) (ys : List Row) → some_of (same_row x) ys ≡ true → count r ys ≡ cond (same_row r x) 1 0 + count r (without x ys)
count_out r x ys h =
    let f : Row → ℕ → ℕ = λ y a. cond (same_row r y) 1 0 + a in
    let k : over_rows f 0 ys ≡ f x (over_rows f 0 (without x ys)) = taken_out f (λ y w a. omega arith) 0 x ys h in
    omega (arith, k, count_over r ys, count_over r (without x ys))

pub positive_true : (n : ℕ) → positive n ≡ true → 1 ≤ n
positive_true zero h = let z : ◌≡◌ {A = ℕ} 0 1 = cc in omega arith
positive_true (suc n) h = omega arith

pub positive_false : (n : ℕ) → positive n ≡ false → n ≡ 0
positive_false zero h = refl
positive_false (suc n) h = cc

pub positive_from : (n : ℕ) → 1 ≤ n → positive n ≡ true
positive_from zero h = let z : ◌≡◌ {A = ℕ} 0 1 = omega arith in cc
positive_from (suc n) h = refl

pub some_count : (x : Row) (ys : List Row) → some_of (same_row x) ys ≡ positive (count x ys)
some_count x ys = some_W (same_row x) ys ∙ ap positive (sym (count_W x ys))

pub count_here : (x : Row) (xs : List Row) → count x (x ∷ xs) ≡ 1 + count x xs
count_here x xs = rw (same_refl x)

abbrev pub Same : List Row → List Row → Type 0
Same xs ys = (r : Row) → count r xs ≡ count r ys

-- a fold in any order is the same over lists with the same counts
pub over_same : {A : Type 0} (f : Row → A → A) (any_order : (x y : Row) (a : A) → f x (f y a) ≡ f y (f x a)) (z : A) (xs ys : List Row) → Same xs ys → over_rows f z xs ≡ over_rows f z ys
over_same f o z [] [] h = refl
over_same f o z [] (y ∷ ys) h = let z : ◌≡◌ {A = ℕ} 0 1 = omega (arith, h y, count_here y ys) in cc
over_same f o z (x ∷ xs) ys h =
    let here : some_of (same_row x) ys ≡ true = some_count x ys ∙ positive_from (count x ys) (omega (arith, h x, count_here x xs)) in
    let i = over_same f o z xs (without x ys) (λ r. omega (arith, h r, count_out r x ys here)) in
    let k = taken_out f o z x ys here in
    cc

-- bags: the same weights
abbrev pub Bag : List Row → List Row → Type 0
Bag xs ys = (g : Row → ℕ) → W g xs ≡ W g ys

pub bag_from : (xs ys : List Row) → Same xs ys → Bag xs ys
bag_from xs ys h g = W_over g xs ∙ over_same (λ x a. g x + a) (λ x y a. omega arith) 0 xs ys h ∙ sym (W_over g ys)

pub same_from : (xs ys : List Row) → Bag xs ys → Same xs ys
same_from xs ys h r = count_W r xs ∙ h (λ x. cond (same_row r x) 1 0) ∙ sym (count_W r ys)
