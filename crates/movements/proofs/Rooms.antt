-- A movement more leaves no table with more rows than it may show.
use Rattle.std.proofs.Common.{◌≡◌, Bool, true, false, eqb, sym, ◌∙◌, ℕ, ◌+◌, ◌<◌, ◌≤◌, List, [], ◌∷◌, ◌++◌, ap, ⊎_elim, arith}
use Rattle.std.proofs.lemmas.Bool.{cases_eq, eq-eqb, ne_eqb}
use Rattle.movements.specs.Moves.{added_count}
use Rattle.movements.specs.Moving.{added_count_append}
use Rattle.movements.specs.declared.moved.Added.{Added}

-- one row more of its own table, and none of another
pub add_room : (ms : List Added) (m : Added) (n : ℕ → ℕ) → ((t : ℕ) → n t + added_count t ms ≤ 65535) → n m.table + added_count m.table ms < 65535
    → (t : ℕ) → n t + added_count t (ms ++ m ∷ []) ≤ 65535
add_room ms m n all here t =
    ⊎_elim
    (λ e. let k = one e in let z = ap (λ j. n j + added_count j ms) e in omega (arith, added_count_append t ms (m ∷ [])))
    (λ ne. let k = none ne in omega (arith, added_count_append t ms (m ∷ []), all t))
    (cases_eq m.table t)
  where
    one : m.table ≡ t → added_count t (m ∷ []) ≡ 1
    one e = rw (eq-eqb m.table t e)

    none : (m.table ≡ t → ⊥) → added_count t (m ∷ []) ≡ 0
    none ne = rw (ne_eqb m.table t ne)

-- a list that is not full has room
pub room_left : (n : ℕ) → n ≤ 64 → eqb n 64 ≡ false → n < 64
room_left n l e = ⊎_elim (λ s. let z : ◌≡◌ {A = Bool} true false = sym (eq-eqb n 64 s) ∙ e in cc) (λ s. omega arith) (cases_eq n 64)
