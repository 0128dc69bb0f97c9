-- A layer with no movements.
use Rattle.std.proofs.Common.{◌≡◌, ℕ, ◌+◌, ◌≤◌, List, [], length, take, ap, ◌∙◌, arith}
use Rattle.stock.specs.Tables.{Table, Lawful, rows_at}
use Rattle.stock.specs.Tabled.{few_rows}
use Rattle.movements.specs.Moves.{moved, remaining, added_count}
use Rattle.movements.specs.declared.moved.Added.{Added}
use Rattle.movements.specs.declared.moved.Hidden.{Hidden}
use Rattle.movements.proofs.Changes.{unmoved}

pub no_items : {X : Type 0} (n : ℕ) (xs : List X) → n ≡ 0 → take n xs ≡ []
no_items n xs e = ap (λ k. take k xs) e

module _ (ts : List Table) (ms : List Added) (hs : List Hidden) (none : ms ≡ []) (seen : hs ≡ []) (g : Lawful ts) where
  pub shows_below : moved ms hs ts ≡ ts
  shows_below = ap (λ x. moved x hs ts) none ∙ ap (λ x. moved [] x ts) seen ∙ unmoved ts g

  pub uncut_below : (t : ℕ) → length (remaining t hs (rows_at ts t)) + added_count t ms ≤ 65535
  uncut_below t =
      let p = ap (added_count t) none in
      let q = ap (λ x. length (remaining t x (rows_at ts t))) seen in
      let f = few_rows ts t g in
      omega arith
