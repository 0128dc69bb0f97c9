-- What the parts of a layer come to.
use Rattle.std.specs.Prelude.{◌≡◌, ℕ, ◌+◌, ◌-◌, ◌<◌, ◌≤◌, List, [], ◌∷◌, ◌++◌, length, take}
use Rattle.std.specs.List.{remove}
use Rattle.cells.specs.Cells.{Row}
use Rattle.stock.specs.Tables.{Table, rows_at}
use Rattle.movements.specs.Moves.{moved, remaining, added_count, Nth}
use Rattle.movements.specs.declared.bounded.Bounded.{Bounded}
use Rattle.movements.specs.declared.moved.Added.{Added}
use Rattle.movements.specs.declared.moved.Hidden.{Hidden}
use Rattle.movements.specs.declared.movements.Movements.{Movements}

-- the items of a bounded list, without its free room
abbrev pub items_of : {X : Type 0} {n : ℕ} → Bounded X n → List X
items_of b = take b.count b.items

abbrev pub shown_by : List Table → Bounded Added 64 → Bounded Hidden 64 → List Table
shown_by ts a h = moved (items_of a) (items_of h) ts

-- what a layer shows, over a stock whose meaning `tables` gives
abbrev pub shown : {X : Type 0} → (X → List Table) → Movements X → List Table
shown tables m = shown_by (tables m.below) m.added m.hidden

-- how many rows below a layer still shows in table t
abbrev pub rows_remaining : {X : Type 0} → (X → List Table) → Movements X → ℕ → ℕ
rows_remaining tables m t = length (remaining t (items_of m.hidden) (rows_at (tables m.below) t))

-- no table has more rows than a table may show. A new layer starts so and every call keeps it;
-- it is no fact of the type, which would then ask of whoever names it that S is a stock
abbrev pub Uncut : {X : Type 0} → (X → List Table) → Movements X → Type 0
Uncut tables m = (t : ℕ) → rows_remaining tables m t + added_count t (items_of m.added) ≤ 65535

-- one row more of table t, of width w, among the added
pub record Put (t w : ℕ) (row : Row) (ms ns : List Added) : Type 0 where
  pub new : Added
  pub table : new.table ≡ t
  pub is : take w new.row ≡ row
  pub after : ns ≡ ms ++ new ∷ []

-- the row shown at place p of table t is taken out, where the first k rows are of below:
-- a row below is hidden, an added one is struck out
pub data Taken (t p k : ℕ) (ms : List Added) (hs : List Hidden) (ns : List Added) (is : List Hidden) : Type 0 where
  below : (h : Hidden) → p < k → h.table ≡ t → h.place ≡ p → ns ≡ ms → is ≡ hs ++ h ∷ [] → Taken t p k ms hs ns is
  own : (i : ℕ) → k ≤ p → Nth t (p - k) ms i → ns ≡ remove ms i → is ≡ hs → Taken t p k ms hs ns is
