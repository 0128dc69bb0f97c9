-- How the parts of a movements layer stand to the model's tables: what every call keeps.
use Rattle.std.specs.Prelude.{◌≡◌, ℕ, suc, ◌+◌, ◌≤◌, List, [], ◌∷◌, ◌++◌, map, length}
use Rattle.std.specs.List.{AllByRecursion}
use Rattle.cells.specs.Cells.{Row}
use Rattle.stock.specs.Tables.{Table, rows_at}
use Rattle.movements.specs.Moves.{remaining, added_rows, added_count}
use Rattle.movements.specs.Shown.{items_of}
use Rattle.movements.specs.declared.moved.Added.{Added}
use Rattle.movements.specs.declared.moved.Hidden.{Hidden}
use Rattle.movements.specs.declared.movements.Movements.{Movements}
use Rattle.session.specs.Model.{Entry, stocked, hidden, added, ModelTable, shown_rows, added_in, hidden_in}

abbrev pub row_of : Entry → Row
row_of (stocked r) = r
row_of (hidden r) = r
row_of (added r) = r

-- an entry of the opening stock
abbrev pub OfStock : Entry → Type 0
OfStock (stocked r) = Unit {0}
OfStock (hidden r) = Unit {0}
OfStock (added r) = ⊥

-- table s: first the entries of the opening stock, those shown being the rows that remain, then the rows that stand added
pub record TableTracks (s : ℕ) (x : Table) (ms : List Added) (hs : List Hidden) (t : ModelTable) : Type 0 where
  pub old : List Entry
  pub width : t.width ≡ x.width
  pub split : t.entries ≡ old ++ map added (added_rows s x.width ms)
  pub rows : map row_of old ≡ x.rows
  pub olds : AllByRecursion OfStock old
  pub shows : shown_rows old ≡ remaining s hs x.rows

-- the tables from number s on
abbrev pub EachTracks : ℕ → List Table → List Added → List Hidden → List ModelTable → Type 0
EachTracks s [] ms hs [] = Unit {0}
EachTracks s [] ms hs (t ∷ ts) = ⊥
EachTracks s (x ∷ xs) ms hs [] = ⊥
EachTracks s (x ∷ xs) ms hs (t ∷ ts) = TableTracks s x ms hs t × EachTracks (suc s) xs ms hs ts

-- added rows ms and withdrawals hs over the tables xs, and the model's tables ts; no table is cut off
pub record PartsTrack (xs : List Table) (ms : List Added) (hs : List Hidden) (ts : List ModelTable) : Type 0 where
  pub each : EachTracks 0 xs ms hs ts
  pub count_added : added_in ts ≡ length ms
  pub count_hidden : hidden_in ts ≡ length hs
  pub uncut : (t : ℕ) → length (remaining t hs (rows_at xs t)) + added_count t ms ≤ 65535

-- a layer over a stock whose meaning `tables` gives, and the model's tables
abbrev pub Tracks : {X : Type 0} → (X → List Table) → Movements X → List ModelTable → Type 0
Tracks tables layer ts = PartsTrack (tables layer.below) (items_of layer.added) (items_of layer.hidden) ts
