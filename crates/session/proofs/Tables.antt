-- What one movement more keeps between the tables below and the model's tables.
use Rattle.std.proofs.Common.{◌≡◌, ℕ, zero, suc, ◌+◌, ◌<◌, ◌≤◌, eqb, List, [], ◌∷◌, ◌++◌, map, length, get_or, take, drop, sym, refl, ap, ◌∙◌, subst, add-one, arith, length-append}
use Rattle.std.specs.List.{remove}
use Rattle.std.proofs.lemmas.List.{append-nil, append_assoc, take_all, map_push}
use Rattle.std.proofs.lemmas.Bool.{cond-true, cond-false, eq-eqb, ne_eqb}
use Rattle.cells.specs.Cells.{Row}
use Rattle.stock.specs.Tables.{Table, no_table, rows_at}
use Rattle.movements.specs.Moves.{remaining, added_rows, added_count, one_moved, moved_from, Nth}
use Rattle.movements.specs.Moving.{cons_both, table_of, added_rows_append, added_rows_one, added_rows_other, added_rows_removed, remaining_append, split_at, length_added_rows}
use Rattle.movements.specs.declared.moved.Added.{Added}
use Rattle.movements.specs.declared.moved.Hidden.{Hidden}
use Rattle.session.specs.Model.{Entry, stocked, added, ModelTable, shown_rows, shown_table, open_table, take_entry, restored, is_added, is_hidden, total_by, with_entries, rewritten, cleared, no_entries}
use Rattle.session.specs.Tracks.{TableTracks, EachTracks}
use Rattle.session.proofs.Entries.{shown_rows_append, shown_rows_added, shown_rows_stocked, rows_stocked, olds_stocked, take_entry_front, shown_rows_take_entry, rows_take_entry, olds_take_entry, take_entry_own, restored_is, added_olds, hidden_stocked}

abbrev model_table : ℕ → List Entry → ModelTable
model_table w es = record { width = w; entries = es }

-- one table
module _ (s : ℕ) (x : Table) (ms : List Added) (hs : List Hidden) (e : ModelTable) where
  pub table_shown_rows : TableTracks s x ms hs e → shown_rows e.entries ≡ remaining s hs x.rows ++ added_rows s x.width ms
  table_shown_rows d =
      ap shown_rows d.split ∙ shown_rows_append d.old (map added (added_rows s x.width ms))
      ∙ ap (λ y. y ++ shown_rows (map added (added_rows s x.width ms))) d.shows ∙ ap (λ y. remaining s hs x.rows ++ y) (shown_rows_added (added_rows s x.width ms))

  table_moved : length (remaining s hs x.rows) + added_count s ms ≤ 65535 → TableTracks s x ms hs e → shown_table e ≡ one_moved s ms hs x
  table_moved f d =
      let n = length-append (remaining s hs x.rows) (added_rows s x.width ms) in
      let k = length_added_rows s x.width ms in
      ap (λ w. table_of w (shown_rows e.entries)) d.width
      ∙ ap (table_of x.width) (table_shown_rows d ∙ sym (take_all 65535 (remaining s hs x.rows ++ added_rows s x.width ms) (omega arith)))

  table_restored : TableTracks s x ms hs e → with_entries restored e ≡ open_table x
  table_restored d =
      ap (λ w. model_table w (restored e.entries)) d.width
      ∙ ap (model_table x.width) (ap restored d.split ∙ restored_is d.old (added_rows s x.width ms) d.olds ∙ ap (map stocked) d.rows)

  module _ (m : Added) where
    pub add_other : (m.table ≡ s → ⊥) → TableTracks s x ms hs e → TableTracks s x (ms ++ m ∷ []) hs e
    add_other n d =
        let pe : added_rows s x.width (ms ++ m ∷ []) ≡ added_rows s x.width ms = added_rows_append s x.width ms (m ∷ []) ∙ ap (λ y. added_rows s x.width ms ++ y) (added_rows_other s x.width m n) ∙ append-nil (added_rows s x.width ms) in
        record { old = d.old; width = d.width; split = d.split ∙ ap (λ y. d.old ++ map added y) (sym pe); rows = d.rows; olds = d.olds; shows = d.shows }

    pub add_here : (row : Row) → m.table ≡ s → take x.width m.row ≡ row → TableTracks s x ms hs e → TableTracks s x (ms ++ m ∷ []) hs (with_entries (λ es. es ++ added row ∷ []) e)
    add_here row t r d =
        let pe : added_rows s x.width (ms ++ m ∷ []) ≡ added_rows s x.width ms ++ row ∷ [] = added_rows_append s x.width ms (m ∷ []) ∙ ap (λ y. added_rows s x.width ms ++ y) (added_rows_one s x.width m t ∙ ap (λ y. y ∷ []) r) in
        record {
          old = d.old;
          width = d.width;
          split = ap (λ y. y ++ added row ∷ []) d.split ∙ append_assoc d.old (map added (added_rows s x.width ms)) (added row ∷ [])
              ∙ ap (λ y. d.old ++ y) (sym (map_push added (added_rows s x.width ms) row) ∙ ap (map added) (sym pe));
          rows = d.rows;
          olds = d.olds;
          shows = d.shows;
        }

  module _ (h : Hidden) where
    pub hide_other : (h.table ≡ s → ⊥) → TableTracks s x ms hs e → TableTracks s x ms (hs ++ h ∷ []) e
    hide_other n d =
        let le : remaining s (hs ++ h ∷ []) x.rows ≡ remaining s hs x.rows = remaining_append s hs (h ∷ []) x.rows ∙ cond-false (eqb h.table s) (remove (remaining s hs x.rows) h.place) (remaining s hs x.rows) (ne_eqb h.table s n) in
        record { old = d.old; width = d.width; split = d.split; rows = d.rows; olds = d.olds; shows = d.shows ∙ sym le }

    pub hide_here : (p : ℕ) → h.table ≡ s → h.place ≡ p → p < length (remaining s hs x.rows) → TableTracks s x ms hs e → TableTracks s x ms (hs ++ h ∷ []) (with_entries (λ es. take_entry es p) e)
    hide_here p t q l d =
        let le : remaining s (hs ++ h ∷ []) x.rows ≡ remove (remaining s hs x.rows) p = remaining_append s hs (h ∷ []) x.rows ∙ cond-true (eqb h.table s) (remove (remaining s hs x.rows) h.place) (remaining s hs x.rows) (eq-eqb h.table s t) ∙ ap (remove (remaining s hs x.rows)) q in
        let v : p < length (shown_rows d.old) = rw d.shows l in
        record {
          old = take_entry d.old p;
          width = d.width;
          split = ap (λ y. take_entry y p) d.split ∙ take_entry_front d.old (map added (added_rows s x.width ms)) p v;
          rows = rows_take_entry d.old p d.olds ∙ d.rows;
          olds = olds_take_entry d.old p d.olds;
          shows = shown_rows_take_entry d.old p ∙ ap (λ y. remove y p) d.shows ∙ sym le;
        }

  module _ (i : ℕ) (m : Added) where
    pub strike_here : (k p : ℕ) → Nth s k ms i → length (remaining s hs x.rows) + k ≡ p → TableTracks s x ms hs e → TableTracks s x (remove ms i) hs (with_entries (λ es. take_entry es p) e)
    strike_here k p n q d =
        let pe : added_rows s x.width (remove ms i) ≡ remove (added_rows s x.width ms) k = added_rows_removed s x.width ms k i m n in
        let vl = ap length d.shows in
        record {
          old = d.old;
          width = d.width;
          split = ap (λ y. take_entry y p) d.split ∙ take_entry_own d.old (added_rows s x.width ms) p k d.olds (omega arith) ∙ ap (λ y. d.old ++ map added y) (sym pe);
          rows = d.rows;
          olds = d.olds;
          shows = d.shows;
        }

    pub strike_other : (t k : ℕ) → Nth t k ms i → (s ≡ t → ⊥) → TableTracks s x ms hs e → TableTracks s x (remove ms i) hs e
    strike_other t k n c d =
        let w = x.width in
        let away : (get_or ms i m).table ≡ s → ⊥ = λ z. c (sym z ∙ n.here m) in
        let a : added_rows s w ms ≡ added_rows s w (take i ms) ++ added_rows s w (drop (i + 1) ms) =
        ap (added_rows s w) (split_at s w ms i m n.within) ∙ added_rows_append s w (take i ms ++ (get_or ms i m ∷ [])) (drop (i + 1) ms)
        ∙ ap (λ y. y ++ added_rows s w (drop (i + 1) ms)) (added_rows_append s w (take i ms) (get_or ms i m ∷ []) ∙ ap (λ y. added_rows s w (take i ms) ++ y) (added_rows_other s w (get_or ms i m) away) ∙ append-nil (added_rows s w (take i ms))) in
        let pe : added_rows s w (remove ms i) ≡ added_rows s w ms = added_rows_append s w (take i ms) (drop (suc i) ms) ∙ ap (λ j. added_rows s w (take i ms) ++ added_rows s w (drop j ms)) (sym (add-one i)) ∙ sym a in
        record { old = d.old; width = d.width; split = d.split ∙ ap (λ y. d.old ++ map added y) (sym pe); rows = d.rows; olds = d.olds; shows = d.shows }

table_open : (s : ℕ) (x : Table) → TableTracks s x [] [] (open_table x)
table_open s x = record {
  old = map stocked x.rows;
  width = refl;
  split = sym (append-nil (map stocked x.rows));
  rows = rows_stocked x.rows;
  olds = olds_stocked x.rows;
  shows = shown_rows_stocked x.rows;
}

-- all tables
pub each_open : (s : ℕ) (xs : List Table) → EachTracks s xs [] [] (map open_table xs)
each_open s [] = tt
each_open s (x ∷ xs) = (table_open s x, each_open (suc s) xs)

module _ (ms : List Added) (hs : List Hidden) where
  pub each_shows : (s : ℕ) (xs : List Table) (ts : List ModelTable) → ((t j : ℕ) → s + t ≡ j → length (remaining j hs (rows_at xs t)) + added_count j ms ≤ 65535)
      → EachTracks s xs ms hs ts → map shown_table ts ≡ moved_from s ms hs xs
  each_shows s [] [] f a = refl
  each_shows s [] (e ∷ ts) f a = absurd a
  each_shows s (x ∷ xs) [] f a = absurd a
  each_shows s (x ∷ xs) (e ∷ ts) f a = cons_both (table_moved s x ms hs e (f 0 s (omega arith)) a.0) (each_shows (suc s) xs ts (λ t j q. f (suc t) j (omega arith)) a.1)

  pub each_restored : (s : ℕ) (xs : List Table) (ts : List ModelTable) → EachTracks s xs ms hs ts → cleared ts ≡ map open_table xs
  each_restored s [] [] a = refl
  each_restored s [] (e ∷ ts) a = absurd a
  each_restored s (x ∷ xs) [] a = absurd a
  each_restored s (x ∷ xs) (e ∷ ts) a = cons_both (table_restored s x ms hs e a.0) (each_restored (suc s) xs ts a.1)

  pub each_length : (s : ℕ) (xs : List Table) (ts : List ModelTable) → EachTracks s xs ms hs ts → length ts ≡ length xs
  each_length s [] [] a = refl
  each_length s [] (e ∷ ts) a = absurd a
  each_length s (x ∷ xs) [] a = absurd a
  each_length s (x ∷ xs) (e ∷ ts) a = ap suc (each_length (suc s) xs ts a.1)

  pub each_at : (s t j : ℕ) (xs : List Table) (ts : List ModelTable) → s + t ≡ j → t < length xs → EachTracks s xs ms hs ts → TableTracks j (get_or xs t no_table) ms hs (get_or ts t no_entries)
  each_at s t j [] ts e l a = absurd (omega arith)
  each_at s t j (x ∷ xs) [] e l a = absurd a
  each_at s zero j (x ∷ xs) (y ∷ ts) e l a = let k : s ≡ j = omega arith in subst (λ i. TableTracks i x ms hs y) k a.0
  each_at s (suc t) j (x ∷ xs) (y ∷ ts) e l a = each_at (suc s) t j xs ts (omega arith) (omega arith) a.1

-- a movement of table j that writes its entries anew by f, and no other table's
module _ (j : ℕ) (f : List Entry → List Entry) (ms : List Added) (hs : List Hidden) (ns : List Added) (is : List Hidden)
    (other : (i : ℕ) (x : Table) (e : ModelTable) → (i ≡ j → ⊥) → TableTracks i x ms hs e → TableTracks i x ns is e) where
  each_other : (s : ℕ) (xs : List Table) (ts : List ModelTable) → j < s → EachTracks s xs ms hs ts → EachTracks s xs ns is ts
  each_other s [] [] l a = tt
  each_other s [] (e ∷ ts) l a = absurd a
  each_other s (x ∷ xs) [] l a = absurd a
  each_other s (x ∷ xs) (e ∷ ts) l a = (other s x e (λ z. omega arith) a.0, each_other (suc s) xs ts (omega arith) a.1)

  pub each_rewritten : (s t : ℕ) (xs : List Table) (ts : List ModelTable) → s + t ≡ j → t < length xs
      → (TableTracks j (get_or xs t no_table) ms hs (get_or ts t no_entries) → TableTracks j (get_or xs t no_table) ns is (with_entries f (get_or ts t no_entries)))
      → EachTracks s xs ms hs ts → EachTracks s xs ns is (rewritten t f ts)
  each_rewritten s t [] ts e l here a = absurd (omega arith)
  each_rewritten s t (x ∷ xs) [] e l here a = absurd a
  each_rewritten s zero (x ∷ xs) (y ∷ ts) e l here a =
      let k : s ≡ j = omega arith in
      (subst (λ i. TableTracks i x ns is (with_entries f y)) (sym k) (here (subst (λ i. TableTracks i x ms hs y) k a.0)), each_other (suc s) xs ts (omega arith) a.1)
  each_rewritten s (suc t) (x ∷ xs) (y ∷ ts) e l here a =
      (other s x y (λ z. omega arith) a.0, each_rewritten (suc s) t xs ts (omega arith) (omega arith) here a.1)

pub added_opened : (xs : List Table) → total_by is_added (map open_table xs) ≡ 0
added_opened [] = refl
added_opened (x ∷ xs) = let k = added_opened xs in let n = added_olds (map stocked x.rows) (olds_stocked x.rows) in omega arith

pub hidden_opened : (xs : List Table) → total_by is_hidden (map open_table xs) ≡ 0
hidden_opened [] = refl
hidden_opened (x ∷ xs) = let k = hidden_opened xs in let n = hidden_stocked x.rows in omega arith
