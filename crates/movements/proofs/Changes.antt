-- What one movement more changes of the tables that a layer shows.
use Rattle.std.proofs.Common.{◌≡◌, ℕ, zero, suc, ◌+◌, ◌-◌, ◌<◌, ◌≤◌, List, [], ◌∷◌, ◌++◌, length, get_or, take, drop, sym, refl, ap, ◌∙◌, subst, ⊎_elim, add-one, arith, length-append}
use Rattle.std.specs.List.{remove, AllByRecursion}
use Rattle.std.proofs.lemmas.List.Edits.{length-remove}
use Rattle.std.proofs.lemmas.List.{append-nil, append_assoc, take_all, length-take}
use Rattle.std.proofs.lemmas.Bool.{ne_eqb, eq-eqb, cases_eq}
use Rattle.cells.specs.Cells.{Row}
use Rattle.cells.specs.declared.cell.Cell.TheVariants.{Null}
use Rattle.stock.specs.Tables.{Table, Lawful, LawfulTable, no_table, width_of, rows_at}
use Rattle.movements.specs.Moves.{take_out, remaining, added_rows, added_count, Nth, one_moved, moved_from, moved, change_rows, with_row, without_row}
use Rattle.movements.specs.Moving.{cons_both, table_of, remaining_append, added_rows_append, added_rows_one, added_rows_other, added_rows_removed, split_at, length_added_rows, added_count_append}
use Rattle.movements.specs.declared.moved.Added.{Added}
use Rattle.movements.specs.declared.moved.Hidden.{Hidden}

-- without movements a layer shows the tables below
unmoved_from : (s : ℕ) (ts : List Table) → AllByRecursion LawfulTable ts → moved_from s [] [] ts ≡ ts
unmoved_from s [] a = refl
unmoved_from s (x ∷ ts) a =
    cons_both (ap (table_of x.width) (ap (take 65535) (append-nil x.rows) ∙ take_all 65535 x.rows a.0.few)) (unmoved_from (suc s) ts a.1)

pub unmoved : (ts : List Table) → Lawful ts → moved [] [] ts ≡ ts
unmoved ts g = unmoved_from 0 ts g.each

-- a movement of table `at` that changes its rows by f, and no other table
module _ (ms ns : List Added) (hs is : List Hidden) (f : List Row → List Row) (at : ℕ)
    (other : (s : ℕ) (x : Table) → (at ≡ s → ⊥) → one_moved s ns is x ≡ one_moved s ms hs x) where
  past : (s : ℕ) (ts : List Table) → at < s → moved_from s ns is ts ≡ moved_from s ms hs ts
  past s [] l = refl
  past s (x ∷ ts) l = cons_both (other s x (λ e. omega arith)) (past (suc s) ts (omega arith))

  changed_from : (s t : ℕ) (ts : List Table) → at ≡ s + t → t < length ts
      → one_moved at ns is (get_or ts t no_table) ≡ table_of (width_of ts t) (f (one_moved at ms hs (get_or ts t no_table)).rows)
      → moved_from s ns is ts ≡ change_rows f (moved_from s ms hs ts) t
  changed_from s t [] e l h = absurd (omega arith)
  changed_from s zero (x ∷ ts) e l h =
      let z : at ≡ s = omega arith in
      cons_both (subst (λ k. one_moved k ns is x ≡ table_of x.width (f (one_moved k ms hs x).rows)) z h) (past (suc s) ts (omega arith))
  changed_from s (suc t) (x ∷ ts) e l h = cons_both (other s x (λ d. omega arith)) (changed_from (suc s) t ts (omega arith) (omega arith) h)

  pub changed : (ts : List Table) → at < length ts
      → one_moved at ns is (get_or ts at no_table) ≡ table_of (width_of ts at) (f (one_moved at ms hs (get_or ts at no_table)).rows)
      → moved ns is ts ≡ change_rows f (moved ms hs ts) at
  changed ts l h = changed_from 0 at ts (omega arith) l h

-- removal from two lists joined
pub removed_left : {X : Type 0} (a b : List X) (p : ℕ) → p < length a → remove (a ++ b) p ≡ remove a p ++ b
removed_left [] b p l = absurd (omega arith)
removed_left (x ∷ a) b zero l = refl
removed_left (x ∷ a) b (suc p) l = ap (λ y. x ∷ y) (removed_left a b p (omega arith))

pub removed_right : {X : Type 0} (a b : List X) (p : ℕ) → length a ≤ p → remove (a ++ b) p ≡ a ++ remove b (p - length a)
removed_right [] b p l = let z : p ≡ p - 0 = omega arith in ap (remove b) z
removed_right (x ∷ a) b zero l = absurd (omega arith)
removed_right (x ∷ a) b (suc p) l = let z : p - length a ≡ suc p - suc (length a) = omega arith in ap (λ y. x ∷ y) (removed_right a b p (omega arith) ∙ ap (λ k. a ++ remove b k) z)

length_removed_le : {X : Type 0} (xs : List X) (p : ℕ) → p < length xs → length (remove xs p) ≤ length xs
length_removed_le xs p l = let e = length-remove xs p l in omega arith

-- a row removed from rows of which none is cut off
cut_removed : (xs : List Row) (p : ℕ) → length xs ≤ 65535 → p < length xs → take 65535 (remove xs p) ≡ remove (take 65535 xs) p
cut_removed xs p l h = let k = length_removed_le xs p h in take_all 65535 (remove xs p) (omega arith) ∙ ap (λ y. remove y p) (sym (take_all 65535 xs l))

-- one row more
module _ (ms : List Added) (m : Added) (hs : List Hidden) where
  add_other : (s : ℕ) (x : Table) → (m.table ≡ s → ⊥) → one_moved s (ms ++ m ∷ []) hs x ≡ one_moved s ms hs x
  add_other s x n =
      ap (λ y. table_of x.width (take 65535 (remaining s hs x.rows ++ y)))
      (added_rows_append s x.width ms (m ∷ []) ∙ ap (λ y. added_rows s x.width ms ++ y) (added_rows_other s x.width m n) ∙ append-nil (added_rows s x.width ms))

  add_here : (s : ℕ) (x : Table) (row : Row) → m.table ≡ s → take x.width m.row ≡ row → length (one_moved s ms hs x).rows < 65535
      → one_moved s (ms ++ m ∷ []) hs x ≡ table_of x.width ((one_moved s ms hs x).rows ++ row ∷ [])
  add_here s x row e r l =
      let old = remaining s hs x.rows ++ added_rows s x.width ms in
      let k : length old < 65535 = let z = length-take 65535 old in omega arith in
      let whole : take 65535 old ≡ old = take_all 65535 old (omega arith) in
      let p : added_rows s x.width (ms ++ m ∷ []) ≡ added_rows s x.width ms ++ row ∷ [] =
      added_rows_append s x.width ms (m ∷ []) ∙ ap (λ y. added_rows s x.width ms ++ y) (added_rows_one s x.width m e ∙ ap (λ y. y ∷ []) r) in
      ap (table_of x.width)
      (ap (λ y. take 65535 (remaining s hs x.rows ++ y)) p
      ∙ ap (take 65535) (sym (append_assoc (remaining s hs x.rows) (added_rows s x.width ms) (row ∷ [])))
      ∙ take_all 65535 (old ++ row ∷ []) (simp length-append (let z = length-append (remaining s hs x.rows) (added_rows s x.width ms) in omega arith))
      ∙ ap (λ y. y ++ row ∷ []) (sym whole))

  pub added_shows : (t : ℕ) (ts : List Table) (row : Row) → m.table ≡ t → t < length ts → take (width_of ts t) m.row ≡ row → length (one_moved t ms hs (get_or ts t no_table)).rows < 65535
      → moved (ms ++ m ∷ []) hs ts ≡ with_row (moved ms hs ts) t row
  added_shows t ts row e l r f =
      changed ms (ms ++ m ∷ []) hs hs (λ rs. rs ++ row ∷ []) t (λ s x n. add_other s x (λ d. n (sym e ∙ d))) ts l (add_here t (get_or ts t no_table) row e r f)

-- one row below hidden
module _ (ms : List Added) (hs : List Hidden) (h : Hidden) where
  hide_rows : (s : ℕ) (rs : List Row) → remaining s (hs ++ h ∷ []) rs ≡ take_out s h (remaining s hs rs)
  hide_rows s rs = remaining_append s hs (h ∷ []) rs

  hide_other : (s : ℕ) (x : Table) → (h.table ≡ s → ⊥) → one_moved s ms (hs ++ h ∷ []) x ≡ one_moved s ms hs x
  hide_other s x n =
      ap (λ y. table_of x.width (take 65535 (y ++ added_rows s x.width ms))) (hide_rows s x.rows ∙ rw (ne_eqb h.table s n))

  pub hide_same : (s : ℕ) (rs : List Row) → h.table ≡ s → remaining s (hs ++ h ∷ []) rs ≡ remove (remaining s hs rs) h.place
  hide_same s rs e = hide_rows s rs ∙ rw (eq-eqb h.table s e)

  hide_here : (s : ℕ) (x : Table) (p : ℕ) → h.table ≡ s → h.place ≡ p → p < length (remaining s hs x.rows)
      → length (remaining s hs x.rows) + added_count s ms ≤ 65535
      → one_moved s ms (hs ++ h ∷ []) x ≡ table_of x.width (remove (one_moved s ms hs x).rows p)
  hide_here s x p e q l few =
      let a = remaining s hs x.rows in
      let b = added_rows s x.width ms in
      let n = length-append a b in
      let k = length_added_rows s x.width ms in
      ap (table_of x.width)
      (ap (λ y. take 65535 (y ++ b)) (hide_same s x.rows e ∙ ap (remove a) q)
      ∙ ap (take 65535) (sym (removed_left a b p l))
      ∙ cut_removed (a ++ b) p (omega arith) (omega arith))

  pub hidden_shows : (t p : ℕ) (ts : List Table) → h.table ≡ t → h.place ≡ p → t < length ts → p < length (remaining t hs (rows_at ts t))
      → length (remaining t hs (rows_at ts t)) + added_count t ms ≤ 65535
      → moved ms (hs ++ h ∷ []) ts ≡ without_row (moved ms hs ts) t p
  hidden_shows t p ts e q l b few =
      changed ms ms hs (hs ++ h ∷ []) (λ rs. remove rs p) t (λ s x n. hide_other s x (λ d. n (sym e ∙ d))) ts l (hide_here t (get_or ts t no_table) p e q b few)

  hidden_fewer : (t : ℕ) (rs : List Row) → length (remaining t (hs ++ h ∷ []) rs) ≤ length (remaining t hs rs)
  hidden_fewer t rs =
      ⊎_elim
      (λ e. let z = ap length (hide_same t rs e) in let k = shorter (remaining t hs rs) h.place in omega arith)
      (λ n. let z = ap length (hide_rows t rs ∙ still n) in omega arith)
      (cases_eq h.table t)
    where
      still : (h.table ≡ t → ⊥) → take_out t h (remaining t hs rs) ≡ remaining t hs rs
      still n = rw (ne_eqb h.table t n)

      shorter : (xs : List Row) (p : ℕ) → length (remove xs p) ≤ length xs
      shorter [] zero = omega arith
      shorter [] (suc p) = omega arith
      shorter (x ∷ xs) zero = omega arith
      shorter (x ∷ xs) (suc p) = let k = shorter xs p in omega arith

  pub hidden_room : (t : ℕ) (rs : List Row) → length (remaining t hs rs) + added_count t ms ≤ 65535 → length (remaining t (hs ++ h ∷ []) rs) + added_count t ms ≤ 65535
  hidden_room t rs few = let k = hidden_fewer t rs in omega arith

-- one added row struck out
any_row : Added
any_row = record { table = 0; row = Null ∷ Null ∷ Null ∷ Null ∷ Null ∷ Null ∷ Null ∷ Null ∷ []; long = refl; numbers = refl }

module _ (ms : List Added) (hs : List Hidden) (t k i : ℕ) (n : Nth t k ms i) where
  d : Added
  d = any_row

  strike_rows : (s w : ℕ) → (t ≡ s → ⊥) → added_rows s w (remove ms i) ≡ added_rows s w ms
  strike_rows s w ne =
      added_rows_append s w (take i ms) (drop (suc i) ms)
      ∙ ap (λ y. added_rows s w (take i ms) ++ y) (sym (added_rows_append s w (get_or ms i d ∷ []) (drop (suc i) ms) ∙ ap (λ y. y ++ added_rows s w (drop (suc i) ms)) (added_rows_other s w (get_or ms i d) (λ e. ne (sym (n.here d) ∙ e)))))
      ∙ sym (ap (added_rows s w) (split_at s w ms i d n.within ∙ append_assoc (take i ms) (get_or ms i d ∷ []) (drop (i + 1) ms))
      ∙ added_rows_append s w (take i ms) ((get_or ms i d ∷ []) ++ drop (i + 1) ms)
      ∙ ap (λ j. added_rows s w (take i ms) ++ added_rows s w ((get_or ms i d ∷ []) ++ drop j ms)) (add-one i))

  strike_other : (s : ℕ) (x : Table) → (t ≡ s → ⊥) → one_moved s (remove ms i) hs x ≡ one_moved s ms hs x
  strike_other s x ne = ap (λ y. table_of x.width (take 65535 (remaining s hs x.rows ++ y))) (strike_rows s x.width ne)

  strike_here : (x : Table) (p : ℕ) → length (remaining t hs x.rows) ≤ p → p - length (remaining t hs x.rows) ≡ k → p < length (remaining t hs x.rows) + added_count t ms
      → length (remaining t hs x.rows) + added_count t ms ≤ 65535
      → one_moved t (remove ms i) hs x ≡ table_of x.width (remove (one_moved t ms hs x).rows p)
  strike_here x p l e b few =
      let a = remaining t hs x.rows in
      let c = added_rows t x.width ms in
      let z = length-append a c in
      let y = length_added_rows t x.width ms in
      ap (table_of x.width)
      (ap (λ y. take 65535 (a ++ y)) (added_rows_removed t x.width ms k i d n ∙ ap (remove c) (sym e))
      ∙ ap (take 65535) (sym (removed_right a c p l))
      ∙ cut_removed (a ++ c) p (omega arith) (omega arith))

  pub struck_shows : (p : ℕ) (ts : List Table) → t < length ts → length (remaining t hs (rows_at ts t)) ≤ p → p - length (remaining t hs (rows_at ts t)) ≡ k
      → p < length (remaining t hs (rows_at ts t)) + added_count t ms → length (remaining t hs (rows_at ts t)) + added_count t ms ≤ 65535
      → moved (remove ms i) hs ts ≡ without_row (moved ms hs ts) t p
  struck_shows p ts l a e b few =
      changed ms (remove ms i) hs hs (λ rs. remove rs p) t (λ s x ne. strike_other s x ne) ts l (strike_here (get_or ts t no_table) p a e b few)

  struck_fewer : (s : ℕ) → added_count s (remove ms i) ≤ added_count s ms
  struck_fewer s =
      let a = ap (added_count s) (split_at s 0 ms i d n.within) in
      let b = added_count_append s (take i ms ++ (get_or ms i d ∷ [])) (drop (i + 1) ms) in
      let c = added_count_append s (take i ms) (get_or ms i d ∷ []) in
      let e = added_count_append s (take i ms) (drop (suc i) ms) in
      let z = ap (λ j. added_count s (drop j ms)) (add-one i) in
      omega arith

  pub struck_room : (s m : ℕ) → m + added_count s ms ≤ 65535 → m + added_count s (remove ms i) ≤ 65535
  struck_room s m few = let e = struck_fewer s in omega arith

-- the rows that a table then shows
pub rows_changed : (f : List Row → List Row) (ts : List Table) (t : ℕ) → t < length ts → rows_at (change_rows f ts t) t ≡ f (rows_at ts t)
rows_changed f [] t l = absurd (omega arith)
rows_changed f (x ∷ ts) zero l = refl
rows_changed f (x ∷ ts) (suc t) l = rows_changed f ts t (omega arith)
