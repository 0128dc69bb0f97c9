-- Laws of withdrawals and additions. Assumes nothing.
use Rattle.std.specs.Prelude.{◌≡◌, ℕ, zero, suc, ◌+◌, ◌-◌, ◌<◌, ◌≤◌, min, Bool, true, false, cond, ◌&&◌, List, [], ◌∷◌, ◌++◌, length, get_or, take, drop, ◌==◌, ◌≢◌, nat_le, nat_lt, slice_index_or, refl}
use Rattle.std.proofs.Common.{sym, ap, ◌∙◌, ⊎_elim, arith, add-one}
use Rattle.std.specs.List.{remove, AllByRecursion}
use Rattle.std.proofs.lemmas.Bool.{cases_lt, lt-ltb, le-ltb, le-leb, lt-leb, eq-eqb, ne_eqb, and_parts, and_from}
use Rattle.std.proofs.lemmas.List.{take_more, take_all, drop_all, append-nil, get_or_past, length-take-le, append_assoc, drop_more, get_or_at, length-take, take-append-drop, take_at, drop_at, length-append, get_or-take, get_or_append_left, get_or-append_right}
use Rattle.cells.specs.declared.cell.Cell.TheVariants.{Null}
use Rattle.std.proofs.lemmas.List.Edits.{length-remove, get_or-remove_below, get_or-remove_above}
use Rattle.movements.specs.Moves.{take_out, remaining, fewer, before, added_rows, added_count, Nth, one_moved, moved_from, moved}
use Rattle.stock.specs.Tables.{Table, Lawful, LawfulTable, LawfulRow, no_table, width_of, rows_of, cell_of, every, rows_at}
use Rattle.cells.specs.Cells.{Row, stored}
use Rattle.std.proofs.ByRecursion.{All-append, All-take, All-drop}
use Rattle.cells.specs.declared.cell.Cell.{Cell}
use Rattle.movements.specs.declared.moved.Added.{Added}
use Rattle.movements.specs.declared.moved.Hidden.{Hidden}

pub removed_past : {X : Type 0} (xs : List X) (p : ℕ) → length xs ≤ p → remove xs p ≡ xs
removed_past xs p h = rw (take_all p xs h, drop_all (suc p) xs (omega arith), append-nil xs)

pub length_removed_is : {X : Type 0} (xs : List X) (p : ℕ) → length (remove xs p) ≡ cond (nat_lt p (length xs)) (length xs - 1) (length xs)
length_removed_is xs p =
    ⊎_elim
    (λ l. let e = length-remove xs p l in rw (lt-ltb p (length xs) l) (omega arith))
    (λ k. rw (le-ltb p (length xs) k) (ap length (removed_past xs p k)))
    (cases_lt p (length xs))

pub get_or_removed_is : {X : Type 0} (xs : List X) (p q : ℕ) (d : X) → slice_index_or (remove xs p) q d ≡ slice_index_or xs (cond (nat_le p q) (q + 1) q) d
get_or_removed_is xs p q d =
    ⊎_elim
    (λ b. rw (lt-leb p q b) (⊎_elim (λ l. get_or-remove_below xs p d q b l) (λ k. ap (λ l. get_or l q d) (removed_past xs p k)) (cases_lt p (length xs))))
    (λ a. rw (le-leb p q a) (⊎_elim
    (λ l. get_or-remove_above xs p d q a l)
    (λ k. ap (λ l. get_or l q d) (removed_past xs p k) ∙ get_or_past xs q d (omega arith) ∙ sym (get_or_past xs (q + 1) d (omega arith)))
    (cases_lt p (length xs))))
    (cases_lt q p)

pub removed_at : {X : Type 0} (a : List X) (x : X) (b : List X) (k : ℕ) → length a ≡ k → remove (a ++ x ∷ b) k ≡ a ++ b
removed_at a x b k e =
    let l : length (a ++ x ∷ []) ≡ suc k = simp length-append (omega arith) in
    ap (λ y. y ++ drop (suc k) (a ++ x ∷ b)) (take_at a (x ∷ b) k e) ∙ ap (λ y. a ++ y) (ap (drop (suc k)) (sym (append_assoc a (x ∷ []) b)) ∙ drop_at (a ++ x ∷ []) b (suc k) l)

module _ (t : ℕ) where
  pub length_take_out : (h : Hidden) (rs : List Row) → length (take_out t h rs) ≡ fewer t h (length rs)
  length_take_out h rs =
      elim (h.table == t) as (λ b. length (cond b (remove rs h.place) rs) ≡ cond (b && nat_lt h.place (length rs)) (length rs - 1) (length rs))
      [ true ↦ length_removed_is rs h.place | false ↦ refl ]

  pub get_or_take_out : (h : Hidden) (rs : List Row) (q : ℕ) (d : Row) → slice_index_or (take_out t h rs) q d ≡ slice_index_or rs (before t h q) d
  get_or_take_out h rs q d =
      elim (h.table == t) as (λ b. slice_index_or (cond b (remove rs h.place) rs) q d ≡ slice_index_or rs (cond (b && nat_le h.place q) (q + 1) q) d)
      [ true ↦ get_or_removed_is rs h.place q d | false ↦ refl ]

  pub remaining_append : (a b : List Hidden) (rs : List Row) → remaining t (a ++ b) rs ≡ remaining t b (remaining t a rs)
  remaining_append [] b rs = refl
  remaining_append (h ∷ a) b rs = remaining_append a b (take_out t h rs)

  pub remaining_more : (hs : List Hidden) (i : ℕ) (h : Hidden) (rs : List Row) → i < length hs → h ≡ slice_index_or hs i h → remaining t (take (i + 1) hs) rs ≡ take_out t h (remaining t (take i hs) rs)
  remaining_more hs i h rs l e =
      ap (λ x. remaining t x rs) (take_more hs i h l) ∙ remaining_append (take i hs) (slice_index_or hs i h ∷ []) rs ∙ ap (λ x. take_out t x (remaining t (take i hs) rs)) (sym e)

  pub added_count_append : (a b : List Added) → added_count t (a ++ b) ≡ added_count t a + added_count t b
  added_count_append [] b = omega arith
  added_count_append (m ∷ a) b =
      let e = added_count_append a b in
      elim (m.table == t) as (λ v. cond v (suc (added_count t (a ++ b))) (added_count t (a ++ b)) ≡ cond v (suc (added_count t a)) (added_count t a) + added_count t b)
      [ true ↦ omega arith | false ↦ e ]

  pub added_count_more : (ms : List Added) (i : ℕ) (m : Added) → i < length ms → m ≡ slice_index_or ms i m → added_count t (take (i + 1) ms) ≡ added_count t (take i ms) + cond (m.table == t) 1 0
  added_count_more ms i m l e =
      ap (added_count t) (take_more ms i m l) ∙ added_count_append (take i ms) (slice_index_or ms i m ∷ []) ∙ ap (λ x. added_count t (take i ms) + cond (x.table == t) 1 0) (sym e)

pub take_whole : {X : Type 0} (i n : ℕ) (xs : List X) → n ≤ length xs → n ≤ i → take i (take n xs) ≡ take n xs
take_whole i n xs l h = let e = length-take-le n xs l in take_all i (take n xs) (omega arith)

pub before_small : (t : ℕ) (h : Hidden) (q : ℕ) → before t h q ≤ q + 1
before_small t h q = elim (h.table == t && nat_le h.place q) as (λ b. cond b (q + 1) q ≤ q + 1) [ true ↦ omega arith | false ↦ omega arith ]

module _ (t w : ℕ) where
  pub added_rows_append : (a b : List Added) → added_rows t w (a ++ b) ≡ added_rows t w a ++ added_rows t w b
  added_rows_append [] b = refl
  added_rows_append (m ∷ a) b =
      let e = added_rows_append a b in
      elim (m.table == t) as (λ v. cond v (take w m.row ∷ added_rows t w (a ++ b)) (added_rows t w (a ++ b)) ≡ cond v (take w m.row ∷ added_rows t w a) (added_rows t w a) ++ added_rows t w b)
      [ true ↦ ap (λ x. take w m.row ∷ x) e | false ↦ e ]

  pub length_added_rows : (ms : List Added) → length (added_rows t w ms) ≡ added_count t ms
  length_added_rows [] = refl
  length_added_rows (m ∷ ms) =
      let e = length_added_rows ms in
      elim (m.table == t) as (λ v. length (cond v (take w m.row ∷ added_rows t w ms) (added_rows t w ms)) ≡ cond v (suc (added_count t ms)) (added_count t ms))
      [ true ↦ ap suc e | false ↦ e ]

  pub added_rows_one : (m : Added) → m.table ≡ t → added_rows t w (m ∷ []) ≡ take w m.row ∷ []
  added_rows_one m e = rw (eq-eqb m.table t e)

  pub added_rows_other : (m : Added) → (m.table ≢ t) → added_rows t w (m ∷ []) ≡ []
  added_rows_other m n = rw (ne_eqb m.table t n)

  pub split_at : (ms : List Added) (i : ℕ) (d : Added) → i < length ms → ms ≡ take i ms ++ (slice_index_or ms i d ∷ []) ++ drop (i + 1) ms
  split_at ms i d l = sym (append_assoc (take i ms) (slice_index_or ms i d ∷ []) (drop (i + 1) ms) ∙ ap (λ x. take i ms ++ x) (sym (drop_more ms i d l)) ∙ take-append-drop i ms)

  pub nth_split : (ms : List Added) (k i : ℕ) (d : Added) → Nth t k ms i → added_rows t w ms ≡ added_rows t w (take i ms) ++ take w (get_or ms i d).row ∷ added_rows t w (drop (i + 1) ms)
  nth_split ms k i d n =
      ap (added_rows t w) (split_at ms i d n.within) ∙ added_rows_append (take i ms ++ (slice_index_or ms i d ∷ [])) (drop (i + 1) ms)
      ∙ ap (λ x. x ++ added_rows t w (drop (i + 1) ms)) (added_rows_append (take i ms) (slice_index_or ms i d ∷ []) ∙ ap (λ x. added_rows t w (take i ms) ++ x) (added_rows_one (slice_index_or ms i d) (n.here d)))
      ∙ append_assoc (added_rows t w (take i ms)) (take w (get_or ms i d).row ∷ []) (added_rows t w (drop (i + 1) ms))

  pub nth_added : (ms : List Added) (k i : ℕ) (d : Added) → Nth t k ms i → slice_index_or (added_rows t w ms) k [] ≡ take w (get_or ms i d).row
  nth_added ms k i d n =
      ap (λ x. get_or x k []) (nth_split ms k i d n) ∙ get_or_at (added_rows t w (take i ms)) (take w (get_or ms i d).row) (added_rows t w (drop (i + 1) ms)) [] k (length_added_rows (take i ms) ∙ n.past)

  pub added_rows_removed : (ms : List Added) (k i : ℕ) (d : Added) → Nth t k ms i → added_rows t w (remove ms i) ≡ remove (added_rows t w ms) k
  added_rows_removed ms k i d n =
      added_rows_append (take i ms) (drop (suc i) ms)
      ∙ sym (ap (λ x. remove x k) (nth_split ms k i d n) ∙ removed_at (added_rows t w (take i ms)) (take w (get_or ms i d).row) (added_rows t w (drop (i + 1) ms)) k (length_added_rows (take i ms) ∙ n.past)
      ∙ ap (λ j. added_rows t w (take i ms) ++ added_rows t w (drop j ms)) (add-one i))

pub added_count_le : (t : ℕ) (ms : List Added) → added_count t ms ≤ length ms
added_count_le t [] = omega arith
added_count_le t (m ∷ ms) =
    let e = added_count_le t ms in
    elim (m.table == t) as (λ v. cond v (suc (added_count t ms)) (added_count t ms) ≤ suc (length ms)) [ true ↦ omega arith | false ↦ omega arith ]

pub length_remaining_le : (t : ℕ) (hs : List Hidden) (rs : List Row) → length (remaining t hs rs) ≤ length rs
length_remaining_le t [] rs = omega arith
length_remaining_le t (h ∷ hs) rs =
    let e = length_remaining_le t hs (take_out t h rs) in
    let l = length_take_out t h rs in
    let f : fewer t h (length rs) ≤ length rs = elim (h.table == t && nat_lt h.place (length rs)) as (λ b. cond b (length rs - 1) (length rs) ≤ length rs) [ true ↦ omega arith | false ↦ omega arith ] in
    omega arith

pub cons_both : {X : Type 0} {x y : X} {xs ys : List X} → x ≡ y → xs ≡ ys → x ∷ xs ≡ y ∷ ys
cons_both {y = y} {xs = xs} p q = ap (λ z. z ∷ xs) p ∙ ap (λ z. y ∷ z) q

abbrev pub table_of : ℕ → List Row → Table
table_of w rs = record { width = w; rows = rs }

-- the list of tables under movements
pub length_moved_from : (s : ℕ) (ms : List Added) (hs : List Hidden) (ts : List Table) → length (moved_from s ms hs ts) ≡ length ts
length_moved_from s ms hs [] = refl
length_moved_from s ms hs (x ∷ ts) = ap suc (length_moved_from (suc s) ms hs ts)

pub length_moved : (ms : List Added) (hs : List Hidden) (ts : List Table) → length (moved ms hs ts) ≡ length ts
length_moved ms hs ts = length_moved_from 0 ms hs ts

pub get_or_moved_from : (s t j : ℕ) (ms : List Added) (hs : List Hidden) (ts : List Table) → s + t ≡ j → t < length ts → slice_index_or (moved_from s ms hs ts) t no_table ≡ one_moved j ms hs (slice_index_or ts t no_table)
get_or_moved_from s t j ms hs [] e l = absurd (omega arith)
get_or_moved_from s zero j ms hs (x ∷ ts) e l = let k : s ≡ j = omega arith in ap (λ n. one_moved n ms hs x) k
get_or_moved_from s (suc t) j ms hs (x ∷ ts) e l = get_or_moved_from (suc s) t j ms hs ts (omega arith) (omega arith)

pub get_or_moved : (t : ℕ) (ms : List Added) (hs : List Hidden) (ts : List Table) → t < length ts → slice_index_or (moved ms hs ts) t no_table ≡ one_moved t ms hs (slice_index_or ts t no_table)
get_or_moved t ms hs ts l = get_or_moved_from 0 t t ms hs ts (omega arith) l

pub get_or_moved_past : (t : ℕ) (ms : List Added) (hs : List Hidden) (ts : List Table) → length ts ≤ t → slice_index_or (moved ms hs ts) t no_table ≡ no_table
get_or_moved_past t ms hs ts l = let e = length_moved ms hs ts in get_or_past (moved ms hs ts) t no_table (omega arith)

all_remaining : (P : List Cell → Type 0) (t : ℕ) (hs : List Hidden) (rs : List Row) → AllByRecursion P rs → AllByRecursion P (remaining t hs rs)
all_remaining P t [] rs a = a
all_remaining P t (h ∷ hs) rs a =
    all_remaining P t hs (take_out t h rs)
    (elim (h.table == t) as (λ b. AllByRecursion P (cond b (remove rs h.place) rs))
    [ true ↦ All-append P (take h.place rs) (drop (suc h.place) rs) (All-take P h.place rs a) (All-drop P (suc h.place) rs a) | false ↦ a ])

every_take : {X : Type 0} (test : X → Bool) (n : ℕ) (xs : List X) → every test xs ≡ true → every test (take n xs) ≡ true
every_take test zero xs e = refl
every_take test (suc n) [] e = refl
every_take test (suc n) (x ∷ xs) e =
    let p = and_parts (test x) (every test xs) e in and_from (test x) (every test (take n xs)) p.0 (every_take test n xs p.1)

pub lawful_added : (w : ℕ) (m : Added) → w ≤ 8 → LawfulRow w (take w m.row)
lawful_added w m l = record { long = length-take-le w m.row (let e = m.long in omega arith); stored = every_take stored w m.row m.numbers }

all_added : (t w : ℕ) (ms : List Added) → w ≤ 8 → AllByRecursion (LawfulRow w) (added_rows t w ms)
all_added t w [] l = tt
all_added t w (m ∷ ms) l =
    let e = all_added t w ms l in
    elim (m.table == t) as (λ b. AllByRecursion (LawfulRow w) (cond b (take w m.row ∷ added_rows t w ms) (added_rows t w ms)))
    [ true ↦ (lawful_added w m l, e) | false ↦ e ]

lawful_moved_one : (t : ℕ) (ms : List Added) (hs : List Hidden) (x : Table) → LawfulTable x → LawfulTable (one_moved t ms hs x)
lawful_moved_one t ms hs x g = record {
  least = g.least;
  most = g.most;
  few = simp length-take (omega arith);
  each = All-take (LawfulRow x.width) 65535 (remaining t hs x.rows ++ added_rows t x.width ms)
      (All-append (LawfulRow x.width) (remaining t hs x.rows) (added_rows t x.width ms) (all_remaining (LawfulRow x.width) t hs x.rows g.each) (all_added t x.width ms g.most));
}

lawful_moved_from : (s : ℕ) (ms : List Added) (hs : List Hidden) (ts : List Table) → AllByRecursion LawfulTable ts → AllByRecursion LawfulTable (moved_from s ms hs ts)
lawful_moved_from s ms hs [] a = tt
lawful_moved_from s ms hs (x ∷ ts) a = (lawful_moved_one s ms hs x a.0, lawful_moved_from (suc s) ms hs ts a.1)

pub moved_lawful : (ms : List Added) (hs : List Hidden) (ts : List Table) → Lawful ts → Lawful (moved ms hs ts)
moved_lawful ms hs ts g = record { few = let e = length_moved ms hs ts in let f = g.few in omega arith; each = lawful_moved_from 0 ms hs ts g.each }

pub added_rows_short : (t w : ℕ) (ms : List Added) (k : ℕ) → length (slice_index_or (added_rows t w ms) k []) ≤ w
added_rows_short t w [] k = omega arith
added_rows_short t w (m ∷ ms) k =
    let e : (j : ℕ) → length (slice_index_or (added_rows t w ms) j []) ≤ w = added_rows_short t w ms in
    elim (m.table == t) as (λ b. length (slice_index_or (cond b (take w m.row ∷ added_rows t w ms) (added_rows t w ms)) k []) ≤ w)
    [ true ↦ first k e | false ↦ e k ]
  where
    first : (k : ℕ) → ((j : ℕ) → length (slice_index_or (added_rows t w ms) j []) ≤ w) → length (slice_index_or (take w m.row ∷ added_rows t w ms) k []) ≤ w
    first zero e = simp length-take (omega arith)
    first (suc k) e = e k

module _ (t : ℕ) (ms : List Added) (hs : List Hidden) (ts : List Table) where
  pub width_moved : width_of (moved ms hs ts) t ≡ width_of ts t
  width_moved =
      ⊎_elim
      (λ l. ap (λ (x : Table). x.width) (get_or_moved t ms hs ts l))
      (λ k. ap (λ (x : Table). x.width) (get_or_moved_past t ms hs ts k ∙ sym (get_or_past ts t no_table k)))
      (cases_lt t (length ts))

  pub rows_moved : t < length ts → rows_of (moved ms hs ts) t ≡ min 65535 (length (remaining t hs (rows_at ts t)) + added_count t ms)
  rows_moved l = ap (λ (x : Table). length x.rows) (get_or_moved t ms hs ts l) ∙ length-take 65535 (remaining t hs (rows_at ts t) ++ added_rows t (width_of ts t) ms) ∙ ap (min 65535) (length-append (remaining t hs (rows_at ts t)) (added_rows t (width_of ts t) ms) ∙ ap (λ n. length (remaining t hs (rows_at ts t)) + n) (length_added_rows t (width_of ts t) ms))

  pub rows_moved_past : length ts ≤ t → rows_of (moved ms hs ts) t ≡ 0
  rows_moved_past l = ap (λ (x : Table). length x.rows) (get_or_moved_past t ms hs ts l)

module _ (t p c : ℕ) (ms : List Added) (hs : List Hidden) (ts : List Table) where
  pub cell_moved_past : length ts ≤ t → cell_of (moved ms hs ts) t p c ≡ Null
  cell_moved_past l = ap (λ (x : Table). get_or (slice_index_or x.rows p []) c Null) (get_or_moved_past t ms hs ts l)

  pub cell_moved_over : 65535 ≤ p → t < length ts → cell_of (moved ms hs ts) t p c ≡ Null
  cell_moved_over h l = ap (λ (x : Table). get_or (slice_index_or x.rows p []) c Null) (get_or_moved t ms hs ts l) ∙ ap (λ r. get_or r c Null) (get_or_past (take 65535 (remaining t hs (rows_at ts t) ++ added_rows t (width_of ts t) ms)) p [] (simp length-take (omega arith)))

  pub cell_moved_first : t < length ts → p < 65535 → p < length (remaining t hs (rows_at ts t)) → cell_of (moved ms hs ts) t p c ≡ slice_index_or (slice_index_or (remaining t hs (rows_at ts t)) p []) c Null
  cell_moved_first l h k =
      ap (λ (x : Table). get_or (slice_index_or x.rows p []) c Null) (get_or_moved t ms hs ts l)
      ∙ ap (λ r. get_or r c Null) (get_or-take 65535 (remaining t hs (rows_at ts t) ++ added_rows t (width_of ts t) ms) p [] h ∙ get_or_append_left (remaining t hs (rows_at ts t)) (added_rows t (width_of ts t) ms) [] p k)

  pub cell_moved_second : t < length ts → p < 65535 → length (remaining t hs (rows_at ts t)) ≤ p → cell_of (moved ms hs ts) t p c ≡ slice_index_or (slice_index_or (added_rows t (width_of ts t) ms) (p - length (remaining t hs (rows_at ts t))) []) c Null
  cell_moved_second l h k =
      ap (λ (x : Table). get_or (slice_index_or x.rows p []) c Null) (get_or_moved t ms hs ts l)
      ∙ ap (λ r. get_or r c Null) (get_or-take 65535 (remaining t hs (rows_at ts t) ++ added_rows t (width_of ts t) ms) p [] h ∙ get_or-append_right (remaining t hs (rows_at ts t)) (added_rows t (width_of ts t) ms) (length (remaining t hs (rows_at ts t))) p [] refl k)
