-- What each movement makes of the parts of a layer, it makes of the model's tables.
use Rattle.std.proofs.Common.{◌≡◌, ℕ, ◌+◌, ◌-◌, ◌<◌, ◌≤◌, cond, ◌&&◌, ltb, List, [], ◌∷◌, ◌++◌, map, length, get_or, Some, None, Option, sym, ap, ◌∙◌, subst, ⊎_elim, arith}
use Rattle.std.specs.List.{remove}
use Rattle.std.proofs.lemmas.List.Edits.{length-remove}
use Rattle.std.proofs.lemmas.List.{length_push, length-take-le}
use Rattle.std.proofs.lemmas.Bool.{cases_lt, cases_Bool, ltb-true, lt-ltb, le-ltb, cond-true, cond-false}
use Rattle.cells.specs.Cells.{Row}
use Rattle.stock.specs.Tables.{Table, no_table, width_of, rows_at, rows_of}
use Rattle.stock.specs.declared.refusal.Refusal.{Refusal}
use Rattle.stock.specs.declared.refusal.Refusal.TheVariants.{NotShown, NoRoom, BadRow}
use Rattle.movements.specs.Moves.{remaining, added_rows, added_count, moved, Nth, row_fault, add_cause, withdraw_cause}
use Rattle.movements.specs.Moving.{length_moved, rows_moved, rows_moved_past, length_added_rows}
use Rattle.movements.specs.Shown.{items_of, Put, Taken}
use Rattle.movements.specs.Shown.Taken.{below, own}
use Rattle.movements.specs.declared.bounded.Bounded.{Bounded}
use Rattle.movements.specs.declared.moved.Added.{Added}
use Rattle.movements.specs.declared.moved.Hidden.{Hidden}
use Rattle.session.specs.Model.{Entry, added, ModelTable, shown_rows, shown_tables, open_table, take_entry, added_at, is_added, is_hidden, count_by, added_in, hidden_in, entries_at, no_entries, with_added, with_taken, cleared}
use Rattle.session.specs.Requests.{add_refusal, withdraw_refusal}
use Rattle.session.specs.Tracks.{TableTracks, PartsTrack}
use Rattle.session.proofs.Entries.{count_append, added_olds, added_added, hidden_added, total_rewritten, hidden_take_entry, take_entry_front, take_entry_own, added_at_front, added_at_own, olds_take_entry}
use Rattle.session.proofs.Tables.{each_open, each_shows, each_restored, each_length, each_at, each_rewritten, add_other, add_here, hide_other, hide_here, strike_here, strike_other, added_opened, hidden_opened}

pub count_of : {X : Type 0} {n : ℕ} (b : Bounded X n) → length (items_of b) ≡ b.count
count_of b = let s = b.small in let l = b.long in length-take-le b.count b.items (omega arith)

-- no table is cut off, by added rows ms and withdrawals hs over the tables xs
abbrev pub Whole : List Table → List Added → List Hidden → Type 0
Whole xs ms hs = (t : ℕ) → length (remaining t hs (rows_at xs t)) + added_count t ms ≤ 65535

pub parts_open : (xs : List Table) → Whole xs [] [] → PartsTrack xs [] [] (map open_table xs)
parts_open xs w = record { each = each_open 0 xs; count_added = added_opened xs; count_hidden = hidden_opened xs; uncut = w }

any_of : {X : Type 0} (xs : List X) (i : ℕ) → i < length xs → X
any_of [] i l = absurd (omega arith)
any_of (x ∷ xs) i l = x

-- a row is added to a table that is shown
in_tables : (ts : List Table) (n t : ℕ) (row : Row) → add_cause ts n t row ≡ None → t < length ts
in_tables ts n t row e =
    let rest : Option Refusal = elim (row_fault (width_of ts t) row) [ Some k ↦ Some (BadRow k) | None ↦ cond (ltb n 64 && ltb (rows_of ts t) 65535) None (Some NoRoom) ] in
    ⊎_elim
    (λ y. ltb-true t (length ts) y)
    (λ z. let k = cond-false (ltb t (length ts)) rest (Some NotShown) z in cc)
    (cases_Bool (ltb t (length ts)))

module _ (xs : List Table) (ms : List Added) (hs : List Hidden) (ts : List ModelTable) (p : PartsTrack xs ms hs ts) where
  pub parts_show : shown_tables ts ≡ moved ms hs xs
  parts_show = each_shows ms hs 0 xs ts (λ t j e. subst (λ i. length (remaining i hs (rows_at xs t)) + added_count i ms ≤ 65535) (let z : t ≡ j = omega arith in z) (p.uncut t)) p.each

  pub parts_cleared : cleared ts ≡ map open_table xs
  parts_cleared = each_restored ms hs 0 xs ts p.each

  pub add_refusal_is : (t : ℕ) (row : Row) → add_refusal ts t row ≡ add_cause (moved ms hs xs) (length ms) t row
  add_refusal_is t row = ap (λ x. add_cause x (added_in ts) t row) parts_show ∙ ap (λ n. add_cause (moved ms hs xs) n t row) p.count_added

  table_at : (t : ℕ) → t < length xs → TableTracks t (get_or xs t no_table) ms hs (get_or ts t no_entries)
  table_at t l = each_at ms hs 0 t t xs ts (omega arith) l p.each

  rows_split : (t : ℕ) → t < length xs → rows_of (moved ms hs xs) t ≡ length (remaining t hs (rows_at xs t)) + length (added_rows t (width_of xs t) ms)
  rows_split t l =
      let e = rows_moved t ms hs xs l in
      let f = p.uncut t in
      let n = length_added_rows t (width_of xs t) ms in
      omega arith

  pub parts_add : (t : ℕ) (row : Row) (ns : List Added) → add_cause (moved ms hs xs) (length ms) t row ≡ None → Put t (width_of xs t) row ms ns → Whole xs ns hs → PartsTrack xs ns hs (with_added ts t row)
  parts_add t row ns none u w =
      let m = u.new in
      let f : List Entry → List Entry = λ es. es ++ added row ∷ [] in
      let a = in_tables (moved ms hs xs) (length ms) t row none in
      let lm = length_moved ms hs xs in
      let l : t < length xs = omega arith in
      let sl = each_length ms hs 0 xs ts p.each in
      let es = entries_at ts t in
      let ta = total_rewritten is_added f t ts (omega arith) in
      let ca = count_append is_added es (added row ∷ []) in
      let th = total_rewritten is_hidden f t ts (omega arith) in
      let ch = count_append is_hidden es (added row ∷ []) in
      let pa = p.count_added in
      let ph = p.count_hidden in
      let lp = length_push ms m in
      let base : Whole xs (ms ++ m ∷ []) hs → PartsTrack xs (ms ++ m ∷ []) hs (with_added ts t row) = λ v. record {
        each = each_rewritten t f ms hs (ms ++ m ∷ []) hs (λ i x e n d. add_other i x ms hs e m (λ z. n (sym z ∙ u.table)) d) 0 t xs ts (omega arith) l
            (λ d. add_here t (get_or xs t no_table) ms hs (get_or ts t no_entries) m row u.table u.is d) p.each;
        count_added = omega arith;
        count_hidden = omega arith;
        uncut = v;
      } in
      subst (λ x. Whole xs x hs → PartsTrack xs x hs (with_added ts t row)) (sym u.after) base w

  in_stock : (t pl : ℕ) → pl < rows_of (moved ms hs xs) t → t < length xs
  in_stock t pl l = ⊎_elim (λ y. y) (λ k. let z = rows_moved_past t ms hs xs k in absurd (omega arith)) (cases_lt t (length xs))

  module _ (t pl : ℕ) (l : pl < rows_of (moved ms hs xs) t) where
    parts_hide : (h : Hidden) → pl < length (remaining t hs (rows_at xs t)) → h.table ≡ t → h.place ≡ pl → Whole xs ms (hs ++ h ∷ []) → PartsTrack xs ms (hs ++ h ∷ []) (with_taken ts t pl)
    parts_hide h lt tb pc w =
        let inn = in_stock t pl l in
        let d = table_at t inn in
        let F = map added (added_rows t (width_of xs t) ms) in
        let v : pl < length (shown_rows d.old) = rw d.shows lt in
        let sl = each_length ms hs 0 xs ts p.each in
        let es = entries_at ts t in
        let te : take_entry es pl ≡ take_entry d.old pl ++ F = ap (λ y. take_entry y pl) d.split ∙ take_entry_front d.old F pl v in
        let ta = total_rewritten is_added (λ es. take_entry es pl) t ts (omega arith) in
        let th = total_rewritten is_hidden (λ es. take_entry es pl) t ts (omega arith) in
        let a1 = ap (count_by is_added) d.split ∙ count_append is_added d.old F in
        let a2 = ap (count_by is_added) te ∙ count_append is_added (take_entry d.old pl) F in
        let a3 = added_olds d.old d.olds in
        let a4 = added_olds (take_entry d.old pl) (olds_take_entry d.old pl d.olds) in
        let h1 = ap (count_by is_hidden) d.split ∙ count_append is_hidden d.old F in
        let h2 = ap (count_by is_hidden) te ∙ count_append is_hidden (take_entry d.old pl) F in
        let h3 = hidden_take_entry d.old pl d.olds v in
        let pa = p.count_added in
        let ph = p.count_hidden in
        let lp = length_push hs h in
        record {
          each = each_rewritten t (λ es. take_entry es pl) ms hs ms (hs ++ h ∷ []) (λ i x e n z. hide_other i x ms hs e h (λ y. n (sym y ∙ tb)) z) 0 t xs ts (omega arith) inn
              (λ z. hide_here t (get_or xs t no_table) ms hs (get_or ts t no_entries) h pl tb pc lt z) p.each;
          count_added = omega arith;
          count_hidden = omega arith;
          uncut = w;
        }

    parts_strike : (i : ℕ) → length (remaining t hs (rows_at xs t)) ≤ pl → Nth t (pl - length (remaining t hs (rows_at xs t))) ms i → Whole xs (remove ms i) hs → PartsTrack xs (remove ms i) hs (with_taken ts t pl)
    parts_strike i ge n w =
        let inn = in_stock t pl l in
        let d = table_at t inn in
        let P = added_rows t (width_of xs t) ms in
        let k = pl - length (remaining t hs (rows_at xs t)) in
        let m = any_of ms i n.within in
        let rs = rows_split t inn in
        let vl = ap length d.shows in
        let sl = each_length ms hs 0 xs ts p.each in
        let es = entries_at ts t in
        let te : take_entry es pl ≡ d.old ++ map added (remove P k) = ap (λ y. take_entry y pl) d.split ∙ take_entry_own d.old P pl k d.olds (omega arith) in
        let ta = total_rewritten is_added (λ es. take_entry es pl) t ts (omega arith) in
        let th = total_rewritten is_hidden (λ es. take_entry es pl) t ts (omega arith) in
        let a1 = ap (count_by is_added) d.split ∙ count_append is_added d.old (map added P) in
        let a2 = ap (count_by is_added) te ∙ count_append is_added d.old (map added (remove P k)) in
        let a3 = added_added P in
        let a4 = added_added (remove P k) in
        let a5 = length-remove P k (omega arith) in
        let a6 = length-remove ms i n.within in
        let h1 = ap (count_by is_hidden) d.split ∙ count_append is_hidden d.old (map added P) in
        let h2 = ap (count_by is_hidden) te ∙ count_append is_hidden d.old (map added (remove P k)) in
        let h3 = hidden_added P in
        let h4 = hidden_added (remove P k) in
        let pa = p.count_added in
        let ph = p.count_hidden in
        record {
          each = each_rewritten t (λ es. take_entry es pl) ms hs (remove ms i) hs (λ j x e c z. strike_other j x ms hs e i m t k n c z) 0 t xs ts (omega arith) inn
              (λ z. strike_here t (get_or xs t no_table) ms hs (get_or ts t no_entries) i m k pl n (omega arith) z) p.each;
          count_added = omega arith;
          count_hidden = omega arith;
          uncut = w;
        }

    pub parts_taken : (ns : List Added) (is : List Hidden) → Taken t pl (length (remaining t hs (rows_at xs t))) ms hs ns is → Whole xs ns is → PartsTrack xs ns is (with_taken ts t pl)
    parts_taken ns is (below h lt tb pc en ei) w =
        let v = subst (λ x. Whole xs ms x) ei (subst (λ x. Whole xs x is) en w) in
        subst (λ x. PartsTrack xs x is (with_taken ts t pl)) (sym en) (subst (λ x. PartsTrack xs ms x (with_taken ts t pl)) (sym ei) (parts_hide h lt tb pc v))
    parts_taken ns is (own i ge n en ei) w =
        let v = subst (λ x. Whole xs (remove ms i) x) ei (subst (λ x. Whole xs x is) en w) in
        subst (λ x. PartsTrack xs x is (with_taken ts t pl)) (sym en) (subst (λ x. PartsTrack xs (remove ms i) x (with_taken ts t pl)) (sym ei) (parts_strike i ge n v))

  pub withdraw_refusal_is : (t pl : ℕ) → withdraw_refusal ts t pl ≡ withdraw_cause (moved ms hs xs) (length (remaining t hs (rows_at xs t))) (length hs) t pl
  withdraw_refusal_is t pl =
      let R = rows_of (moved ms hs xs) t in
      let K = length (remaining t hs (rows_at xs t)) in
      let O = added_at (entries_at ts t) pl in
      let Z : Option Refusal = cond (ltb (length hs) 64) None (Some NoRoom) in
      ap (λ x. cond (ltb pl (rows_of x t)) (cond O None (cond (ltb (hidden_in ts) 64) None (Some NoRoom))) (Some NotShown)) parts_show
      ∙ ap (λ x. cond (ltb pl R) (cond O None (cond (ltb x 64) None (Some NoRoom))) (Some NotShown)) p.count_hidden
      ∙ ⊎_elim
      (λ l.
      let inn = in_stock t pl l in
      let d = table_at t inn in
      let P = added_rows t (width_of xs t) ms in
      let rs = rows_split t inn in
      let vl = ap length d.shows in
      cond-true (ltb pl R) (cond O None Z) (Some NotShown) (lt-ltb pl R l)
      ∙ ⊎_elim
      (λ h. cond-false O None Z (ap (λ y. added_at y pl) d.split ∙ added_at_front d.old (map added P) pl d.olds (omega arith)) ∙ sym (cond-true (ltb pl K) Z None (lt-ltb pl K h)))
      (λ h. cond-true O None Z (ap (λ y. added_at y pl) d.split ∙ added_at_own d.old P pl d.olds (omega arith) (omega arith)) ∙ sym (cond-false (ltb pl K) Z None (le-ltb pl K h)))
      (cases_lt pl K)
      ∙ sym (cond-true (ltb pl R) (cond (ltb pl K) Z None) (Some NotShown) (lt-ltb pl R l)))
      (λ g. cond-false (ltb pl R) (cond O None Z) (Some NotShown) (le-ltb pl R g) ∙ sym (cond-false (ltb pl R) (cond (ltb pl K) Z None) (Some NotShown) (le-ltb pl R g)))
      (cases_lt pl R)
