-- Laws of what the stocks mean.
use Rattle.std.specs.Prelude.{◌≡◌, ℕ, zero, suc, ◌+◌, ◌-◌, ◌<◌, ◌≤◌, min, true, List, [], ◌∷◌, ◌++◌, map, length, get_or, pos, ◌≢◌, nat_lt, slice_index, slice_index_or, refl}
use Rattle.std.proofs.Common.{sym, ap, subst, ◌∙◌, ⊎_elim, arith, length-take, length-append}
use Rattle.std.specs.List.{range_with_len, AllByRecursion}
use Rattle.std.proofs.lemmas.Bool.{cases_lt, cases_eq, and_from, lt-ltb}
use Rattle.std.proofs.lemmas.List.FromFn.{length-map-range_with_len, get_or-map-range_with_len}
use Rattle.std.proofs.ByRecursion.{All-from_get_or, All-get_or, All-append, All-take}
use Rattle.std.proofs.lemmas.List.{get_or_past, get_or-take, get_or_append_left, get_or-append_right}
use Rattle.stock.specs.Tables.{Table, Lawful, LawfulTable, LawfulRow, no_table, width_of, rows_at, rows_of, widths, ruled, paired, cell_of}
use Rattle.cells.specs.declared.cell.Cell.{Cell}
use Rattle.cells.specs.declared.cell.Cell.TheVariants.{Null, Number}

abbrev mark : ℕ → List Cell
mark k = Number (pos k) ∷ []

pub length_marks : (n : ℕ) → length (map mark (range_with_len 0 n)) ≡ n
length_marks n = length-map-range_with_len mark 0 n

pub get_or_marks : (n p : ℕ) → p < n → slice_index_or (map mark (range_with_len 0 n)) p [] ≡ mark p
get_or_marks n p h = get_or-map-range_with_len mark 0 n p p [] h (omega arith)

good_mark : (n i : ℕ) → n ≤ 65535 → i < n → LawfulRow 1 (mark i)
good_mark n i h l = record { long = refl; stored = and_from (nat_lt i 2147483648) true (lt-ltb i 2147483648 (omega arith)) refl }

pub ruled_lawful : (n : ℕ) → n ≤ 65535 → Lawful (ruled n)
ruled_lawful n h = record {
  few = omega arith;
  each = (
    record {
      least = omega arith;
      most = omega arith;
      few = rw (length_marks n) h;
      each = All-from_get_or (LawfulRow 1) (map mark (range_with_len 0 n)) []
          (λ i l. let k : i < n = rw (length_marks n) at l in subst (LawfulRow 1) (sym (get_or_marks n i k)) (good_mark n i h k));
    },
    tt,
  );
}

-- past the end of a ruler, and in its other columns
pub unruled : (n t p c : ℕ) → (t ≡ 0 → p < n → c ≢ 0) → Null ≡ cell_of (ruled n) t p c
unruled n (suc t) p c h = refl
unruled n zero p c h =
    ⊎_elim
    (λ l. ⊎_elim (λ e. absurd (h refl l e)) (λ k. let k' : 1 ≤ c = omega arith in sym (ap (λ (r : List Cell). get_or r c Null) (get_or_marks n p l) ∙ get_or_past (mark p) c Null k')) (cases_eq c 0))
    (λ k. sym (ap (λ (r : List Cell). get_or r c Null) (get_or_past (map mark (range_with_len 0 n)) p [] (rw (length_marks n) k))))
    (cases_lt p n)

module _ (a b : List Table) (t : ℕ) where
  pub paired_first : t < 16 → t < length a → slice_index_or (paired a b) t no_table ≡ slice_index_or a t no_table
  paired_first h l = get_or-take 16 (a ++ b) t no_table h ∙ get_or_append_left a b no_table t l

  pub paired_second : t < 16 → length a ≤ t → slice_index_or (paired a b) t no_table ≡ slice_index_or b (t - length a) no_table
  paired_second h l = get_or-take 16 (a ++ b) t no_table h ∙ get_or-append_right a b (length a) t no_table refl l

  pub paired_past : 16 ≤ t → slice_index_or (paired a b) t no_table ≡ no_table
  paired_past h = get_or_past (paired a b) t no_table (simp (length-take, length-append) (omega arith))

pub length_paired : (a b : List Table) → length (paired a b) ≡ min 16 (length a + length b)
length_paired a b = simp (length-take, length-append)

pub paired_lawful : (a b : List Table) → Lawful a → Lawful b → Lawful (paired a b)
paired_lawful a b x y = record {
  few = rw (length_paired a b) (omega arith);
  each = All-take LawfulTable 16 (a ++ b) (All-append LawfulTable a b x.each y.each);
}

-- what a table of a lawful list keeps, and what is found outside the list
pub lawful_at : (ts : List Table) (t : ℕ) → Lawful ts → t < length ts → LawfulTable (slice_index_or ts t no_table)
lawful_at ts t g l = All-get_or LawfulTable ts t no_table l g.each

pub few_rows : (ts : List Table) (t : ℕ) → Lawful ts → length (rows_at ts t) ≤ 65535
few_rows ts t g = ⊎_elim (λ l. (lawful_at ts t g l).few) (λ k. rw (get_or_past ts t no_table k) (omega arith)) (cases_lt t (length ts))

pub small_width : (ts : List Table) (t : ℕ) → Lawful ts → width_of ts t ≤ 8
small_width ts t g = ⊎_elim (λ l. (lawful_at ts t g l).most) (λ k. rw (get_or_past ts t no_table k) (omega arith)) (cases_lt t (length ts))

pub lawful_rows : (ts : List Table) (t : ℕ) → Lawful ts → AllByRecursion (LawfulRow (width_of ts t)) (rows_at ts t)
lawful_rows ts t g = ⊎_elim (λ l. (lawful_at ts t g l).each) (λ k. rw (get_or_past ts t no_table k) tt) (cases_lt t (length ts))

pub row_long : (ts : List Table) (t p : ℕ) → Lawful ts → p < rows_of ts t → length (slice_index_or (rows_at ts t) p []) ≡ width_of ts t
row_long ts t p g l = (All-get_or (LawfulRow (width_of ts t)) (rows_at ts t) p [] l (lawful_rows ts t g)).long

pub get_or_widths : (ts : List Table) (t : ℕ) → slice_index (widths ts) t ≡ width_of ts t
get_or_widths [] t = refl
get_or_widths (x ∷ ts) zero = refl
get_or_widths (x ∷ ts) (suc t) = get_or_widths ts t
