-- Laws of cells cut into tables.
use Rattle.std.specs.Prelude.{◌≡◌, ℕ, zero, suc, ◌+◌, ◌*◌, ◌<◌, ◌≤◌, Bool, true, false, cond, ◌&&◌, List, [], ◌∷◌, ◌++◌, length, get_or, take, drop, is_some, Some, None, Option, nat_le, nat_lt, slice_index_or, refl}
use Rattle.std.proofs.Common.{sym, ap, subst, ◌∙◌, ⊎_elim, suc-mul, zero-mul, mul-le-mul_right, arith, length-drop}
use Rattle.std.specs.List.{AllByRecursion}
use Rattle.std.proofs.lemmas.List.{length-take-le, take_more, drop-drop, get_or_past, get_or-take, get_or-drop}
use Rattle.std.proofs.lemmas.Bool.{cases_Bool, cases_lt, ltb-true, leb-true, and_parts, and_from, cond-true, cond-false}
use Rattle.stock.specs.Tables.{Table, Lawful, LawfulTable, LawfulRow, no_table, width_of, rows_of, cell_of, every}
use Rattle.cells.specs.Cells.{stored}
use Rattle.cells.specs.declared.cell.Cell.{Cell}
use Rattle.cells.specs.declared.cell.Cell.TheVariants.{Null}
use Rattle.shelf.specs.Cut.{rows_cut, cut, fits, fault_from, fault, unless_fault, shelved}

pub length_rows_cut : (w r : ℕ) (cs : List Cell) → length (rows_cut w r cs) ≡ r
length_rows_cut w zero cs = refl
length_rows_cut w (suc r) cs = ap suc (length_rows_cut w r (drop w cs))

pub length_cut : (ps : List (ℕ × ℕ)) (cs : List Cell) → length (cut ps cs) ≡ length ps
length_cut [] cs = refl
length_cut (p ∷ ps) cs = ap suc (length_cut ps (drop (p.1 * p.0) cs))

pub width_cut : (ps : List (ℕ × ℕ)) (cs : List Cell) (t : ℕ) → width_of (cut ps cs) t ≡ (get_or ps t (0, 0)).0
width_cut [] cs t = refl
width_cut (p ∷ ps) cs zero = refl
width_cut (p ∷ ps) cs (suc t) = width_cut ps (drop (p.1 * p.0) cs) t

pub rows_cut_at : (ps : List (ℕ × ℕ)) (cs : List Cell) (t : ℕ) → rows_of (cut ps cs) t ≡ (get_or ps t (0, 0)).1
rows_cut_at [] cs t = refl
rows_cut_at (p ∷ ps) cs zero = length_rows_cut p.0 p.1 cs
rows_cut_at (p ∷ ps) cs (suc t) = rows_cut_at ps (drop (p.1 * p.0) cs) t

take_nil : {X : Type 0} (n : ℕ) → take {A = X} n [] ≡ []
take_nil zero = refl
take_nil (suc n) = refl

every_split : {X : Type 0} (test : X → Bool) (m n k : ℕ) (xs : List X) → m + n ≡ k → every test (take k xs) ≡ true → (every test (take m xs) ≡ true) × (every test (take n (drop m xs)) ≡ true)
every_split test zero n k xs e h = let z : k ≡ n = omega arith in (refl, subst (λ j. every test (take j xs) ≡ true) z h)
every_split test (suc m) n k [] e h = (refl, ap (every test) (take_nil n))
every_split test (suc m) n zero (x ∷ xs) e h = absurd (omega arith)
every_split test (suc m) n (suc k) (x ∷ xs) e h =
    let p = and_parts (test x) (every test (take k xs)) h in
    let r = every_split test m n k xs (omega arith) p.1 in
    (and_from (test x) (every test (take m xs)) p.0 r.0, r.1)

rows_lawful : (w r : ℕ) (cs : List Cell) → r * w ≤ length cs → every stored (take (r * w) cs) ≡ true → AllByRecursion (LawfulRow w) (rows_cut w r cs)
rows_lawful w zero cs l e = tt
rows_lawful w (suc r) cs l e =
    let k = suc-mul r w in
    let s = every_split stored w (r * w) (suc r * w) cs (omega arith) e in
    let d = length-drop w cs in
    (record { long = length-take-le w cs (omega arith); stored = s.0 }, rows_lawful w r (drop w cs) (omega arith) s.1)

table_lawful : (p : ℕ × ℕ) (cs : List Cell) → fits p cs ≡ true → LawfulTable (record { width = p.0; rows = rows_cut p.0 p.1 cs })
table_lawful p cs e =
    let Z = every stored (take (p.1 * p.0) cs) in
    let a = and_parts (nat_le 1 p.0) (nat_le p.0 8 && (nat_le p.1 65535 && (nat_le (p.1 * p.0) (length cs) && Z))) e in
    let b = and_parts (nat_le p.0 8) (nat_le p.1 65535 && (nat_le (p.1 * p.0) (length cs) && Z)) a.1 in
    let c = and_parts (nat_le p.1 65535) (nat_le (p.1 * p.0) (length cs) && Z) b.1 in
    let d = and_parts (nat_le (p.1 * p.0) (length cs)) Z c.1 in
    record {
      least = leb-true 1 p.0 a.0;
      most = leb-true p.0 8 b.0;
      few = rw (length_rows_cut p.0 p.1 cs) (leb-true p.1 65535 c.0);
      each = rows_lawful p.0 p.1 cs (leb-true (p.1 * p.0) (length cs) d.0) d.1;
    }

pub fault_parts : (i : ℕ) (p : ℕ × ℕ) (ps : List (ℕ × ℕ)) (cs : List Cell) → fault_from i (p ∷ ps) cs ≡ None → (i < 16) × (fits p cs ≡ true) × (fault_from (suc i) ps (drop (p.1 * p.0) cs) ≡ None)
fault_parts i p ps cs e =
    let rest = fault_from (suc i) ps (drop (p.1 * p.0) cs) in
    ⊎_elim
    (λ y. let e1 = sym (cond-true (nat_lt i 16) (cond (fits p cs) rest (Some i)) (Some 16) y) ∙ e in
    ⊎_elim
    (λ f. (ltb-true i 16 y, f, sym (cond-true (fits p cs) rest (Some i) f) ∙ e1))
    (λ f. let k = cond-false (fits p cs) rest (Some i) f in let bad : ◌≡◌ {A = ℕ} 0 1 = cc in absurd (omega arith))
    (cases_Bool (fits p cs)))
    (λ n. let k = cond-false (nat_lt i 16) (cond (fits p cs) rest (Some i)) (Some 16) n in let bad : ◌≡◌ {A = ℕ} 0 1 = cc in absurd (omega arith))
    (cases_Bool (nat_lt i 16))

lawful_cut : (i : ℕ) (ps : List (ℕ × ℕ)) (cs : List Cell) → fault_from i ps cs ≡ None → AllByRecursion LawfulTable (cut ps cs)
lawful_cut i [] cs e = tt
lawful_cut i (p ∷ ps) cs e = let f = fault_parts i p ps cs e in (table_lawful p cs f.1, lawful_cut (suc i) ps (drop (p.1 * p.0) cs) f.2)

few_cut : (i : ℕ) (ps : List (ℕ × ℕ)) (cs : List Cell) → i ≤ 16 → fault_from i ps cs ≡ None → i + length ps ≤ 16
few_cut i [] cs l e = omega arith
few_cut i (p ∷ ps) cs l e = let f = fault_parts i p ps cs e in let a = f.0 in let r = few_cut (suc i) ps (drop (p.1 * p.0) cs) (omega arith) f.2 in omega arith

unless_lawful : (o : Option ℕ) (ts : List Table) → (o ≡ None → Lawful ts) → Lawful (unless_fault o ts)
unless_lawful (Some i) ts f = record { few = omega arith; each = tt }
unless_lawful None ts f = f refl

pub shelved_lawful : (ps : List (ℕ × ℕ)) (cs : List Cell) → Lawful (shelved ps cs)
shelved_lawful ps cs = unless_lawful (fault ps cs) (cut ps cs) (λ e. record { few = let l = length_cut ps cs in let f = few_cut 0 ps cs (omega arith) e in omega arith; each = lawful_cut 0 ps cs e })

pub is_cut : (ps : List (ℕ × ℕ)) (cs : List Cell) → is_some (fault ps cs) ≡ false → shelved ps cs ≡ cut ps cs
is_cut ps cs e = go (fault ps cs) e
  where
    go : (o : Option ℕ) → is_some o ≡ false → unless_fault o (cut ps cs) ≡ cut ps cs
    go (Some i) h = let bad : ◌≡◌ {A = ℕ} 0 1 = cc in absurd (omega arith)
    go None h = refl

pub no_cut : (ps : List (ℕ × ℕ)) (cs : List Cell) → is_some (fault ps cs) ≡ true → shelved ps cs ≡ []
no_cut ps cs e = go (fault ps cs) e
  where
    go : (o : Option ℕ) → is_some o ≡ true → unless_fault o (cut ps cs) ≡ []
    go (Some i) h = refl
    go None h = let bad : ◌≡◌ {A = ℕ} 0 1 = cc in absurd (omega arith)

-- where table t begins
abbrev pub offset : List (ℕ × ℕ) → ℕ
offset [] = 0
offset (p ∷ ps) = p.1 * p.0 + offset ps

pub offset_append : (a b : List (ℕ × ℕ)) → offset (a ++ b) ≡ offset a + offset b
offset_append [] b = omega arith
offset_append (p ∷ a) b = let e = offset_append a b in omega arith

pub offset_more : (ps : List (ℕ × ℕ)) (i : ℕ) → i < length ps → offset (take (i + 1) ps) ≡ offset (take i ps) + (get_or ps i (0, 0)).1 * (get_or ps i (0, 0)).0
offset_more ps i l = ap offset (take_more ps i (0, 0) l) ∙ offset_append (take i ps) (slice_index_or ps i (0, 0) ∷ []) ∙ omega arith

pub rows_from : (ps : List (ℕ × ℕ)) (cs : List Cell) (t : ℕ) → t < length ps → (get_or (cut ps cs) t no_table).rows ≡ rows_cut (get_or ps t (0, 0)).0 (get_or ps t (0, 0)).1 (drop (offset (take t ps)) cs)
rows_from [] cs t l = absurd (omega arith)
rows_from (p ∷ ps) cs zero l = refl
rows_from (p ∷ ps) cs (suc t) l = rows_from ps (drop (p.1 * p.0) cs) t (omega arith) ∙ ap (rows_cut (get_or ps t (0, 0)).0 (get_or ps t (0, 0)).1) (drop-drop (offset (take t ps)) (p.1 * p.0) cs)

pub row_cut : (w r p : ℕ) (cs : List Cell) → p < r → slice_index_or (rows_cut w r cs) p [] ≡ take w (drop (p * w) cs)
row_cut w zero p cs l = absurd (omega arith)
row_cut w (suc r) zero cs l = let z : 0 ≡ zero * w = sym (zero-mul w) in ap (λ k. take w (drop k cs)) z
row_cut w (suc r) (suc p) cs l =
    let k = suc-mul p w in
    let e : w + p * w ≡ suc p * w = omega arith in
    row_cut w r p (drop w cs) (omega arith) ∙ ap (take w) (drop-drop (p * w) w cs ∙ ap (λ j. drop j cs) e)

-- the tables of a shelf that passes lie within its cells
pub first_within : (p : ℕ × ℕ) (cs : List Cell) → fits p cs ≡ true → p.1 * p.0 ≤ length cs
first_within p cs e =
    let Z = every stored (take (p.1 * p.0) cs) in
    let a = and_parts (nat_le 1 p.0) (nat_le p.0 8 && (nat_le p.1 65535 && (nat_le (p.1 * p.0) (length cs) && Z))) e in
    let b = and_parts (nat_le p.0 8) (nat_le p.1 65535 && (nat_le (p.1 * p.0) (length cs) && Z)) a.1 in
    let c = and_parts (nat_le p.1 65535) (nat_le (p.1 * p.0) (length cs) && Z) b.1 in
    let d = and_parts (nat_le (p.1 * p.0) (length cs)) Z c.1 in
    leb-true (p.1 * p.0) (length cs) d.0

pub within : (i : ℕ) (ps : List (ℕ × ℕ)) (cs : List Cell) (t : ℕ) → fault_from i ps cs ≡ None → t < length ps → offset (take t ps) + (get_or ps t (0, 0)).1 * (get_or ps t (0, 0)).0 ≤ length cs
within i [] cs t e l = absurd (omega arith)
within i (p ∷ ps) cs zero e l = let z = first_within p cs (fault_parts i p ps cs e).1 in omega arith
within i (p ∷ ps) cs (suc t) e l =
    let f = fault_parts i p ps cs e in
    let r = within (suc i) ps (drop (p.1 * p.0) cs) t f.2 (omega arith) in
    let d = length-drop (p.1 * p.0) cs in
    let z = first_within p cs f.1 in
    omega arith

-- a shelf that shows a table passed the check
pub passed : (ps : List (ℕ × ℕ)) (cs : List Cell) (t : ℕ) → t < length (shelved ps cs) → shelved ps cs ≡ cut ps cs
passed ps cs t l = go (fault ps cs) l
  where
    go : (o : Option ℕ) → t < length (unless_fault o (cut ps cs)) → unless_fault o (cut ps cs) ≡ cut ps cs
    go (Some i) h = absurd (omega arith)
    go None h = refl

pub none_from : (ps : List (ℕ × ℕ)) (cs : List Cell) → is_some (fault ps cs) ≡ false → fault ps cs ≡ None
none_from ps cs e = go (fault ps cs) e
  where
    go : (o : Option ℕ) → is_some o ≡ false → o ≡ None
    go (Some i) h = let bad : ◌≡◌ {A = ℕ} 0 1 = cc in absurd (omega arith)
    go None h = refl

pub listed : (ps : List (ℕ × ℕ)) (cs : List Cell) (t p : ℕ) → p < rows_of (shelved ps cs) t → t < length (shelved ps cs)
listed ps cs t p l = ⊎_elim (λ y. y) (λ k. let z = ap (λ (x : Table). length x.rows) (get_or_past (shelved ps cs) t no_table k) in absurd (omega arith)) (cases_lt t (length (shelved ps cs)))

pub unfaulted : (ps : List (ℕ × ℕ)) (cs : List Cell) (t : ℕ) → t < length (shelved ps cs) → fault ps cs ≡ None
unfaulted ps cs t l = go (fault ps cs) l
  where
    go : (o : Option ℕ) → t < length (unless_fault o (cut ps cs)) → o ≡ None
    go (Some i) h = absurd (omega arith)
    go None h = refl

pub in_pairs : (ps : List (ℕ × ℕ)) (cs : List Cell) (t : ℕ) → t < length (shelved ps cs) → t < length ps
in_pairs ps cs t l = let e = ap length (passed ps cs t l) in let k = length_cut ps cs in omega arith

pub end_within : (p r w : ℕ) → p < r → p * w + w ≤ r * w
end_within p r w l = let a = mul-le-mul_right w l in let b = suc-mul p w in omega arith

pub cell_cut : (ps : List (ℕ × ℕ)) (cs : List Cell) (t p c : ℕ) → t < length (shelved ps cs) → p < (get_or ps t (0, 0)).1 → c < (get_or ps t (0, 0)).0
    → cell_of (shelved ps cs) t p c ≡ slice_index_or cs (offset (take t ps) + p * (get_or ps t (0, 0)).0 + c) Null
cell_cut ps cs t p c l h k =
    let w = (get_or ps t (0, 0)).0 in
    let r = (get_or ps t (0, 0)).1 in
    let o = offset (take t ps) in
    ap (λ x. cell_of x t p c) (passed ps cs t l)
    ∙ ap (λ x. get_or (slice_index_or x p []) c Null) (rows_from ps cs t (in_pairs ps cs t l))
    ∙ ap (λ x. get_or x c Null) (row_cut w r p (drop o cs) h)
    ∙ get_or-take w (drop (p * w) (drop o cs)) c Null k
    ∙ ap (λ x. get_or x c Null) (drop-drop (p * w) o cs)
    ∙ get_or-drop (o + p * w) cs c Null

module _ (ps : List (ℕ × ℕ)) (cs : List Cell) (t p c w r : ℕ) (ew : w ≡ width_of (shelved ps cs) t) (er : r ≡ rows_of (shelved ps cs) t) (lp : p < r) (lc : c < w) where
  pub shown_table : t < length (shelved ps cs)
  shown_table = listed ps cs t p (omega arith)

  width_is : w ≡ (get_or ps t (0, 0)).0
  width_is = ew ∙ ap (λ x. width_of x t) (passed ps cs t shown_table) ∙ width_cut ps cs t

  rows_is : r ≡ (get_or ps t (0, 0)).1
  rows_is = er ∙ ap (λ x. rows_of x t) (passed ps cs t shown_table) ∙ rows_cut_at ps cs t

  pub cell_within : offset (take t ps) + p * w + c < length cs
  cell_within =
      let k = within 0 ps cs t (unfaulted ps cs t shown_table) (in_pairs ps cs t shown_table) in
      let e = end_within p r w lp in
      let m : r * w ≡ (get_or ps t (0, 0)).1 * (get_or ps t (0, 0)).0 = ap (λ x. x * w) rows_is ∙ ap (λ x. (get_or ps t (0, 0)).1 * x) width_is in
      omega arith

  pub cell_there : (o : ℕ) → o ≡ offset (take t ps) → slice_index_or cs (o + p * w + c) Null ≡ cell_of (shelved ps cs) t p c
  cell_there o e =
      let ri = rows_is in
      let wi = width_is in
      ap (λ x. get_or cs (x + p * w + c) Null) e ∙ ap (λ x. get_or cs (offset (take t ps) + p * x + c) Null) width_is ∙ sym (cell_cut ps cs t p c shown_table (omega arith) (omega arith))
