-- Laws of a table's entries.
use Rattle.std.proofs.Common.{◌≡◌, ℕ, zero, suc, ◌+◌, ◌<◌, ◌≤◌, true, false, List, [], ◌∷◌, ◌++◌, map, length, get_or, refl, ap, ◌∙◌, arith}
use Rattle.std.specs.List.{remove, AllByRecursion}
use Rattle.cells.specs.Cells.{Row}
use Rattle.session.specs.Model.{Entry, stocked, hidden, added, ModelTable, shown_rows, take_entry, added_at, restored, is_added, is_hidden, count_by, total_by, rewritten, no_entries}
use Rattle.session.specs.Tracks.{OfStock, row_of}

pub shown_rows_append : (a b : List Entry) → shown_rows (a ++ b) ≡ shown_rows a ++ shown_rows b
shown_rows_append [] b = refl
shown_rows_append (stocked r ∷ a) b = ap (λ x. r ∷ x) (shown_rows_append a b)
shown_rows_append (hidden r ∷ a) b = shown_rows_append a b
shown_rows_append (added r ∷ a) b = ap (λ x. r ∷ x) (shown_rows_append a b)

pub shown_rows_added : (rs : List Row) → shown_rows (map added rs) ≡ rs
shown_rows_added [] = refl
shown_rows_added (r ∷ rs) = ap (λ x. r ∷ x) (shown_rows_added rs)

pub shown_rows_stocked : (rs : List Row) → shown_rows (map stocked rs) ≡ rs
shown_rows_stocked [] = refl
shown_rows_stocked (r ∷ rs) = ap (λ x. r ∷ x) (shown_rows_stocked rs)

pub rows_stocked : (rs : List Row) → map row_of (map stocked rs) ≡ rs
rows_stocked [] = refl
rows_stocked (r ∷ rs) = ap (λ x. r ∷ x) (rows_stocked rs)

pub olds_stocked : (rs : List Row) → AllByRecursion OfStock (map stocked rs)
olds_stocked [] = tt
olds_stocked (r ∷ rs) = (tt, olds_stocked rs)

-- a row that is taken out
pub take_entry_front : (es fs : List Entry) (p : ℕ) → p < length (shown_rows es) → take_entry (es ++ fs) p ≡ take_entry es p ++ fs
take_entry_front [] fs p l = absurd (omega arith)
take_entry_front (stocked r ∷ es) fs zero l = refl
take_entry_front (stocked r ∷ es) fs (suc p) l = ap (λ x. stocked r ∷ x) (take_entry_front es fs p (omega arith))
take_entry_front (hidden r ∷ es) fs p l = ap (λ x. hidden r ∷ x) (take_entry_front es fs p l)
take_entry_front (added r ∷ es) fs zero l = refl
take_entry_front (added r ∷ es) fs (suc p) l = ap (λ x. added r ∷ x) (take_entry_front es fs p (omega arith))

pub shown_rows_take_entry : (es : List Entry) (p : ℕ) → shown_rows (take_entry es p) ≡ remove (shown_rows es) p
shown_rows_take_entry [] zero = refl
shown_rows_take_entry [] (suc p) = refl
shown_rows_take_entry (stocked r ∷ es) zero = refl
shown_rows_take_entry (stocked r ∷ es) (suc p) = ap (λ x. r ∷ x) (shown_rows_take_entry es p)
shown_rows_take_entry (hidden r ∷ es) p = shown_rows_take_entry es p
shown_rows_take_entry (added r ∷ es) zero = refl
shown_rows_take_entry (added r ∷ es) (suc p) = ap (λ x. r ∷ x) (shown_rows_take_entry es p)

pub rows_take_entry : (es : List Entry) (p : ℕ) → AllByRecursion OfStock es → map row_of (take_entry es p) ≡ map row_of es
rows_take_entry [] p a = refl
rows_take_entry (stocked r ∷ es) zero a = refl
rows_take_entry (stocked r ∷ es) (suc p) a = ap (λ x. r ∷ x) (rows_take_entry es p a.1)
rows_take_entry (hidden r ∷ es) p a = ap (λ x. r ∷ x) (rows_take_entry es p a.1)
rows_take_entry (added r ∷ es) p a = absurd a.0

pub olds_take_entry : (es : List Entry) (p : ℕ) → AllByRecursion OfStock es → AllByRecursion OfStock (take_entry es p)
olds_take_entry [] p a = tt
olds_take_entry (stocked r ∷ es) zero a = (tt, a.1)
olds_take_entry (stocked r ∷ es) (suc p) a = (tt, olds_take_entry es p a.1)
olds_take_entry (hidden r ∷ es) p a = (tt, olds_take_entry es p a.1)
olds_take_entry (added r ∷ es) p a = absurd a.0

pub hidden_take_entry : (es : List Entry) (p : ℕ) → AllByRecursion OfStock es → p < length (shown_rows es) → count_by is_hidden (take_entry es p) ≡ count_by is_hidden es + 1
hidden_take_entry [] p a l = absurd (omega arith)
hidden_take_entry (stocked r ∷ es) zero a l = omega arith
hidden_take_entry (stocked r ∷ es) (suc p) a l = let k = hidden_take_entry es p a.1 (omega arith) in omega arith
hidden_take_entry (hidden r ∷ es) p a l = let k = hidden_take_entry es p a.1 l in omega arith
hidden_take_entry (added r ∷ es) p a l = absurd a.0

take_entry_added : (rs : List Row) (p : ℕ) → take_entry (map added rs) p ≡ map added (remove rs p)
take_entry_added [] zero = refl
take_entry_added [] (suc p) = refl
take_entry_added (r ∷ rs) zero = refl
take_entry_added (r ∷ rs) (suc p) = ap (λ x. added r ∷ x) (take_entry_added rs p)

pub take_entry_own : (es : List Entry) (rs : List Row) (p k : ℕ) → AllByRecursion OfStock es → length (shown_rows es) + k ≡ p → take_entry (es ++ map added rs) p ≡ es ++ map added (remove rs k)
take_entry_own [] rs p k a e = let z : p ≡ k = omega arith in ap (take_entry (map added rs)) z ∙ take_entry_added rs k
take_entry_own (stocked r ∷ es) rs zero k a e = absurd (omega arith)
take_entry_own (stocked r ∷ es) rs (suc p) k a e = ap (λ x. stocked r ∷ x) (take_entry_own es rs p k a.1 (omega arith))
take_entry_own (hidden r ∷ es) rs p k a e = ap (λ x. hidden r ∷ x) (take_entry_own es rs p k a.1 e)
take_entry_own (added r ∷ es) rs p k a e = absurd a.0

pub added_at_front : (es fs : List Entry) (p : ℕ) → AllByRecursion OfStock es → p < length (shown_rows es) → added_at (es ++ fs) p ≡ false
added_at_front [] fs p a l = absurd (omega arith)
added_at_front (stocked r ∷ es) fs zero a l = refl
added_at_front (stocked r ∷ es) fs (suc p) a l = added_at_front es fs p a.1 (omega arith)
added_at_front (hidden r ∷ es) fs p a l = added_at_front es fs p a.1 l
added_at_front (added r ∷ es) fs p a l = absurd a.0

added_at_added : (rs : List Row) (p : ℕ) → p < length rs → added_at (map added rs) p ≡ true
added_at_added [] p l = absurd (omega arith)
added_at_added (r ∷ rs) zero l = refl
added_at_added (r ∷ rs) (suc p) l = added_at_added rs p (omega arith)

pub added_at_own : (es : List Entry) (rs : List Row) (p : ℕ) → AllByRecursion OfStock es → length (shown_rows es) ≤ p → p < length (shown_rows es) + length rs → added_at (es ++ map added rs) p ≡ true
added_at_own [] rs p a k l = added_at_added rs p (omega arith)
added_at_own (stocked r ∷ es) rs zero a k l = absurd (omega arith)
added_at_own (stocked r ∷ es) rs (suc p) a k l = added_at_own es rs p a.1 (omega arith) (omega arith)
added_at_own (hidden r ∷ es) rs p a k l = added_at_own es rs p a.1 k l
added_at_own (added r ∷ es) rs p a k l = absurd a.0

pub restored_is : (es : List Entry) (rs : List Row) → AllByRecursion OfStock es → restored (es ++ map added rs) ≡ map stocked (map row_of es)
restored_is [] [] a = refl
restored_is [] (r ∷ rs) a = restored_is [] rs a
restored_is (stocked r ∷ es) rs a = ap (λ x. stocked r ∷ x) (restored_is es rs a.1)
restored_is (hidden r ∷ es) rs a = ap (λ x. stocked r ∷ x) (restored_is es rs a.1)
restored_is (added r ∷ es) rs a = absurd a.0

-- counts
pub count_append : (mark : Entry → ℕ) (a b : List Entry) → count_by mark (a ++ b) ≡ count_by mark a + count_by mark b
count_append mark [] b = omega arith
count_append mark (e ∷ a) b = let k = count_append mark a b in omega arith

pub added_olds : (es : List Entry) → AllByRecursion OfStock es → count_by is_added es ≡ 0
added_olds [] a = refl
added_olds (stocked r ∷ es) a = let k = added_olds es a.1 in omega arith
added_olds (hidden r ∷ es) a = let k = added_olds es a.1 in omega arith
added_olds (added r ∷ es) a = absurd a.0

pub added_added : (rs : List Row) → count_by is_added (map added rs) ≡ length rs
added_added [] = refl
added_added (r ∷ rs) = let k = added_added rs in omega arith

pub hidden_added : (rs : List Row) → count_by is_hidden (map added rs) ≡ 0
hidden_added [] = refl
hidden_added (r ∷ rs) = let k = hidden_added rs in omega arith

pub hidden_stocked : (rs : List Row) → count_by is_hidden (map stocked rs) ≡ 0
hidden_stocked [] = refl
hidden_stocked (r ∷ rs) = let k = hidden_stocked rs in omega arith

pub total_rewritten : (mark : Entry → ℕ) (f : List Entry → List Entry) (t : ℕ) (ss : List ModelTable) → t < length ss
    → total_by mark (rewritten t f ss) + count_by mark (get_or ss t no_entries).entries ≡ total_by mark ss + count_by mark (f (get_or ss t no_entries).entries)
total_rewritten mark f t [] l = absurd (omega arith)
total_rewritten mark f zero (s ∷ ss) l = omega arith
total_rewritten mark f (suc t) (s ∷ ss) l = let k = total_rewritten mark f t ss (omega arith) in omega arith
