-- Cells that are put.
use Rattle.std.proofs.Common.{◌≡◌, ℕ, ◌+◌, ◌≤◌, List, length, take, arith, rules}
use lib.Seq.{paste}
use Rattle.std.proofs.lemmas.List.{places, same_lists}
use Rattle.std.proofs.lemmas.List.Edits.{length-paste}
use Rattle.cells.specs.declared.cell.Cell.{Cell}
use Rattle.operators.specs.Laid.{Put}

-- what is pasted lies there
pub put_paste : (d xs s : List Cell) (to w i : ℕ) → xs ≡ paste d to s i → w ≤ i → i ≤ w → to + w ≤ length d → w ≤ length s → Put d xs to w (take w s)
put_paste d xs s to w i e a b t l = let n : i ≡ w = omega arith in rw (e, n) (record {
  below = same_lists _ _ (search (rules, places)) (λ k z h. grind (arith, places));
  row = same_lists _ _ (search (rules, places)) (λ k z h. grind (arith, places));
  within = rw (length-paste d to s w t l) t;
  kept = length-paste d to s w t l;
})
