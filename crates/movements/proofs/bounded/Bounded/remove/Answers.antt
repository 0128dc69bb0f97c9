use Rattle.std.proofs.Common.{◌≡◌, ℕ, suc, ◌+◌, ◌-◌, ◌<◌, ◌≤◌, List, ◌++◌, length, take, drop, sym, ap, ap₂, ◌∙◌, add-one, arith}
use Rattle.std.specs.List.{remove, copy_within}
use Rattle.std.proofs.lemmas.List.{take-take, drop-take, length-drop}
use lib.Seq.{take-paste}
use Rattle.movements.proofs.bounded.Bounded.remove.Goals as goal

-- the items after i, moved down by one
closed : {X : Type 0} (xs : List X) (i n : ℕ) → i < n → n ≤ length xs → take (n - 1) (copy_within xs (i + 1) n i) ≡ remove (take n xs) i
closed xs i n l h =
    let k = n - (i + 1) in
    let left = length-drop (i + 1) xs in
    let less : n - 1 ≡ i + k = omega arith in
    let more : suc i + k ≡ n = omega arith in
    ap (λ m. take m (copy_within xs (i + 1) n i)) less
    ∙ take-paste xs i (drop (i + 1) xs) k (omega arith) (omega arith)
    ∙ ap₂ ◌++◌ (sym (take-take i n xs (omega arith))) (ap (λ m. take k (drop m xs)) (add-one i) ∙ sym (drop-take (suc i) k xs) ∙ ap (λ m. drop (suc i) (take m xs)) more)

pub returns : goal.returns
returns g c =
    let s = c.args.self.now in
    record {
      items = ap (take (s.count - 1)) c.copy_within.ensures.after ∙ closed s.items c.args.i s.count c.requires (omega arith);
      len = omega arith;
    }
