use Rattle.std.proofs.Common.{ℕ, None, Some, Option, ◌≡◌, ◌+◌, ◌-◌, ◌<◌, ◌≤◌, [], ◌∷◌, ◌++◌, length, sym, refl, ap, ◌∙◌, subst, ⊎_elim, arith}
use Rattle.std.specs.Prelude.{IsSome, MatchOption}
use Rattle.std.specs.List.{remove}
use Rattle.std.proofs.lemmas.Option.{MatchOption-at_some}
use Rattle.std.proofs.lemmas.List.Edits.{length-remove}
use Rattle.std.proofs.lemmas.Bool.{cases_lt}
use Rattle.stock.specs.Tables.{rows_at, rows_of}
use Rattle.movements.specs.Moves.{moved, remaining, added_count}
use Rattle.movements.specs.Moving.{rows_moved, rows_moved_past, length_moved}
use Rattle.movements.specs.Shown.{items_of, shown, rows_remaining}
use Rattle.movements.specs.Shown.Taken.{below, own}
use Rattle.movements.specs.declared.moved.Hidden.{Hidden}
use Rattle.movements.proofs.Changes.{hidden_shows, hidden_room, struck_shows, struck_room, rows_changed}
use Rattle.movements.proofs.Rooms.{room_left}
use Rattle.movements.proofs.Rowed.{withdraw_below, withdraw_own}
use Rattle.movements.proofs.movements.Movements.withdraw.Goals as goal

pub returns-then-place-kept : goal.returns-then-place-kept
returns-then-place-kept g c =
    let s = c.args.self.now in
    let t = c.args.table in
    let p = c.args.place in
    let base = g.S.Stock.tables s.below in
    let ms = items_of s.added in
    let hs = items_of s.hidden in
    let ts = shown g.S.Stock.tables s in
    let k = rows_remaining g.S.Stock.tables s t in
    let l = length_moved ms hs base in
    let in' : t < length base = ⊎_elim (λ y. y) (λ n. let z = rows_moved_past t ms hs base n in absurd (omega arith)) (cases_lt t (length base)) in
    let h : Hidden = record { table = t; place = p } in
    let after : items_of c.push.new.self ≡ hs ++ h ∷ [] = cc in
    let few = rows_moved t ms hs base in' in
    let room = room_left s.hidden.count (omega arith) (sym c.is_full.ensures ∙ c.if-is_full.false) in
    record {
      cause = (withdraw_below ts k s.hidden.count t p (omega arith) (omega arith) (omega arith), omega arith, refl);
      shows = λ u.
          let e = ap (λ x. moved ms x base) after ∙ hidden_shows ms hs h t p base refl refl in' (omega arith) (u t) in
          let r = ap (λ x. rows_of x t) e ∙ ap length (rows_changed (λ rs. remove rs p) ts t (omega arith)) in
          let n = length-remove (rows_at ts t) p (omega arith) in
          (e, omega arith);
      parts = below h (omega arith) refl refl refl after;
      uncut = λ u j. subst (λ x. length (remaining j x (rows_at base j)) + added_count j ms ≤ 65535) (sym after) (hidden_room ms hs h j (rows_at base j) (u j));
    }

is_there : (o : Option ℕ) (P : Type 0) (Q : ℕ → Type 0) → MatchOption o P Q → (P → ⊥) → IsSome o
is_there None P Q h n = absurd (n h)
is_there (Some i) P Q h n = refl

pub unwrap-i-requires : goal.unwrap-i-requires
unwrap-i-requires g c =
    let s = c.args.self.now in
    let base = g.S.Stock.tables s.below in
    is_there c.nth.result _ _ c.nth.ensures
    (λ n. ⊎_elim
    (λ l. let e = rows_moved c.args.table (items_of s.added) (items_of s.hidden) base l in omega arith)
    (λ l. let e = rows_moved_past c.args.table (items_of s.added) (items_of s.hidden) base l in omega arith)
    (cases_lt c.args.table (length base)))

pub returns : goal.returns
returns g c =
    let s = c.args.self.now in
    let t = c.args.table in
    let p = c.args.place in
    let base = g.S.Stock.tables s.below in
    let ms = items_of s.added in
    let hs = items_of s.hidden in
    let ts = shown g.S.Stock.tables s in
    let k = rows_remaining g.S.Stock.tables s t in
    let l = length_moved ms hs base in
    let in' : t < length base = ⊎_elim (λ y. y) (λ n. let z = rows_moved_past t ms hs base n in absurd (omega arith)) (cases_lt t (length base)) in
    let after = c.remove.ensures.items in
    let nth = MatchOption-at_some _ _ c.unwrap-i.result c.unwrap-i.ensures c.nth.ensures in
    let nth' = rw c.kept-kept.ensures at nth in
    let few = rows_moved t ms hs base in' in
    record {
      cause = (withdraw_own ts k s.hidden.count t p (omega arith) (omega arith), omega arith, refl);
      shows = λ u.
          let e = ap (λ x. moved x hs base) after ∙ struck_shows ms hs t (p - k) c.unwrap-i.result nth' p base in' (omega arith) refl (omega arith) (u t) in
          let r = ap (λ x. rows_of x t) e ∙ ap length (rows_changed (λ rs. remove rs p) ts t (omega arith)) in
          let n = length-remove (rows_at ts t) p (omega arith) in
          (e, omega arith);
      parts = own c.unwrap-i.result (omega arith) nth' after refl;
      uncut = λ u j. subst (λ x. length (remaining j hs (rows_at base j)) + added_count j x ≤ 65535) (sym after) (struck_room ms hs t (p - k) c.unwrap-i.result nth' j (length (remaining j hs (rows_at base j))) (u j));
    }
