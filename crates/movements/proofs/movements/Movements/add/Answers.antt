use Rattle.std.proofs.Common.{◌≡◌, ◌+◌, ◌<◌, ◌≤◌, [], ◌∷◌, ◌++◌, length, take, sym, refl, ap, ◌∙◌, subst, arith, length-append}
use Rattle.stock.specs.Tables.{Table, width_of, rows_of, rows_at}
use Rattle.stock.specs.Tabled.{small_width}
use Rattle.movements.specs.Moves.{moved, added_count}
use Rattle.movements.specs.Shown.{items_of, shown, rows_remaining}
use Rattle.movements.specs.Moving.{moved_lawful, width_moved, length_moved, rows_moved, get_or_moved}
use Rattle.movements.proofs.Rowed.{right_row, add_none}
use Rattle.movements.proofs.Changes.{added_shows, rows_changed}
use Rattle.movements.proofs.Rooms.{add_room, room_left}
use Rattle.movements.proofs.movements.Movements.add.Goals as goal

pub padded-requires : goal.padded-requires
padded-requires g c =
    let s = c.args.self.now in
    let ts = shown g.S.Stock.tables s in
    let p = right_row c.width.result c.args.row.now (sym c.in_default.ensures) in
    let w = small_width ts c.args.table (moved_lawful (items_of s.added) (items_of s.hidden) (g.S.Stock.tables s.below) (g.S.Stock.lawful s.below)) in
    let e = p.0 in
    (omega arith, p.1)

pub returns : goal.returns
returns g c =
    let s = c.args.self.now in
    let t = c.args.table in
    let row = c.args.row.now in
    let base = g.S.Stock.tables s.below in
    let ms = items_of s.added in
    let hs = items_of s.hidden in
    let ts = shown g.S.Stock.tables s in
    let p = right_row c.width.result row (sym c.in_default.ensures) in
    let e : length row ≡ width_of base t = p.0 ∙ c.width.ensures ∙ width_moved t ms hs base in
    let front : take (width_of base t) c.padded.result ≡ row = ap (λ k. take k c.padded.result) (sym e) ∙ c.padded.ensures.front in
    let l = length_moved ms hs base in
    let in' : t < length base = omega arith in
    let few = rows_moved t ms hs base in' in
    let here = ap (λ (x : Table). length x.rows) (get_or_moved t ms hs base in') in
    let after = c.push.ensures.items in
    let shows = ap (λ x. moved x hs base) after ∙ added_shows ms _ hs t base row refl in' front (omega arith) in
    let rows = ap (λ x. rows_of x t) shows ∙ ap length (rows_changed (λ rs. rs ++ row ∷ []) ts t (omega arith)) ∙ length-append (rows_at ts t) (row ∷ []) in
    let room = room_left s.added.count (omega arith) (sym c.is_full.ensures ∙ c.if-is_full.false) in
    record {
      shows = (add_none ts s.added.count t row (omega arith) (rw c.width.ensures at (sym c.in_default.ensures)) (omega arith) (omega arith), shows, omega arith, refl);
      parts = (record { new = _; table = refl; is = front; after = after }, refl);
      uncut = λ u k. subst (λ x. rows_remaining g.S.Stock.tables s k + added_count k x ≤ 65535) (sym after) (add_room ms _ (rows_remaining g.S.Stock.tables s) u (omega arith) k);
    }
