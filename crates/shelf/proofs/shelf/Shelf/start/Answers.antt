use Rattle.std.proofs.Common.{◌≤◌, ◌*◌, ℕ, length, take, sym, ap, ◌∙◌, rules, tests, arith}
use Rattle.std.proofs.lemmas.List.{length-take-le}
use Rattle.std.proofs.lemmas.List.Sums.{get_or-le-sum_by}
use Rattle.std.proofs.lemmas.Iterator.{YieldsList-from_slice, YieldsList-from_map}
use Rattle.std.proofs.lemmas.Iterator.Adapters.{serves_from_places}
use Rattle.std.proofs.lemmas.Iterator.Consumers.{sum_by_from_yields_List, fits_by_from_yields_list}
use Rattle.shelf.proofs.Showing.{shown_length, shown_offset, shown_start}
use Rattle.shelf.proofs.shelf.Shelf.start.Goals as goal

pub slice_bounds-iter-end : goal.slice_bounds-iter-end
slice_bounds-iter-end c = let s = c.args.self.now in let l = shown_length s.pairs.now s.cells.now s.shown.now s.checked in sym (length-take-le c.args.table s.shown.now (omega arith))

pub sum-requires-clause-can : goal.sum-requires-clause-can
sum-requires-clause-can c =
    let s = c.args.self.now in
    let t = c.args.table in
    let h = λ (p : ℕ × ℕ). p.1 * p.0 in
    let most = shown_offset s.pairs.now s.cells.now s.shown.now s.checked t c.requires in
    (tt, serves_from_places (YieldsList-from_slice (take t s.shown.now) cc) (λ x q r. search rules) (λ x k l e. let fits : h x.now ≤ length s.cells.now = omega (arith, ap h e, get_or-le-sum_by h (take t s.shown.now) k x.now l) in search rules))

pub sum-requires-clause-fits : goal.sum-requires-clause-fits
sum-requires-clause-fits c =
    let s = c.args.self.now in
    let t = c.args.table in
    let h = λ (p : ℕ × ℕ). p.1 * p.0 in
    let most = shown_offset s.pairs.now s.cells.now s.shown.now s.checked t c.requires in
    fits_by_from_yields_list h (take t s.shown.now) c.map.result _ (YieldsList-from_map _ h (YieldsList-from_slice (take t s.shown.now) cc) c.map.ensures.closure (λ x r q k. search (rules, tests))) (omega arith)

pub returns : goal.returns
returns c =
    let s = c.args.self.now in
    let t = c.args.table in
    let h = λ (p : ℕ × ℕ). p.1 * p.0 in
    sum_by_from_yields_List h (take t s.shown.now) c.map.result c.sum.result c.sum.ensures.ran (YieldsList-from_map _ h (YieldsList-from_slice (take t s.shown.now) cc) c.map.ensures.closure (λ x r q k. search (rules, tests)))
    ∙ shown_start s.pairs.now s.cells.now s.shown.now s.checked t c.requires
