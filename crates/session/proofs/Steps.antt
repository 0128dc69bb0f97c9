-- Each call, from what it ensures to the model.
use Rattle.std.proofs.Common.{◌≡◌, ℕ, suc, ◌<◌, cond, ltb, leb, List, [], ◌∷◌, map, length, take, IfOk, Some, None, Ok, Err, Option, Result, sym, refl, ap, ◌∙◌, subst, ⊎_elim}
use Rattle.std.proofs.lemmas.Bool.{cases_Bool, ltb-true, cond-true, cond-false, le-leb, lt-leb}
use Rattle.cells.specs.Cells.{Row}
use Rattle.stock.specs.Tables.{Table, Lawful, widths, width_of, rows_of}
use Rattle.stock.specs.declared.refusal.Refusal.{Refusal}
use Rattle.stock.specs.declared.refusal.Refusal.TheVariants.{NotShown, NoRoom, LongPlan}
use Rattle.movements.specs.Moves.{moved_from, add_cause, withdraw_cause}
use Rattle.movements.specs.Moving.{moved_lawful}
use Rattle.movements.specs.Shown.{items_of, shown, rows_remaining, Uncut, Put, Taken}
use Rattle.movements.specs.declared.movements.Movements.{Movements}
use Rattle.session.specs.Model.{Model, ModelTable, open_table, tables_of, shown_tables, with_added, with_taken, cleared}
use Rattle.session.specs.Requests.{Request, lay, unnest, add, withdraw, clear, cause, changed, step, unless, add_refusal, withdraw_refusal, unnest_refusal, flat_of, with_tables}
use Rattle.session.specs.Replies.{told, accepted, answer_due, lines_of as count_lines}
use Rattle.session.specs.Tracks.{PartsTrack, Tracks}
use Rattle.session.specs.Agrees.{Agrees, Steps, Adds, Withdraws, with_layer, with_plan, with_query}
use Rattle.session.specs.declared.calls.Answer.{Answer}
use Rattle.session.specs.declared.calls.Answer.TheVariants.{Count, Size, Refused}
use Rattle.session.specs.declared.session.Session.{Session}
use Rattle.lines.specs.Lines.{answer}
use Rattle.lines.specs.Trees.{width}
use Rattle.lines.specs.declared.line.Line.{Line}
use Rattle.query.specs.Queries.{lines_of, widths_of}
use Rattle.query.specs.Verdicts.{Accepted}
use Rattle.query.specs.Verdicts as Unlaid
use Rattle.query.specs.declared.query.Query.{Query}
use Rattle.unnest.specs.Emit.{flat_lines}
use Rattle.unnest.specs.FlatPlans.{plan_lines, asked_lines, Unnested}
use Rattle.unnest.specs.FlatPlans as Long
use Rattle.unnest.specs.Statement.{Agree}
use Rattle.unnest.specs.declared.plan.FlatPlan.{FlatPlan}
use Rattle.movements.specs.declared.moved.Added.{Added}
use Rattle.movements.specs.declared.moved.Hidden.{Hidden}
use Rattle.session.specs.Checks.{lay_refusal}
use Rattle.session.specs.Plans.{standing_lines, Fits, PlanFits, PlanLaw}
use Rattle.session.proofs.Verdicts.{accepted_none, refused_some}
use Rattle.session.proofs.Movement.{Whole, count_of, parts_open, parts_show, parts_cleared, parts_add, parts_taken, add_refusal_is, withdraw_refusal_is}

-- any call: the model refuses it or makes it
module _ {X : Type 0} (tables : X → List Table) (s n : Session X) (m : Model) (r : Request) where
  pub refused : (e : Refusal) → cause m r ≡ Some e → n ≡ s → Agrees tables s m → Agrees tables n (step m r) × (Refused e ≡ answer_due m r)
  refused e c same ag = (
    subst (λ x. Agrees tables n (unless x (λ _. m) (changed m r))) (sym c) (subst (λ x. Agrees tables x m) (sym same) ag),
    sym (ap (λ x. unless x (λ y. Refused y) (accepted m r)) c),
  )

  pub made : (a : Answer) → cause m r ≡ None → Agrees tables n (changed m r) → a ≡ accepted m r → Agrees tables n (step m r) × (a ≡ answer_due m r)
  made a c ag e = (
    subst (λ x. Agrees tables n (unless x (λ _. m) (changed m r))) (sym c) ag,
    e ∙ sym (ap (λ x. unless x (λ y. Refused y) (accepted m r)) c),
  )

-- a layer without movements
module _ {X : Type 0} (tables : X → List Table) (n : Movements X) where
  pub tracks_open : n.added.count ≡ 0 → n.hidden.count ≡ 0 → Uncut tables n → Tracks tables n (map open_table (tables n.below))
  tracks_open x y w =
      let xs = tables n.below in
      let ea : items_of n.added ≡ [] = ap (λ k. take k n.added.items) x in
      let eh : items_of n.hidden ≡ [] = ap (λ k. take k n.hidden.items) y in
      subst (λ a. Whole xs a (items_of n.hidden) → PartsTrack xs a (items_of n.hidden) (map open_table xs)) (sym ea)
      (subst (λ h. Whole xs [] h → PartsTrack xs [] h (map open_table xs)) (sym eh) (parts_open xs)) w

module _ {X : Type 0} (tables : X → List Table) (m : Movements X) (ts : List ModelTable) (tr : Tracks tables m ts) where
  pub tracks_show : shown_tables ts ≡ shown tables m
  tracks_show = parts_show (tables m.below) (items_of m.added) (items_of m.hidden) ts tr

  pub tracks_lawful : Lawful (tables m.below) → Lawful (shown_tables ts)
  tracks_lawful g = subst Lawful (sym tracks_show) (moved_lawful (items_of m.added) (items_of m.hidden) (tables m.below) g)

  pub add_refused_is : (t : ℕ) (row : Row) → add_refusal ts t row ≡ add_cause (shown tables m) m.added.count t row
  add_refused_is t row =
      add_refusal_is (tables m.below) (items_of m.added) (items_of m.hidden) ts tr t row ∙ ap (λ k. add_cause (shown tables m) k t row) (count_of m.added)

  pub withdraw_refused_is : (t p : ℕ) → withdraw_refusal ts t p ≡ withdraw_cause (shown tables m) (rows_remaining tables m t) m.hidden.count t p
  withdraw_refused_is t p =
      withdraw_refusal_is (tables m.below) (items_of m.added) (items_of m.hidden) ts tr t p ∙ ap (λ k. withdraw_cause (shown tables m) (rows_remaining tables m t) k t p) (count_of m.hidden)

  module _ (n : Movements X) (same : n.below ≡ m.below) where
    pub tracks_clear : n.added.count ≡ 0 → n.hidden.count ≡ 0 → Uncut tables n → Tracks tables n (cleared ts)
    tracks_clear x y w =
        subst (Tracks tables n) (ap (λ z. map open_table (tables z)) same ∙ sym (parts_cleared (tables m.below) (items_of m.added) (items_of m.hidden) ts tr)) (tracks_open tables n x y w)

    pub tracks_add : (t : ℕ) (row : Row) → add_cause (shown tables m) m.added.count t row ≡ None
        → Put t (width_of (tables m.below) t) row (items_of m.added) (items_of n.added) → n.hidden ≡ m.hidden → Uncut tables n
        → Tracks tables n (with_added ts t row)
    tracks_add t row none put still w =
        let none' = ap (λ k. add_cause (shown tables m) k t row) (count_of m.added) ∙ none in
        subst (λ z. Whole (tables z) (items_of n.added) (items_of n.hidden) → PartsTrack (tables z) (items_of n.added) (items_of n.hidden) (with_added ts t row)) (sym same)
        (subst (λ z. Whole (tables m.below) (items_of n.added) (items_of z) → PartsTrack (tables m.below) (items_of n.added) (items_of z) (with_added ts t row)) (sym still)
        (parts_add (tables m.below) (items_of m.added) (items_of m.hidden) ts tr t row (items_of n.added) none' put)) w

    pub tracks_withdraw : (t p : ℕ) → p < rows_of (shown tables m) t
        → Taken t p (rows_remaining tables m t) (items_of m.added) (items_of m.hidden) (items_of n.added) (items_of n.hidden) → Uncut tables n
        → Tracks tables n (with_taken ts t p)
    tracks_withdraw t p l taken w =
        subst (λ z. Whole (tables z) (items_of n.added) (items_of n.hidden) → PartsTrack (tables z) (items_of n.added) (items_of n.hidden) (with_taken ts t p)) (sym same)
        (parts_taken (tables m.below) (items_of m.added) (items_of m.hidden) ts tr t p l (items_of n.added) (items_of n.hidden) taken) w

-- a row is withdrawn where one is shown
row_shown : (ts : List Table) (k n t p : ℕ) → withdraw_cause ts k n t p ≡ None → p < rows_of ts t
row_shown ts k n t p e =
    let rest : Option Refusal = cond (ltb p k) (cond (ltb n 64) None (Some NoRoom)) None in
    ⊎_elim
    (λ y. ltb-true p (rows_of ts t) y)
    (λ z. let x = cond-false (ltb p (rows_of ts t)) rest (Some NotShown) z in cc)
    (cases_Bool (ltb p (rows_of ts t)))

module _ {X : Type 0} (tables : X → List Table) (s : Session X) (n : Movements X) where
  moved_on : (ts : List ModelTable) (m : Model) → Agrees tables s m → n.below ≡ s.layer.below → Tracks tables n ts → Agrees tables (with_layer s n) (with_tables ts m)
  moved_on ts m ag same tr = record {
    rows = tr;
    query = ag.query;
    fits = subst (λ z. Fits (widths (tables z)) s.query) (sym same) ag.fits;
    plan = ag.plan;
    plan_fits = subst (λ z. PlanFits (widths (tables z)) s.plan) (sym same) ag.plan_fits;
    law = subst (λ z. PlanLaw (widths (tables z)) m.query m.plan) (sym same) ag.law;
  }

  pub steps_add : (t : ℕ) (row : Row) (a : Result ℕ Refusal) → Adds tables s.layer n t row a
      → IfOk a (λ _. Put t (width_of (tables s.layer.below) t) row (items_of s.layer.added) (items_of n.added) × (n.hidden ≡ s.layer.hidden))
      → (Uncut tables s.layer → Uncut tables n)
      → Steps tables s (with_layer s n) (add t row) (told a)
  steps_add t row (Ok k) h put w m ag =
      let tr = ag.rows in
      let new = tracks_add tables s.layer m.tables tr n h.3 t row h.0 put.0 put.1 (w tr.uncut) in
      made tables s (with_layer s n) m (add t row) (Count k) (add_refused_is tables s.layer m.tables tr t row ∙ h.0) (moved_on (with_added m.tables t row) m ag h.3 new)
      (ap Count (h.2 ∙ ap (λ x. rows_of x t) (sym (tracks_show tables n (with_added m.tables t row) new))))
  steps_add t row (Err e) h put w m ag =
      refused tables s (with_layer s n) m (add t row) e (add_refused_is tables s.layer m.tables ag.rows t row ∙ h.0) (ap (with_layer s) h.1) ag

  pub steps_withdraw : (t p : ℕ) (a : Result ℕ Refusal) → Withdraws tables s.layer n t p a
      → IfOk a (λ _. Taken t p (rows_remaining tables s.layer t) (items_of s.layer.added) (items_of s.layer.hidden) (items_of n.added) (items_of n.hidden))
      → (Uncut tables s.layer → Uncut tables n)
      → Steps tables s (with_layer s n) (withdraw t p) (told a)
  steps_withdraw t p (Ok k) h taken w m ag =
      let tr = ag.rows in
      let c = h.cause in
      let l = row_shown (shown tables s.layer) (rows_remaining tables s.layer t) s.layer.hidden.count t p c.0 in
      let new = tracks_withdraw tables s.layer m.tables tr n c.2 t p l taken (w tr.uncut) in
      made tables s (with_layer s n) m (withdraw t p) (Count k) (withdraw_refused_is tables s.layer m.tables tr t p ∙ c.0) (moved_on (with_taken m.tables t p) m ag c.2 new)
      (ap Count ((h.shows tr.uncut).1 ∙ ap (λ x. rows_of x t) (sym (tracks_show tables n (with_taken m.tables t p) new))))
  steps_withdraw t p (Err e) h taken w m ag =
      refused tables s (with_layer s n) m (withdraw t p) e (withdraw_refused_is tables s.layer m.tables ag.rows t p ∙ h.cause.0) (ap (with_layer s) h.cause.1) ag

  pub steps_clear : n.below ≡ s.layer.below → n.added.count ≡ 0 → n.hidden.count ≡ 0 → Uncut tables n → Steps tables s (with_layer s n) clear (Count 0)
  steps_clear same x y w m ag =
      made tables s (with_layer s n) m clear (Count 0) refl (moved_on (cleared m.tables) m ag same (tracks_clear tables s.layer m.tables ag.rows n same x y w)) refl

-- movements leave the widths
widths_moved : (k : ℕ) (ms : List Added) (hs : List Hidden) (xs : List Table) → widths (moved_from k ms hs xs) ≡ widths xs
widths_moved k ms hs [] = refl
widths_moved k ms hs (x ∷ xs) = ap (λ y. x.width ∷ y) (widths_moved (suc k) ms hs xs)

pub wide : {X : Type 0} (tables : X → List Table) (s : Session X) (m : Model) → Agrees tables s m → widths (tables_of m) ≡ widths (tables s.layer.below)
wide tables s m ag = ap widths (tracks_show tables s.layer m.tables ag.rows) ∙ widths_moved 0 (items_of s.layer.added) (items_of s.layer.hidden) (tables s.layer.below)

pub steps_lay : {X : Type 0} (tables : X → List Table) (s : Session X) (ls : List Line) (q : Query) (a b : ℕ) → Accepted ls (widths (shown tables s.layer)) → lines_of q ≡ ls → widths_of q ≡ widths (shown tables s.layer)
    → a ≡ length ls → b ≡ width (widths (shown tables s.layer)) (answer ls) → Steps tables s (with_query s q) (lay ls) (Size a b)
steps_lay tables s ls q a b ok is ws la lb m ag =
    let e = ap widths (tracks_show tables s.layer m.tables ag.rows) in
    made tables s (with_query s q) m (lay ls) (Size a b) (ap (λ w. lay_refusal w ls) e ∙ accepted_none (widths (shown tables s.layer)) ls ok)
    (record { rows = ag.rows; query = ap Some (sym is); fits = ws ∙ sym e ∙ wide tables s m ag; plan = refl; plan_fits = tt; law = tt })
    (ap (λ x. Size x b) la ∙ ap (Size (length ls)) (lb ∙ ap (λ w. width w (answer ls)) (sym e)))

pub refused_lay : {X : Type 0} (tables : X → List Table) (s : Session X) (ls : List Line) (x : Refusal) → Unlaid.Refused ls (widths (shown tables s.layer)) x → Steps tables s s (lay ls) (Refused x)
refused_lay tables s ls x why m ag =
    let e = ap widths (tracks_show tables s.layer m.tables ag.rows) in
    refused tables s s m (lay ls) x (ap (λ w. lay_refusal w ls) e ∙ refused_some (widths (shown tables s.layer)) ls x why) refl ag

module _ {X : Type 0} (tables : X → List Table) (s : Session X) where
  module _ (q : Query) (is : s.query ≡ Some q) (m : Model) (ag : Agrees tables s m) where
    lines : m.query ≡ Some (lines_of q)
    lines = ag.query ∙ ap standing_lines is

    here : widths_of q ≡ widths (tables s.layer.below)
    here = subst (Fits (widths (tables s.layer.below))) is ag.fits

    same : widths (tables_of m) ≡ widths_of q
    same = wide tables s m ag ∙ sym here

    cause_is : unnest_refusal (flat_lines (widths (tables_of m))) m.query ≡ cond (leb (length (asked_lines q)) 512) None (Some LongPlan)
    cause_is = ap (unnest_refusal (flat_lines (widths (tables_of m)))) lines ∙ ap (λ w. cond (leb (length (flat_lines w (lines_of q))) 512) None (Some LongPlan)) same

    flat_is : flat_of (flat_lines (widths (tables_of m))) m.query ≡ Some (asked_lines q)
    flat_is = ap (flat_of (flat_lines (widths (tables_of m)))) lines ∙ ap (λ w. Some (flat_lines w (lines_of q))) same

  pub unnest_made : (q : Query) (p : FlatPlan) (k : ℕ) → s.query ≡ Some q → Unnested q p → k ≡ length (plan_lines p) → Steps tables s (with_plan s p) unnest (Count k)
  unnest_made q p k is u n m ag =
      let ws = widths (tables s.layer.below) in
      let plan = flat_is q is m ag ∙ ap Some (sym u.lines) in
      let law : PlanLaw ws (Some (lines_of q)) (Some (plan_lines p)) = (subst (λ w. Agree w (lines_of q) (plan_lines p)) (here q is m ag) u.agrees, u.no_apply) in
      made tables s (with_plan s p) m unnest (Count k) (cause_is q is m ag ∙ cond-true (leb (length (asked_lines q)) 512) None (Some LongPlan) (le-leb (length (asked_lines q)) 512 u.few))
      (record {
        rows = ag.rows;
        query = ag.query;
        fits = ag.fits;
        plan = plan;
        plan_fits = u.widths ∙ here q is m ag;
        law = subst (λ o. PlanLaw ws o (flat_of (flat_lines (widths (tables_of m))) m.query)) (sym (lines q is m ag)) (subst (PlanLaw ws (Some (lines_of q))) (sym plan) law);
      })
      (ap Count n ∙ sym (ap (λ o. Count (count_lines o)) plan))

  pub unnest_long : (q : Query) (e : Refusal) → s.query ≡ Some q → Long.Refused q e → Steps tables s s unnest (Refused e)
  unnest_long q e is l m ag =
      refused tables s s m unnest e (cause_is q is m ag ∙ cond-false (leb (length (asked_lines q)) 512) None (Some LongPlan) (lt-leb (length (asked_lines q)) 512 l.over) ∙ ap Some (sym l.cause)) refl ag
