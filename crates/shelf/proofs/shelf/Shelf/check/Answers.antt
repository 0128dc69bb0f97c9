use Rattle.std.proofs.Common.{◌≡◌, ◌+◌, ◌-◌, length, drop, Err, sym, ap, ◌∙◌, rules, arith}
use Rattle.std.specs.Result.{result_ok}
use Rattle.std.proofs.lemmas.Option.{MatchOption-at_some, MatchOption-at_none}
use Rattle.stock.specs.declared.refusal.Refusal.TheVariants.{BadTable}
use Rattle.shelf.specs.Cut.{fault_from, check_answer}
use Rattle.shelf.proofs.Checking.{fault_over, fault_here, fault_more, fault_left, fault_none}
use Rattle.shelf.proofs.Whole.{whole}
use Rattle.shelf.proofs.shelf.Shelf.check.Goals as goal

pub returns-then-i-ge-MOST_TABLES-clause-value : goal.returns-then-i-ge-MOST_TABLES-clause-value
returns-then-i-ge-MOST_TABLES-clause-value c =
    let ps = c.args.pairs.now in
    let rest = c.loop-i.rest.now in
    sym (ap (λ o. check_answer o (length ps)) (c.loop-i.invariant ∙ fault_over ps rest c.loop-i.i c.loop-i-test.true c.if-i-ge-MOST_TABLES.true))

pub returns-in_err-rest-clause-value : goal.returns-in_err-rest-clause-value
returns-in_err-rest-clause-value c =
    let ps = c.args.pairs.now in
    let rest = c.loop-i.rest.now in
    let unfit = MatchOption-at_none _ _ (c.ok_or.ensures.ok_part ∙ ap result_ok c.in_err-rest.was) c.after_table.ensures in
    let said : c.from_residual.result ≡ Err (BadTable c.loop-i.i) = search rules in
    said ∙ sym (ap (λ o. check_answer o (length ps)) (c.loop-i.invariant ∙ fault_here ps rest c.loop-i.i c.loop-i-test.true (omega arith) unfit))

pub loop-i-preserved : goal.loop-i-preserved
loop-i-preserved c =
    let ps = c.args.pairs.now in
    let rest = c.loop-i.rest.now in
    let i = c.loop-i.i in
    let fit = MatchOption-at_some _ _ c.in_ok-rest.rest (c.ok_or.ensures.ok_part ∙ ap result_ok c.in_ok-rest.was) c.after_table.ensures in
    c.loop-i.invariant ∙ fault_more ps rest i c.loop-i-test.true (omega arith) fit.0 ∙ ap (fault_from (i + 1) (drop (i + 1) ps)) (sym fit.1)

pub returns-then-not-is_empty-clause-value : goal.returns-then-not-is_empty-clause-value
returns-then-not-is_empty-clause-value c =
    let ps = c.args.pairs.now in
    let last : c.saturating_sub.result ≡ c.loop-i.i - 1 = omega arith in
    ap (λ k. Err (BadTable k)) last
    ∙ sym (ap (λ o. check_answer o (length ps)) (c.loop-i.invariant ∙ fault_left ps c.loop-i.rest.now c.loop-i.i c.loop-i-test.false (sym c.is_empty.ensures ∙ c.if-not-is_empty.true)))

pub returns : goal.returns
returns c =
    let ps = c.args.pairs.now in
    let none = c.loop-i.invariant ∙ fault_none ps c.loop-i.rest.now c.loop-i.i c.loop-i-test.false (sym c.is_empty.ensures ∙ c.if-not-is_empty.false) in
    record { value = sym (ap (λ o. check_answer o (length ps)) none); whole = λ _. whole ps c.args.cells.now none }
