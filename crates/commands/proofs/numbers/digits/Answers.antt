use Rattle.std.proofs.Common.{rules, Some, sym, ap, ◌∙◌, arith}
use Rattle.std.proofs.lemmas.Bool.{eqb-false}
use Rattle.commands.specs.Numbers.{more_digits}
use Rattle.commands.proofs.Digits.{read_all, digits_of-some}
use Rattle.commands.proofs.numbers.digits.Goals as goal

pub returns : goal.returns
returns c =
    let some = eqb-false _ 0 (sym c.if-is_empty.ensures) in
    read_all c.iter.result _ _ 0 _ c.try_fold.ensures.ran (λ f g n m x turn. search rules) (λ m e. e) (λ g m x broke. search rules)
    ∙ (ap (λ ys. more_digits ys (Some 0)) c.iter.ensures.rest ∙ digits_of-some c.args.word.now (omega arith))
