use Rattle.std.proofs.Common.{◌≡◌, ◌+◌, ℤ, ◌+ℤ◌, sym, ◌∙◌, subst, w64, SFits, to_z, of_z, rules}
use Rattle.std.proofs.lemmas.Int.{to_z-of_z}
use Rattle.operators.specs.Folds.{Within, adds}
use Rattle.operators.proofs.Folding.{adds_within, within_more}
use Rattle.operators.proofs.folds.Running.step.Goals as goal

pub returns-clause-within : goal.returns-clause-within
returns-clause-within c = λ n q.
    let z = c.sum_with.result in
    let f : SFits w64 z = search rules in
    let e : to_z w64 (of_z w64 z) ≡ adds c.args.aggregate c.args.cell +ℤ c.args.self.sum = to_z-of_z w64 z f ∙ c.sum_with.ensures in
    let P : ℤ → Type 0 = λ x. Within (n + 1) x in
    subst P (sym e) (within_more n (adds c.args.aggregate c.args.cell) c.args.self.sum (adds_within c.args.aggregate c.args.cell c.requires.addable) q)
