use Rattle.query.proofs.draft.Draft.+own_marks.Given as goal

abbrev pub decreases-own_marks : goal.decreases-own_marks
decreases-own_marks l = l.i
