use Rattle.std.proofs.Common.{◌+◌, ◌*◌, max}
use Rattle.operators.proofs.conditions.Condition.+truths.Given as goal

abbrev pub decreases-truth_on : goal.decreases-truth_on
decreases-truth_on l = 2 * l.line

abbrev pub decreases-both : goal.decreases-both
decreases-both l = 2 * max l.left l.right + 1
