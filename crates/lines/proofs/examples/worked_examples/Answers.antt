-- The definitions compute, and what the check asks is plain arithmetic on numerals, so the search closes the whole table.
use Rattle.std.proofs.Common.{rules}
use Rattle.lines.specs.Trees.{rows, width}
use Rattle.lines.specs.Lines.{build}
use Rattle.lines.specs.Marks.{Sound, own}
use Rattle.lines.proofs.examples.worked_examples.Goals as goal

pub returns : goal.returns
unfolding rows width build Sound own
returns c = search rules
