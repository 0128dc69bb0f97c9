-- The definitions compute.
use Rattle.std.proofs.Common.{rules}
use Rattle.lines.specs.Trees.{rows, width}
use Rattle.lines.specs.Lines.{build}
use Rattle.evaluate.proofs.examples.counted_examples.Goals as goal

pub returns : goal.returns
unfolding rows width build
returns c = search rules
