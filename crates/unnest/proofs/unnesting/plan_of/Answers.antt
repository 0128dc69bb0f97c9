use Rattle.std.proofs.Common.{sym, subst}
use Rattle.query.specs.Queries.{lines_of, widths_of}
use Rattle.query.specs.Sizes.{Sized}
use Rattle.query.proofs.Sounds.{sound_answer}
use Rattle.unnest.proofs.Whole.{formed_so, unnested_so}
use Rattle.unnest.proofs.unnesting.plan_of.Goals as goal

pub invariant_of-result : goal.invariant_of-result
invariant_of-result c =
    let q = c.args.query.now in
    let f = c.table_widths.ensures in
    record {
      full = c.args.room.full;
      few = c.args.room.few;
      sized = subst Sized (sym f) q.sized;
      formed = ∣ formed_so (widths_of q) _ (lines_of q) _ f c.requires (sound_answer (lines_of q) (widths_of q) q.accepted) ∣₁;
    }

pub returns : goal.returns
returns c = unnested_so c.args.query.now _ c.requires c.table_widths.ensures
