use Rattle.std.proofs.Common.{refl}
use Rattle.lines.specs.Lines.{build}
use Rattle.lines.specs.Trees.{rows, width}
use Rattle.query.specs.Contexts.{read_under}
use Rattle.unnest.specs.Emit.{emit}
use Rattle.session.proofs.examples.worked_pasts.Goals as goal

pub returns : goal.returns
unfolding rows width build emit read_under
returns c = record {
  places = refl;
  clears = refl;
  still = refl;
  no_place = refl;
  no_table = refl;
  wide = refl;
  large = refl;
  null = refl;
  last_room = refl;
  no_room = refl;
  room_again = refl;
  last_hidden = refl;
  no_hidden = refl;
  own = refl;
  no_query = refl;
  no_rows = refl;
  no_plan = refl;
  enough = refl;
  short = refl;
  one_more = refl;
  many = refl;
  enough_twice = refl;
  short_twice = refl;
  many_twice = refl;
  rows = refl;
  nulls = refl;
  relaid = refl;
}
