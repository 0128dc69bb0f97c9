-- The tables of two stocks, each by its place.
use Rattle.std.specs.Prelude.{List, Option, Some, None, get_or}
use Rattle.stock.specs.Tables.{Table, no_table}
use Rattle.stock.specs.declared.pair.Place.{Place}
use Rattle.stock.specs.declared.pair.Place.TheVariants.{First, Second}

abbrev pub table_of : List Table → List Table → Option Place → Table
table_of a b (Some (First t)) = get_or a t no_table
table_of a b (Some (Second t)) = get_or b t no_table
table_of a b None = no_table
