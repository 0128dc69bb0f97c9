use Rattle.query.proofs.Tabling.{sized_from}
use Rattle.query.proofs.draft.table_widths.Goals as goal

pub returns-clause-sized : goal.returns-clause-sized
returns-clause-sized g c = sized_from (g.S.Stock.tables c.args.stock.now) (g.S.Stock.lawful c.args.stock.now)
