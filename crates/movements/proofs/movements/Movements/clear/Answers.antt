use Rattle.std.proofs.Common.{rules}
use Rattle.movements.proofs.Empty.{no_items, shows_below, uncut_below}
use Rattle.movements.proofs.movements.Movements.clear.Goals as goal

pub returns-clause-shows : goal.returns-clause-shows
returns-clause-shows g c = let b = c.args.self.now.below in shows_below (g.S.Stock.tables b) _ _ (no_items _ _ (search rules)) (no_items _ _ (search rules)) (g.S.Stock.lawful b)

pub returns-clause-uncut : goal.returns-clause-uncut
returns-clause-uncut g c = let b = c.args.self.now.below in uncut_below (g.S.Stock.tables b) _ _ (no_items _ c.clear.new.self.items c.clear.ensures) (no_items _ c.clear-2.new.self.items c.clear-2.ensures) (g.S.Stock.lawful b)
