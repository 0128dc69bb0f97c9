use Rattle.std.proofs.Common.{arith, rules}
use Rattle.std.proofs.lemmas.List.{take_more_set}
use Rattle.movements.proofs.bounded.Bounded.push.Goals as goal

pub returns : goal.returns
returns g c = record { len = search rules; items = take_more_set c.args.self.now.items c.args.self.now.count c.args.x (omega arith) }
