use Rattle.std.proofs.Common.{map, refl, subst}
use Rattle.session.specs.Model.{open_table}
use Rattle.session.specs.Tracks.{Tracks}
use Rattle.session.proofs.Steps.{tracks_open}
use Rattle.session.proofs.session.Session.open.Goals as goal

pub returns-clause-agrees : goal.returns-clause-agrees
returns-clause-agrees g c =
    let tables = g.S.Stock.tables in
    let n = c.over.result in
    let o = c.over.ensures in
    record { rows = subst (λ z. Tracks tables n (map open_table (tables z))) o.same (tracks_open tables n o.adds o.hides o.uncut); query = refl; fits = tt; plan = refl; plan_fits = tt; law = tt }
