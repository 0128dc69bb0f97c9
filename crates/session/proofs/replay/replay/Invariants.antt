use Rattle.std.proofs.Common.{◌≡◌, map, take, drop}
use Rattle.session.specs.Agrees.{Agrees}
use Rattle.session.specs.Model.{opened}
use Rattle.session.specs.Law.{EachReplied}
use Rattle.session.specs.Past.{request_of, after}
use Rattle.session.proofs.replay.replay.Given as goal

-- the calls made so far: session and replies are the model's, and the other calls still stand as they were
abbrev pub invariant-loop-event : goal.invariant-loop-event
invariant-loop-event g l =
    let tables = g.S.Stock.tables in
    let stock = l.initial.session.layer.below in
    let i = l.event-index in record {
      agrees : Agrees tables l.session (after (opened (tables stock)) (take i l.initial.past));
      replied : EachReplied (opened (tables stock)) (take i l.initial.past) (take i l.past);
      calls : map request_of (take i l.past) ≡ map request_of (take i l.initial.past);
      rest : drop i l.past ≡ drop i l.initial.past;
      same : l.session.layer.below ≡ stock;
    }
