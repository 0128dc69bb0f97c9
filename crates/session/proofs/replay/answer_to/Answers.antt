use Rattle.std.proofs.Common.{length, ap}
use Rattle.session.specs.Requests.{ask, run}
use Rattle.session.specs.Replies.{told_size}
use Rattle.session.specs.Past.{request_by}
use Rattle.session.proofs.Replays.{told_size_is, makes_read}
use Rattle.session.proofs.replay.answer_to.Goals as goal

pub returns-in-Ask-clause-made : goal.returns-in-Ask-clause-made
returns-in-Ask-clause-made g c =
    let s = c.args.session.now in
    let n = length c.args.cells.now in
    makes_read g.S.Stock.tables s s (request_by n c.args.call.now) (ask n) c.args.cells.now c.ask.new.cells c.into-in-Ask.result (told_size c.ask.result)
    (ap (request_by n) c.in-Ask.is) (told_size_is c.ask.result c.into-in-Ask.result c.into-in-Ask.ensures) c.ask.ensures.steps

pub returns-in-Run-clause-made : goal.returns-in-Run-clause-made
returns-in-Run-clause-made g c =
    let s = c.args.session.now in
    let n = length c.args.cells.now in
    makes_read g.S.Stock.tables s s (request_by n c.args.call.now) (run n) c.args.cells.now c.run.new.cells c.into-in-Run.result (told_size c.run.result)
    (ap (request_by n) c.in-Run.is) (told_size_is c.run.result c.into-in-Run.result c.into-in-Run.ensures) c.run.ensures.steps
