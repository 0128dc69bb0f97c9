use Rattle.std.proofs.Common.{◌≡◌, ◌<◌, length, get_or, take, sym, ◌∙◌, subst, arith}
use Rattle.std.proofs.lemmas.List.{take_all, get_or_default}
use Rattle.stock.specs.Tables.{widths}
use Rattle.session.specs.Agrees.{Agrees}
use Rattle.session.specs.Model.{opened}
use Rattle.session.specs.Plans.{PlanLaw}
use Rattle.session.specs.Past.{request_of, lent, reply_of, after}
use Rattle.session.proofs.Steps.{tracks_show, tracks_lawful, wide}
use Rattle.session.proofs.Readings.{replied}
use Rattle.session.proofs.Replays.{after_more, replied_more, requests_more, rest_more}
use Rattle.session.proofs.replay.replay.Goals as goal

pub loop-event-preserved : goal.loop-event-preserved
loop-event-preserved g c =
    let tables = g.S.Stock.tables in
    let model = opened (tables c.open-session.result.layer.below) in
    let ps = c.args.past.now in
    let qs = c.loop-event.past in
    let i = c.loop-event.event-index in
    let s = c.loop-event.session in
    let x = get_or qs i c.event-item.result in
    let y = c.make.new.event in
    let inv = c.loop-event.invariant in
    let n : length qs ≡ length ps = c.loop-event.auto.past in
    let l : i < length ps = omega arith in
    let is = get_or_default qs i c.event-item.result x (omega arith) in
    let m = after model (take i ps) in
    let made = c.make.ensures.made m inv.agrees in record {
      agrees = rw (← after_more model ps qs i x y l n inv.rest is) made.0;
      replied = replied_more model ps qs i x y l n inv.rest is inv.replied
          (replied (widths (tables s.layer.below)) m (request_of x) (lent x) (reply_of y) (wide tables s m inv.agrees) inv.agrees.law
          (tracks_lawful tables s.layer m.tables inv.agrees.rows (g.S.Stock.lawful s.layer.below)) made.1);
      calls = requests_more model ps qs i x y l n inv.rest is inv.calls c.make.ensures.call;
      rest = rest_more model ps qs i x y l n inv.rest is;
      same = c.make.ensures.same ∙ inv.same;
    }

pub returns : goal.returns
returns g c =
    let tables = g.S.Stock.tables in
    let s = c.loop-event.session in
    let ps = c.args.past.now in
    let qs = c.loop-event.past in
    let i = c.loop-event.event-index in
    let inv = c.loop-event.invariant in
    let n : length qs ≡ length ps = c.loop-event.auto.past in
    let e = c.open-session.ensures.same in
    let wp : take i ps ≡ ps = take_all i ps (omega arith) in
    let wq : take i qs ≡ qs = take_all i qs (omega arith) in
    let m = after (opened (tables c.args.stock)) ps in
    let ag : Agrees tables s m = rw (← e, ← wp) inv.agrees in
    record {
      stands = record { rows = sym (tracks_show tables s.layer m.tables ag.rows); query = sym ag.query; plan = sym ag.plan };
      plan = subst (λ z. PlanLaw (widths (tables z)) m.query m.plan) (inv.same ∙ e) ag.law;
      replied = rw (← e, ← wp, ← wq) inv.replied;
      calls = rw (← wp, ← wq) inv.calls;
      same = inv.same ∙ e;
    }
