use Rattle.std.proofs.Common.{eqb, get_or, ◌∙◌, inl, inr}
use Rattle.query.proofs.Handing.{put_once, put_twice, either_way}
use Rattle.query.proofs.contexts.hand_down.Goals as goal

pub returns-in-One : goal.returns-in-One
returns-in-One g c = λ z i h.
    let k = put_once c.args.contexts.now c.put-in-One.new.contexts c.args.x z i h c.in-One.a c.put-in-One.ensures in
    elim c.in-One.is [ inl e ↦ rw e k | inr e ↦ rw e k ]

pub returns-in-Two : goal.returns-in-Two
returns-in-Two g c = λ z i h.
    let k = put_twice c.args.contexts.now c.put-in-Two-2.new.contexts c.args.x z i h c.put-in-Two.new.contexts c.args.x c.in-Two.a c.in-Two.b c.put-in-Two.ensures c.put-in-Two-2.ensures
    ∙ either_way (eqb c.in-Two.a i) (eqb c.in-Two.b i) c.args.x (get_or c.args.contexts.now i z) in
    elim c.in-Two.is [ inl e ↦ rw e k | inr e ↦ rw e k ]

pub returns-in-Tested : goal.returns-in-Tested
returns-in-Tested g c = λ z i h.
    let k = put_twice c.args.contexts.now c.put-in-Tested.new.contexts c.args.x z i h c.put.new.contexts c.args.y c.in-Tested.a c.in-Tested.b c.put.ensures c.put-in-Tested.ensures in
    elim c.in-Tested.is [ inl e ↦ rw e k | inr e ↦ rw e k ]
