use Rattle.unnest.proofs.room.Room.+emit_condition.Given as goal

abbrev pub decreases-emit_condition : goal.decreases-emit_condition
decreases-emit_condition l = l.line
