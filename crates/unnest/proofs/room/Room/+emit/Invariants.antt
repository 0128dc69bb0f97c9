use Rattle.unnest.proofs.room.Room.+emit.Given as goal

abbrev pub decreases-emit : goal.decreases-emit
decreases-emit l = l.line
