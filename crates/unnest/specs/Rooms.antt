-- Lines put behind lines.
use Rattle.lines.specs.declared.line.Line.{Line}
use Rattle.stock.specs.declared.refusal.Refusal.{Refusal}
use Rattle.stock.specs.declared.refusal.Refusal.TheVariants.{LongPlan}
use Rattle.unnest.specs.declared.room.Room.{Room}
use Rattle.std.specs.Prelude.{◌≡◌, ℕ, ◌+◌, ◌<◌, List, ◌++◌, length, take, Result, MatchResult}

-- the lines that stand
abbrev pub laid : Room → List Line
laid room = take room.count room.lines

-- new lines stand behind those of before, the last of them with the number k
pub record Emitted (before after new : List Line) (k : ℕ) : Type 0 where
  pub lines : after ≡ before ++ new
  pub last : k + 1 ≡ length after

-- there is no room for the new lines
pub record TooLong (before new : List Line) (why : Refusal) : Type 0 where
  pub cause : why ≡ LongPlan
  pub over : 512 < length before + length new

-- the outcome of putting new lines behind those of before
abbrev pub Puts : List Line → List Line → List Line → Result ℕ Refusal → Type 0
Puts before after new r = MatchResult r (λ k. Emitted before after new k) (λ e. TooLong before new e)

-- the outcome of putting the lines that f gives from the next free number on
abbrev pub Lays : Room → Room → (ℕ → List Line) → Result ℕ Refusal → Type 0
Lays old new f r = Puts (laid old) (laid new) (f (length (laid old))) r
