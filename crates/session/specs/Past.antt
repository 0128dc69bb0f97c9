-- A session's whole past: every list of calls, made one after another.
use Rattle.std.specs.Prelude.{ℕ, List, [], ◌∷◌, length, vec_items}
use Rattle.cells.specs.declared.cell.Cell.{Cell}
use Rattle.session.specs.Model.{Model}
use Rattle.session.specs.Requests.{Request, lay, unnest, add, withdraw, clear, ask, run, step}
use Rattle.session.specs.Replies.{Reply}
use Rattle.session.specs.declared.calls.Call.{Call}
use Rattle.session.specs.declared.calls.Call.TheVariants.{Lay, Unnest, Add, Withdraw, Clear, Ask, Run}
use Rattle.session.specs.declared.calls.Event.{Event}

-- a call with n cells lent
abbrev pub request_by : ℕ → Call → Request
request_by n (Lay v) = lay (vec_items v)
request_by n Unnest = unnest
request_by n (Add t v) = add t (vec_items v)
request_by n (Withdraw t p) = withdraw t p
request_by n Clear = clear
request_by n Ask = ask n
request_by n Run = run n

abbrev pub lent : Event → List Cell
lent e = vec_items e.cells

abbrev pub request_of : Event → Request
request_of e = request_by (length (lent e)) e.call

abbrev pub reply_of : Event → Reply
reply_of e = record { answer = e.answer; cells = lent e }

-- the model after a list of calls
abbrev pub after : Model → List Event → Model
after m [] = m
after m (e ∷ es) = after (step m (request_of e)) es
