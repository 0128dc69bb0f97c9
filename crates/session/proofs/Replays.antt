-- A past that grows by one call.
use Rattle.std.proofs.Common.{◌≡◌, ℕ, ◌+◌, ◌<◌, List, [], ◌∷◌, ◌++◌, map, length, MatchResult, Result, Ok, Err, get_or, take, drop, set, sym, refl, ap, ◌∙◌, subst, arith}
use Rattle.std.proofs.lemmas.List.{take_more, take_more_set, map_push, drop-set-lt, drop-drop, get_or-drop}
use Rattle.cells.specs.declared.cell.Cell.{Cell}
use Rattle.stock.specs.Tables.{Table}
use Rattle.session.specs.Model.{Model}
use Rattle.session.specs.Requests.{Request, step}
use Rattle.session.specs.Replies.{told_size, reply}
use Rattle.session.specs.Agrees.{Makes}
use Rattle.session.specs.Law.{Replied, EachReplied}
use Rattle.session.specs.Past.{request_of, lent, reply_of, after}
use Rattle.session.specs.declared.calls.Answer.{Answer}
use Rattle.session.specs.declared.calls.Answer.TheVariants.{Size, Refused}
use Rattle.stock.specs.declared.refusal.Refusal.{Refusal}
use Rattle.session.specs.declared.calls.Event.{Event}
use Rattle.session.specs.declared.session.Session.{Session}
use Rattle.session.proofs.Readings.{each_replied_push}

-- what an answer was told
pub told_size_is : (r : Result (ℕ × ℕ) Refusal) (a : Answer) → MatchResult r (λ p. a ≡ Size p.0 p.1) (λ e. a ≡ Refused e) → a ≡ told_size r
told_size_is (Ok p) a h = h
told_size_is (Err e) a h = h

-- a call made of q, with b told of it
pub makes_read : {X : Type 0} (tables : X → List Table) (s n : Session X) (q r : Request) (before done : List Cell) (b a : Answer)
    → q ≡ r → b ≡ a → Makes tables s n r before (reply a done) → Makes tables s n q before (reply b done)
makes_read tables s n q r before done b a e f h = rw (e, f) h

after_push : (m : Model) (es : List Event) (e : Event) → after m (es ++ e ∷ []) ≡ step (after m es) (request_of e)
after_push m [] e = refl
after_push m (x ∷ es) e = after_push (step m (request_of x)) es e

-- past ps, of which qs has made the first i calls; the next is x and becomes y
module _ (m : Model) (ps qs : List Event) (i : ℕ) (x y : Event) (l : i < length ps) (same : length qs ≡ length ps) (rest : drop i qs ≡ drop i ps) (is : x ≡ get_or qs i x) where
  here : x ≡ get_or ps i x
  here =
      let z : i + 0 ≡ i = omega arith in
      is ∙ ap (λ k. get_or qs k x) (sym z) ∙ sym (get_or-drop i qs 0 x) ∙ ap (λ k. get_or k 0 x) rest ∙ get_or-drop i ps 0 x ∙ ap (λ k. get_or ps k x) z

  more : take (i + 1) ps ≡ take i ps ++ x ∷ []
  more = take_more ps i x l ∙ ap (λ k. take i ps ++ k ∷ []) (sym here)

  pub after_more : step (after m (take i ps)) (request_of x) ≡ after m (take (i + 1) ps)
  after_more = sym (ap (after m) more ∙ after_push m (take i ps) x)

  pub replied_more : EachReplied m (take i ps) (take i qs) → Replied (after m (take i ps)) (request_of x) (lent x) (reply_of y)
      → EachReplied m (take (i + 1) ps) (take (i + 1) (set qs i y))
  replied_more h e =
      let lq : i < length qs = omega arith in
      subst (λ k. EachReplied m k (take (i + 1) (set qs i y))) (sym more)
      (subst (λ k. EachReplied m (take i ps ++ x ∷ []) k) (sym (take_more_set qs i y lq)) (each_replied_push m (take i ps) (take i qs) x y h e))

  pub requests_more : map request_of (take i qs) ≡ map request_of (take i ps) → request_of y ≡ request_of x → map request_of (take (i + 1) (set qs i y)) ≡ map request_of (take (i + 1) ps)
  requests_more h e =
      let lq : i < length qs = omega arith in
      ap (map request_of) (take_more_set qs i y lq) ∙ map_push request_of (take i qs) y ∙ ap (λ k. k ++ request_of y ∷ []) h ∙ ap (λ k. map request_of (take i ps) ++ k ∷ []) e
      ∙ sym (ap (map request_of) more ∙ map_push request_of (take i ps) x)

  pub rest_more : drop (i + 1) (set qs i y) ≡ drop (i + 1) ps
  rest_more = drop-set-lt (i + 1) qs i y (omega arith) ∙ sym (drop-drop 1 i qs) ∙ ap (drop 1) rest ∙ drop-drop 1 i ps
