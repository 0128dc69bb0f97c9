-- The emitted lines of the last line are the flat lines of the query, and make a flat plan.
use Rattle.std.proofs.Common.{◌≡◌, ℕ, ◌-◌, ◌<◌, false, List, [], ◌++◌, length, Ok, Err, Result, sym, refl, ap, ◌∙◌, subst, arith, MatchResult}
use Rattle.std.proofs.lemmas.List.{length-take-le}
use Rattle.lines.specs.declared.line.Line.{Line}
use Rattle.lines.specs.Lines.{answer}
use Rattle.lines.specs.Marks.{Sound}
use Rattle.lines.specs.Shapes.{tree_at, shape_of, line_at}
use Rattle.lines.specs.Trees.{width}
use Rattle.query.specs.declared.query.Query.{Query}
use Rattle.query.specs.Queries.{lines_of, widths_of}
use Rattle.query.proofs.Sounds.{sound_answer}
use Rattle.stock.specs.declared.refusal.Refusal.{Refusal}
use Rattle.unnest.specs.Emit.{emit, outermost, flat_lines}
use Rattle.unnest.specs.Kinds.{InContext}
use Rattle.unnest.specs.Plans.{is_apply, WellFormed}
use Rattle.unnest.specs.Rooms.{Emitted, TooLong, Puts}
use Rattle.unnest.specs.declared.plan.FlatPlan.{FlatPlan}
use Rattle.unnest.specs.FlatPlans.{plan_lines, plan_widths, asked_lines, Unnested, Refused}
use Rattle.unnest.specs.Statement.{Agree}
use Rattle.unnest.proofs.Indexed.{well_formed, same_width}
use Rattle.unnest.proofs.Laws.{agreed}

module _ (ws : List ℕ) (ls : List Line) (n : ℕ) (e : n ≡ length ls) where
  pub at_top : Sound ws [] (answer ls) → InContext ws 0 (tree_at ls (n - 1))
  at_top s = record { marks = []; long = refl; sound = subst (λ v. Sound ws [] (tree_at ls (v - 1))) (sym e) s }

  lines_are : (o : List Line) → o ≡ [] → o ++ emit ws (tree_at ls (n - 1)) outermost (length o) ≡ flat_lines ws ls
  lines_are o z = ap (λ v. v ++ emit ws (tree_at ls (n - 1)) outermost (length v)) z ∙ ap (λ v. emit ws (tree_at ls (v - 1)) outermost 0) e

  pub whole : (o p : List Line) (k : ℕ) → o ≡ [] → Emitted o p (emit ws (tree_at ls (n - 1)) outermost (length o)) k → p ≡ flat_lines ws ls
  whole o p k z m = m.lines ∙ lines_are o z

  pub whole_long : (o : List Line) (why : Refusal) → o ≡ [] → TooLong o (emit ws (tree_at ls (n - 1)) outermost (length o)) why → 512 < length (flat_lines ws ls)
  whole_long o why z t =
      let f : emit ws (tree_at ls (n - 1)) outermost (length o) ≡ flat_lines ws ls = ap (λ v. emit ws (tree_at ls (n - 1)) outermost (length v)) z ∙ ap (λ v. emit ws (tree_at ls (v - 1)) outermost 0) e in
      omega (arith, t.over, ap length z, ap length f)

pub formed_so : (ws vs : List ℕ) (ls ps : List Line) → vs ≡ ws → ps ≡ flat_lines ws ls → Sound ws [] (answer ls) → WellFormed vs ps
formed_so ws vs ls ps e f s = subst (λ v. WellFormed v ps) (sym e) (subst (WellFormed ws) (sym f) (well_formed ws ls s))

-- the outcome, from that of the emission
pub whole_so : (q : Query) (n : ℕ) (o p : List Line) (r : Result ℕ Refusal) → n ≡ length (lines_of q) → o ≡ []
    → Puts o p (emit (widths_of q) (tree_at (lines_of q) (n - 1)) outermost (length o)) r → MatchResult r (λ k. p ≡ asked_lines q) (λ e. Refused q e)
whole_so q n o p (Ok k) e z m = whole (widths_of q) (lines_of q) n e o p k z m
whole_so q n o p (Err x) e z t = record { cause = t.cause; over = whole_long (widths_of q) (lines_of q) n e o x z t }

pub unnested_so : (q : Query) (p : FlatPlan) → plan_lines p ≡ asked_lines q → plan_widths p ≡ widths_of q → Unnested q p
unnested_so q p e f =
    let s = sound_answer (lines_of q) (widths_of q) q.accepted in
    record {
      lines = e;
      widths = f;
      few = omega (arith, ap length e, length-take-le p.count p.lines (omega (arith, p.full, p.few)), p.few);
      no_apply = subst (λ v. (i : ℕ) → i < length v → is_apply (shape_of (line_at v i)) ≡ false) (sym e) (well_formed (widths_of q) (lines_of q) s).no_apply;
      agrees = subst (Agree (widths_of q) (lines_of q)) (sym e) (agreed (widths_of q) (lines_of q) s);
      wide = ap (λ v. width (widths_of q) (answer v)) e ∙ same_width (widths_of q) (lines_of q) s;
    }
