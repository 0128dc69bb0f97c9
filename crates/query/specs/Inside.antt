-- How a list of marks lies in an array.
use Rattle.std.specs.Prelude.{◌≡◌, ℕ, ◌-◌, ◌≤◌, Bool, false, List, ◌++◌, length, take, drop, replicate}
use Rattle.std.proofs.Common.{sym, ap, ◌∙◌, subst}
use Rattle.std.proofs.lemmas.List.{length-take-le, take-append-drop}
use Rattle.query.specs.declared.marks.Marks.TheInside.{Inside}

-- n marks at the front of 32, the rest false
pub record Blank (m : List Bool) (n : ℕ) : Type 0 where
  pub few : n ≤ 32
  pub long : length m ≡ 32
  pub rest : drop n m ≡ replicate (32 - n) false

abbrev pub inside : List Bool → Inside
inside d = record { columns = d ++ replicate (32 - length d) false; count = length d }

pub inside_view : (a : Inside) → Blank a.columns a.count → inside (take a.count a.columns) ≡ a
inside_view a h =
    let front = take a.count a.columns in
    let P : ℕ → Type 0 = λ v. a.count ≤ v in
    let n : length front ≡ a.count = length-take-le a.count a.columns (subst P (sym h.long) h.few) in
    let f : ℕ → Inside = λ k. record { columns = front ++ replicate (32 - k) false; count = k } in
    let g : List Bool → Inside = λ v. record { columns = v; count = a.count } in
    ap f n ∙ ap g (ap (λ v. front ++ v) (sym h.rest) ∙ take-append-drop a.count a.columns)
