-- Rows in groups.
use Rattle.std.proofs.Common.{◌≡◌, ℕ, ◌+◌, ◌≤◌, Bool, true, false, cond, not, ◌||◌, List, [], ◌∷◌, ◌++◌, map, length, take, filter, sym, refl, ap, ◌∙◌, subst, ap₂}
use Rattle.std.proofs.lemmas.List.{map_push}
use Rattle.cells.specs.Cells.{Row, same_row}
use Rattle.cells.specs.declared.cell.Cell.{Cell}
use Rattle.lines.specs.Ops.{alike, some_of, folded, group_rows}
use Rattle.lines.specs.declared.line.Aggregate.{Aggregate}
use Rattle.operators.specs.Places.{row_at, rows_in, region_end, next_row, Stands}
use Rattle.operators.specs.Laid.{Laid, Put}
use Rattle.operators.specs.Steps.{each, kept_one}
use Rattle.operators.specs.Folds.{Addable, folded_alike, grouped}
use Rattle.operators.specs.declared.region.Region.{Region}
use Rattle.operators.proofs.Stack.{row_front, rows_below, put_join, laid_none, laid_one}
use Rattle.operators.proofs.Meaning.{new, each_distinct}

kept_every : (xs : List Row) → filter (λ r. same_row [] (take 0 r)) xs ≡ xs
kept_every [] = refl
kept_every (x ∷ xs) = ap (λ (r : List Row). x ∷ r) (kept_every xs)

-- every row begins with no cells
pub fold_every : (f : Aggregate) (k : ℕ) (d : Row) (xs : List Row) (cells : List Cell) (at : ℕ) → folded_alike 0 f k d (row_at cells at 0) xs ≡ folded f k (map (λ r. d ++ r) xs)
fold_every f k d xs cells at = ap (λ (ys : List Row). folded f k (map (λ r. d ++ r) ys)) (kept_every xs)

-- the row of a group that is new
abbrev group_row : ℕ → Aggregate → ℕ → Row → List Row → Row → Row
group_row n f k d xs key = key ++ (folded_alike n f k d key xs ∷ [])

pub group_none : (n : ℕ) (f : Aggregate) (k : ℕ) (d : Row) (xs : List Row) (cells : List Cell) (front : Region) (to : ℕ) → to ≤ length cells
    → true ≡ some_of (alike n (next_row cells front)) (rows_in cells front) → Laid cells cells to 0 (n + 1) (grouped n f k d xs (rows_in cells front) (next_row cells front))
group_none n f k d xs cells front to o t = rw (← t) (laid_none cells to (n + 1) o)

group_new : (n : ℕ) (f : Aggregate) (k : ℕ) (d : Row) (xs : List Row) (cells : List Cell) (front : Region) (at : ℕ) → at ≡ region_end front → n ≤ front.width
    → false ≡ some_of (alike n (next_row cells front)) (rows_in cells front) → grouped n f k d xs (rows_in cells front) (next_row cells front) ≡ group_row n f k d xs (row_at cells at n) ∷ []
group_new n f k d xs cells front at e h t =
    let key : take n (next_row cells front) ≡ row_at cells at n = row_front cells (region_end front) n front.width h ∙ ap (λ (x : ℕ). row_at cells x n) (sym e) in
    rw (← t) (ap (λ (r : Row). group_row n f k d xs r ∷ []) key)

pub group_laid : (n : ℕ) (f : Aggregate) (k : ℕ) (d : Row) (xs : List Row) (cells x y : List Cell) (front : Region) (at to : ℕ) (cell : Cell) → at ≡ region_end front → n ≤ front.width
    → false ≡ some_of (alike n (next_row cells front)) (rows_in cells front) → cell ≡ folded_alike n f k d (row_at cells at n) xs
    → Put cells x to n (row_at cells at n) → Put x y (to + n) 1 (cell ∷ []) → Laid cells y to 1 (n + 1) (grouped n f k d xs (rows_in cells front) (next_row cells front))
group_laid n f k d xs cells x y front at to cell e h t c p q =
    let P : Cell → Type 0 = λ z. Put cells y to (n + 1) (row_at cells at n ++ (z ∷ [])) in
    rw (group_new n f k d xs cells front at e h t) (laid_one cells y to (n + 1) (group_row n f k d xs (row_at cells at n)) (subst P c (put_join cells x y to n 1 (row_at cells at n) (cell ∷ []) p q)))

pub grouped_below : (n : ℕ) (f : Aggregate) (k : ℕ) (d : Row) (xs b : List Cell) (r : Region) (out : ℕ) (front : List Row) (x : Row) → take out xs ≡ take out b → Stands r out → grouped n f k d (rows_in xs r) front x ≡ grouped n f k d (rows_in b r) front x
grouped_below n f k d xs b r out front x e s = ap (λ (ys : List Row). grouped n f k d ys front x) (rows_below xs b out r.start r.rows r.width e s.inside)

pub addable_below : (f : Aggregate) (k : ℕ) (d : Row) (xs b : List Cell) (r : Region) (out : ℕ) → take out xs ≡ take out b → Stands r out → Addable f k d (rows_in b r) → Addable f k d (rows_in xs r)
addable_below f k d xs b r out e s a = let P : List Row → Type 0 = λ ys. Addable f k d ys in subst P (sym (rows_below xs b out r.start r.rows r.width e s.inside)) a

some_map : (n : ℕ) (x : Row) (front : List Row) → some_of (alike n x) front ≡ some_of (same_row (take n x)) (map (take n) front)
some_map n x [] = refl
some_map n x (y ∷ ys) = ap (λ (t : Bool). alike n x y || t) (some_map n x ys)

each_first : (n : ℕ) (g : Row → Row) (front xs : List Row) → each (λ l x. cond (some_of (alike n x) l) [] (g (take n x) ∷ [])) front xs ≡ map g (each (kept_one new) (map (take n) front) (map (take n) xs))
each_first n g front [] = refl
each_first n g front (x ∷ xs) =
    let step = λ (l : List Row) (x : Row). cond (some_of (alike n x) l) [] (g (take n x) ∷ []) in
    let rest = each (kept_one new) (map (take n) front ++ take n x ∷ []) (map (take n) xs) in
    let r : each step (front ++ x ∷ []) xs ≡ map g rest = each_first n g (front ++ x ∷ []) xs ∙ ap (λ (l : List Row). map g (each (kept_one new) l (map (take n) xs))) (map_push (take n) front x) in
    ap₂ (λ (t : Bool) (l : List Row). cond t [] (g (take n x) ∷ []) ++ l) (some_map n x front) r
    ∙ (elim (some_of (same_row (take n x)) (map (take n) front)) as (λ t. (cond t [] (g (take n x) ∷ []) ++ map g rest) ≡ map g (cond (not t) (take n x ∷ []) [] ++ rest)) [ true ↦ refl | false ↦ refl ])

-- for each different start of a row, by first appearance
pub each_grouped : (n : ℕ) (f : Aggregate) (k : ℕ) (d : Row) (xs : List Row) → each (grouped n f k d xs) [] xs ≡ group_rows n f k d xs
each_grouped n f k d xs = each_first n (group_row n f k d xs) [] xs ∙ ap (map (group_row n f k d xs)) (each_distinct (map (take n) xs))
