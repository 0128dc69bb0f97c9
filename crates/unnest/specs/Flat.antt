-- Unnesting as a change of trees: the Applies are gone, and a context is rows of its own, the domain.
use Rattle.cells.specs.declared.cell.Cell.{Cell}
use Rattle.cells.specs.declared.cell.Cell.TheVariants.{Null, Number}
use Rattle.cells.specs.declared.sign.Sign.{Sign}
use Rattle.lines.specs.declared.line.Aggregate.{Aggregate}
use Rattle.lines.specs.declared.line.Side.TheVariants.{Column, Constant}
use Rattle.lines.specs.Ops.{none_of}
use Rattle.lines.specs.Trees.{Cond, compare, not_of, unknown_of, Tree, table, unit, select, keep, extend, extend_truth, pad, match, semi_match, anti_match, union, diff, distinct, group, total, cross, outer, semi, anti, some, all, width}
use Rattle.std.specs.Prelude.{ℕ, ◌+◌, List, ℤ, pos}

-- the empty context, or a context of some columns with its domain: the context rows, each once
pub data Ctx : Type 0 where
  top : Ctx
  under : ℕ → Tree → Ctx

-- how many columns stand before a line's own
abbrev pub cols : Ctx → ℕ
cols top = 0
cols (under c d) = c

-- rows that read nothing, for each context row
abbrev pub spread : Ctx → Tree → Tree
spread top e = e
spread (under c d) e = match 0 d e

-- one cell more, the same in each row
abbrev pub with_cell : Cell → Tree → Tree
with_cell Null e = pad 1 e
with_cell (Number z) e = extend e (Constant z)

-- a group for each context row that has rows, and the aggregate over no rows for each other
abbrev pub totalled : Aggregate → ℕ → Ctx → Tree → Tree
totalled f k top e = total f k e
totalled f k (under c d) e = union (group c f k e) (with_cell (none_of f) (anti_match c d e))

-- L is the left flat line, w its width, R the right flat line, m the right operand's own width
abbrev pub flat_outer : ℕ → ℕ → Tree → Tree → Tree
flat_outer m w L R = union (match w L R) (pad m (anti_match w L R))

-- to each left row: won if a row of A goes with it, else NULL if one of B does, else lost
abbrev pub flat_quant : ℤ → ℤ → ℕ → Tree → Tree → Tree → Tree
flat_quant won lost w L A B =
    union (union (extend (semi_match w L A) (Constant won)) (pad 1 (semi_match w (anti_match w L A) B)))
    (extend (anti_match w (anti_match w L A) B) (Constant lost))

-- 1 if a comparison is true, else NULL if one is unknown, else 0
abbrev pub flat_some : Sign → ℕ → ℕ → Tree → Tree → Tree
flat_some g k w L R =
    let q : Cond = compare g (Column k) (Column w) in
    flat_quant (pos 1) (pos 0) w L (select R q) (select R (unknown_of q))

-- 0 if a comparison is false, else NULL if one is unknown, else 1
abbrev pub flat_all : Sign → ℕ → ℕ → Tree → Tree → Tree
flat_all g k w L R =
    let q : Cond = compare g (Column k) (Column w) in
    flat_quant (pos 0) (pos 1) w L (select R (not_of q)) (select R (unknown_of q))

-- the flat tree of a line in a context, over tables of the widths ws; the domain of an Apply is its left flat line, each row once
unfoldable pub flat : List ℕ → Tree → Ctx → Tree
flat ws (table t) x = spread x (table t)
flat ws unit x = spread x unit
flat ws (select e q) x = select (flat ws e x) q
flat ws (keep n m e) x = keep (cols x + n) m (flat ws e x)
flat ws (extend e a) x = extend (flat ws e x) a
flat ws (extend_truth e q) x = extend_truth (flat ws e x) q
flat ws (pad m e) x = pad m (flat ws e x)
flat ws (match n l r) x = match (cols x + n) (flat ws l x) (flat ws r x)
flat ws (semi_match n l r) x = semi_match (cols x + n) (flat ws l x) (flat ws r x)
flat ws (anti_match n l r) x = anti_match (cols x + n) (flat ws l x) (flat ws r x)
flat ws (union l r) x = union (flat ws l x) (flat ws r x)
flat ws (diff l r) x = diff (flat ws l x) (flat ws r x)
flat ws (distinct e) x = distinct (flat ws e x)
flat ws (group n f k e) x = group (cols x + n) f k (flat ws e x)
flat ws (total f k e) x = totalled f k x (flat ws e x)
flat ws (cross l r) x = match (cols x + width ws l) (flat ws l x) (flat ws r (under (cols x + width ws l) (distinct (flat ws l x))))
flat ws (outer l r) x = flat_outer (width ws r) (cols x + width ws l) (flat ws l x) (flat ws r (under (cols x + width ws l) (distinct (flat ws l x))))
flat ws (semi l r) x = semi_match (cols x + width ws l) (flat ws l x) (flat ws r (under (cols x + width ws l) (distinct (flat ws l x))))
flat ws (anti l r) x = anti_match (cols x + width ws l) (flat ws l x) (flat ws r (under (cols x + width ws l) (distinct (flat ws l x))))
flat ws (some g k l r) x = flat_some g k (cols x + width ws l) (flat ws l x) (flat ws r (under (cols x + width ws l) (distinct (flat ws l x))))
flat ws (all g k l r) x = flat_all g k (cols x + width ws l) (flat ws l x) (flat ws r (under (cols x + width ws l) (distinct (flat ws l x))))
