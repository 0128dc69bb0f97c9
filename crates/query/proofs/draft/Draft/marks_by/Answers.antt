use Rattle.std.proofs.Common.{◌≡◌, ℕ, ◌≤◌, Bool, false, List, length, take, replicate, subst, inl, inr}
use Rattle.std.proofs.lemmas.List.{length-replicate}
use Rattle.lines.specs.declared.line.Line.{Line}
use Rattle.query.specs.Marking.{own_by}
use Rattle.query.proofs.Marked.{push_room, right_room}
use Rattle.query.proofs.draft.Draft.marks_by.Goals as goal

-- the room that a known line's marks take
known : (ws : List ℕ) (d x y : List Bool) (l k : Line) → l ≡ k → length (own_by ws d x y l) ≤ 32 → length (own_by ws d x y k) ≤ 32
known ws d x y l k e h = let P : Line → Type 0 = λ v. length (own_by ws d x y v) ≤ 32 in subst P e h

pub plain-requires-in-Table : goal.plain-requires-in-Table
plain-requires-in-Table c = let n = known c.args.self.now.tables.items c.args.context.now c.args.first.now c.args.second.now c.args.line _ c.in-Table.is c.requires in rw c.table_width.ensures (rw length-replicate at n)

pub push-requires : goal.push-requires
push-requires c = push_room c.args.first.now _ (known c.args.self.now.tables.items c.args.context.now c.args.first.now c.args.second.now c.args.line _ c.in-Extend.is c.requires)

pub push-requires-in-ExtendTruth : goal.push-requires-in-ExtendTruth
push-requires-in-ExtendTruth c =
    let x = c.args.first.now in
    let n = λ (l : Line) (e : c.args.line ≡ l). known c.args.self.now.tables.items c.args.context.now x c.args.second.now c.args.line l e c.requires in
    push_room x false
    (elim c.in-ExtendTruth.is [
      | inl e ↦ n _ e.2
      | inr e ↦ elim e [ inl f ↦ n _ f.4 | inr f ↦ n _ f.4 ]
    ])

pub plain-requires-in-Pad : goal.plain-requires-in-Pad
plain-requires-in-Pad c = let n = right_room c.args.first.now (replicate c.in-Pad.nulls false) (known c.args.self.now.tables.items c.args.context.now c.args.first.now c.args.second.now c.args.line _ c.in-Pad.is c.requires) in rw length-replicate at n

pub push-requires-in-Group : goal.push-requires-in-Group
push-requires-in-Group c = rw c.start.ensures (push_room (take c.in-Group.keys c.args.first.now) _ (known c.args.self.now.tables.items c.args.context.now c.args.first.now c.args.second.now c.args.line _ c.in-Group.is c.requires))
