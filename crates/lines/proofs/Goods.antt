-- What widths and the agreement of query and flat plan ask of a tree, less than soundness.
use Rattle.std.proofs.Common.{◌≡◌, ℕ, ◌+◌, ◌<◌, ◌≤◌, List, ◌++◌, length, ap, ◌∙◌, subst}
use Rattle.std.proofs.lemmas.List.{length-append}
use Rattle.lines.specs.Marks.{Marks, own, Sound}
use Rattle.lines.specs.Trees.{Tree, table, unit, select, keep, extend, extend_truth, pad, match, semi_match, anti_match, union, diff, distinct, group, total, cross, outer, semi, anti, some, all, width}
use Rattle.lines.proofs.Soundness.{own_length}

-- what is asked of a line in a context of c columns
unfoldable pub Good : List ℕ → ℕ → Tree → Type 0
Good ws c (table t) = Unit {0}
Good ws c unit = Unit {0}
Good ws c (select e q) = Good ws c e
Good ws c (keep n m e) = (n + m ≤ width ws e) × Good ws c e
Good ws c (extend e a) = Good ws c e
Good ws c (extend_truth e q) = Good ws c e
Good ws c (pad m e) = Good ws c e
Good ws c (match n l r) = Good ws c l × Good ws c r
Good ws c (semi_match n l r) = Good ws c l × Good ws c r
Good ws c (anti_match n l r) = Good ws c l × Good ws c r
Good ws c (union l r) = (width ws r ≡ width ws l) × Good ws c l × Good ws c r
Good ws c (diff l r) = Good ws c l × Good ws c r
Good ws c (distinct e) = Good ws c e
Good ws c (group n f k e) = (n ≤ width ws e) × Good ws c e
Good ws c (total f k e) = Good ws c e
Good ws c (cross l r) = Good ws c l × Good ws (c + width ws l) r
Good ws c (outer l r) = Good ws c l × Good ws (c + width ws l) r
Good ws c (semi l r) = Good ws c l × Good ws (c + width ws l) r
Good ws c (anti l r) = Good ws c l × Good ws (c + width ws l) r
Good ws c (some s k l r) = (k < c + width ws l) × Good ws c l × Good ws (c + width ws l) r
Good ws c (all s k l r) = (k < c + width ws l) × Good ws c l × Good ws (c + width ws l) r

inner : (ws : List ℕ) (d : Marks) (l r : Tree) → Sound ws d l → Good ws (length (d ++ own ws d l)) r → Good ws (length d + width ws l) r
inner ws d l r s g = subst (λ v. Good ws v r) (length-append d (own ws d l) ∙ ap (λ v. length d + v) (own_length ws d l s)) g

pub sound_good : (ws : List ℕ) (d : Marks) (t : Tree) → Sound ws d t → Good ws (length d) t
unfolding Sound Good
sound_good ws d (table t) s = tt
sound_good ws d unit s = tt
sound_good ws d (select e q) s = sound_good ws d e s.1
sound_good ws d (keep n m e) s = (s.0.1, sound_good ws d e s.1)
sound_good ws d (extend e a) s = sound_good ws d e s.2
sound_good ws d (extend_truth e q) s = sound_good ws d e s.2
sound_good ws d (pad m e) s = sound_good ws d e s.1
sound_good ws d (match n l r) s = (sound_good ws d l s.2, sound_good ws d r s.3)
sound_good ws d (semi_match n l r) s = (sound_good ws d l s.1, sound_good ws d r s.2)
sound_good ws d (anti_match n l r) s = (sound_good ws d l s.1, sound_good ws d r s.2)
sound_good ws d (union l r) s = (s.0, sound_good ws d l s.1, sound_good ws d r s.2)
sound_good ws d (diff l r) s = (sound_good ws d l s.1, sound_good ws d r s.2)
sound_good ws d (distinct e) s = sound_good ws d e s
sound_good ws d (group n f k e) s = (s.0, sound_good ws d e s.3)
sound_good ws d (total f k e) s = sound_good ws d e s.2
sound_good ws d (cross l r) s = (sound_good ws d l s.1, inner ws d l r s.1 (sound_good ws (d ++ own ws d l) r s.2))
sound_good ws d (outer l r) s = (sound_good ws d l s.1, inner ws d l r s.1 (sound_good ws (d ++ own ws d l) r s.2))
sound_good ws d (semi l r) s = (sound_good ws d l s.0, inner ws d l r s.0 (sound_good ws (d ++ own ws d l) r s.1))
sound_good ws d (anti l r) s = (sound_good ws d l s.0, inner ws d l r s.0 (sound_good ws (d ++ own ws d l) r s.1))
sound_good ws d (some g k l r) s = (s.0, sound_good ws d l s.3, inner ws d l r s.3 (sound_good ws (d ++ own ws d l) r s.4))
sound_good ws d (all g k l r) s = (s.0, sound_good ws d l s.3, inner ws d l r s.3 (sound_good ws (d ++ own ws d l) r s.4))
