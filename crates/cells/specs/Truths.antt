-- The truth tables of SQL, and what they say in the order false < unknown < true.
use Rattle.std.specs.Prelude.{◌≡◌, ℕ, ◌+◌, ◌≤◌, Bool, true, false, ◌⊎◌}
use Rattle.cells.specs.declared.truth.Truth.{Truth}
use Rattle.cells.specs.declared.truth.Truth.TheVariants.{False, Unknown, True}

abbrev pub truth_of : Bool → Truth
truth_of true = True
truth_of false = False

abbrev pub not3 : Truth → Truth
not3 True = False
not3 Unknown = Unknown
not3 False = True

abbrev pub and3 : Truth → Truth → Truth
and3 True b = b
and3 False b = False
and3 Unknown True = Unknown
and3 Unknown Unknown = Unknown
and3 Unknown False = False

abbrev pub or3 : Truth → Truth → Truth
or3 True b = True
or3 False b = b
or3 Unknown True = True
or3 Unknown Unknown = Unknown
or3 Unknown False = Unknown

abbrev pub is_unknown : Truth → Bool
is_unknown True = false
is_unknown Unknown = true
is_unknown False = false

-- whether a truth value is unknown, as a truth value
abbrev pub unknown3 : Truth → Truth
unknown3 t = truth_of (is_unknown t)

-- whether it is true
abbrev pub holds : Truth → Bool
holds True = true
holds Unknown = false
holds False = false

abbrev pub rank : Truth → ℕ
rank False = 0
rank Unknown = 1
rank True = 2

-- r is the least truth value that is at least a and b
pub record LeastUpper (a b r : Truth) : Type 0 where
  pub left : rank a ≤ rank r
  pub right : rank b ≤ rank r
  pub least : (c : Truth) → rank a ≤ rank c → rank b ≤ rank c → rank r ≤ rank c

-- r is the greatest truth value that is at most a and b
pub record GreatestLower (a b r : Truth) : Type 0 where
  pub left : rank r ≤ rank a
  pub right : rank r ≤ rank b
  pub greatest : (c : Truth) → rank c ≤ rank a → rank c ≤ rank b → rank c ≤ rank r

-- r stands as far from one end of the order as a from the other
abbrev pub Swapped : Truth → Truth → Type 0
Swapped a r = rank a + rank r ≡ 2

abbrev pub Settled : Truth → Type 0
Settled r = (r ≡ True) ⊎ (r ≡ False)
