-- The signs as SQL spells them.
use Rattle.std.specs.Prelude.{ℕ, List, [], ◌∷◌, ◌≢◌}
use Rattle.cells.specs.declared.sign.Sign.{Sign}
use Rattle.cells.specs.declared.sign.Sign.TheVariants.{Equal, Unequal, Less, AtMost, More, AtLeast}

-- bytes: 60 is <, 61 is = and 62 is >
abbrev pub spelling : Sign → List ℕ
spelling Equal = 61 ∷ []
spelling Unequal = 60 ∷ 62 ∷ []
spelling Less = 60 ∷ []
spelling AtMost = 60 ∷ 61 ∷ []
spelling More = 62 ∷ []
spelling AtLeast = 62 ∷ 61 ∷ []

abbrev pub SpellsNone : List ℕ → Type 0
SpellsNone word = (sign : Sign) → word ≢ spelling sign
