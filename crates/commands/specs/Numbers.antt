-- Numbers as words write them: digits, with a minus in front where a number may be negative.
use Rattle.std.specs.Prelude.{ℕ, ◌+◌, ◌-◌, ◌*◌, ◌^◌, Bool, cond, ◌&&◌, List, [], ◌∷◌, drop, ℤ, pos, neg_ℤ, Some, None, Option, ◌==◌, nat_le, nat_lt, slice_index}

abbrev pub digit : ℕ → Bool
digit c = nat_le 48 c && nat_le c 57

-- a number with one more digit behind it, if 64 bits hold it
abbrev pub one_more : ℕ → ℕ → Option ℕ
one_more n c = cond (digit c && nat_lt (n * 10 + (c - 48)) (2 ^ 64)) (Some (n * 10 + (c - 48))) None

-- a number with more digits behind it
abbrev pub more_digits : List ℕ → Option ℕ → Option ℕ
more_digits [] n = n
more_digits (c ∷ cs) None = None
more_digits (c ∷ cs) (Some n) = more_digits cs (one_more n c)

-- what one digit or more write
abbrev pub digits_of : List ℕ → Option ℕ
digits_of [] = None
digits_of (c ∷ cs) = more_digits (c ∷ cs) (Some 0)

-- a number of 64 bits with its sign, as digits and as digits behind a minus
abbrev pub natural : Option ℕ → Option ℤ
natural None = None
natural (Some n) = cond (nat_lt n (2 ^ 63)) (Some (pos n)) None

abbrev pub negative : Option ℕ → Option ℤ
negative None = None
negative (Some n) = cond (nat_le n (2 ^ 63)) (Some (neg_ℤ (pos n))) None

-- what digits write, with at most one minus (45) in front
abbrev pub number_of : List ℕ → Option ℤ
number_of w = cond (slice_index w 0 == 45) (negative (digits_of (drop 1 w))) (natural (digits_of w))
