-- A line of bytes as words that spaces part.
use Rattle.std.specs.Prelude.{ℕ, Bool, not, List, take, drop, ◌==◌}
use Rattle.std.specs.List.{prefix_len}

abbrev pub space : ℕ → Bool
space c = c == 32

-- how many spaces a line begins with
abbrev pub gap : List ℕ → ℕ
gap s = prefix_len space s

-- how many bytes stand before the first that is e
abbrev pub before : ℕ → List ℕ → ℕ
before e s = prefix_len (λ c. not (c == e)) s

-- the first word, empty where there is none
abbrev pub first_word : List ℕ → List ℕ
first_word s = take (before 32 (drop (gap s) s)) (drop (gap s) s)

-- what stands behind it
abbrev pub after_word : List ℕ → List ℕ
after_word s = drop (before 32 (drop (gap s) s)) (drop (gap s) s)
