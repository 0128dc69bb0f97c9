-- The widths of a stock's tables.
use Rattle.std.specs.Prelude.{ℕ, ◌<◌, ◌≤◌, List, length, slice_index}

-- at most 16 tables, each 1 to 8 columns wide
pub record Sized (ws : List ℕ) : Type 0 where
  pub few : length ws ≤ 16
  pub least : (t : ℕ) → t < length ws → 1 ≤ slice_index ws t
  pub most : (t : ℕ) → slice_index ws t ≤ 8
