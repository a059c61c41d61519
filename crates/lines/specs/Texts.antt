-- What a line holds.
use Rattle.std.specs.Prelude.{ℕ, ◌≤◌, List, ◌++◌, length, take}

-- the bytes put on a line so far: at most 64
pub record LineText : Type 0 where
  pub bytes : List ℕ
  pub few : length bytes ≤ 64

-- a line with more put on it: it has room for 64 bytes, and what is beyond them is left out
abbrev pub joined_on : List ℕ → List ℕ → List ℕ
joined_on text more = take 64 (text ++ more)
