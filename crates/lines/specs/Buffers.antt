-- A text that goes into a buffer of the caller's.
use Rattle.std.specs.Prelude.{ℕ, cond, List, ◌++◌, length, drop, Some, None, Option, nat_le}

-- how many bytes go in, or none where the buffer is shorter than the text
abbrev pub fitted : List ℕ → List ℕ → Option ℕ
fitted text buffer = cond (nat_le (length text) (length buffer)) (Some (length text)) None

-- the buffer then: the text at its front and the other bytes as they were, or all as it was where the text does not fit
abbrev pub filled : List ℕ → List ℕ → List ℕ
filled text buffer = cond (nat_le (length text) (length buffer)) (text ++ drop (length text) buffer) buffer
