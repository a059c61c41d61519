-- A number in a text: 1 to 15 decimal digits and nothing else.
use Rattle.std.specs.Prelude.{ℕ, Bool, cond, ◌&&◌, List, length, Some, None, Option, nat_le, nat_lt}
use Rattle.std.specs.Str.Parse.{digits_value}
use Rattle.std.specs.Str.{all_ascii_digits}

abbrev pub is_number : List ℕ → Bool
is_number bs = nat_lt 0 (length bs) && nat_le (length bs) 15 && all_ascii_digits bs

-- the number that the bytes write, or none where they are no number
abbrev pub number_in : List ℕ → Option ℕ
number_in bs = cond (is_number bs) (Some (digits_value 10 bs)) None
