-- The table of a record, and how its entries are read.
use Rattle.std.specs.Prelude.{ℕ, ◌<◌, List, Option, Some, None, nat_eq, if◌then◌else◌}
use Rattle.search.specs.declared.reach.Parent.{Parent}
use Rattle.search.specs.declared.reach.Parent.TheVariants.{Start, Along}

-- how each step was reached, if it was
pub record Parents : Type 0 where
  pub parents : List (Option Parent)

-- what an entry says
abbrev pub parent_in : ℕ → Option Parent
parent_in entry = if nat_eq entry 65535 then None else if nat_eq entry 65534 then Some Start else Some (Along entry)

-- an entry can say it: the arc is none of the two marks
abbrev pub Fits : Parent → Type 0
Fits Start = Unit {0}
Fits (Along k) = k < 65534
