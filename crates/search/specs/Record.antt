-- How the answers of a search are read.
use Rattle.std.specs.Prelude.{ℕ, zero, suc, Bool, List, slice_index_or, Option, Some, None, is_some}
use Rattle.search.specs.declared.reach.Parent.{Parent}
use Rattle.search.specs.declared.reach.Parent.TheVariants.{Start, Along}
use Rattle.search.specs.declared.reach.Reach.{Reach}

-- how step v was reached, if it was; steps are counted from 1
abbrev pub parent_of : List (Option Parent) → ℕ → Option Parent
parent_of parents zero = None
parent_of parents (suc i) = slice_index_or parents i None

-- the arc by which it was reached; none for the start
abbrev pub arc_of : Option Parent → Option ℕ
arc_of None = None
arc_of (Some Start) = None
arc_of (Some (Along k)) = Some k

abbrev pub arc_to : List (Option Parent) → ℕ → Option ℕ
arc_to parents v = arc_of (parent_of parents v)

-- the record says that step v was reached
abbrev pub reached : Reach → ℕ → Bool
reached r v = is_some (parent_of r.parents v)
