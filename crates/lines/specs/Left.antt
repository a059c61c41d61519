-- The lines that an iterator has still to give.
use Rattle.std.specs.Prelude.{ℕ, List}
use Rattle.lines.specs.Split.{lines_of}
use Rattle.lines.specs.declared.split.Lines.{Lines}

abbrev pub lines_left : Lines → List (List ℕ)
lines_left l = lines_of l.rest.now
