-- Each refusal's number and place, and the line that tells them.
use Rattle.std.specs.Prelude.{ℕ, List, ◌++◌, codes, decimal}
use Rattle.refusal.specs.declared.Refusal.{Refusal}
use Rattle.refusal.specs.declared.Refusal.TheVariants.{StepCount, EndOutside, EndsEqual, NoSuchNumber, FeedEndOutside, NotAPrice, NoPlace, ShortSheet, UnfitFeed, IdleStep, NoBorder, NoOpenWay, OpenWayLeft, LongText, BadLetter, OutOfTurn, FieldCount, BadField, ArcCount, ShortBuffer, BarredFeed}

abbrev pub number_of : Refusal → ℕ
number_of (StepCount line) = 11
number_of (EndOutside line) = 12
number_of (EndsEqual line) = 13
number_of (NoSuchNumber number) = 14
number_of (FeedEndOutside line) = 15
number_of (NotAPrice line) = 16
number_of (NoPlace line) = 17
number_of ShortSheet = 18
number_of (UnfitFeed feed) = 19
number_of (IdleStep step) = 20
number_of NoBorder = 21
number_of NoOpenWay = 22
number_of OpenWayLeft = 23
number_of LongText = 30
number_of (BadLetter line) = 31
number_of (OutOfTurn line) = 32
number_of (FieldCount line) = 33
number_of (BadField line) = 34
number_of (ArcCount line) = 35
number_of ShortBuffer = 36
number_of (BarredFeed feed) = 37

-- the feed, step or line at fault, and 0 where there is none to name
abbrev pub place_of : Refusal → ℕ
place_of (StepCount line) = line
place_of (EndOutside line) = line
place_of (EndsEqual line) = line
place_of (NoSuchNumber number) = number
place_of (FeedEndOutside line) = line
place_of (NotAPrice line) = line
place_of (NoPlace line) = line
place_of ShortSheet = 0
place_of (UnfitFeed feed) = feed
place_of (IdleStep step) = step
place_of NoBorder = 0
place_of NoOpenWay = 0
place_of OpenWayLeft = 0
place_of LongText = 0
place_of (BadLetter line) = line
place_of (OutOfTurn line) = line
place_of (FieldCount line) = line
place_of (BadField line) = line
place_of (ArcCount line) = line
place_of ShortBuffer = 0
place_of (BarredFeed feed) = feed

-- `c refused NUMBER PLACE`
abbrev pub refusal_words : Refusal → List ℕ
refusal_words r = codes "c refused " ++ (decimal (number_of r) ++ (codes " " ++ decimal (place_of r)))

-- the same, as a line
abbrev pub refusal_text : Refusal → List ℕ
refusal_text r = refusal_words r ++ codes "\n"
