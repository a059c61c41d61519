-- A text of prices, one to a line, and what they add up to.
use Rattle.std.specs.Prelude.{◌≡◌, ℕ, ◌+◌, ◌<◌, ◌≤◌, true, ◌⊎◌, List, [], ◌++◌, length, take, pos, Ok, Err, codes, sum_by, Result, slice_index_or}
use Rattle.std.specs.Str.Parse.{digits_value}
use Rattle.std.specs.List.{AllByRecursion}
use Rattle.lines.specs.Numbers.{is_number}
use Rattle.lines.specs.Split.{lines_of}
use Rattle.lines.specs.Texts.{LineText}
use Rattle.price.specs.Kind.{PriceKind}
use Rattle.price.specs.WrittenKind.{IsPriceOf, digits_of}
use Rattle.refusal.specs.declared.Refusal.{Refusal}
use Rattle.refusal.specs.declared.Refusal.TheVariants.{NoPlace, NotAPrice}

-- p is the price that a line writes
pub record Writes {P : Type 0} (K : PriceKind P) (line : List ℕ) (p : P) : Type 0 where
  pub number : is_number line ≡ true
  pub price : IsPriceOf K (digits_value 10 line) p

-- a line writes some price
abbrev pub Priced : {P : Type 0} → PriceKind P → List ℕ → Type 0
Priced K line = (p : _) × Writes K line p

-- at most 4,096 lines, each with a price, and their sum
pub record Adds {P : Type 0} (K : PriceKind P) (lines : List (List ℕ)) (total : P) : Type 0 where
  pub few : length lines ≤ 4096
  pub each : AllByRecursion (Priced K) lines
  pub sum : K.means total ≡ pos (sum_by (digits_value 10) lines)

-- the earliest line that is no price, or a price on line 4,097
pub record Refuses {P : Type 0} (K : PriceKind P) (lines : List (List ℕ)) (e : Refusal) : Type 0 where
  pub index : ℕ
  pub within : index < length lines
  pub few : index ≤ 4096
  pub before : AllByRecursion (Priced K) (take index lines)
  pub cause : ((Priced K (slice_index_or lines index []) → ⊥) × (e ≡ NotAPrice (index + 1))) ⊎ (Priced K (slice_index_or lines index []) × (index ≡ 4096) × (e ≡ NoPlace (index + 1)))

abbrev pub AddsUp : {P : Type 0} → PriceKind P → List ℕ → Result P Refusal → Type 0
AddsUp K text (Ok total) = Adds K (lines_of text) total
AddsUp K text (Err e) = Refuses K (lines_of text) e

-- the answer is the line of what the text adds up to, or the refusal
abbrev pub Answers : {P : Type 0} → PriceKind P → List ℕ → Result LineText Refusal → Type 0
Answers K text (Ok line) = (total : _) × Adds K (lines_of text) total × (line.bytes ≡ codes "s " ++ (digits_of K total ++ codes "\n"))
Answers K text (Err e) = Refuses K (lines_of text) e
