-- What is put on a line in parts is what is put on it at once.
use Rattle.std.proofs.Common.{◌≡◌, ℕ, zero, suc, ◌+◌, ◌<◌, ◌≤◌, List, [], ◌∷◌, ◌++◌, length, take, min, sym, refl, ap, ◌∙◌, arith, length-append}
use Rattle.std.specs.Coded.{le_prop}
use mathlib.Core.HLevel.{is_prop→PathP}
use Rattle.std.proofs.Math.Seq.{take-append-add}
use Rattle.std.proofs.lemmas.List.{append_assoc, append-nil, take_all, take-append-le, take_min}
use Rattle.lines.specs.Texts.{LineText, joined_on}

take_front : (n : ℕ) (a b : List ℕ) → take n (take n a ++ b) ≡ take n (a ++ b)
take_front zero a b = refl
take_front (suc n) [] b = refl
take_front (suc n) (x ∷ a) b = ap (λ t. x ∷ t) (take_front n a b)

pub joined_again : (a b c : List ℕ) → joined_on (joined_on a b) c ≡ joined_on a (b ++ c)
joined_again a b c = take_front 64 (a ++ b) c ∙ ap (take 64) (append_assoc a b c)

-- lines with the same bytes are the same; for callers whose contracts speak of a whole line
pub same_line : (s t : LineText) → s.bytes ≡ t.bytes → s ≡ t
same_line s t e = λ i. record { bytes = e i; few = is_prop→PathP (λ j. length (e j) ≤ 64) (λ j. le_prop) s.few t.few i }

-- one byte more on a line with room for it
pub pushed : (a : List ℕ) (byte : ℕ) → length a < 64 → a ++ byte ∷ [] ≡ joined_on a (byte ∷ [])
pushed a byte room = sym (take_all 64 (a ++ byte ∷ []) (omega (arith, length-append a (byte ∷ []))))

-- on a full line nothing goes
pub full : (a more : List ℕ) → length a ≡ 64 → a ≡ joined_on a more
full a more all = sym (take-append-le 64 a more (omega arith) ∙ take_all 64 a (omega arith))

-- as much of a text as a line has room for
pub joined_room : (a b : List ℕ) (left : ℕ) → left + length a ≡ 64 → a ++ take (min left (length b)) b ≡ joined_on a b
joined_room a b left all =
    let size : length a + left ≡ 64 = omega (arith, all) in
    let front = take-append-add a b left in
    rw (take_min left b) (sym front ∙ ap (λ n. take n (a ++ b)) size)

-- parts put on a line that held `was`, one after another, so that it holds `now`
abbrev pub Puts : List ℕ → List (List ℕ) → List ℕ → Type 0
Puts was [] now = now ≡ was
Puts was (part ∷ parts) now = (next : List ℕ) × (next ≡ joined_on was part) × Puts next parts now

abbrev pub joined : List (List ℕ) → List ℕ
joined [] = []
joined (part ∷ parts) = part ++ joined parts

puts_on : (text was now : List ℕ) (parts : List (List ℕ)) → was ≡ joined_on [] text → Puts was parts now → now ≡ joined_on [] (text ++ joined parts)
puts_on text was now [] start puts = puts ∙ start ∙ ap (take 64) (sym (append-nil text))
puts_on text was now (part ∷ parts) start (next, one, puts) =
    let here : next ≡ joined_on [] (text ++ part) = one ∙ ap (λ t. joined_on t part) start ∙ joined_again [] text part in
    puts_on (text ++ part) next now parts here puts ∙ ap (take 64) (append_assoc text part (joined parts))

-- a new line holds the parts put on it, where it has room for them
pub puts_all : (was now : List ℕ) (parts : List (List ℕ)) → was ≡ [] → Puts was parts now → length (joined parts) ≤ 64 → now ≡ joined parts
puts_all was now parts new puts short = puts_on [] was now parts new puts ∙ take_all 64 (joined parts) short
