-- Where a text's first line ends.
use Rattle.std.proofs.Common.{◌≡◌, ℕ, zero, suc, ◌+◌, ◌-◌, ◌<◌, false, eqb, List, [], ◌∷◌, length, take, drop, sym, ap, add-one, arith, eq-eqb, ne_eqb}
use Rattle.std.proofs.lemmas.List.{drop_all, length-take-le, take_rest, length-drop}
use Rattle.memchr.specs.Find.{NoneBefore, Nowhere, Passes, is_byte}
use Rattle.lines.specs.Split.{FirstLine, before, lines_of}

-- no line feed stands from i up to j
abbrev pub NoFeed : List ℕ → ℕ → ℕ → Type 0
NoFeed text i j = Nowhere (Passes (is_byte 10) text) i j

-- so the first byte is none
other : (b : ℕ) (bs : List ℕ) (j : ℕ) → NoFeed (b ∷ bs) 0 (suc j) → eqb b 10 ≡ false
other b bs j none = ne_eqb b 10 (λ e. none 0 (omega arith) (omega arith) (eq-eqb b 10 e))

-- nor behind the first byte of a longer text
later : (b : ℕ) (bs : List ℕ) (j : ℕ) → NoFeed (b ∷ bs) 0 (suc j) → NoFeed bs 0 j
later b bs j none = λ k low high. none (suc k) (omega arith) (omega arith)

cut : (text : List ℕ) (i : ℕ) → i < length text → NoFeed text 0 i → Passes (is_byte 10) text i → lines_of text ≡ take i text ∷ lines_of (drop (suc i) text)
cut [] i short none here = absurd (omega arith)
cut (b ∷ bs) zero short none here = rw here
cut (b ∷ bs) (suc i) short none here = rw (other b bs i none, cut bs i (omega arith) (later b bs i none) here)

uncut : (text : List ℕ) → 0 < length text → NoFeed text 0 (length text) → lines_of text ≡ text ∷ []
uncut [] some none = absurd (omega arith)
uncut (b ∷ []) some none = rw (other b [] 0 none)
uncut (b ∷ c ∷ bs) some none = rw (other b (c ∷ bs) (length (c ∷ bs)) none) (ap (before b) (uncut (c ∷ bs) (omega arith) (later b (c ∷ bs) (length (c ∷ bs)) none)))

-- the same, as the parts of a slice are read
pub cut_at : (text : List ℕ) (i : ℕ) → NoneBefore (Passes (is_byte 10) text) 0 (length text) i × Passes (is_byte 10) text i → FirstLine text (take i text) (take (length text - (i + 1)) (drop (i + 1) text))
cut_at text i (first, here) =
    let front : length (take i text) ≡ i = length-take-le i text (omega (arith, first.high)) in
    let size = length-drop (i + 1) text in
    let lines : lines_of text ≡ take i text ∷ lines_of (drop (i + 1) text) = rw (add-one i) (cut text i first.high first.before here) in
    let after : drop (i + 1) text ≡ drop (length (take i text) + 1) text = rw front in
    let shorter : length (drop (i + 1) text) < length text = omega (arith, first.high) in
    rw (take_rest text (i + 1)) (record { lines = lines; after = after; shorter = shorter })

pub uncut_at : (text : List ℕ) → 0 < length text → NoFeed text 0 (length text) → FirstLine text text []
uncut_at text some none = record { lines = uncut text some none; after = sym (drop_all (length text + 1) text (omega arith)); shorter = some }
