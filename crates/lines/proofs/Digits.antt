-- Reading digits one after another.
use Rattle.std.proofs.Common.{◌≡◌, ℕ, ◌+◌, ◌-◌, ◌*◌, ◌^◌, ◌<◌, ◌≤◌, true, false, cond, ltb, leb, List, ◌∷◌, length, get_or, drop, Some, None, Option, ap, ◌∙◌, add-one, arith}
use native.Mathlib.Nat.{pow-le-pow_right, pow-succ'}
use Rattle.std.specs.Str.Parse.{digits_value_after}
use Rattle.std.specs.Char.{is_ascii_digit, digit_value}
use Rattle.std.specs.Str.{all_ascii_digits}
use Rattle.std.proofs.lemmas.List.{at_drop_more}
use Rattle.std.proofs.lemmas.Bool.Decides.{nat_tests}
use Rattle.lines.specs.Numbers.{number_in}

-- the number that bytes write after the digits of n, or none where they are not all digits
abbrev pub digits_after : ℕ → List ℕ → Option ℕ
digits_after n bs = cond (all_ascii_digits bs) (Some (digits_value_after 10 n bs)) None

pub digit_value_lem : (c : ℕ) → is_ascii_digit c ≡ true → (digit_value c ≡ c - 48) × (48 ≤ c) × (c ≤ 57)
digit_value_lem c h = grind (arith, nat_tests)

one_digit : (n c : ℕ) (cs : List ℕ) → is_ascii_digit c ≡ true → digits_after n (c ∷ cs) ≡ digits_after (n * 10 + (c - 48)) cs
one_digit n c cs h = let d = (digit_value_lem c h).0 in rw (h, d)

pub digit_more : (n i : ℕ) (bs : List ℕ) → i < length bs → is_ascii_digit (get_or bs i 0) ≡ true → digits_after n (drop i bs) ≡ digits_after (n * 10 + (get_or bs i 0 - 48)) (drop (i + 1) bs)
digit_more n i bs h d = at_drop_more (digits_after n) bs i 0 h ∙ one_digit n (get_or bs i 0) (drop (i + 1) bs) d

pub digit_none : (n i : ℕ) (bs : List ℕ) → i < length bs → is_ascii_digit (get_or bs i 0) ≡ false → digits_after n (drop i bs) ≡ None
digit_none n i bs h d = at_drop_more (digits_after n) bs i 0 h ∙ (rw d)

pub digit_bound : (n i d : ℕ) → d ≤ 9 → n < 10 ^ i → n * 10 + d < 10 ^ (i + 1)
digit_bound n i d h b = let e : 10 ^ (i + 1) ≡ 10 * 10 ^ i = ap (λ k. 10 ^ k) (add-one i) ∙ pow-succ' 10 i in omega arith

pub digits_fit : (n i d : ℕ) → d ≤ 9 → i < 15 → n < 10 ^ i → n * 10 + d < 10 ^ 15
digits_fit n i d h few b =
    let bound = digit_bound n i d h b in
    let below : i + 1 ≤ 15 = omega arith in
    let top : 10 ^ (i + 1) ≤ 10 ^ 15 = pow-le-pow_right {n = 10} (omega arith) below in
    omega arith

-- within the limits on its length a field is a number where it is all digits
pub number_by_digits : (bs : List ℕ) → 0 < length bs → length bs ≤ 15 → digits_after 0 bs ≡ number_in bs
number_by_digits bs some few =
    let low : ltb 0 (length bs) ≡ true = grind (arith, nat_tests) in
    let high : leb (length bs) 15 ≡ true = grind (arith, nat_tests) in
    rw (low, high)
