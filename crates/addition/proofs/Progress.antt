-- Adding up the first lines of a text.
use Rattle.std.proofs.Common.{◌≡◌, ℕ, ◌+◌, ◌*◌, ◌<◌, ◌≤◌, List, [], ◌∷◌, length, get_or, take, drop, pos, ◌+ℤ◌, sum_by, sym, refl, ap, ◌∙◌, subst, inl, inr, mul-le-mul_right, arith, length-drop, length-take}
use Rattle.std.specs.Str.Parse.{digits_value}
use Rattle.std.specs.List.{AllByRecursion}
use Rattle.std.proofs.ByRecursion.{All-more, All-weaker, sum_by_le}
use Rattle.std.proofs.lemmas.List.{drop-drop, get_or-drop, take_all}
use Rattle.std.proofs.lemmas.List.Sums.{sum_by_more}
use Rattle.std.proofs.lemmas.Int.{ints, clamps}
use Rattle.price.specs.Kind.{Between, PriceKind, Sound, flow_limit, nearest, reach}
use Rattle.refusal.specs.declared.Refusal.TheVariants.{NoPlace, NotAPrice}
use Rattle.addition.specs.Adding.{Adds, Priced, Refuses, Writes}

-- where a list goes on with x
next_of : (xs : List (List ℕ)) (i : ℕ) (x : List ℕ) (ys : List (List ℕ)) → x ∷ ys ≡ drop i xs → (i < length xs) × (get_or xs i [] ≡ x) × (ys ≡ drop (i + 1) xs)
next_of xs i x ys e =
    let size = ap length e ∙ length-drop i xs in
    let here = ap (λ zs. get_or zs 0 []) e ∙ get_or-drop i xs 0 [] in
    let rest = ap (drop 1) e ∙ drop-drop 1 i xs in
    let zero : i + 0 ≡ i = omega arith in
    (omega arith, sym (rw zero at here), rest)

module _ {P : Type 0} (K : PriceKind P) where
  -- the lines before the one with this number were read, and those that are left follow
  pub record Progress (lines left : List (List ℕ)) (number : ℕ) (total : P) : Type 0 where
    pub count : ℕ
    pub next_line : number ≡ count + 1
    pub rest : left ≡ drop count lines
    pub few : count ≤ 4096
    pub each : AllByRecursion (Priced K) (take count lines)
    pub sum : K.means total ≡ pos (sum_by (digits_value 10) (take count lines))

  pub started : (lines : List (List ℕ)) (total : P) → K.means total ≡ pos 0 → Progress lines lines 1 total
  started lines total zero = record { count = 0; next_line = refl; rest = refl; few = omega arith; each = tt; sum = zero }

  price_most : Sound K → (line : List ℕ) → Priced K line → digits_value 10 line ≤ K.largest
  price_most sound line (p, w) = let means = w.price.means in let most = sound.price_high p w.price.price in omega (arith, ints)

  -- prices on at most n lines add up to at most n times the largest
  pub sum_most : Sound K → (lines : List (List ℕ)) (n : ℕ) → length lines ≤ n → AllByRecursion (Priced K) lines → sum_by (digits_value 10) lines ≤ n * K.largest
  sum_most sound lines n few each =
      let small = sum_by_le (digits_value 10) K.largest lines (All-weaker (Priced K) (λ line. digits_value 10 line ≤ K.largest) (price_most sound) lines each) in
      let wide = mul-le-mul_right K.largest few in
      omega arith

  pub one_more : Sound K → {lines left more : List (List ℕ)} {line : List ℕ} {number next : ℕ} {total p sum : P} → Progress lines left number total → left ≡ line ∷ more → Writes K line p
      → number ≤ 4096 → next ≡ number + 1 → K.means sum ≡ nearest (reach K) (K.means total +ℤ K.means p) → Progress lines more next sum
  one_more sound {lines} {left} {more} {line} {number} {next} {total} {p} {sum} so goes writes room then is =
      let count = so.count in
      let at = next_of lines count line more (sym goes ∙ so.rest) in
      let priced : Priced K (get_or lines count []) = (p, subst (λ l. Writes K l p) (sym at.1) writes) in
      let each = All-more (Priced K) lines count [] at.0 so.each priced in
      let step : sum_by (digits_value 10) (take (count + 1) lines) ≡ sum_by (digits_value 10) (take count lines) + digits_value 10 line = sum_by_more (digits_value 10) lines count [] at.0 ∙ ap (λ l. sum_by (digits_value 10) (take count lines) + digits_value 10 l) at.1 in
      let short : length (take (count + 1) lines) ≤ 4096 = omega (arith, so.next_line, length-take (count + 1) lines) in
      let most = sum_most sound (take (count + 1) lines) 4096 short each in
      let before = so.sum in
      let adds = writes.price.means in
      record { count = count + 1; next_line = omega (arith, so.next_line); rest = at.2; few = omega (arith, so.next_line); each = each; sum = omega (arith, ints, clamps) }

  pub finished : {lines left : List (List ℕ)} {number : ℕ} {total : P} → Progress lines left number total → left ≡ [] → Adds K lines total
  finished {lines} so none =
      let size = ap length (sym none ∙ so.rest) ∙ length-drop so.count lines in
      let all : take so.count lines ≡ lines = take_all so.count lines (omega arith) in
      record { few = omega (arith, so.few); each = subst (AllByRecursion (Priced K)) all so.each; sum = so.sum ∙ ap (λ l. pos (sum_by (digits_value 10) l)) all }

  pub no_price : {lines left more : List (List ℕ)} {line : List ℕ} {number : ℕ} {total : P} → Progress lines left number total → left ≡ line ∷ more → (Priced K line → ⊥) → Refuses K lines (NotAPrice number)
  no_price {lines} {left} {more} {line} so goes bad =
      let at = next_of lines so.count line more (sym goes ∙ so.rest) in
      record { index = so.count; within = at.0; few = so.few; before = so.each; cause = inl (λ good. bad (subst (Priced K) at.1 good), ap NotAPrice so.next_line) }

  pub no_place : {lines left more : List (List ℕ)} {line : List ℕ} {number : ℕ} {total p : P} → Progress lines left number total → left ≡ line ∷ more → Writes K line p → 4096 < number
      → Refuses K lines (NoPlace number)
  no_place {lines} {left} {more} {line} {number} {total} {p} so goes writes full =
      let at = next_of lines so.count line more (sym goes ∙ so.rest) in
      let last : so.count ≡ 4096 = omega (arith, so.few, so.next_line) in
      record { index = so.count; within = at.0; few = so.few; before = so.each; cause = inr ((p, subst (λ l. Writes K l p) (sym at.1) writes), last, ap NoPlace so.next_line) }

  pub total_within : Sound K → (lines : List (List ℕ)) (total : P) → Adds K lines total → Between (flow_limit K) (K.means total)
  total_within sound lines total adds =
      let most = sum_most sound lines 4096 adds.few adds.each in
      let sum = adds.sum in
      record { low = omega (arith, ints); high = omega (arith, ints) }
