-- Sums of totals that are few and small stay within the reach.
use Rattle.std.proofs.Common.{◌≡◌, true, ℕ, suc, ◌+◌, ◌*◌, ◌<◌, ◌≤◌, List, [], ◌∷◌, ◌++◌, map, length, get_or, drop, ℤ, pos, ◌+ℤ◌, refl, sym, ap, ◌∙◌, mul-le-mul_right, suc-mul, arith}
use Rattle.std.specs.List.{AllByRecursion}
use Rattle.std.proofs.lemmas.List.{at_drop_more}
use Rattle.std.proofs.lemmas.Int.{ints, clamps}
use Rattle.price.specs.Kind.{Between, PriceKind, flow_limit, nearest, reach}
use Rattle.price.specs.Sums.{Modest, held_sum, sum_of}

pub nearest_same : (n : ℕ) (z : ℤ) → Between n z → nearest n z ≡ z
nearest_same n z b = omega (arith, ints, clamps)

module _ {P : Type 0} (K : PriceKind P) where
  -- k totals of at most m each were added before, and no sum passes n
  held_exact : (n m k : ℕ) (z : ℤ) (xs : List P) → Between (k * m) z → AllByRecursion (λ x. Between m (K.means x)) xs → (k + length xs) * m ≤ n
      → held_sum n z (map K.means xs) ≡ z +ℤ sum_of K xs
  held_exact n m k z [] b h few = omega (arith, ints)
  held_exact n m k z (x ∷ xs) b h few =
      let one = suc-mul k m in
      let first = h.0 in
      let count : k + suc (length xs) ≡ suc k + length xs = omega arith in
      let fit = rw count at few in
      let most : suc k ≤ suc k + length xs = omega arith in
      let wide = mul-le-mul_right m most in
      let next : Between (suc k * m) (z +ℤ K.means x) = record { low = omega (arith, ints); high = omega (arith, ints) } in
      let same = nearest_same n (z +ℤ K.means x) (record { low = omega (arith, ints); high = omega (arith, ints) }) in
      let rest = held_exact n m (suc k) (z +ℤ K.means x) xs next h.1 fit in
      ap (λ y. held_sum n y (map K.means xs)) same ∙ rest ∙ omega (arith, ints)

  pub modest_exact : (xs : List P) → Modest K xs → held_sum (reach K) (pos 0) (map K.means xs) ≡ sum_of K xs
  modest_exact xs m =
      let wide = mul-le-mul_right (flow_limit K) m.few in
      let whole = held_exact (reach K) (flow_limit K) 0 (pos 0) xs (record { low = omega (arith, ints); high = omega (arith, ints) }) m.small (omega arith) in
      omega (arith, ints)

  -- what the sum of xs, added in turn, is known to be
  pub record IsHeldSum (xs : List P) (sum : P) : Type 0 where
    pub means : K.means sum ≡ held_sum (reach K) (pos 0) (map K.means xs)
    pub named : K.named sum ≡ true

  -- one total more at the end of xs
  pub held_push : (n : ℕ) (z : ℤ) (xs : List P) (x : P) → held_sum n z (map K.means (xs ++ x ∷ [])) ≡ nearest n (held_sum n z (map K.means xs) +ℤ K.means x)
  held_push n z [] x = refl
  held_push n z (y ∷ ys) x = held_push n (nearest n (z +ℤ K.means y)) ys x

  -- one total more of xs, before the rest of them
  pub held_more : (n : ℕ) (z w : ℤ) (xs : List P) (i : ℕ) (x : P) → i < length xs → x ≡ get_or xs i x → w ≡ nearest n (z +ℤ K.means x)
      → held_sum n w (map K.means (drop (i + 1) xs)) ≡ held_sum n z (map K.means (drop i xs))
  held_more n z w xs i x within read is =
      let rest = map K.means (drop (i + 1) xs) in
      let step = at_drop_more (λ ys. held_sum n z (map K.means ys)) xs i x within in
      ap (λ y. held_sum n y rest) is ∙ ap (λ y. held_sum n (nearest n (z +ℤ K.means y)) rest) read ∙ sym step
