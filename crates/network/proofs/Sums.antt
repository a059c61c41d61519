-- Sums of integers and counts over the numbers below n.
use Rattle.std.proofs.Common.{◌≡◌, ℕ, zero, suc, ◌*◌, ◌<◌, ◌≤◌, Bool, true, false, cond, eqb, ℤ, pos, ◌+ℤ◌, ◌-ℤ◌, ◌≤ℤ◌, ◌<ℤ◌, sym, refl, ap, ◌∙◌, inl, inr, arith}
use Rattle.std.proofs.lemmas.Int.{ints}
use Rattle.std.proofs.lemmas.Bool.{cases_eq, eq-eqb, ne_eqb}
use Rattle.network.specs.Chart.{Chart}
use Rattle.network.specs.Sum.{sum, how_many, sum_over}

pub sum_same : (n : ℕ) (g h : ℕ → ℤ) → ((i : ℕ) → i < n → g i ≡ h i) → sum n g ≡ sum n h
sum_same zero g h e = refl
sum_same (suc n) g h e =
    let ih = sum_same n g h (λ i l. e i (omega arith)) in
    let x = e n (omega arith) in
    omega (arith, ints)

pub sum-zero : (n : ℕ) (g : ℕ → ℤ) → ((i : ℕ) → i < n → g i ≡ pos 0) → sum n g ≡ pos 0
sum-zero zero g e = refl
sum-zero (suc n) g e =
    let ih = sum-zero n g (λ i l. e i (omega arith)) in
    let x = e n (omega arith) in
    omega (arith, ints)

pub sum_plus : (n : ℕ) (g h : ℕ → ℤ) → sum n (λ i. g i +ℤ h i) ≡ sum n g +ℤ sum n h
sum_plus zero g h = refl
sum_plus (suc n) g h = let ih = sum_plus n g h in omega (arith, ints)

pub sum_minus : (n : ℕ) (g h : ℕ → ℤ) → sum n (λ i. g i -ℤ h i) ≡ sum n g -ℤ sum n h
sum_minus zero g h = refl
sum_minus (suc n) g h = let ih = sum_minus n g h in omega (arith, ints)

pub sum_le : (n : ℕ) (g h : ℕ → ℤ) → ((i : ℕ) → i < n → g i ≤ℤ h i) → sum n g ≤ℤ sum n h
sum_le zero g h e = omega (arith, ints)
sum_le (suc n) g h e =
    let ih = sum_le n g h (λ i l. e i (omega arith)) in
    let x = e n (omega arith) in
    omega (arith, ints)

-- one smaller term makes a smaller sum
pub sum_less : (n : ℕ) (g h : ℕ → ℤ) → ((i : ℕ) → i < n → g i ≤ℤ h i) → (j : ℕ) → j < n → g j <ℤ h j → sum n g <ℤ sum n h
sum_less zero g h e j l s = absurd (omega arith)
sum_less (suc n) g h e j l s =
    let m = sum_le n g h (λ i l. e i (omega arith)) in
    let x = e n (omega arith) in
    elim (cases_eq j n) [
      | inl p ↦ (let y = ap g p in let z = ap h p in omega (arith, ints))
      | inr p ↦ (let ih = sum_less n g h (λ i l. e i (omega arith)) j (omega arith) s in omega (arith, ints))
    ]

pub sum_most : (n b : ℕ) (g : ℕ → ℤ) → ((i : ℕ) → i < n → g i ≤ℤ pos b) → sum n g ≤ℤ pos (n * b)
sum_most zero b g e = omega (arith, ints)
sum_most (suc n) b g e =
    let ih = sum_most n b g (λ i l. e i (omega arith)) in
    let x = e n (omega arith) in
    omega (arith, ints)

-- one term alone
pub sum_at : (n : ℕ) (g : ℕ → ℤ) (v : ℕ) → v < n → ((i : ℕ) → i < n → (i ≡ v → ⊥) → g i ≡ pos 0) → sum n g ≡ g v
sum_at zero g v l e = absurd (omega arith)
sum_at (suc n) g v l e =
    elim (cases_eq v n) [
      | inl p ↦ (let z = sum-zero n g (λ i m. e i (omega arith) (λ q. omega arith)) in let y : g v ≡ g n = ap g p in omega (arith, ints))
      | inr p ↦ (let ih = sum_at n g v (omega arith) (λ i m. e i (omega arith)) in let z = e n (omega arith) (λ q. p (sym q)) in omega (arith, ints))
    ]

pub sum_swap : (n m : ℕ) (g : ℕ → ℕ → ℤ) → sum n (λ i. sum m (g i)) ≡ sum m (λ j. sum n (λ i. g i j))
sum_swap zero m g = sym (sum-zero m (λ j. pos 0) (λ i l. refl))
sum_swap (suc n) m g =
    let ih = sum_swap n m g in
    let p = sum_plus m (λ j. sum n (λ i. g i j)) (g n) in
    omega (arith, ints)

-- a condition before a sum stands before each term
pub sum-cond : (n : ℕ) (b : Bool) (g : ℕ → ℤ) → cond b (sum n g) (pos 0) ≡ sum n (λ i. cond b (g i) (pos 0))
sum-cond n true g = refl
sum-cond n false g = sym (sum-zero n (λ i. pos 0) (λ i l. refl))

-- over the feeds that pass

pub cond-zero : (b : Bool) (x : ℤ) → x ≡ pos 0 → cond b x (pos 0) ≡ pos 0
cond-zero true x e = e
cond-zero false x e = refl

cond_plus : (b : Bool) (x y : ℤ) → cond b (x +ℤ y) (pos 0) ≡ cond b x (pos 0) +ℤ cond b y (pos 0)
cond_plus true x y = refl
cond_plus false x y = refl

module _ (C : Chart) (t : ℕ → Bool) where
  pub sum_over_same : (g h : ℕ → ℤ) → ((k : ℕ) → k < C.count → g k ≡ h k) → sum_over C t g ≡ sum_over C t h
  sum_over_same g h e = sum_same C.count _ _ (λ k l. ap (λ z. cond (t k) z (pos 0)) (e k l))

  pub sum_over-zero : (g : ℕ → ℤ) → ((k : ℕ) → k < C.count → g k ≡ pos 0) → sum_over C t g ≡ pos 0
  sum_over-zero g e = sum-zero C.count _ (λ k l. cond-zero (t k) (g k) (e k l))

  pub sum_over_plus : (g h : ℕ → ℤ) → sum_over C t (λ k. g k +ℤ h k) ≡ sum_over C t g +ℤ sum_over C t h
  sum_over_plus g h = sum_same C.count _ _ (λ k l. cond_plus (t k) (g k) (h k)) ∙ sum_plus C.count _ _

  -- one feed alone
  pub sum_over_at : (j : ℕ) (z : ℤ) → j < C.count → sum_over C t (λ k. cond (eqb j k) z (pos 0)) ≡ cond (t j) z (pos 0)
  sum_over_at j z l =
      sum_at C.count (λ k. cond (t k) (cond (eqb j k) z (pos 0)) (pos 0)) j l (λ k m q. cond-zero (t k) _ (rw (ne_eqb j k (λ e. q (sym e)))))
      ∙ rw (eq-eqb j j refl)

pub how_many_most : (n : ℕ) (t : ℕ → Bool) → how_many n t ≤ n
how_many_most zero t = omega arith
how_many_most (suc n) t = let h = how_many_most n t in grind arith

pub how_many_le : (n : ℕ) (t u : ℕ → Bool) → ((i : ℕ) → i < n → t i ≡ true → u i ≡ true) → how_many n t ≤ how_many n u
how_many_le zero t u e = omega arith
how_many_le (suc n) t u e =
    let h = how_many_le n t u (λ i l. e i (omega arith)) in
    let k = e n (omega arith) in
    grind arith

pub how_many_less : (n : ℕ) (t u : ℕ → Bool) → ((i : ℕ) → i < n → t i ≡ true → u i ≡ true) → (v : ℕ) → v < n → t v ≡ false → u v ≡ true → how_many n t < how_many n u
how_many_less zero t u e v l p q = absurd (omega arith)
how_many_less (suc n) t u e v l p q =
    let h : v < n → how_many n t < how_many n u = λ g. how_many_less n t u (λ i l. e i (omega arith)) v g p q in
    let m = how_many_le n t u (λ i l. e i (omega arith)) in
    let k = e n (omega arith) in
    grind arith
