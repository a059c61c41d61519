-- The table of parents: how it is read, and one entry written.
use Rattle.std.proofs.Common.{◌≡◌, ℕ, zero, suc, ◌+◌, ◌-◌, ◌<◌, ◌≤◌, true, false, cond, ◌≢◌, Option, Some, None, is_some, count_by, List, [], ◌∷◌, length, get_or, set, replicate, map, refl, ap, inl, inr, arith}
use Rattle.std.proofs.lemmas.List.{get_or-replicate, length-replicate, get_or_past, get_or-map}
use Rattle.std.proofs.lemmas.Grind.{common_steps}
use Rattle.std.proofs.lemmas.List.Sums.{sum_by-set, sum_by-cons}
use Rattle.std.proofs.lemmas.List.Folds.{sum_by-replicate}
use Rattle.std.proofs.lemmas.Bool.{cases_lt}
use Rattle.search.specs.Inside.{Step}
use Rattle.search.specs.Table.{parent_in}
use Rattle.search.specs.Record.{parent_of}
use Rattle.search.specs.Progress.{Known}
use Rattle.search.specs.declared.reach.Parent.{Parent}

pub entry_of : (ps : List (Option Parent)) (v : ℕ) → 1 ≤ v → get_or ps (v - 1) None ≡ parent_of ps v
entry_of ps zero l = absurd (omega arith)
entry_of ps (suc i) l = let e : suc i - 1 ≡ i = omega arith in ap (λ j. get_or ps j None) e

-- only what has an entry is reached
pub known_step : (ps : List (Option Parent)) (v : ℕ) → Known ps v → Step (length ps) v
known_step ps v k = grind (arith, common_steps)

-- what the table says of a step that it has an entry for
pub parent_read : (table : List ℕ) (i v : ℕ) → v ≡ i + 1 → i < length table → parent_of (map parent_in table) v ≡ parent_in (get_or table i 0)
parent_read table i zero e l = absurd (omega arith)
parent_read table i (suc j) e l =
    let same : j ≡ i = omega arith in
    rw same (get_or-map parent_in table i 0 None l)

pub parent_same : (ps : List (Option Parent)) (v : ℕ) (p : Option Parent) → 1 ≤ v → v ≤ length ps → parent_of (set ps (v - 1) p) v ≡ p
parent_same ps v p l h = grind (arith, common_steps, entry_of)

pub parent_other : (ps : List (Option Parent)) (v w : ℕ) (p : Option Parent) → 1 ≤ v → w ≢ v → parent_of (set ps (v - 1) p) w ≡ parent_of ps w
parent_other ps v w p l ne = grind (arith, common_steps)

pub none_known : (v : ℕ) → parent_of (replicate 1024 None) v ≡ None
none_known zero = refl
none_known (suc i) =
    elim (cases_lt i 1024) [
      | inl l ↦ get_or-replicate 1024 i None None l
      | inr g ↦ get_or_past (replicate 1024 None) i None (omega (arith, length-replicate {A = Option Parent} 1024 None))
    ]

pub count_none : (n : ℕ) → count_by is_some (replicate {A = Option Parent} n None) ≡ 0
count_none n = omega (arith, sum_by-replicate (λ (p : Option Parent). cond (is_some p) 1 0) n None)

pub count_set : (ps : List (Option Parent)) (i : ℕ) (p : Option Parent) → i < length ps → is_some (get_or ps i None) ≡ false → is_some p ≡ true → count_by is_some (set ps i p) ≡ count_by is_some ps + 1
count_set ps i p l u k =
    let e = sum_by-set (λ p. cond (is_some p) 1 0) ps i p None l in
    let e' = rw (u, k) at e in
    omega arith

-- where only entries below n are reached, at most n are
count_below : (ps : List (Option Parent)) (n : ℕ) → ((i : ℕ) → is_some (get_or ps i None) ≡ true → i < n) → count_by is_some ps ≤ n
count_below [] n b = omega arith
count_below (None ∷ ps) n b = omega (arith, count_below ps (n - 1) (λ i k. omega (arith, b (suc i) k)))
count_below (Some p ∷ ps) n b =
    omega (arith, sum_by-cons (λ (q : Option Parent). cond (is_some q) 1 0) (Some p) ps, b 0 refl, count_below ps (n - 1) (λ i k. omega (arith, b (suc i) k)))

pub count_steps : (ps : List (Option Parent)) (n : ℕ) → ((v : ℕ) → Known ps v → v ≤ n) → count_by is_some ps ≤ n
count_steps ps n b = count_below ps n (λ i k. omega (arith, b (suc i) k))
