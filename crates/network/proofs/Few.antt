-- At most steps × feeds raises: no step comes nearer to the source, and with each raise a feed falls out of use until
-- its start has moved away.
use Rattle.std.proofs.Common.{◌≡◌, ℕ, ◌+◌, ◌-◌, ◌*◌, ◌<◌, ◌≤◌, Bool, true, false, cond, length, ℤ, pos, ◌+ℤ◌, ◌≤ℤ◌, ◌<ℤ◌, sym, refl, ap, inl, inr, mul_comm, arith}
use lib.Signed.{lt_z}
use Rattle.std.proofs.lemmas.Int.{ints}
use Rattle.std.proofs.lemmas.Bool.{cases_Bool, or_cases, or_parts, or_from, both_ways}
use Rattle.network.specs.Chart.{Chart, Fit, Flows}
use Rattle.network.specs.Walk.{In}
use Rattle.network.specs.Sum.{sum}
use Rattle.network.specs.Move.{Move, forward, backward, move_from, move_to, has_spare, open_moves}
use Rattle.network.specs.Flow.{Flow}
use Rattle.network.specs.Raise.{Raise, Raises, begun, raised}
use Rattle.network.specs.Laws.{FewRaises}
use Rattle.network.proofs.Walks.{walk_passable}
use Rattle.network.proofs.Arcs.{move_feed_lem, backward_passes, forward_passes, forward_may}
use Rattle.network.proofs.Sums.{sum-zero, sum_le, sum_less, sum_most}
use Rattle.network.proofs.Moves.{far, far_most, far_source, far_more, far_cases, far_walk}
use Rattle.network.proofs.Heights.{rise, each_rises, rising_distinct}
use Rattle.network.proofs.Raising.{spare_positive, use_cases, carried_once}
use Rattle.network.proofs.Bounds.{flows_within_total}

-- how much use is left in a feed, by whether it has room and by the distances of its start and its end
left : ℕ → Bool → ℕ → ℕ → ℕ
left n room d_from d_to = cond room (n - d_from) (n - d_to - 1)

left_most : (n : ℕ) (o : Bool) (a b : ℕ) → left n o a b ≤ n
unfolding left
left_most n true a b = omega arith
left_most n false a b = omega arith

-- distances grow, and a feed that has room anew was moved backward
left_le : (n : ℕ) (o o' : Bool) (a b a' b' : ℕ) → a ≤ a' → b ≤ b' → a ≤ b + 1 → (o ≡ false → o' ≡ true → a ≡ b + 1) → left n o' a' b' ≤ left n o a b
unfolding left
left_le n true true a b a' b' p q r s = omega arith
left_le n true false a b a' b' p q r s = omega arith
left_le n false true a b a' b' p q r s = let e = s refl refl in omega arith
left_le n false false a b a' b' p q r s = omega arith

-- a feed on the way that is full now
left_less : (n : ℕ) (o o' : Bool) (a b a' b' : ℕ) → o ≡ true → o' ≡ false → b ≤ b' → b ≡ a + 1 → b ≤ n → left n o' a' b' < left n o a b
unfolding left
left_less n o o' a b a' b' p q r s t = rw (p, q) (omega arith)

-- at the flows f
left_in : (C : Chart) → Fit C → Flows → ℕ → ℕ
left_in C fit f k = left C.steps (has_spare C f k) (far C (has_spare C f) fit (C.from k)) (far C (has_spare C f) fit (C.to k))

potential : (C : Chart) → Fit C → Flows → ℤ
potential C fit f = sum C.count (λ k. pos (left_in C fit f k))

potential_low : (C : Chart) (fit : Fit C) (f : Flows) → pos 0 ≤ℤ potential C fit f
unfolding potential
potential_low C fit f =
    let z = sum-zero C.count (λ k. pos 0) (λ k l. refl) in
    let h = sum_le C.count (λ k. pos 0) (λ k. pos (left_in C fit f k)) (λ k l. omega (arith, ints)) in
    omega (arith, ints)

module _ (C : Chart) (fit : Fit C) (f : Flows) (fl : Flow C f) (a : ℤ) (g : Flows) (s : Raise C f a g) where
  d : ℕ → ℕ
  d v = far C (has_spare C f) fit v

  d' : ℕ → ℕ
  d' v = far C (has_spare C g) fit v

  slow : (x : Move) → (open_moves C f).passable x ≡ true → d (move_to C x) ≤ d (move_from C x) + 1
  unfolding d
  slow x p = far_more C (has_spare C f) fit x p

  -- the way is as long as the sink is far
  way_length : d C.sink ≡ d C.source + length s.way
  unfolding d
  way_length =
      let z = far_source C (has_spare C f) fit in
      let r = far_walk C (has_spare C f) fit C.sink (s.way, s.is_open.0) in
      let t = rise (open_moves C f) d slow C.source s.way C.sink s.is_open.0 in
      let q : d C.sink ≡ d C.source + length r.0 = omega (arith, r.2) in
      let m = s.shortest r.0 (r.1, rising_distinct (open_moves C f) d slow C.source r.0 C.sink r.1 q) in
      omega (arith, r.2)

  on_way : (x : Move) → In x s.way → d (move_to C x) ≡ d (move_from C x) + 1
  on_way = each_rises (open_moves C f) d slow C.source s.way C.sink s.is_open.0 way_length

  opened : (k : ℕ) → k < C.count → has_spare C f k ≡ false → has_spare C g k ≡ true → d (C.from k) ≡ d (C.to k) + 1
  opened k l p q =
      let n = or_parts (C.barred k) (lt_z (f k) (C.price k)) p in
      let n1 = n.1 in
      let a0 = spare_positive C fit f fl s.way s.is_open a s.least in
      let x = s.flows k l in
      elim (or_cases (C.barred k) (lt_z (g k) (C.price k)) q) [
        | inl b ↦ absurd (both_ways (C.barred k) n.0 b)
        | inr b ↦ elim (use_cases C fit f fl s.way s.is_open a s.least k) [
          | inl u ↦ absurd (omega (arith, ints))
          | inr (inl u) ↦ (let y = u.1 in absurd (omega (arith, ints)))
          | inr (inr u) ↦ on_way (backward k) u.0
        ]
      ]

  back_slow : (k : ℕ) → k < C.count → d (C.from k) ≤ d (C.to k) + 1
  back_slow k l = slow (backward k) (backward_passes C (has_spare C f) k l)

  -- the old distances rise by at most one with each new move
  new_slow : (x : Move) → (open_moves C g).passable x ≡ true → d (move_to C x) ≤ d (move_from C x) + 1
  new_slow (forward k) p =
      let l = move_feed_lem C (has_spare C g) (forward k) p in
      elim (cases_Bool (has_spare C f k)) [
        | inl o ↦ slow (forward k) (forward_passes C (has_spare C f) k l o)
        | inr o ↦ omega (arith, opened k l o (forward_may C (has_spare C g) k p))
      ]
  new_slow (backward k) p = slow (backward k) p

  -- no distance falls
  farther : (v : ℕ) → d v ≤ d' v
  unfolding d d'
  farther v =
      elim (far_cases C (has_spare C g) fit v) [
        | inl q ↦ omega (arith, far_most C (has_spare C f) fit v)
        | inr r ↦ omega (arith, far_source C (has_spare C f) fit, r.2, rise (open_moves C g) d new_slow C.source r.0 v r.1)
      ]

  none_more : (k : ℕ) → k < C.count → left_in C fit g k ≤ left_in C fit f k
  unfolding left_in d d'
  none_more k l = left_le C.steps (has_spare C f k) (has_spare C g k) (d (C.from k)) (d (C.to k)) (d' (C.from k)) (d' (C.to k)) (farther (C.from k)) (farther (C.to k)) (back_slow k l) (opened k l)

  -- the feed whose spare was the least
  tight : ℕ
  tight = s.least.one_is.0

  tight_open : (open_moves C f).passable (forward tight) ≡ true
  unfolding tight
  tight_open = walk_passable (open_moves C f) C.source s.way C.sink s.is_open.0 (forward tight) s.least.one_is.1

  tight_feed : tight < C.count
  tight_feed = move_feed_lem C (has_spare C f) (forward tight) tight_open

  tight_full : has_spare C g tight ≡ false
  unfolding tight
  tight_full =
      let x = s.flows tight tight_feed in
      let y = carried_once C (has_spare C f) a C.source s.way C.sink s.is_open.0 s.is_open.1 (forward tight) s.least.one_is.1 in
      let z = s.least.one_is.3 in
      or_from (C.barred tight) (lt_z (g tight) (C.price tight)) s.least.one_is.2 (sym (omega (arith, ints)))

  tight_less : left_in C fit g tight < left_in C fit f tight
  unfolding left_in d d' tight
  tight_less =
      left_less C.steps (has_spare C f tight) (has_spare C g tight) (d (C.from tight)) (d (C.to tight)) (d' (C.from tight)) (d' (C.to tight))
      (forward_may C (has_spare C f) tight tight_open) tight_full (farther (C.to tight)) (on_way (forward tight) s.least.one_is.1) (far_most C (has_spare C f) fit (C.to tight))

  potential_less : potential C fit g <ℤ potential C fit f
  unfolding potential
  potential_less =
      let less = tight_less in
      sum_less C.count (λ k. pos (left_in C fit g k)) (λ k. pos (left_in C fit f k)) (λ k l. let h = none_more k l in omega (arith, ints))
      tight tight_feed (omega (arith, ints))

raises_and_potential : (C : Chart) (fit : Fit C) (n : ℕ) (f : Flows) → Raises C n f → (pos n +ℤ potential C fit f) ≤ℤ pos (C.count * C.steps)
unfolding potential left_in
raises_and_potential C fit n f (begun z) =
    let each : (k : ℕ) → k < C.count → pos (left_in C fit f k) ≤ℤ pos C.steps =
    λ k l. (let m = left_most C.steps (has_spare C f k) (far C (has_spare C f) fit (C.from k)) (far C (has_spare C f) fit (C.to k)) in omega (arith, ints)) in
    let h = sum_most C.count C.steps (λ k. pos (left_in C fit f k)) each in
    omega (arith, ints)
raises_and_potential C fit n g (raised {n = m} {f = f} {a = a} r s) =
    let ih = raises_and_potential C fit m f r in
    let q = potential_less C fit f (flows_within_total C fit m f r).flow a g s in
    omega (arith, ints)

pub few_raises : FewRaises
few_raises C fit n f r =
    let p = raises_and_potential C fit n f r in
    let z = potential_low C fit f in
    let c = mul_comm C.steps C.count in
    let e : pos (C.count * C.steps) ≡ pos (C.steps * C.count) = ap pos (sym c) in
    let q : pos n ≤ℤ pos (C.steps * C.count) = omega (arith, ints) in
    omega (arith, ints)
