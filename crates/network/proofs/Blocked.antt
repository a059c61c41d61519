-- Charts without an allowed border: moves without limit lead from source to sink.
use Rattle.std.proofs.Common.{◌≡◌, ℕ, ◌<◌, true, false, ◌⊎◌, inl, inr, arith}
use Rattle.std.proofs.lemmas.Bool.{cases_Bool, both_ways}
use Rattle.network.specs.Chart.{Chart, Fit, Sides}
use Rattle.network.specs.Border.{kept, runs_back, NoneBack, Allowed}
use Rattle.network.specs.Move.{Move, forward, backward, move_from, move_to, unlimited_moves, UnlimitedWay}
use Rattle.network.specs.Laws.{UnlimitedIsNoneAllowed, UnlimitedIsAlwaysBarred}
use Rattle.network.proofs.Walks.{walk_leaves}
use Rattle.network.proofs.Crossings.{once_is_none_back}
use Rattle.network.proofs.Arcs.{move_feed_lem, backward_passes, forward_passes, forward_may}
use Rattle.network.proofs.Reach.{some, decides_some}
use Rattle.network.proofs.Moves.{found, decides_found, found_source, found_more}

-- what stands against a border
Against : Chart → Sides → ℕ → Type 0
Against C early k = (runs_back C early k ≡ true) ⊎ ((kept C early k ≡ true) × (C.barred k ≡ true))

-- a move without limit from early to late is along such a feed
against : (C : Chart) (early : Sides) (x : Move) → (unlimited_moves C).passable x ≡ true → early (move_from C x) ≡ true → early (move_to C x) ≡ false → (k : ℕ) × (k < C.count) × Against C early k
unfolding Against
against C early (forward k) p e l = (k, move_feed_lem C C.barred (forward k) p, inr (grind arith, forward_may C C.barred k p))
against C early (backward k) p e l = (k, move_feed_lem C C.barred (backward k) p, inl (grind arith))

-- the steps that moves without limit reach, where the sink is none of them
pub some_allowed : (C : Chart) → Fit C → (UnlimitedWay C → ⊥) → (early : Sides) × Allowed C early
some_allowed C fit none =
    let e = found C C.barred fit in
    let late : e C.sink ≡ false = elim (cases_Bool (e C.sink)) [ inl h ↦ absurd (none ((decides_found C C.barred fit C.sink).0 h)) | inr h ↦ h ] in
    let fw : (k : ℕ) → k < C.count → C.barred k ≡ true → e (C.from k) ≡ true → e (C.to k) ≡ true =
    λ k l b. found_more C C.barred fit (forward k) (forward_passes C C.barred k l b) in
    let bw : (k : ℕ) → k < C.count → e (C.to k) ≡ true → e (C.from k) ≡ true = λ k l. found_more C C.barred fit (backward k) (backward_passes C C.barred k l) in (
      e,
      record {
        border = (found_source C C.barred fit, late);
        none_back = λ k l. (let b = bw k l in grind arith);
        kept_unbarred = λ k l q. (let b = fw k l in grind arith);
      },
    )

pub unlimited_is_none_allowed : UnlimitedIsNoneAllowed
unfolding Against
unlimited_is_none_allowed C fit = (
  (λ u early bd. let x = walk_leaves (unlimited_moves C) early C.source u.0 C.sink u.1 bd.0 bd.1 in against C early x.0 x.1 x.2 x.3),
  (λ none. elim (cases_Bool (found C C.barred fit C.sink)) [
    | inl e ↦ (decides_found C C.barred fit C.sink).0 e
    | inr e ↦ (let al = some_allowed C fit (λ u. both_ways (found C C.barred fit C.sink) e ((decides_found C C.barred fit C.sink).1 u)) in
        let r = none al.0 al.1.border in
        absurd (elim r.2 [
          | inl h ↦ both_ways (runs_back C al.0 r.0) (al.1.none_back r.0 r.1) h
          | inr h ↦ both_ways (C.barred r.0) (al.1.kept_unbarred r.0 r.1 h.0) h.1
        ]))
  ]),
)

-- a feed that runs back, or none
back_or_none : (C : Chart) (early : Sides) → ((k : ℕ) × (k < C.count) × (runs_back C early k ≡ true)) ⊎ NoneBack C early
back_or_none C early =
    elim (cases_Bool (some C.count (runs_back C early))) [
      | inl e ↦ inl ((decides_some C.count (runs_back C early)).0 e)
      | inr e ↦ inr (λ k l. elim (cases_Bool (runs_back C early k)) [ inl h ↦ absurd (both_ways (some C.count (runs_back C early)) e ((decides_some C.count (runs_back C early)).1 (k, l, h))) | inr h ↦ h ])
    ]

pub unlimited_is_always_barred : UnlimitedIsAlwaysBarred
unlimited_is_always_barred C fit on = (
  (λ u early bd once. let r = (unlimited_is_none_allowed C fit).0 u early bd in
      let none = (once_is_none_back C fit on early bd).0 once r.0 r.1 in
      elim r.2 [ inl h ↦ absurd (both_ways (runs_back C early r.0) none h) | inr h ↦ (r.0, r.1, h.0, h.1) ]),
  (λ barred. (unlimited_is_none_allowed C fit).1 (λ early bd. elim (back_or_none C early) [
    | inl r ↦ (r.0, r.1, inl r.2)
    | inr none ↦ (let r = barred early bd ((once_is_none_back C fit on early bd).1 none) in (r.0, r.1, inr (r.2, r.3)))
  ])),
)
