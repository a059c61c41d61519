-- What the parents tell, while the search goes on and when it ends.
use Rattle.std.proofs.Common.{◌≡◌, ℕ, zero, suc, ◌+◌, ◌<◌, ◌≤◌, true, ◌↔◌, Option, Some, None, is_some, List, [], ◌∷◌, ◌++◌, length, slice_get, refl, sym, ap, ◌∙◌, subst, inl, inr, arith}
use Rattle.std.proofs.lemmas.Bool.{cases_lt, true≢false}
use Rattle.std.proofs.lemmas.Option.{slice_get_within, gets}
use Rattle.network.specs.Walk.{Map, Walk, Leads}
use Rattle.network.proofs.Walks.{walk_push}
use Rattle.search.specs.Record.{parent_of}
use Rattle.search.specs.Progress.{Known, Says, Progress, LeadsBack}
use Rattle.search.specs.declared.reach.Parent.{Parent}
use Rattle.search.specs.declared.reach.Parent.TheVariants.{Start, Along}
use Rattle.search.proofs.Turns.{filled}

past : (queue : List ℕ) (h : ℕ) → slice_get queue h ≡ None → length queue ≤ h
past queue h e = grind (arith, gets)

module _ {M : Map ℕ} {s : ℕ} {parents : List (Option Parent)} {queue : List ℕ} {h b : ℕ} (P : Progress M s parents queue h b) where
  -- a walk of at most m arcs from the start leads to a step that is reached, where all nearer than m are done
  arrives : (m : ℕ) → ((i u : ℕ) → slice_get queue i ≡ Some u → P.state.distance u < m → i < h)
      → (u : ℕ) (w : List ℕ) (v : ℕ) → Walk M u w v → Known parents u → P.state.distance u + length w ≤ m
      → Known parents v × (P.state.distance v ≤ P.state.distance u + length w)
  arrives m all u [] v e ku l = rw (sym e) (ku, omega arith)
  arrives m all u (k ∷ w) v (pk, from, rest) ku l =
      let f = P.state.found u ku in
      let seen = P.done f.0 k (all f.0 u f.1 (omega arith)) pk (f.1 ∙ ap Some (sym from)) in
      let e = ap P.state.distance from in
      let r = arrives m all (M.to k) w v rest seen.0 (omega (arith, seen.1)) in
      (r.0, omega (arith, r.1, seen.1))

  least : (v : ℕ) → Known parents v → (w : List ℕ) → Walk M s w v → P.state.distance v ≤ length w
  least v kv w x = by (slice_get queue h) refl
    where
      from_start : (m : ℕ) → ((i u : ℕ) → slice_get queue i ≡ Some u → P.state.distance u < m → i < h) → length w ≤ m → P.state.distance v ≤ length w
      from_start m all le = omega (arith, P.state.start_distance, (arrives m all s w v x P.state.start_known (omega (arith, P.state.start_distance))).1)

      by : (o : Option ℕ) → slice_get queue h ≡ o → P.state.distance v ≤ length w
      by None none = from_start (length w) (λ i u e l. omega (arith, slice_get_within queue i u e, past queue h none)) (omega arith)
      by (Some y) here =
          elim (cases_lt (P.state.distance y) (length w)) [
            | inl far ↦ omega (arith, P.ahead y v here kv)
            | inr nearer ↦ from_start (P.state.distance y) (λ i u e l. elim (cases_lt i h) [
              | inl lt ↦ lt
              | inr g ↦ absurd (omega (arith, P.state.order h i y u g here e))
            ]) nearer
          ]

  pub searched : LeadsBack M s parents
  searched = record {
    distance = P.state.distance;
    start_distance = P.state.start_distance;
    says = P.state.says;
    least = least;
    short = λ v kv. (let f = P.state.found v kv in omega (arith, P.state.near f.0 v f.1, slice_get_within queue f.0 v f.1, filled P.state));
  }

  -- the queue is done
  pub whole : slice_get queue h ≡ None → (v : ℕ) → Leads M s v → Known parents v
  whole none v (w, x) = (arrives (length w) (λ i u e l. omega (arith, slice_get_within queue i u e, past queue h none)) s w v x P.state.start_known (omega (arith, P.state.start_distance))).0

module _ {M : Map ℕ} {s : ℕ} {parents : List (Option Parent)} (S : LeadsBack M s parents) where
  sound_within : (m v : ℕ) → S.distance v < m → Known parents v → Leads M s v
  sound_within zero v l kv = absurd (omega arith)
  sound_within (suc m) v l kv = by (parent_of parents v) kv (S.says v) (λ u d k. sound_within m u d k)
    where
      by : (p : Option Parent) → is_some p ≡ true → Says M s parents S.distance v p → ((u : ℕ) → S.distance u < m → Known parents u → Leads M s u) → Leads M s v
      by None k y more = absurd (true≢false (sym k))
      by (Some Start) k y more = ([], sym y)
      by (Some (Along k)) _ (pk, to, kf, d) more =
          let r = more (M.from k) (omega arith) kf in
          (r.0 ++ (k ∷ []), subst (Walk M s (r.0 ++ (k ∷ []))) to (walk_push M s r.0 k r.1 pk))

  -- what is reached is led to
  pub sound : (v : ℕ) → Known parents v → Leads M s v
  sound v kv = sound_within (S.distance v + 1) v (omega arith) kv

  pub tells : ((v : ℕ) → Leads M s v → Known parents v) → (v : ℕ) → Known parents v ↔ Leads M s v
  tells all v = (sound v, all v)
