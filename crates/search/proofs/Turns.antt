-- What one turn does to the state of a search.
use Rattle.std.proofs.Common.{◌≡◌, ℕ, zero, suc, ◌+◌, ◌-◌, ◌<◌, ◌≤◌, Bool, true, false, cond, eqb, ◌≢◌, ◌⊎◌, List, [], ◌∷◌, ◌++◌, length, Option, Some, None, is_some, count_by, unwrap_or, slice_get, set, replicate, sym, refl, ap, ◌∙◌, subst, inl, inr, arith}
use Rattle.std.proofs.lemmas.List.{length-set, length-replicate, length-append}
use Rattle.std.proofs.lemmas.List.Sums.{count_by-le-length}
use Rattle.std.proofs.lemmas.Option.{same_Some, slice_get_within, gets}
use Rattle.std.proofs.lemmas.Grind.{common_steps}
use Rattle.std.proofs.lemmas.Bool.{true≢false, cases_lt, cases_eq, eq-eqb, ne_eqb, cond-true, cond-false}
use Rattle.network.specs.Walk.{Map}
use Rattle.search.specs.Inside.{Step, inside}
use Rattle.search.specs.Record.{parent_of}
use Rattle.search.specs.Index.{Next}
use Rattle.search.specs.Progress.{Known, Says, Seen, Fresh, Ordered, Progress}
use Rattle.search.specs.declared.reach.Parent.{Parent}
use Rattle.search.specs.declared.reach.Parent.TheVariants.{Start, Along}
use Rattle.search.proofs.Parents.{entry_of, known_step, parent_same, parent_other, none_known, count_none, count_set, count_steps}
use Rattle.search.proofs.Inner.{ends_inside}

-- there are no more reached steps than entries
pub filled : {M : Map ℕ} {s : ℕ} {parents : List (Option Parent)} {queue : List ℕ} → Ordered M s parents queue → length queue ≤ 1024
filled {parents = parents} O = omega (arith, O.counted, O.table, count_by-le-length is_some parents)

-- a search on the steps 1 to n reaches no others, and so no more than n
module _ (arcs n : ℕ) (M : Map ℕ) {s : ℕ} {parents : List (Option Parent)} {queue : List ℕ} (O : Ordered (inside arcs n M) s parents queue) (start : Step n s) where
  pub reached_within : (v : ℕ) → Known parents v → Step n v
  reached_within v kn = by (parent_of parents v) kn (O.says v)
    where
      by : (p : Option Parent) → is_some p ≡ true → Says (inside arcs n M) s parents O.distance v p → Step n v
      by None k y = absurd (true≢false (sym k))
      by (Some Start) k y = subst (Step n) (sym y) start
      by (Some (Along j)) k y = subst (Step n) y.1 (ends_inside arcs n M j y.0)

  pub step_within : (h u : ℕ) → slice_get queue h ≡ Some u → Step n u
  step_within h u here = reached_within u (O.queued h u here)

  pub filled_within : length queue ≤ n
  filled_within = omega (arith, O.counted, count_steps parents n (λ v kn. (reached_within v kn).1))

-- d, but x at v
put : (ℕ → ℕ) → ℕ → ℕ → ℕ → ℕ
put d v x w = cond (eqb w v) x (d w)

put_same : (d : ℕ → ℕ) (v x : ℕ) → put d v x v ≡ x
unfolding put
put_same d v x = cond-true (eqb v v) x (d v) (eq-eqb v v refl)

put_other : (d : ℕ → ℕ) (v w x : ℕ) → w ≢ v → put d v x w ≡ d w
unfolding put
put_other d v w x ne = cond-false (eqb w v) x (d w) (ne_eqb w v ne)

-- a queue with v at its end: where its entries stand
older : (queue : List ℕ) (v i w : ℕ) → slice_get queue i ≡ Some w → slice_get (queue ++ v ∷ []) i ≡ Some w
older queue v i w e = grind (arith, common_steps, gets)

last : (queue : List ℕ) (v : ℕ) → slice_get (queue ++ v ∷ []) (length queue) ≡ Some v
last queue v = grind (arith, common_steps, gets)

places : (queue : List ℕ) (v i w : ℕ) → slice_get (queue ++ v ∷ []) i ≡ Some w → (slice_get queue i ≡ Some w) ⊎ ((i ≡ length queue) × (w ≡ v))
places queue v i w e = grind (arith, common_steps, gets)

module _ {M : Map ℕ} {s : ℕ} {parents : List (Option Parent)} {queue : List ℕ} {h b : ℕ} (P : Progress M s parents queue h b) where
  -- the arcs from b up to c that leave the step in hand lead to steps that are reached
  pub pass : (c : ℕ) → ((k : ℕ) → b ≤ k → k < c → M.passable k ≡ true → slice_get queue h ≡ Some (M.from k) → Known parents (M.to k)) → Progress M s parents queue h c
  pass c known = record {
    state = P.state;
    ahead = P.ahead;
    done = P.done;
    doing = λ k kc pk at. elim (cases_lt k b) [
      | inl l ↦ P.doing k l pk at
      | inr g ↦ (let kn = known k g kc pk at in (kn, P.ahead (M.from k) (M.to k) at kn))
    ];
  }

  pub place_in_hand : (u : ℕ) → slice_get queue h ≡ Some u → h < 1024
  place_in_hand u here = omega (arith, slice_get_within queue h u here, filled P.state)

  pub step_in_hand : (u : ℕ) → slice_get queue h ≡ Some u → Step 1024 u
  step_in_hand u here = subst (λ n. Step n u) P.state.table (known_step parents u (P.state.queued h u here))

  -- r is the next arc that leaves the step in hand
  pub skip : (arcs u : ℕ) (r : Option ℕ) → slice_get queue h ≡ Some u → Next M arcs u b r → Progress M s parents queue h (unwrap_or r arcs)
  skip arcs u None here none = pass arcs (λ k low high pk at. absurd (none k low high (same_Some _ _ (sym at ∙ here))))
  skip arcs u (Some r) here next = pass r (λ k low high pk at. absurd (next.3 k low high (same_Some _ _ (sym at ∙ here))))

  -- every arc of the step in hand was looked at
  pub turn : (u : ℕ) → slice_get queue h ≡ Some u → ((k : ℕ) → M.passable k ≡ true → k < b) → Progress M s parents queue (h + 1) 0
  turn u here below = record {
    state = P.state;
    ahead = λ x y at kn. omega (arith, P.ahead u y here kn, P.state.order h (h + 1) u x (omega arith) here at);
    done = λ i k ih pk at. elim (cases_lt i h) [
      | inl l ↦ P.done i k l pk at
      | inr g ↦ (let e : i ≡ h = omega arith in P.doing k (below k pk) pk (sym (ap (slice_get queue) e) ∙ at))
    ];
    doing = λ k k0 pk at. absurd (omega arith);
  }

  -- arc b leads from the step in hand to v, which was not reached yet
  module _ {v : ℕ} (fresh : Fresh M parents b) (to : M.to b ≡ v) (at : slice_get queue h ≡ Some (M.from b)) where
    st : Step 1024 v
    st = subst (Step 1024) to fresh.step

    new : is_some (parent_of parents v) ≡ false
    new = subst (λ x. is_some (parent_of parents x) ≡ false) to fresh.new

    parents' : List (Option Parent)
    parents' = set parents (v - 1) (Some (Along b))

    grown : count_by is_some (set parents (v - 1) (Some (Along b))) ≡ count_by is_some parents + 1
    grown = count_set parents (v - 1) (Some (Along b)) (omega (arith, st.0, st.1, P.state.table)) (ap is_some (entry_of parents v st.0) ∙ new) refl

    pub room : length queue < 1024
    room = omega (arith, grown, P.state.counted, P.state.table, length-set parents (v - 1) (Some (Along b)), count_by-le-length is_some (set parents (v - 1) (Some (Along b))))

    known_old : (w : ℕ) → Known parents w → w ≢ v
    known_old w kn e = true≢false (sym kn ∙ ap (λ x. is_some (parent_of parents x)) e ∙ new)

    old_parent : (w : ℕ) → w ≢ v → parent_of parents' w ≡ parent_of parents w
    unfolding parents'
    old_parent w ne = parent_other parents v w (Some (Along b)) st.0 ne

    new_parent : parent_of parents' v ≡ Some (Along b)
    unfolding parents'
    new_parent = parent_same parents v (Some (Along b)) st.0 (omega (arith, st.1, P.state.table))

    kept : (w : ℕ) → Known parents w → Known parents' w
    kept w kn = ap is_some (old_parent w (known_old w kn)) ∙ kn

    was_known : (w : ℕ) → w ≢ v → Known parents' w → Known parents w
    was_known w ne kn = sym (ap is_some (old_parent w ne)) ∙ kn

    new_known : Known parents' v
    new_known = ap is_some new_parent

    from_known : Known parents (M.from b)
    from_known = P.state.queued h (M.from b) at

    within : h < length queue
    within = slice_get_within queue h (M.from b) at

    distance' : ℕ → ℕ
    distance' = put P.state.distance v (P.state.distance (M.from b) + 1)

    old_distance : (w : ℕ) → Known parents w → distance' w ≡ P.state.distance w
    unfolding distance'
    old_distance w kn = put_other P.state.distance v w (P.state.distance (M.from b) + 1) (known_old w kn)

    new_distance : distance' v ≡ P.state.distance (M.from b) + 1
    unfolding distance'
    new_distance = put_same P.state.distance v (P.state.distance (M.from b) + 1)

    seen_kept : (k : ℕ) → Known parents (M.from k) → Seen M parents P.state.distance k → Seen M parents' distance' k
    seen_kept k kn (kt, le) = (kept (M.to k) kt, omega (arith, old_distance (M.to k) kt, old_distance (M.from k) kn))

    says_kept : (w : ℕ) (p : Option Parent) → Known parents w → Says M s parents P.state.distance w p → Says M s parents' distance' w p
    says_kept w None kn y = tt
    says_kept w (Some Start) kn y = y
    says_kept w (Some (Along k)) kn (pk, tk, kf, dk) = (pk, tk, kept (M.from k) kf, omega (arith, old_distance w kn, old_distance (M.from k) kf))

    says_new : Says M s parents' distance' v (Some (Along b))
    says_new = (fresh.passable, to, kept (M.from b) from_known, omega (arith, new_distance, old_distance (M.from b) from_known))

    unknown : (w : ℕ) (p : Option Parent) → is_some p ≡ false → Says M s parents' distance' w p
    unknown w None u = tt
    unknown w (Some p) u = absurd (true≢false u)

    says_old : (w : ℕ) (known : Bool) → is_some (parent_of parents w) ≡ known → Says M s parents' distance' w (parent_of parents w)
    says_old w true kn = says_kept w (parent_of parents w) kn (P.state.says w)
    says_old w false u = unknown w (parent_of parents w) u

    says' : (w : ℕ) → Says M s parents' distance' w (parent_of parents' w)
    says' w =
        elim (cases_eq w v) [
          | inl e ↦ subst (λ x. Says M s parents' distance' x (parent_of parents' x)) (sym e) (subst (Says M s parents' distance' v) (sym new_parent) says_new)
          | inr ne ↦ subst (Says M s parents' distance' w) (sym (old_parent w ne)) (says_old w (is_some (parent_of parents w)) refl)
        ]

    queued' : (i w : ℕ) → slice_get (queue ++ v ∷ []) i ≡ Some w → Known parents' w
    queued' i w e = grind (arith, places, kept, new_known, P.state.queued)

    found' : (w : ℕ) → Known parents' w → (i : ℕ) × (slice_get (queue ++ v ∷ []) i ≡ Some w)
    found' w kn =
        elim (cases_eq w v) [
          | inl e ↦ (length queue, last queue v ∙ ap Some (sym e))
          | inr ne ↦ (let f = P.state.found w (was_known w ne kn) in (f.0, older queue v f.0 w f.1))
        ]

    near' : (i w : ℕ) → slice_get (queue ++ v ∷ []) i ≡ Some w → distance' w ≤ i
    near' i w e = grind (arith, places queue v i w e, old_distance, new_distance, within, P.state.near, P.state.queued)

    order' : (i j x y : ℕ) → i ≤ j → slice_get (queue ++ v ∷ []) i ≡ Some x → slice_get (queue ++ v ∷ []) j ≡ Some y → distance' x ≤ distance' y
    order' i j x y ij ex ey =
        elim (places queue v i x ex) [
          | inl old ↦ (let d = old_distance x (P.state.queued i x old) in elim (places queue v j y ey) [
            | inl old' ↦ omega (arith, d, old_distance y (P.state.queued j y old'), P.state.order i j x y ij old old')
            | inr new' ↦ rw new'.1 (omega (arith, d, new_distance, P.ahead (M.from b) x at (P.state.queued i x old)))
          ])
          | inr new ↦ elim (places queue v j y ey) [
            | inl old' ↦ absurd (omega (arith, new.0, slice_get_within queue j y old'))
            | inr new' ↦ rw (new.1, new'.1) (omega arith)
          ]
        ]

    -- the step in hand stays
    same_hand : (x : ℕ) → slice_get (queue ++ v ∷ []) h ≡ Some x → M.from b ≡ x
    same_hand x e = same_Some (M.from b) x (sym (older queue v h (M.from b) at) ∙ e)

    ahead' : (x y : ℕ) → slice_get (queue ++ v ∷ []) h ≡ Some x → Known parents' y → distance' y ≤ distance' x + 1
    ahead' x y ex ky =
        rw (← same_hand x ex) (elim (cases_eq y v) [
          | inl e ↦ rw e (omega (arith, new_distance, old_distance (M.from b) from_known))
          | inr ne ↦ (let ky' = was_known y ne ky in omega (arith, old_distance y ky', old_distance (M.from b) from_known, P.ahead (M.from b) y at ky'))
        ])

    done' : (i k : ℕ) → i < h → M.passable k ≡ true → slice_get (queue ++ v ∷ []) i ≡ Some (M.from k) → Seen M parents' distance' k
    done' i k ih pk e =
        elim (places queue v i (M.from k) e) [
          | inl old ↦ seen_kept k (P.state.queued i (M.from k) old) (P.done i k ih pk old)
          | inr new ↦ absurd (omega (arith, new.0, within))
        ]

    doing' : (k : ℕ) → k < b + 1 → M.passable k ≡ true → slice_get (queue ++ v ∷ []) h ≡ Some (M.from k) → Seen M parents' distance' k
    doing' k kb pk e =
        elim (cases_lt k b) [
          | inl l ↦ (let same = same_hand (M.from k) e in seen_kept k (subst (Known parents) same from_known) (P.doing k l pk (at ∙ ap Some same)))
          | inr g ↦ (let is : k ≡ b = omega arith in rw (is, to) (new_known, omega (arith, new_distance, old_distance (M.from b) from_known)))
        ]

    pub push : Progress M s (set parents (v - 1) (Some (Along b))) (queue ++ v ∷ []) h (b + 1)
    unfolding parents'
    push = record {
      state = record {
        distance = distance';
        table = length-set parents (v - 1) (Some (Along b)) ∙ P.state.table;
        start_known = kept s P.state.start_known;
        start_distance = old_distance s P.state.start_known ∙ P.state.start_distance;
        says = says';
        counted = omega (arith, grown, P.state.counted, length-append queue (v ∷ []));
        queued = queued';
        found = found';
        near = near';
        order = order';
      };
      ahead = ahead';
      done = done';
      doing = doing';
    }

abbrev pub blanks : List (Option Parent)
blanks = replicate 1024 None

-- only the start is reached
pub begin : (M : Map ℕ) (s : ℕ) → Step 1024 s → Progress M s (set blanks (s - 1) (Some Start)) (s ∷ []) 0 0
begin M s st = record {
  state = record {
    distance = λ _. 0;
    table = length-set blanks (s - 1) (Some Start) ∙ length-replicate {A = Option Parent} 1024 None;
    start_known = ap is_some told;
    start_distance = refl;
    says = says;
    counted = count_set blanks (s - 1) (Some Start) (omega (arith, length-replicate {A = Option Parent} 1024 None, st.0, st.1)) (ap is_some (entry_of blanks s st.0 ∙ none_known s)) refl ∙ ap (λ x. x + 1) (count_none 1024);
    queued = λ i v e. rw (single i v e) (ap is_some told);
    found = λ v kn. (0, ap Some (sym (only v kn)));
    near = λ i v e. omega arith;
    order = λ i j u v ij ei ej. omega arith;
  };
  ahead = λ u v e kn. omega arith;
  done = λ i k ih pk e. absurd (omega arith);
  doing = λ k k0 pk e. absurd (omega arith);
}
  where
    single : (i v : ℕ) → slice_get (s ∷ []) i ≡ Some v → v ≡ s
    single zero v e = cc
    single (suc i) v e = cc

    told : parent_of (set blanks (s - 1) (Some Start)) s ≡ Some Start
    told = parent_same blanks s (Some Start) st.0 (omega (arith, length-replicate {A = Option Parent} 1024 None, st.1))

    other : (v : ℕ) → v ≢ s → parent_of (set blanks (s - 1) (Some Start)) v ≡ None
    other v ne = parent_other blanks s v (Some Start) st.0 ne ∙ none_known v

    only : (v : ℕ) → Known (set blanks (s - 1) (Some Start)) v → v ≡ s
    only v kn =
        elim (cases_eq v s) [
          | inl e ↦ e
          | inr ne ↦ absurd (true≢false (sym kn ∙ ap is_some (other v ne)))
        ]

    says : (v : ℕ) → Says M s (set blanks (s - 1) (Some Start)) (λ _. 0) v (parent_of (set blanks (s - 1) (Some Start)) v)
    says v =
        elim (cases_eq v s) [
          | inl e ↦ subst (λ x. Says M s (set blanks (s - 1) (Some Start)) (λ _. 0) x (parent_of (set blanks (s - 1) (Some Start)) x)) (sym e) (subst (Says M s (set blanks (s - 1) (Some Start)) (λ _. 0) s) (sym told) refl)
          | inr ne ↦ subst (Says M s (set blanks (s - 1) (Some Start)) (λ _. 0) v) (sym (other v ne)) tt
        ]
