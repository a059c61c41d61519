-- How often a way crosses a border: exactly once just where no feed runs back.
use Rattle.std.proofs.Common.{◌≡◌, ℕ, ◌+◌, ◌<◌, ◌≤◌, true, false, List, [], ◌∷◌, ◌++◌, refl, inl, inr, arith}
use Rattle.std.proofs.lemmas.Bool.{ltb-true, lt-ltb}
use Rattle.network.specs.Chart.{Chart, Fit, Sides}
use Rattle.network.specs.Walk.{Walk, In, reversed}
use Rattle.network.specs.Border.{feeds_forward, Way, AllOnWays, crossings, NoneBack, Allowed, Proper}
use Rattle.network.specs.Laws.{OnceIsNoneBack, UnbarredIsKept, OnWayIsReached}
use Rattle.network.proofs.Walks.{walk_join, walk_passable, walk_cut, met_join, leads_back}

-- a step on a way splits the way in two
pub on_way_is_reached : OnWayIsReached
on_way_is_reached C v = (
  (λ on. let r = walk_cut (feeds_forward C) C.source on.0 C.sink on.1 v on.2 in
      (r.0, leads_back (feeds_forward C) v r.1.0 C.sink r.1.1)),
  (λ r. let b = leads_back (reversed (feeds_forward C)) C.sink r.1.0 v r.1.1 in
      (r.0.0 ++ b.0, walk_join (feeds_forward C) C.source r.0.0 v b.0 C.sink r.0.1 b.1, met_join (feeds_forward C) C.source r.0.0 v b.0 r.0.1)),
)

-- some way passes feed k
record Through (C : Chart) (k : ℕ) : Type 0 where
  before : List ℕ
  behind : List ℕ
  to_feed : Walk (feeds_forward C) C.source before (C.from k)
  from_feed : Walk (feeds_forward C) (C.to k) behind C.sink
  is_way : Way C (before ++ (k ∷ behind))

through : (C : Chart) → Fit C → AllOnWays C → (k : ℕ) → k < C.count → Through C k
through C fit on k l =
    let a = on (C.from k) (fit.from_step k l) in
    let b = on (C.to k) (fit.to_step k l) in
    let u = (walk_cut (feeds_forward C) C.source a.0 C.sink a.1 (C.from k) a.2).0 in
    let w = (walk_cut (feeds_forward C) C.source b.0 C.sink b.1 (C.to k) b.2).1 in
    record {
      before = u.0;
      behind = w.0;
      to_feed = u.1;
      from_feed = w.1;
      is_way = walk_join (feeds_forward C) C.source u.0 (C.from k) (k ∷ w.0) C.sink u.1 (lt-ltb k C.count l, refl, w.1);
    }

in_middle : (u : List ℕ) (k : ℕ) (w : List ℕ) → In k (u ++ (k ∷ w))
in_middle [] k w = inl refl
in_middle (x ∷ u) k w = inr (in_middle u k w)

module _ (C : Chart) (early : Sides) where
  crossings_join : (u w : List ℕ) → crossings C early (u ++ w) ≡ crossings C early u + crossings C early w
  crossings_join [] w = omega arith
  crossings_join (k ∷ u) w = omega (arith, crossings_join u w)

  -- from early to late there is a crossing
  crossed : (a : ℕ) (w : List ℕ) (b : ℕ) → Walk (feeds_forward C) a w b → early a ≡ true → early b ≡ false → 1 ≤ crossings C early w
  crossed a [] b h p q = grind arith
  crossed a (k ∷ w) b h p q =
      let ih : early (C.to k) ≡ true → 1 ≤ crossings C early w = λ e. crossed (C.to k) w b h.2 e q in
      grind arith

  module _ (none : NoneBack C early) where
    -- a walk from a late step stays late
    stays : (a : ℕ) (w : List ℕ) (b : ℕ) → Walk (feeds_forward C) a w b → early a ≡ false → crossings C early w ≡ 0
    stays a [] b h p = refl
    stays a (k ∷ w) b h p =
        let n = none k (ltb-true k C.count h.0) in
        let ih : early (C.to k) ≡ false → crossings C early w ≡ 0 = stays (C.to k) w b h.2 in
        grind arith

    once : (a : ℕ) (w : List ℕ) (b : ℕ) → Walk (feeds_forward C) a w b → early a ≡ true → early b ≡ false → crossings C early w ≡ 1
    once a [] b h p q = grind arith
    once a (k ∷ w) b h p q =
        let n = none k (ltb-true k C.count h.0) in
        let ih : early (C.to k) ≡ true → crossings C early w ≡ 1 = λ e. once (C.to k) w b h.2 e q in
        let late : early (C.to k) ≡ false → crossings C early w ≡ 0 = stays (C.to k) w b h.2 in
        grind arith

-- a way through a feed that runs back crosses before it, at it and behind it
pub once_is_none_back : OnceIsNoneBack
once_is_none_back C fit on early bd = (
  (λ o k l. let t = through C fit on k l in
      let e = o (t.before ++ (k ∷ t.behind)) t.is_way in
      let j = crossings_join C early t.before (k ∷ t.behind) in
      let p : early (C.from k) ≡ false → 1 ≤ crossings C early t.before = crossed C early C.source t.before (C.from k) t.to_feed bd.0 in
      let q : early (C.to k) ≡ true → 1 ≤ crossings C early t.behind = λ h. crossed C early (C.to k) t.behind C.sink t.from_feed h bd.1 in
      grind arith),
  (λ none w h. once C early none C.source w C.sink h bd.0 bd.1),
)

pub unbarred_is_kept : UnbarredIsKept
unbarred_is_kept C fit on early bd none = (
  (λ un k l e. let t = through C fit on k l in
      un (t.before ++ (k ∷ t.behind)) t.is_way k (in_middle t.before k t.behind) (grind arith)),
  (λ ku w h k i e. let l = ltb-true k C.count (walk_passable (feeds_forward C) C.source w C.sink h k i) in
      let n = none k l in
      ku k l (grind arith)),
)

pub allowed_from_proper : (C : Chart) → Fit C → AllOnWays C → (early : Sides) → Proper C early → Allowed C early
allowed_from_proper C fit on early p =
    let none = (once_is_none_back C fit on early p.border).0 p.once in
    record { border = p.border; none_back = none; kept_unbarred = (unbarred_is_kept C fit on early p.border none).0 p.unbarred }

pub proper_from_allowed : (C : Chart) → Fit C → AllOnWays C → (early : Sides) → Allowed C early → Proper C early
proper_from_allowed C fit on early al = record {
  border = al.border;
  once = (once_is_none_back C fit on early al.border).1 al.none_back;
  unbarred = (unbarred_is_kept C fit on early al.border al.none_back).1 al.kept_unbarred;
}
