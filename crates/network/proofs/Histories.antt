-- The chart that a history makes: the latest served call decides, and each call counts as it should.
use Rattle.std.proofs.Common.{◌≡◌, ℕ, zero, suc, ◌<◌, Bool, true, false, ◌⊎◌, List, [], ◌∷◌, ◌++◌, length, get_or, ℤ, sym, refl, ap, ◌∙◌, subst, inl, inr, arith, length-append, length-set, get_or-set_other, get_or-set_same}
use lib.Seq.{get_or-append_seam}
use Rattle.std.proofs.lemmas.List.{get_or_append_left}
use Rattle.std.proofs.lemmas.Bool.{cases_eq, cases_Bool}
use Rattle.network.specs.History.{Feed, no_feed, Call, enter, reprice, bar, unbar, begin, raise, close, reopen, Told, changed, priced, set_bar, made, after, charted, history, counted, raises_after, served_call, refused_call, NoneServed, Reprices, SetsBar, Latest}
use Rattle.network.specs.Laws.{LatestDecides, CallsCount}

after_join : (fs : List Feed) (xs ys : List Told) → after fs (xs ++ ys) ≡ after (after fs xs) ys
after_join fs [] ys = refl
after_join fs (x ∷ xs) ys = after_join _ xs ys

-- what a change of the feed of that number does to feed k
changed_at : (fs : List Feed) (number : ℕ) (new : Feed → Feed) (k : ℕ) → k < length fs
    → ((number ≡ suc k) × (get_or (changed fs number new) k no_feed ≡ new (get_or fs k no_feed))) ⊎ (get_or (changed fs number new) k no_feed ≡ get_or fs k no_feed)
changed_at fs zero new k l = inr refl
changed_at fs (suc j) new k l =
    elim (cases_eq j k) [
      | inl e ↦ inl (ap suc e, rw e (get_or-set_same fs k _ no_feed l))
      | inr n ↦ inr (get_or-set_other fs j k _ no_feed (λ e. n (sym e)))
    ]

changed-length : (fs : List Feed) (number : ℕ) (new : Feed → Feed) → length (changed fs number new) ≡ length fs
changed-length fs zero new = refl
changed-length fs (suc j) new = length-set fs j _

-- what is read of a feed stays, unless a served call of this sort changes it
module _ {X : Type 0} (read : Feed → X) (Sort : Call → Type 0) (k : ℕ)
    (price_kept : (p : ℤ) → Sort (reprice (suc k) p) ⊎ ((x : Feed) → read (priced p x) ≡ read x))
    (bar_kept : Sort (bar (suc k)) ⊎ ((x : Feed) → read (set_bar true x) ≡ read x))
    (unbar_kept : Sort (unbar (suc k)) ⊎ ((x : Feed) → read (set_bar false x) ≡ read x)) where
  abbrev now : List Feed → X
  now fs = read (get_or fs k no_feed)

  by_change : (fs : List Feed) (number : ℕ) (new : Feed → Feed) (P : ℕ → Type 0) → k < length fs → (P number → ⊥) → P (suc k) ⊎ ((x : Feed) → read (new x) ≡ read x) → now (changed fs number new) ≡ now fs
  by_change fs number new P l not kept =
      elim (changed_at fs number new k l) [
        | inl r ↦ elim kept [
          | inl s ↦ absurd (not (subst P (sym r.0) s))
          | inr same ↦ ap read r.1 ∙ same (get_or fs k no_feed)
        ]
        | inr e ↦ ap read e
      ]

  made_keeps : (fs : List Feed) (c : Call) → k < length fs → (Sort c → ⊥) → (k < length (made fs c)) × (now (made fs c) ≡ now fs)
  made_keeps fs (enter u v p) l not = (simp length-append (omega arith), ap read (get_or_append_left fs _ no_feed k l))
  made_keeps fs (reprice j p) l not = (rw (changed-length fs j (priced p)) l, by_change fs j (priced p) (λ i. Sort (reprice i p)) l not (price_kept p))
  made_keeps fs (bar j) l not = (rw (changed-length fs j (set_bar true)) l, by_change fs j (set_bar true) (λ i. Sort (bar i)) l not bar_kept)
  made_keeps fs (unbar j) l not = (rw (changed-length fs j (set_bar false)) l, by_change fs j (set_bar false) (λ i. Sort (unbar i)) l not unbar_kept)
  made_keeps fs begin l not = (l, refl)
  made_keeps fs raise l not = (l, refl)
  made_keeps fs close l not = (l, refl)
  made_keeps fs reopen l not = (l, refl)

  after_keeps : (fs : List Feed) (ts : List Told) → k < length fs → NoneServed Sort ts → now (after fs ts) ≡ now fs
  after_keeps fs [] l not = refl
  after_keeps fs (t ∷ ts) l not =
      elim (cases_Bool t.served) [
        | inl e ↦ (let m = made_keeps fs t.call l (not t (inl refl) e) in rw e (after_keeps (made fs t.call) ts m.0 (λ x i. not x (inr i)) ∙ m.1))
        | inr e ↦ rw e (after_keeps fs ts l (λ x i. not x (inr i)))
      ]

  -- of the feeds after a served call, and later ones that keep what is read
  decided : (earlier : List Told) (c : Call) (later : List Told) → k < length (made (after [] earlier) c) → NoneServed Sort later
      → now (after [] (earlier ++ (served_call c ∷ later))) ≡ now (made (after [] earlier) c)
  decided earlier c later l not = ap now (after_join [] earlier (served_call c ∷ later)) ∙ after_keeps (made (after [] earlier) c) later l not

module _ (k : ℕ) (earlier : List Told) (c : Call) (later : List Told) (l : k < length (made (after [] earlier) c)) where
  abbrev feed_now : Feed
  feed_now = get_or (after [] (earlier ++ (served_call c ∷ later))) k no_feed

  abbrev feed_then : Feed
  feed_then = get_or (made (after [] earlier) c) k no_feed

  end_decided : (end : Feed → ℕ) → ((p : ℤ) (x : Feed) → end (priced p x) ≡ end x) → ((b : Bool) (x : Feed) → end (set_bar b x) ≡ end x) → end feed_now ≡ end feed_then
  end_decided end p b = decided end (λ _. ⊥) k (λ q. inr (p q)) (inr (b true)) (inr (b false)) earlier c later l (λ t i e n. n)

  price_decided : NoneServed (Reprices (suc k)) later → feed_now.price ≡ feed_then.price
  price_decided = decided (λ x. x.price) (Reprices (suc k)) k (λ p. inl (p, refl)) (inr (λ x. refl)) (inr (λ x. refl)) earlier c later l

  bar_decided : NoneServed (SetsBar (suc k)) later → feed_now.barred ≡ feed_then.barred
  bar_decided = decided (λ x. x.barred) (SetsBar (suc k)) k (λ p. inr (λ x. refl)) (inl (inl refl)) (inl (inr refl)) earlier c later l

module _ (n s t : ℕ) (earlier later : List Told) where
  abbrev fs : List Feed
  fs = after [] earlier

  module _ (u v : ℕ) (p : ℤ) where
    entered_in : length fs < length (made fs (enter u v p))
    entered_in = simp length-append (omega arith)

    entered_feed : get_or (made fs (enter u v p)) (length fs) no_feed ≡ record { from = u; to = v; price = p; barred = false }
    entered_feed = get_or-append_seam fs _ [] no_feed

  module _ (k : ℕ) (l : k < length fs) (new : Feed → Feed) where
    changed_in : k < length (changed fs (suc k) new)
    changed_in = rw (changed-length fs (suc k) new) l

    changed_feed : get_or (changed fs (suc k) new) k no_feed ≡ new (get_or fs k no_feed)
    changed_feed = get_or-set_same fs k _ no_feed l

  decides : Latest (λ c. history n s t (earlier ++ (served_call c ∷ later))) (length fs) later
  decides = record {
    entered_from = λ u v p. end_decided (length fs) earlier (enter u v p) later (entered_in u v p) (λ x. x.from) (λ q x. refl) (λ b x. refl) ∙ ap (λ x. x.from) (entered_feed u v p);
    entered_to = λ u v p. end_decided (length fs) earlier (enter u v p) later (entered_in u v p) (λ x. x.to) (λ q x. refl) (λ b x. refl) ∙ ap (λ x. x.to) (entered_feed u v p);
    entered_price = λ u v p none. price_decided (length fs) earlier (enter u v p) later (entered_in u v p) none ∙ ap (λ x. x.price) (entered_feed u v p);
    entered_bar = λ u v p none. bar_decided (length fs) earlier (enter u v p) later (entered_in u v p) none ∙ ap (λ x. x.barred) (entered_feed u v p);
    repriced = λ k p l none. price_decided k earlier (reprice (suc k) p) later (changed_in k l (priced p)) none ∙ ap (λ x. x.price) (changed_feed k l (priced p));
    was_barred = λ k l none. bar_decided k earlier (bar (suc k)) later (changed_in k l (set_bar true)) none ∙ ap (λ x. x.barred) (changed_feed k l (set_bar true));
    was_unbarred = λ k l none. bar_decided k earlier (unbar (suc k)) later (changed_in k l (set_bar false)) none ∙ ap (λ x. x.barred) (changed_feed k l (set_bar false));
  }

pub latest_decides : LatestDecides
latest_decides = decides

-- one more call

raises_join : (r : ℕ) (xs ys : List Told) → raises_after r (xs ++ ys) ≡ raises_after (raises_after r xs) ys
raises_join r [] ys = refl
raises_join r (x ∷ xs) ys = raises_join _ xs ys

made-length : (fs : List Feed) (c : Call) → ((u v : ℕ) (p : ℤ) → c ≡ enter u v p → ⊥) → length (made fs c) ≡ length fs
made-length fs (enter u v p) n = absurd (n u v p refl)
made-length fs (reprice k p) n = changed-length fs k (priced p)
made-length fs (bar k) n = changed-length fs k (set_bar true)
made-length fs (unbar k) n = changed-length fs k (set_bar false)
made-length fs begin n = refl
made-length fs raise n = refl
made-length fs close n = refl
made-length fs reopen n = refl

counted_else : (r : ℕ) (c : Call) → (c ≡ begin → ⊥) → (c ≡ raise → ⊥) → counted r c ≡ r
counted_else r (enter u v p) b n = refl
counted_else r (reprice k p) b n = refl
counted_else r (bar k) b n = refl
counted_else r (unbar k) b n = refl
counted_else r begin b n = absurd (b refl)
counted_else r raise b n = absurd (n refl)
counted_else r close b n = refl
counted_else r reopen b n = refl

pub calls_count : CallsCount
calls_count n s t r calls = record {
  refused = λ c. ap (charted n s t) (after_join [] calls (refused_call c ∷ []));
  refused_raises = λ c. raises_join r calls (refused_call c ∷ []);
  enter_feeds = λ u v p. ap length (after_join [] calls (served_call (enter u v p) ∷ [])) ∙ simp length-append (omega arith);
  else_feeds = λ c not. ap length (after_join [] calls (served_call c ∷ [])) ∙ made-length (after [] calls) c not;
  begin_raises = raises_join r calls (served_call begin ∷ []);
  raise_raises = raises_join r calls (served_call raise ∷ []);
  else_raises = λ c b not. raises_join r calls (served_call c ∷ []) ∙ counted_else (raises_after r calls) c b not;
}
