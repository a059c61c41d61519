-- One entry of the sheets, as the chart has it.
use Rattle.std.proofs.Common.{◌≡◌, ℕ, zero, suc, ◌<◌, ℤ, pos, eqb, List, [], ◌∷◌, map, length, get_or, Option, Some, None, Bor, refl, sym, ap, ◌∙◌, arith}
use Rattle.std.specs.Option.{MatchOption}
use Rattle.std.specs.Slice.{IsItemAt}
use Rattle.std.proofs.lemmas.List.{get_or-map, get_or_past, length-map}
use Rattle.price.specs.Kind.{PriceKind}
use Rattle.network.specs.History.{no_feed, Feed as Entered}
use Rattle.sheets.specs.Sheets.{entered, feeds_of, feeds_chart}
use Rattle.sheets.specs.declared.Feed.{Feed}

module _ {P : Type 0} (K : PriceKind P) where
  pub count_is : (feeds : List (Feed P)) (bars : List ℕ) → length (feeds_of K feeds bars) ≡ length feeds
  count_is [] bars = refl
  count_is (x ∷ xs) [] = ap suc (count_is xs [])
  count_is (x ∷ xs) (bar ∷ bars) = ap suc (count_is xs bars)

  pub barred_is : (feeds : List (Feed P)) (bars : List ℕ) (k : ℕ) → k < length feeds → (get_or (feeds_of K feeds bars) k no_feed).barred ≡ eqb (get_or bars k 0) 1
  barred_is [] bars k l = absurd (omega arith)
  barred_is (x ∷ xs) [] zero l = refl
  barred_is (x ∷ xs) (bar ∷ bars) zero l = refl
  barred_is (x ∷ xs) [] (suc k) l = barred_is xs [] k (omega arith)
  barred_is (x ∷ xs) (bar ∷ bars) (suc k) l = barred_is xs bars k (omega arith)

  -- what does not depend on the bars
  module _ {A : Type 0} (get : Entered → A) (read : Feed P → A) (same : (x : Feed P) (bar : ℕ) → get (entered K x bar) ≡ read x) where
    pub field_is : (feeds : List (Feed P)) (bars : List ℕ) (k : ℕ) → get (get_or (feeds_of K feeds bars) k no_feed) ≡ get_or (map read feeds) k (get no_feed)
    field_is [] bars k = refl
    field_is (x ∷ xs) [] zero = same x 0
    field_is (x ∷ xs) (bar ∷ bars) zero = same x bar
    field_is (x ∷ xs) [] (suc k) = field_is xs [] k
    field_is (x ∷ xs) (bar ∷ bars) (suc k) = field_is xs bars k

    field_same : (feeds : List (Feed P)) (bars others : List ℕ) (k : ℕ) → get (get_or (feeds_of K feeds bars) k no_feed) ≡ get (get_or (feeds_of K feeds others) k no_feed)
    field_same feeds bars others k = field_is feeds bars k ∙ sym (field_is feeds others k)

    -- y is read of what a lookup of place k lends
    field_lent : (feeds : List (Feed P)) (bars : List ℕ) (k : ℕ) (r : Option (Bor (Feed P))) → IsItemAt feeds k r
        → (y : A) → MatchOption r (y ≡ get no_feed) (λ x. y ≡ read x.now) → y ≡ get (get_or (feeds_of K feeds bars) k no_feed)
    field_lent feeds bars k None item y e = e ∙ sym (field_is feeds bars k ∙ get_or_past _ k (get no_feed) (simp length-map item.3))
    field_lent feeds bars k (Some x) item y e = e ∙ ap read item.1 ∙ sym (field_is feeds bars k ∙ get_or-map read feeds k x.now (get no_feed) item.3.0)

  module _ (feeds : List (Feed P)) (bars : List ℕ) where
    pub from_same : (others : List ℕ) (k : ℕ) → (feeds_chart K feeds bars).from k ≡ (feeds_chart K feeds others).from k
    from_same = field_same (λ x. x.from) (λ x. x.from) (λ x b. refl) feeds bars

    pub to_same : (others : List ℕ) (k : ℕ) → (feeds_chart K feeds bars).to k ≡ (feeds_chart K feeds others).to k
    to_same = field_same (λ x. x.to) (λ x. x.to) (λ x b. refl) feeds bars

    module _ (k : ℕ) (r : Option (Bor (Feed P))) (item : IsItemAt feeds k r) where
      pub from_lent : (y : ℕ) → MatchOption r (y ≡ 0) (λ x. y ≡ x.now.from) → y ≡ (feeds_chart K feeds bars).from k
      from_lent = field_lent (λ x. x.from) (λ x. x.from) (λ x b. refl) feeds bars k r item

      pub to_lent : (y : ℕ) → MatchOption r (y ≡ 0) (λ x. y ≡ x.now.to) → y ≡ (feeds_chart K feeds bars).to k
      to_lent = field_lent (λ x. x.to) (λ x. x.to) (λ x b. refl) feeds bars k r item

      pub price_lent : (y : ℤ) → MatchOption r (y ≡ pos 0) (λ x. y ≡ K.means x.now.price) → y ≡ (feeds_chart K feeds bars).price k
      price_lent = field_lent (λ x. x.price) (λ x. K.means x.price) (λ x b. refl) feeds bars k r item
