-- The chart that a history of calls makes. It is told the arguments of each call and whether the call was served.
use Rattle.std.specs.Prelude.{◌≡◌, ℕ, zero, suc, ◌<◌, Bool, true, false, cond, ◌⊎◌, List, [], ◌∷◌, ◌++◌, length, get_or, ℤ, pos, ◌≢◌, slice_index_or, slice_set}
use Rattle.network.specs.Chart.{Chart}
use Rattle.network.specs.Walk.{In}

pub record Feed : Type 0 where
  pub from : ℕ
  pub to : ℕ
  pub price : ℤ
  pub barred : Bool

-- feeds are called by their numbers, from 1
pub data Call : Type 0 where
  enter : (from to : ℕ) (price : ℤ) → Call
  reprice : (number : ℕ) (price : ℤ) → Call
  bar unbar : (number : ℕ) → Call
  begin raise close reopen : Call

pub record Told : Type 0 where
  pub call : Call
  pub served : Bool

-- stands for feeds that were not entered
abbrev pub no_feed : Feed
no_feed = record { from = 0; to = 0; price = pos 0; barred = false }

-- the feed of that number changed, the others as they were
abbrev pub changed : List Feed → ℕ → (Feed → Feed) → List Feed
changed fs zero new = fs
changed fs (suc k) new = slice_set fs k (new (slice_index_or fs k no_feed))

abbrev pub priced : ℤ → Feed → Feed
priced p x = record { from = x.from; to = x.to; price = p; barred = x.barred }

abbrev pub set_bar : Bool → Feed → Feed
set_bar b x = record { from = x.from; to = x.to; price = x.price; barred = b }

-- what a served call makes of the feeds
abbrev pub made : List Feed → Call → List Feed
made fs (enter u v p) = fs ++ (record { from = u; to = v; price = p; barred = false } ∷ [])
made fs (reprice k p) = changed fs k (priced p)
made fs (bar k) = changed fs k (set_bar true)
made fs (unbar k) = changed fs k (set_bar false)
made fs begin = fs
made fs raise = fs
made fs close = fs
made fs reopen = fs

-- a refused call leaves the feeds as they were
abbrev pub after : List Feed → List Told → List Feed
after fs [] = fs
after fs (t ∷ ts) = after (cond t.served (made fs t.call) fs) ts

-- the chart with the feeds of a list
abbrev pub charted : ℕ → ℕ → ℕ → List Feed → Chart
charted n s t fs = record {
  steps = n;
  source = s;
  sink = t;
  count = length fs;
  from = λ k. (get_or fs k no_feed).from;
  to = λ k. (get_or fs k no_feed).to;
  price = λ k. (get_or fs k no_feed).price;
  barred = λ k. (get_or fs k no_feed).barred;
}

-- the chart of a book that was opened with n steps, source s and sink t, after the calls in their order
abbrev pub history : ℕ → ℕ → ℕ → List Told → Chart
history n s t calls = charted n s t (after [] calls)

-- raises since the latest begin, after one more served call, where there were r
abbrev pub counted : ℕ → Call → ℕ
counted r (enter u v p) = r
counted r (reprice k p) = r
counted r (bar k) = r
counted r (unbar k) = r
counted r begin = 0
counted r raise = suc r
counted r close = r
counted r reopen = r

-- how many raises were served since the latest served begin, where there were r before the calls
abbrev pub raises_after : ℕ → List Told → ℕ
raises_after r [] = r
raises_after r (t ∷ ts) = raises_after (cond t.served (counted r t.call) r) ts

-- What this comes to: the latest served call decides

-- a call that was served, or refused
abbrev pub served_call : Call → Told
served_call c = record { call = c; served = true }

abbrev pub refused_call : Call → Told
refused_call c = record { call = c; served = false }

-- one more call at the end: what it does to the chart, with m feeds before it, and to the count of raises, r before it
pub record OneMore (before : Chart) (after_call : Told → Chart) (m : ℕ) (count_after : Told → ℕ) (r : ℕ) : Type 0 where
  pub refused : (c : Call) → after_call (refused_call c) ≡ before
  pub refused_raises : (c : Call) → count_after (refused_call c) ≡ r
  pub enter_feeds : (u v : ℕ) (p : ℤ) → (after_call (served_call (enter u v p))).count ≡ suc m
  pub else_feeds : (c : Call) → ((u v : ℕ) (p : ℤ) → c ≢ enter u v p) → (after_call (served_call c)).count ≡ m
  pub begin_raises : count_after (served_call begin) ≡ 0
  pub raise_raises : count_after (served_call raise) ≡ suc r
  pub else_raises : (c : Call) → (c ≢ begin) → (c ≢ raise) → count_after (served_call c) ≡ r

-- none of the calls is of this sort and was served
abbrev pub NoneServed : (Call → Type 0) → List Told → Type 0
NoneServed Sort calls = (t : Told) → In t calls → t.served ≡ true → Sort t.call → ⊥

abbrev pub Reprices : ℕ → Call → Type 0
Reprices number c = (p : ℤ) × (c ≡ reprice number p)

abbrev pub SetsBar : ℕ → Call → Type 0
SetsBar number c = (c ≡ bar number) ⊎ (c ≡ unbar number)

-- `chart c` is made by some calls, which leave m feeds, then c, served, then the later calls: c's enter makes feed m
pub record Latest (chart : Call → Chart) (m : ℕ) (later : List Told) : Type 0 where
  pub entered_from : (u v : ℕ) (p : ℤ) → (chart (enter u v p)).from m ≡ u
  pub entered_to : (u v : ℕ) (p : ℤ) → (chart (enter u v p)).to m ≡ v
  pub entered_price : (u v : ℕ) (p : ℤ) → NoneServed (Reprices (suc m)) later → (chart (enter u v p)).price m ≡ p
  pub entered_bar : (u v : ℕ) (p : ℤ) → NoneServed (SetsBar (suc m)) later → (chart (enter u v p)).barred m ≡ false
  pub repriced : (k : ℕ) (p : ℤ) → k < m → NoneServed (Reprices (suc k)) later → (chart (reprice (suc k) p)).price k ≡ p
  pub was_barred : (k : ℕ) → k < m → NoneServed (SetsBar (suc k)) later → (chart (bar (suc k))).barred k ≡ true
  pub was_unbarred : (k : ℕ) → k < m → NoneServed (SetsBar (suc k)) later → (chart (unbar (suc k))).barred k ≡ false
