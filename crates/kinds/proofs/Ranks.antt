-- Ranks decide before sizes.
use Rattle.std.proofs.Common.{◌≡◌, ℕ, ◌*◌, ◌^◌, ◌<◌, ◌≤◌, true, List, [], ◌∷◌, length, ℤ, arith}
use Rattle.std.specs.List.{AllByRecursion}
use Rattle.std.proofs.lemmas.List.Sums.{sum_by-cons}
use Rattle.std.proofs.lemmas.Bool.Decides.{nat_tests}
use Rattle.std.specs.Ordering.{ordering_then, int_cmp, nat_cmp}
use Rattle.std.proofs.lemmas.Int.{ints}
use Rattle.kinds.specs.RankedKind.{RanksFirst, as_one, ranked_kind, ranked_means, ranked_price, ranks, sizes}
use Rattle.price.specs.Sums.{sum_of}
use Rattle.kinds.specs.declared.ranked.Ranked.{Ranked}

-- ranks first, and then sizes, is the order of the numbers
pub compared : (a b : ℤ) (m n : ℕ) (x y : ℤ) → m < 2 ^ 44 → n < 2 ^ 44 → as_one a m ≡ x → as_one b n ≡ y → ordering_then (int_cmp a b) (nat_cmp m n) ≡ int_cmp x y
compared a b m n x y u v e f = grind (arith, ints, nat_tests)

price_means : (t : Ranked) → ranked_price t ≡ true → (ranked_means t ≡ as_one t.rank t.size) × (t.size ≤ 4294967295)
price_means t e = grind (arith, ints, nat_tests)

price_sums : (ts : List Ranked) → AllByRecursion (λ t. ranked_price t ≡ true) ts → (sum_of ranked_kind ts ≡ as_one (ranks ts) (sizes ts)) × (sizes ts ≤ length ts * 4294967295)
price_sums [] h = (omega (arith, ints), omega arith)
price_sums (t ∷ ts) h =
    let one = price_means t h.0 in
    let more = price_sums ts h.1 in
    let size = sum_by-cons (λ (u : Ranked). u.size) t ts in
    (omega (arith, ints), omega arith)

pub ranks_first : RanksFirst
ranks_first xs ys p q =
    let x = price_sums xs p.each in
    let y = price_sums ys q.each in
    let few = p.few in
    let many = q.few in
    (λ less. omega (arith, ints), λ same less. omega (arith, ints))
