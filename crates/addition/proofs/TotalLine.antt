-- The line of a total, put together part by part.
use Rattle.std.proofs.Common.{◌≡◌, ℕ, ◌^◌, ◌<◌, ◌≤◌, List, [], ◌∷◌, length, nat_abs, codes, arith, length-append}
use Rattle.std.proofs.lemmas.Fmt.{length-decimal-le}
use Rattle.std.proofs.lemmas.Int.{ints}
use Rattle.lines.proofs.Joins.{Puts, joined, puts_all}
use Rattle.price.specs.Kind.{Between, PriceKind, flow_limit}
use Rattle.price.specs.WrittenKind.{digits_of}

module _ {P : Type 0} (K : PriceKind P) where
  abbrev pub parts : P → List (List ℕ)
  parts total = codes "s " ∷ digits_of K total ∷ codes "\n" ∷ []

  -- a total within the flow limit of a written kind has few digits
  pub few_digits : K.largest < 10 ^ 15 → (total : P) → Between (flow_limit K) (K.means total) → length (digits_of K total) ≤ 20
  few_digits short total within =
      let small : nat_abs (K.means total) < 2 ^ 64 = omega (arith, ints) in
      length-decimal-le 20 (nat_abs (K.means total)) (omega arith) (omega arith) small

  pub whole_line : K.largest < 10 ^ 15 → (total : P) (was now : List ℕ) → Between (flow_limit K) (K.means total) → was ≡ [] → Puts was (parts total) now → now ≡ joined (parts total)
  whole_line short total was now within new puts =
      let few = few_digits short total within in
      let fits : length (joined (parts total)) ≤ 64 = simp length-append (omega arith) in
      puts_all was now (parts total) new puts fits
