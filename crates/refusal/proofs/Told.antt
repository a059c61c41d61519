-- A refusal's line, put together part by part.
use Rattle.std.proofs.Common.{◌≡◌, ℕ, ◌^◌, ◌<◌, ◌≤◌, List, [], ◌∷◌, ◌++◌, length, codes, decimal, refl, ◌∙◌, arith, length-append}
use Rattle.std.proofs.lemmas.List.{append_assoc}
use Rattle.std.proofs.lemmas.Fmt.{length-decimal-le}
use Rattle.lines.proofs.Joins.{Puts, joined, puts_all}

-- the parts of the line that tells the number n and the place p
abbrev pub parts : ℕ → ℕ → List (List ℕ)
parts n p = codes "c refused " ∷ decimal n ∷ codes " " ∷ decimal p ∷ codes "\n" ∷ []

pub told : (n p : ℕ) (was now : List ℕ) → n < 2 ^ 64 → p < 2 ^ 64 → was ≡ [] → Puts was (parts n p) now
    → now ≡ (codes "c refused " ++ (decimal n ++ (codes " " ++ decimal p))) ++ codes "\n"
told n p was now few small new puts =
    let number = length-decimal-le 20 n (omega arith) (omega arith) few in
    let place = length-decimal-le 20 p (omega arith) (omega arith) small in
    let short : length (joined (parts n p)) ≤ 64 = simp length-append (omega arith) in
    puts_all was now (parts n p) new puts short ∙ simp append_assoc refl
