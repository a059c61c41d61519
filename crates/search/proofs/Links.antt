-- The index, with one arc more at its front.
use Rattle.std.proofs.Common.{◌≡◌, ℕ, ◌+◌, ◌-◌, ◌<◌, ◌≤◌, Option, Some, None, IfSome, List, get_or, set, replicate, arith}
use Rattle.std.proofs.lemmas.List.{get_or-replicate, length-replicate}
use Rattle.std.proofs.lemmas.Grind.{common_steps}
use Rattle.network.specs.Walk.{Map}
use Rattle.search.specs.Inside.{Step}
use Rattle.search.specs.Index.{Next, arc_in, Indexed}

-- what the next arc is
pub leaves : (M : Map ℕ) (arcs u i : ℕ) (r : Option ℕ) → Next M arcs u i r → IfSome r (λ k. (k < arcs) × (M.from k ≡ u))
leaves M arcs u i None x = tt
leaves M arcs u i (Some k) x = (x.1, x.2)

pub after : {M : Map ℕ} {arcs n : ℕ} {first next : List ℕ} → Indexed M arcs n first next 0 → (u k : ℕ) → k < arcs → M.from k ≡ u → Step n u
    → Next M arcs u (k + 1) (arc_in (get_or next k 0))
after X u k ka e st = grind arith

module _ (M : Map ℕ) (arcs n : ℕ) (few : n ≤ 1024) where
  -- no arc is in the index yet
  pub unindexed : Indexed M arcs n (replicate 1024 65535) (replicate 8192 65535) arcs
  unindexed = record {
    firsts = length-replicate {A = ℕ} 1024 65535;
    nexts = length-replicate {A = ℕ} 8192 65535;
    starts = λ u st. rw (get_or-replicate {A = ℕ} 1024 (u - 1) 65535 0 (omega (arith, st.0, st.1))) (λ k ik ka. absurd (omega arith));
    follows = λ k ik ka st. absurd (omega arith);
  }

  -- arc i, which leaves u, comes to the front
  pub linked : {i : ℕ} {first next : List ℕ} → Indexed M arcs n first next (i + 1) → arcs ≤ 8192 → i < arcs → (u : ℕ) → u ≡ M.from i → Step n u
      → Indexed M arcs n (set first (u - 1) i) (set next i (get_or first (u - 1) 0)) i
  linked X limit ia u ue su = grind (arith, common_steps)
