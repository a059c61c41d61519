-- Sizes: a total means its MiB.
use Rattle.std.specs.Prelude.{ℕ, Bool, cond, ◌&&◌, ℤ, pos, neg_ℤ, Some, None, Option, int_le, nat_le}
use Rattle.price.specs.Kind.{PriceKind, reach_of}
use Rattle.kinds.specs.declared.size.Size.{Size}

abbrev pub size_largest : ℕ
size_largest = 4294967295

abbrev pub size_named : Size → Bool
size_named s = int_le (neg_ℤ (pos (reach_of size_largest))) s.mib && int_le s.mib (pos (reach_of size_largest))

abbrev pub size_means : Size → ℤ
size_means s = cond (size_named s) s.mib (pos (reach_of size_largest))

abbrev pub size_price : Size → Bool
size_price s = int_le (pos 0) s.mib && int_le s.mib (pos size_largest)

abbrev pub size_kind : PriceKind Size
size_kind = record { means = size_means; largest = size_largest; named = size_named; price = size_price }

-- the price of n MiB, or none
abbrev pub size_of_whole : ℕ → Option Size
size_of_whole n = cond (nat_le n size_largest) (Some (record { mib = pos n })) None
