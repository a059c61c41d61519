use Rattle.std.proofs.Common.{◌≡◌, ◌^◌, ◌<◌, drop}
use Rattle.lines.proofs.Digits.{digits_after}
use Rattle.lines.proofs.number.read_number.Given as goal

abbrev pub invariant-loop-digit : goal.invariant-loop-digit
invariant-loop-digit l = (digits_after l.n (drop l.digit-index l.field) ≡ digits_after 0 l.field) × (l.n < 10 ^ l.digit-index)
