use Rattle.std.proofs.Common.{eq-eqb, arith}
use Rattle.std.proofs.lemmas.Bool.Decides.{nat_tests}
use Rattle.lines.proofs.Cuts.{cut_at, uncut_at}
use Rattle.lines.proofs.split.first_line.Goals as goal

pub returns-then-byte-eq10 : goal.returns-then-byte-eq10
returns-then-byte-eq10 c = cut_at c.args.text.now c.loop-i.i (record { low = omega arith; high = c.loop-i-test.true; before = c.loop-i.invariant }, eq-eqb _ 10 c.if-byte-eq10.true)

pub returns-else-is_empty : goal.returns-else-is_empty
returns-else-is_empty c = uncut_at c.args.text.now (grind (arith, nat_tests)) (λ k low high. c.loop-i.invariant k low (omega (arith, c.loop-i-test.false)))
