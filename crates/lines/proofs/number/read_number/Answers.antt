use Rattle.std.proofs.Common.{◌<◌, length, get_or, sym, ◌∙◌, arith}
use Rattle.std.proofs.lemmas.List.{at_drop_all}
use Rattle.std.proofs.lemmas.Bool.Decides.{nat_tests}
use Rattle.lines.proofs.Digits.{digit_value_lem, digits_fit, digits_after, number_by_digits}
use Rattle.lines.proofs.number.read_number.Goals as goal

-- the field is neither empty nor too long
some : (c : goal.After-loop-digit) → 0 < length c.args.field.now
some c = grind (arith, nat_tests)

pub overflow_mul-n : goal.overflow_mul-n
overflow_mul-n c = omega (arith, digits_fit c.loop-digit.n c.loop-digit.digit-index 0 (omega arith) (omega arith) c.loop-digit.invariant.1)

pub overflow_add-n : goal.overflow_add-n
overflow_add-n c =
    let value = digit_value_lem (get_or c.args.field.now c.loop-digit.digit-index 0) (sym c.if-not-is_ascii_digit.ensures.value) in
    omega (arith, digits_fit c.loop-digit.n c.loop-digit.digit-index c.from.result (omega arith) (omega arith) c.loop-digit.invariant.1)

pub returns : goal.returns
returns c =
    let whole = number_by_digits c.args.field.now (some c) (omega arith) in
    sym (at_drop_all (digits_after c.loop-digit.n) c.args.field.now _ c.loop-digit-test.false) ∙ c.loop-digit.invariant.0 ∙ whole
