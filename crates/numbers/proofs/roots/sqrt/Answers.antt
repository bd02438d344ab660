-- `numbers::sqrt` meets its contract.
use Rattle.floats.specs.Prelude.{sym, ◌∙◌, subst, ℕ, ◌+◌, ◌/◌, ◌≤◌, ◌<◌, arith, T, bit_and, mask_lt, binary64, to_bits}
use Rattle.numbers.proofs.Beside.{Pattern, beside}
use Rattle.numbers.proofs.Floats.{above_no_nan, parse, zero_root, no_root}
use Rattle.numbers.proofs.Halves.{joined}
use Rattle.numbers.proofs.Parsed.{low, high, top}
use Rattle.numbers.proofs.roots.sqrt.Goals as goal

-- what the tests say of an x next to 1
near : (c : goal.Then-bits) → (4607182418665799680 ≤ to_bits binary64 c.args.x) × (to_bits binary64 c.args.x < 4607182418934235136)
near c =
    let b = to_bits binary64 c.args.x in
    joined 4607182418665799680 b b 4607182418934235136 c.if-bits.true

unit : (c : goal.Then-bits) → Pattern c.args.x ((to_bits binary64 c.args.x + 4607182418800017408) / 2)
unit c = beside c.args.x (parse c.args.x (subst T (sym c.well_formed.0.1) tt) c.if-x.true) (near c).0 (near c).1

digits_lt : (b : ℕ) → bit_and b 4503599627370495 < 4503599627370496
digits_lt b = mask_lt b 52

pub float_to_bits-bits : goal.float_to_bits-bits
float_to_bits-bits c = above_no_nan c.args.x c.if-x.true

pub overflow_add-result : goal.overflow_add-result
overflow_add-result c = omega (arith, near c)

pub float_from_bits-result : goal.float_from_bits-result
float_from_bits-result c = (unit c).1

pub returns-then-bits : goal.returns-then-bits
returns-then-bits c = (unit c).0

pub root_pattern-requires : goal.root_pattern-requires
root_pattern-requires c = let l = low c.args.x (parse c.args.x (subst T (sym c.well_formed.0.1) tt) c.if-x.true) c.if-field-eq0.true in
    (l.0, l.1, omega arith, omega arith)

pub float_from_bits-result-then-field-eq0 : goal.float_from_bits-result-then-field-eq0
float_from_bits-result-then-field-eq0 c = c.root_pattern.ensures.1

pub returns-then-field-eq0 : goal.returns-then-field-eq0
returns-then-field-eq0 c = c.root_pattern.ensures.0 ∙ sym (low c.args.x (parse c.args.x (subst T (sym c.well_formed.0.1) tt) c.if-x.true) c.if-field-eq0.true).2

pub overflow_add-digits : goal.overflow_add-digits
overflow_add-digits c = omega (arith, digits_lt (to_bits binary64 c.args.x))

pub normal_pattern-requires : goal.normal_pattern-requires
normal_pattern-requires c = let l = high c.args.x (parse c.args.x (subst T (sym c.well_formed.0.1) tt) c.if-x.true) c.if-field-eq0.false c.if-field-lt2047.true in
    (omega arith, omega arith, l.1, l.2, l.3)

pub float_from_bits-result-then-field-lt2047 : goal.float_from_bits-result-then-field-lt2047
float_from_bits-result-then-field-lt2047 c = c.normal_pattern.ensures.1

pub returns-then-field-lt2047 : goal.returns-then-field-lt2047
returns-then-field-lt2047 c = c.normal_pattern.ensures.0 ∙ sym (high c.args.x (parse c.args.x (subst T (sym c.well_formed.0.1) tt) c.if-x.true) c.if-field-eq0.false c.if-field-lt2047.true).4

pub returns-then-x : goal.returns-then-x
returns-then-x c = top c.args.x (parse c.args.x (subst T (sym c.well_formed.0.1) tt) c.if-x.true) c.if-field-eq0.false c.if-field-lt2047.false

pub returns-then-x-2 : goal.returns-then-x-2
returns-then-x-2 c = zero_root c.args.x c.if-x-2.true

pub returns-else-x-2 : goal.returns-else-x-2
returns-else-x-2 c = no_root c.args.x c.if-x.false c.if-x-2.false
