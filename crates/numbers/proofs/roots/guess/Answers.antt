-- `numbers::guess` meets its contract: whatever the floats come to, the result is in range.
use Rattle.floats.specs.Prelude.{ℕ, ◌+◌, ◌*◌, ◌/◌, ◌%◌, ◌^◌, ◌≤◌, ◌<◌, div-le_self, arith, binary64}
use Rattle.floats.specs.NoNan.{number_bits}
use Rattle.numbers.proofs.roots.guess.Goals as goal

-- the pattern that it reads is below a NaN's
small : (c : ℕ) → c < 2 ^ 54 → c / 2 ^ (c / 2 ^ 53) + (c / 2 ^ 53 + 1022) * 4503599627370496 % 2 ^ 64 < 0x4040_0000_0000_0000
small c h = at (c / 2 ^ (c / 2 ^ 53)) (div-le_self c (2 ^ (c / 2 ^ 53)))
  where
    at : (s : ℕ) → s ≤ c → s + (c / 2 ^ 53 + 1022) * 4503599627370496 % 2 ^ 64 < 0x4040_0000_0000_0000
    at s l = omega arith

pub overflow_add-bits-2 : goal.overflow_add-bits-2
overflow_add-bits-2 c = omega (arith, small c.args.c c.requires.1)

pub float_from_bits-bits : goal.float_from_bits-bits
float_from_bits-bits c = number_bits binary64 _ (omega (arith, small c.args.c c.requires.1))

pub by_floats-s-requires : goal.by_floats-s-requires
by_floats-s-requires c = (omega (arith, small c.args.c c.requires.1), omega arith)
