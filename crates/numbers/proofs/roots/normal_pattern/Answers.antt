-- `numbers::normal_pattern` meets its contract: what the floats give is taken only where whole numbers say that it is closest.
use Rattle.floats.specs.Prelude.{◌≡◌, refl, sym, subst, not, ℕ, ◌+◌, ◌-◌, ◌*◌, ◌/◌, ◌%◌, ◌^◌, ◌≤◌, ◌<◌, le_trans, arith, T, lit≤, bit_and, binary64, to_bits, of_bits, nan_bits}
use Rattle.std.specs.Float.Ieee.Bits.{to_bits-lt}
use Rattle.numbers.specs.Root.{root_of, Closest}
use Rattle.numbers.proofs.Normal.{shifted, c_lt, answer, bit_lt}
use Rattle.numbers.proofs.roots.normal_pattern.Goals as goal

-- q and low make n again, and the pattern is n
found : (m e n q : ℕ) → 2 ^ 52 ≤ m → m < 2 ^ 53 → 1074 ≤ e → e < 3120 → n < 2 ^ 64 → (n + (2 ^ 64 - (e - 52) / 2 * 4503599627370496 % 2 ^ 64)) % 2 ^ 64 ≡ q → q < 2 ^ 53
    → Closest (m * 2 ^ bit_and e 1 % 2 ^ 64 * 2 ^ 52) q → (of_bits binary64 n ≡ root_of binary64 (m * 2 ^ e)) × T (not (nan_bits binary64 n))
found m e n q lo hi E1 E2 N p Q c =
    subst (λ (z : ℕ). (of_bits binary64 z ≡ root_of binary64 (m * 2 ^ e)) × T (not (nan_bits binary64 z))) (again ((e - 52) / 2) (omega arith) p)
    (answer m e q lo hi (le_trans (lit≤ tt) E1) E2 (subst (λ (z : ℕ). Closest (z * 2 ^ 52) q) (shifted m e hi) c))
  where
    again : (k : ℕ) → k < 1534 → (n + (2 ^ 64 - k * 4503599627370496 % 2 ^ 64)) % 2 ^ 64 ≡ q → k * 4503599627370496 + q ≡ n
    again k h p = omega arith

pub overflow_shl-c : goal.overflow_shl-c
overflow_shl-c c = bit_lt c.args.e

pub is_closest-requires : goal.is_closest-requires
is_closest-requires c = let m = c.args.m in
    let e = c.args.e in
    (omega arith, subst (λ (z : ℕ). z < 2 ^ 54) (sym (shifted m e (omega arith))) (c_lt m e (omega arith)))

pub returns-then-is_closest : goal.returns-then-is_closest
returns-then-is_closest c = let a = c.args in
    let r = c.by_floats-r in
    found a.m a.e (to_bits binary64 r.result) _ c.requires.1 c.requires.2 c.requires.3 c.requires.4 (to_bits-lt binary64 r.result (subst T (sym r.type_inv) tt)) refl c.if-q-lt9007199254740992.true (c.is_closest.ensures c.if-is_closest.true)
