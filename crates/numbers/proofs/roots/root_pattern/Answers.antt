-- `numbers::root_pattern` meets its contract.
use Rattle.floats.specs.Prelude.{◌≡◌, refl, sym, subst, not, ℕ, ◌+◌, ◌-◌, ◌*◌, ◌/◌, ◌%◌, ◌^◌, ◌≤◌, ◌<◌, arith, le_trans, T, lit≤, binary64, of_bits, nan_bits}
use Rattle.std.proofs.Common.{w64, Fits}
use Rattle.numbers.specs.Root.{root_of, Closest}
use Rattle.numbers.proofs.Normal.{doubled, large, shifted, c_ge, c_lt, k_shifted, answer, q_small, bit_lt, sum_lt}
use Rattle.numbers.proofs.roots.root_pattern.Goals as goal

closest : (c : goal.After-near_root) → Closest (c.loop-m.m * 2 ^ (c.loop-m.e % 2) * 2 ^ 52) c.near_root.result
closest c = subst (λ (z : ℕ). Closest (z * 2 ^ 52) c.near_root.result) (shifted c.loop-m.m c.loop-m.e c.loop-m.invariant.2) c.near_root.ensures

pub loop-m-init : goal.loop-m-init
loop-m-init c = (refl, c.requires.0, c.requires.1, c.requires.3)

pub overflow_mul-m : goal.overflow_mul-m
overflow_mul-m c = omega arith

pub overflow_sub-e : goal.overflow_sub-e
overflow_sub-e c = le_trans (lit≤ tt) (large c.loop-m.m c.loop-m.e c.args.m0 c.args.e0 c.loop-m.invariant.0 c.loop-m.invariant.2 c.requires.0 c.requires.2)

pub loop-m-smaller : goal.loop-m-smaller
loop-m-smaller c = omega arith

pub overflow_shl-c : goal.overflow_shl-c
overflow_shl-c c = bit_lt c.loop-m.e

pub overflow_sub-k : goal.overflow_sub-k
overflow_sub-k c = le_trans (lit≤ tt) (large c.loop-m.m c.loop-m.e c.args.m0 c.args.e0 c.loop-m.invariant.0 c.loop-m.invariant.2 c.requires.0 c.requires.2)

pub near_root-requires : goal.near_root-requires
near_root-requires c = let m = c.loop-m.m in
    let e = c.loop-m.e in
    subst (λ (z : ℕ). (2 ^ 52 ≤ z) × (z < 2 ^ 54)) (sym (shifted m e c.loop-m.invariant.2)) (c_ge m e c.loop-m-test.false, c_lt m e c.loop-m.invariant.2)

pub overflow_add-result : goal.overflow_add-result
overflow_add-result c = let e = c.loop-m.e in
    let q = c.near_root.result in
    subst (λ (z : ℕ). Fits w64 (z + q)) (sym (k_shifted e c.loop-m.invariant.3))
    (record { fits = sum_lt e q c.loop-m.invariant.3 (q_small c.loop-m.m e q c.loop-m.invariant.2 (closest c)) })

pub loop-m-preserved : goal.loop-m-preserved
loop-m-preserved c = (
  doubled c.loop-m.m c.loop-m.e (c.args.m0 * 2 ^ c.args.e0) (le_trans (lit≤ tt) (large c.loop-m.m c.loop-m.e c.args.m0 c.args.e0 c.loop-m.invariant.0 c.loop-m.invariant.2 c.requires.0 c.requires.2)) c.loop-m.invariant.0,
  omega arith,
  omega arith,
  omega arith,
)

pub returns : goal.returns
returns c =
    let e = c.loop-m.e in
    let q = c.near_root.result in
    subst (λ (n : ℕ). (of_bits binary64 ((e - 52) / 2 * 4503599627370496 % 2 ^ 64 + q) ≡ root_of binary64 n) × T (not (nan_bits binary64 ((e - 52) / 2 * 4503599627370496 % 2 ^ 64 + q)))) c.loop-m.invariant.0
    (subst (λ (z : ℕ). (of_bits binary64 (z + q) ≡ root_of binary64 (c.loop-m.m * 2 ^ e)) × T (not (nan_bits binary64 (z + q)))) (sym (k_shifted e c.loop-m.invariant.3))
    (answer c.loop-m.m e q c.loop-m-test.false c.loop-m.invariant.2 (large c.loop-m.m c.loop-m.e c.args.m0 c.args.e0 c.loop-m.invariant.0 c.loop-m.invariant.2 c.requires.0 c.requires.2) c.loop-m.invariant.3 (closest c)))
