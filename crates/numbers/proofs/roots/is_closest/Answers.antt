-- `numbers::is_closest` meets its contract: d does not wrap where it is small, and then the two tests say both halves of `Closest`.
use Rattle.floats.specs.Prelude.{◌≡◌, sym, true≢false, ℕ, ◌+◌, ◌-◌, ◌*◌, ◌/◌, ◌%◌, ◌^◌, ◌≤◌, ◌<◌, arith, bit_and}
use Rattle.numbers.proofs.Halves.{low_square, cross, high_square, lower, seen, joined}
use Rattle.numbers.proofs.roots.is_closest.Goals as goal

-- c is not below a * a, and their difference is d
sum : (c a : ℕ) → c < 2 ^ 54 → a ≤ 2 ^ 54 → (c + (2 ^ 64 - a)) % 2 ^ 64 < 536870912 → (c + (2 ^ 64 - a)) % 2 ^ 64 + a ≡ c
sum c a C A D = omega arith

pub overflow_mul-d : goal.overflow_mul-d
overflow_mul-d c = omega (arith, high_square c.args.q (omega arith))

pub overflow_mul-t-then-d-lt536870912 : goal.overflow_mul-t-then-d-lt536870912
overflow_mul-t-then-d-lt536870912 c = omega (arith, cross c.args.q (omega arith))

pub overflow_mul-t-then-d-lt536870912-2 : goal.overflow_mul-t-then-d-lt536870912-2
overflow_mul-t-then-d-lt536870912-2 c = omega (arith, low_square c.args.q)

pub overflow_add-t : goal.overflow_add-t
overflow_add-t c = omega (arith, cross c.args.q (omega arith), low_square c.args.q)

pub overflow_add-result : goal.overflow_add-result
overflow_add-result c = omega (arith, cross c.args.q (omega arith), low_square c.args.q)

pub returns : goal.returns
returns c = λ e. absurd (true≢false (sym e))

pub returns-then-d-lt536870912 : goal.returns-then-d-lt536870912
returns-then-d-lt536870912 c = λ e. let q = c.args.q in
    let a = q / 67108864 * (q / 67108864) in
    let d = (c.args.c + (2 ^ 64 - a)) % 2 ^ 64 in
    let t = lower (q / 67108864) (bit_and q 67108863) in
    let w = d * 67108864 % 2 ^ 64 in
    let h = joined w (t + q / 67108864) t (w + q / 67108864) e in
    seen q c.args.c d (sum c.args.c a (omega arith) (omega (arith, high_square q (omega arith))) (omega arith))
    (omega (arith, h)) (omega (arith, h))
