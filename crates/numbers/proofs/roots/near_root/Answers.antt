-- `numbers::near_root` meets its contract. The first loop leaves q with (q - 1) * (q - 1) + (q - 1) below c * 2 ^ 52, which the second loop keeps.
use Rattle.floats.specs.Prelude.{ltb-true, ltb-false, sym, ◌∙◌, ◌+◌, ◌-◌, ◌*◌, ◌^◌, ◌≤◌, ◌<◌, arith}
use Rattle.numbers.proofs.Climb.{still, low_enough, up_one, bounded}
use Rattle.numbers.proofs.roots.near_root.Goals as goal

-- what the second loop's test says
above : (c : goal.In-loop-q-2) → c.loop-q-2.q * c.loop-q-2.q + c.loop-q-2.q < c.args.c * 2 ^ 52
above c = ltb-true _ _ (sym c.is_above-in-loop-q-2.ensures ∙ c.loop-q-2-test.true)

next : (c : goal.In-loop-q-2) → c.loop-q-2.q + 1 ≤ 2 ^ 53
next c = bounded c.loop-q-2.q c.args.c c.requires.1 (above c)

pub loop-q-preserved : goal.loop-q-preserved
loop-q-preserved c = let d = c.loop-q.q - 1 in
    let w = c.args.c * 2 ^ 52 in
    (still d w (omega (arith, c.requires)) (ltb-false (d * d + d) w (sym c.is_above.ensures ∙ c.loop-q-test.true)), omega arith)

pub loop-q-2-init : goal.loop-q-2-init
loop-q-2-init c = let q = c.loop-q.q in
    let w = c.args.c * 2 ^ 52 in
    (low_enough q (q - 1) w (omega arith) (ltb-true ((q - 1) * (q - 1) + (q - 1)) w (sym c.is_above.ensures ∙ c.loop-q-test.false)), omega arith)

pub overflow_add-q : goal.overflow_add-q
overflow_add-q c = omega (arith, next c)

pub loop-q-2-smaller : goal.loop-q-2-smaller
loop-q-2-smaller c = omega (arith, next c)

pub loop-q-2-preserved : goal.loop-q-2-preserved
loop-q-2-preserved c = (up_one c.loop-q-2.q (c.args.c * 2 ^ 52) (above c), next c)

pub returns : goal.returns
returns c = (c.loop-q-2.invariant.0, ltb-false _ _ (sym c.is_above-in-loop-q-2.ensures ∙ c.loop-q-2-test.false))
