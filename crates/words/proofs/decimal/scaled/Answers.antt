-- The power goes up or down, and is near or too far.
use Rattle.floats.specs.Prelude.{sym}
use Rattle.std.proofs.lemmas.Result.{err_from_is_err_and}
use Rattle.words.proofs.Scaled.{scaled_up, scaled_down, far_up, far_down}
use Rattle.words.proofs.decimal.scaled.Goals as goal

pub returns-in_err-exponent : goal.returns-in_err-exponent
returns-in_err-exponent c =
    let p = err_from_is_err_and c.from_residual.result c.from_residual.ensures.1 in
    rw (p.1, p.2, c.in_err-exponent.ensures.0) (sym (far_up _ _ _ _ c.if-up-down.true c.in_err-exponent.ensures.1))

pub returns-in_ok-exponent : goal.returns-in_ok-exponent
returns-in_ok-exponent c =
    simp (c.signs.ensures, c.times.ensures, c.in_ok-exponent.ensures.0) (sym (scaled_up _ _ _ _ c.if-up-down.true c.in_ok-exponent.ensures.1))

pub returns-in_err-exponent-2 : goal.returns-in_err-exponent-2
returns-in_err-exponent-2 c =
    let p = err_from_is_err_and c.from_residual-in_err-exponent-2.result c.from_residual-in_err-exponent-2.ensures.1 in
    rw (p.1, p.2, c.in_err-exponent-2.ensures.0) (sym (far_down _ _ _ _ c.if-up-down.false c.in_err-exponent-2.ensures.1))

pub returns-in_ok-exponent-2 : goal.returns-in_ok-exponent-2
returns-in_ok-exponent-2 c =
    simp (c.signs-else-up-down.ensures, c.over.ensures, c.in_ok-exponent-2.ensures.0) (sym (scaled_down _ _ _ _ c.if-up-down.false c.in_ok-exponent-2.ensures.1))
