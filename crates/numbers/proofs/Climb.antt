-- The two loops of `near_root`: down while w is at most q * q - q, then up while it is above q * q + q.
use Rattle.floats.specs.Prelude.{◌≡◌, refl, ℕ, zero, suc, ◌+◌, ◌*◌, ◌^◌, ◌≤◌, ◌<◌, mul-le-mul, lt_of_not-le, arith}

none : (d w : ℕ) → d ≡ 0 → 0 < w → w ≤ d * d + d → ⊥
none zero w e p h = omega arith
none (suc d) w e p h = omega arith

pub still : (d w : ℕ) → 0 < w → w ≤ d * d + d → 0 < d
still zero w p h = absurd (none 0 w refl p h)
still (suc d) w p h = omega arith

-- d is q - 1
pub low_enough : (q d w : ℕ) → q ≡ d + 1 → d * d + d < w → q * q < w + q
low_enough q d w e h = at q d w e h (omega_sq q d e)
  where
    omega_sq : (q d : ℕ) → q ≡ d + 1 → q * q ≡ (d + 1) * (d + 1)
    omega_sq q d e = ap2 e
      where
        ap2 : {a b : ℕ} → a ≡ b → a * a ≡ b * b
        ap2 p = λ i. p i * p i

    at : (q d w : ℕ) → q ≡ d + 1 → d * d + d < w → q * q ≡ (d + 1) * (d + 1) → q * q < w + q
    at q d w e h s = omega arith

pub up_one : (q w : ℕ) → q * q + q < w → (q + 1) * (q + 1) < w + (q + 1)
up_one q w h = omega arith

pub bounded : (q c : ℕ) → c < 2 ^ 54 → q * q + q < c * 2 ^ 52 → q + 1 ≤ 2 ^ 53
bounded q c C h = omega (arith, lt_of_not-le (λ (g : 2 ^ 53 ≤ q). no (mul-le-mul g g)))
  where
    no : 2 ^ 53 * 2 ^ 53 ≤ q * q → ⊥
    no s = omega arith
