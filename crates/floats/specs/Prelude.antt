-- The library names that the proofs use, passed on so that a proof file names them in one line.
pub use Rattle.std.specs.Prelude.{refl, ◌≡◌, Bool, true, false, not, ◌&&◌, cond, ◌||◌, ◌⊎◌, List, [], ◌∷◌, ◌++◌, map, ◌-◌, ◌≤◌, ℕ, ◌<◌, ◌+◌, ◌*◌, ◌^◌, suc, zero, ◌/◌, ◌%◌, T, eqb, ltb, leb, ℤ, pos, negsuc, length, get_or, set, take, replicate, drop, Option, None, Some, Result, Ok, Err, Float}
pub use Rattle.std.proofs.Common.{ap, ◌∙◌, sym, subst, ap₂, true≢false, inl, inr, append-nil, append_assoc, zero-le, lt_of_not-le, le_trans, le_of_suc-le-suc, mul-one, mul-le-mul_right, zero-lt-suc, zero-mul, mul-pos, mul_assoc, lt_of_lt_of_le, le_of_eq, mul-le-mul, zero-add, add-zero, le_antisymm, lt_of_le_of_lt, one-mul, lt_irrefl, mul-div_cancel, suc-add, le_of_lt, pow-suc, not-le_of_lt, mul-lt-mul_of_pos_right, le_refl, not-suc-le-zero, add-suc, mul_comm, lt_of_mul-lt-mul_right, div-lt_iff_lt-mul, mul_left_comm, le-div_iff_mul-le, le-add_right, eq-or-lt_of_le, div-add-mod', mod-lt, mul-le-mul_left, mod-eq_of_lt, le_of_mul-le-mul_right, mul_right_comm, div-one, div-le_self, add-one, arith, lit≤, lt→ltb, ltb→lt, leb→le, eqb→eq, lit<, nltb→le, pow-add, pow_pos, pow_mono, shl_lt, length-set, length-take, drop_of_length-le, rules, eq-eqb, ne_eqb, lt-ltb, le-ltb, le-leb, eqb-true, ltb-true, ltb-false}
pub use Rattle.std.specs.Bool.{beq as Bool_beq}
pub use Rattle.std.proofs.Math.Nat.{suc_inj, pow-succ', le_dest, pow-le-pow_right, div-eq_of_lt}
pub use Rattle.std.proofs.Math.Decide.{dec_le}
pub use Rattle.std.proofs.Math.Dec.{nleb→lt}
pub use Rattle.std.proofs.Math.Pow.{pow-lt}
pub use Rattle.std.specs.Int.Bits.{bit_and, mask_lt}
pub use Rattle.std.proofs.lemmas.Nat.{and_mask}
pub use Rattle.std.proofs.lemmas.List.{length-map, get_or-replicate}
pub use Rattle.std.specs.Float.{Format, binary64, binary32, nan, fin, inf}
pub use Rattle.std.specs.Float.Ieee.{up, down, prec, low, nan_bits, emax, hid, top, unlike, level, ones}
unfoldable pub use Rattle.std.specs.Float.Ieee.{of_bits, le, neg, fits, mul, lt, div, add, eq, sub, to_bits, round, odd, size, is_nan, of_int, ne, of_fields}
pub use Rattle.std.specs.Float.Ieee.Scale.{finite, round_same}
pub use Rattle.std.specs.Float.Ieee.Fits.{add-fits, and_l, down_pos, up_pos, and_r, two, two-le_pos, and_i, reach, sub-fits, cond-fits, div-fits, kept-lt, odd-fits, mul-fits}
pub use Rattle.std.specs.Float.Ieee.Positive.{positive, num, den, positive-finite, positive_of_value, den_pos, values_of_le}
pub use Rattle.std.specs.Float.Ieee.Digits.{back, size-le, size_reaches, size-lt, Equals, odd_val}
pub use Rattle.std.specs.Float.Ieee.Exact.{HasValue, round_exact}
pub use Rattle.std.proofs.lemmas.Bool.{lt-leb, not-true, not-false}
