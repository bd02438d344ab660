-- The two tests are what the cast asks for.
use Rattle.floats.specs.Prelude.{sym, subst, T, of_bits, neg}
use Rattle.readable.proofs.signed.Goals as goal

pub truncating_f64_to_u64-tenths-requires : goal.truncating_f64_to_u64-tenths-requires
unfolding of_bits neg
truncating_f64_to_u64-tenths-requires c = record { lower_bound = subst T (sym c.if-y.true) tt; upper_bound = subst T (sym c.if-y-2.true) tt }
