-- The first fault decides the number, and each way that the six tests can turn out is looked at.
use Rattle.floats.specs.Prelude.{◌≡◌, refl, sym, subst, Bool, true, false, ℕ}
use Rattle.limits.specs.Table.{Faults, Exactly, first}

abbrev faults : Bool → Bool → Bool → Bool → Bool → Bool → Faults
faults a b c d e f = record { bad_sample = a; bad_interval = b; bad_setting = c; zero_sample = d; singular = e; not_finite = f }

by_tests : (a b c d e f : Bool) → Exactly (faults a b c d e f) (first (faults a b c d e f))
by_tests true b c d e f = record { two = refl; three = refl; four = refl; one = refl; five = refl; six = refl; done = refl }
by_tests false true c d e f = record { two = refl; three = refl; four = refl; one = refl; five = refl; six = refl; done = refl }
by_tests false false true d e f = record { two = refl; three = refl; four = refl; one = refl; five = refl; six = refl; done = refl }
by_tests false false false true e f = record { two = refl; three = refl; four = refl; one = refl; five = refl; six = refl; done = refl }
by_tests false false false false true f = record { two = refl; three = refl; four = refl; one = refl; five = refl; six = refl; done = refl }
by_tests false false false false false true = record { two = refl; three = refl; four = refl; one = refl; five = refl; six = refl; done = refl }
by_tests false false false false false false = record { two = refl; three = refl; four = refl; one = refl; five = refl; six = refl; done = refl }

pub exactly : (x : Faults) (n : ℕ) → n ≡ first x → Exactly x n
exactly x n h = subst (Exactly x) (sym h) (by_tests x.bad_sample x.bad_interval x.bad_setting x.zero_sample x.singular x.not_finite)
