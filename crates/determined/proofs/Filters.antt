-- Both results are the definition's.
use Rattle.determined.specs.Filters.{Filters}
use Rattle.determined.proofs.OneResult.{equal}

pub filters : Filters
filters = record {
  adapted = λ n h κs a z z' e e'. equal;
  filter_vec = λ n h κs a z z' e e'. equal;
  finite_channels = λ n h κs a z z' e e'. equal;
  first_numbers = λ n h κs a z z' e e'. equal;
  filter_adapt_state_for_coeff_change = λ κs a z z' e e'. equal;
  filter_channel = λ κs a z z' e e'. equal;
  filter_initial_state = λ κs a z z' e e'. equal;
  filter_step = λ κs a z z' e e'. equal;
  finite_channel = λ κs a z z' e e'. equal;
  first_number = λ κs a z z' e e'. equal;
  filter_coeffs = λ κs a z z' e e'. equal;
  finite_coeffs = λ κs a z z' e e'. equal;
  gain_from_tau = λ κs a z z' e e'. equal;
}
