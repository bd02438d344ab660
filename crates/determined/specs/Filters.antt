-- Every public function of `filters`: filters.
use Rattle.std.specs.Prelude.{ℕ}
use Rattle.determined.specs.OneResult.{OneResult}
use Rattle.filters.proofs.bank.adapted.Reads as adapted
use Rattle.filters.proofs.bank.filter_vec.Reads as filter_vec
use Rattle.filters.proofs.bank.finite_channels.Reads as finite_channels
use Rattle.filters.proofs.bank.first_numbers.Reads as first_numbers
use Rattle.filters.proofs.channel.filter_adapt_state_for_coeff_change.Reads as filter_adapt_state_for_coeff_change
use Rattle.filters.proofs.channel.filter_channel.Reads as filter_channel
use Rattle.filters.proofs.channel.filter_initial_state.Reads as filter_initial_state
use Rattle.filters.proofs.channel.filter_step.Reads as filter_step
use Rattle.filters.proofs.channel.finite_channel.Reads as finite_channel
use Rattle.filters.proofs.channel.first_number.Reads as first_number
use Rattle.filters.proofs.coeffs.filter_coeffs.Reads as filter_coeffs
use Rattle.filters.proofs.coeffs.finite_coeffs.Reads as finite_coeffs
use Rattle.filters.proofs.coeffs.gain_from_tau.Reads as gain_from_tau

pub record Filters : Type 0 where
  pub adapted : (n : ℕ) (h : _) → OneResult (adapted.Learnt n h)
  pub filter_vec : (n : ℕ) (h : _) → OneResult (filter_vec.Learnt n h)
  pub finite_channels : (n : ℕ) (h : _) → OneResult (finite_channels.Learnt n h)
  pub first_numbers : (n : ℕ) (h : _) → OneResult (first_numbers.Learnt n h)
  pub filter_adapt_state_for_coeff_change : OneResult filter_adapt_state_for_coeff_change.Learnt
  pub filter_channel : OneResult filter_channel.Learnt
  pub filter_initial_state : OneResult filter_initial_state.Learnt
  pub filter_step : OneResult filter_step.Learnt
  pub finite_channel : OneResult finite_channel.Learnt
  pub first_number : OneResult first_number.Learnt
  pub filter_coeffs : OneResult filter_coeffs.Learnt
  pub finite_coeffs : OneResult finite_coeffs.Learnt
  pub gain_from_tau : OneResult gain_from_tau.Learnt
