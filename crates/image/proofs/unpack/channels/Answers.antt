-- Each channel is what the call at its place gives.
use Rattle.std.proofs.Common.{of_calls, rules}
use Rattle.floats.specs.Prelude.{ℕ, ◌+◌, ◌*◌}
use Rattle.image.specs.Unpack.{channel_at}
use Rattle.image.proofs.Made.{made, bank_made}
use Rattle.image.proofs.unpack.channels.Goals as goal

pub returns : goal.returns
returns g c = let s = c.args in
    let m = c.from_fn.ensures.items in
    bank_made s.s.now s.at g.row.N _ m.long
    (made _ (λ (k : ℕ). channel_at s.s.now (s.at + 3 * k)) _ (λ k y q e. (search (of_calls, rules, e), search (of_calls, rules, e))) _ g.row.N m)
