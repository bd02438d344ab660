-- A xorshift over 64 bits.
use Rattle.std.specs.Prelude.{ℕ, ◌*◌, ◌/◌, ◌%◌, ◌^◌, bit_xor}

-- x moved up by k places; what leaves the 64 is lost
abbrev pub up : ℕ → ℕ → ℕ
up x k = (x * 2 ^ k) % 2 ^ 64

abbrev pub down : ℕ → ℕ → ℕ
down x k = x / 2 ^ k

unfoldable pub next : ℕ → ℕ
next s =
    let a = bit_xor s (up s 13) in
    let b = bit_xor a (down a 7) in
    bit_xor b (up b 17)
