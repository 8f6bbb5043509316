-- How large the number of at most six digits is.
use Rattle.std.proofs.Common.{◌≡◌, ℕ, ◌+◌, ◌*◌, ◌^◌, ◌<◌, ◌≤◌, arith, pow_mono, pow-add}

pub hex_room : (v i : ℕ) → v + 3 ≤ 3 * 2 ^ (5 * i) → i < 6 → v * 16 + 36 < 2 ^ 32
hex_room v i h l =
    let p : 2 ^ (5 * i) ≤ 2 ^ 25 = pow_mono {i = 5 * i} {j = 25} (omega arith) in
    omega arith

pub hex_next : (v i d : ℕ) → v + 3 ≤ 3 * 2 ^ (5 * i) → d ≤ 36 → v * 16 + d + 3 ≤ 3 * 2 ^ (5 * (i + 1))
hex_next v i d h l =
    let e : 5 * (i + 1) ≡ 5 * i + 5 = omega arith in
    let p : 2 ^ (5 * (i + 1)) ≡ 2 ^ (5 * i) * 32 = rw e (pow-add 2 (5 * i) 5) in
    omega arith
