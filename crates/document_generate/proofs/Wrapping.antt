-- A sum of which a part was cut to 64 bits before.
use Rattle.std.proofs.Common.{◌≡◌, ℕ, ◌+◌, ◌%◌, ◌^◌}
use Rattle.std.proofs.Math.Nat.{mod-add-mod}

pub wraps : (n k : ℕ) → (n % 2 ^ 64 + k) % 2 ^ 64 ≡ (n + k) % 2 ^ 64
wraps n k = mod-add-mod n (2 ^ 64) k
