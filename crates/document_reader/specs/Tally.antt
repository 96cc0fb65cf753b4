-- Defines the limits on what the commands of a document take.
use Rattle.std.specs.Prelude.{Bool, ℕ, ◌+◌, ◌*◌, ◌≤◌, nat_lt, nat_le, if◌then◌else◌, Result, Ok}
use Rattle.document_reader.specs.Answer.{◌>>=◌, need}
use Rattle.document_reader.specs.declared.fault.Fault.{Fault}
use Rattle.document_reader.specs.declared.fault.Fault.TheVariants as is

-- how many control commands there are, how many of them withdraw something, and the bytes of their lines; how many publish
-- commands, and the bytes of theirs
pub record CommandCounts : Type 0 where
  pub controls : ℕ
  pub withdrawals : ℕ
  pub control_bytes : ℕ
  pub publications : ℕ
  pub publish_bytes : ℕ

abbrev pub counts : ℕ → ℕ → ℕ → ℕ → ℕ → CommandCounts
counts c w cb p pb = record { controls = c; withdrawals = w; control_bytes = cb; publications = p; publish_bytes = pb }

abbrev pub no_counts : CommandCounts
no_counts = counts 0 0 0 0 0

-- one control command more, on a line of so many bytes
abbrev pub with_control : CommandCounts → Bool → ℕ → CommandCounts
with_control t withdraws bytes =
    record t { controls = t.controls + 1; withdrawals = t.withdrawals + (if withdraws then 1 else 0); control_bytes = t.control_bytes + bytes }

-- one publish command more
abbrev pub with_publish : CommandCounts → ℕ → CommandCounts
with_publish t bytes = record t { publications = t.publications + 1; publish_bytes = t.publish_bytes + bytes }

-- the product that bounds the control texts: (1 + withdrawals) times bytes times servers
abbrev pub control_product : CommandCounts → ℕ → ℕ
control_product t servers = (1 + t.withdrawals) * t.control_bytes * servers

-- the product that bounds the deliveries: bytes times clients
abbrev pub notice_product : CommandCounts → ℕ → ℕ
notice_product t clients = t.publish_bytes * clients

-- a control command on a line of so many bytes, in a document of so many servers
unfoldable pub control_rule : CommandCounts → Bool → ℕ → ℕ → Result CommandCounts Fault
control_rule t withdraws bytes servers = do
  few ← need (nat_lt t.controls 4096) is.Commands
  small ← need (nat_le (control_product (with_control t withdraws bytes) servers) 2147483648) is.MuchControl
  Ok (with_control t withdraws bytes)

-- a publish command on a line of so many bytes, in a document of so many clients
unfoldable pub publish_rule : CommandCounts → ℕ → ℕ → Result CommandCounts Fault
publish_rule t bytes clients = do
  few ← need (nat_lt t.publications 100000) is.Publications
  small ← need (nat_le (notice_product (with_publish t bytes) clients) 268435456) is.MuchNotice
  Ok (with_publish t bytes)

-- no count is beyond its limit, and no line has more bytes than a document
pub record AreSmall (t : CommandCounts) : Type 0 where
  pub controls : t.controls ≤ 4096
  pub withdrawals : t.withdrawals ≤ t.controls
  pub control_bytes : t.control_bytes ≤ 4194304 * t.controls
  pub publications : t.publications ≤ 100000
  pub publish_bytes : t.publish_bytes ≤ 4194304 * t.publications
