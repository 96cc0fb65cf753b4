use Rattle.std.proofs.Common.{◌≡◌, ◌<◌, drop}
use Rattle.base.specs.Signature.{place_from}
use Rattle.net_tables.proofs.words.name_bit.Given as goal

abbrev pub invariant-loop-byte : goal.invariant-loop-byte
invariant-loop-byte l =
    record {
      within : l.place < 61;
      rest : place_from l.place (drop l.byte-index l.name) ≡ place_from 0 l.name;
    }
