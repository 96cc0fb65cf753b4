use Rattle.std.proofs.Common.{◌≡◌, take, map, length}
use Rattle.net_tables.specs.Found.{matched_row}
use Rattle.net_tables.proofs.found.find_all.Given as goal

-- those so far were found
abbrev pub invariant-loop-known : goal.invariant-loop-known
invariant-loop-known l =
    record {
      wide : l.row.width ≡ length l.matcher;
      same : l.sets.width ≡ length l.matcher;
      found : l.sets.rows ≡ map (matched_row l.matcher) (take l.known-index l.publications);
    }
