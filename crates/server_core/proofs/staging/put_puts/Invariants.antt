use Rattle.std.proofs.Common.{◌≡◌, ◌+◌, ◌++◌, map, take, vec_len, vec_capacity}
use Rattle.match_routes.specs.declared.table_change.TableChange.TheVariants.{Put}
use Rattle.server_core.proofs.staging.put_puts.Given as goal

abbrev pub invariant-loop-number : goal.invariant-loop-number
invariant-loop-number l =
    record {
      items : l.pending.items ≡ l.fn.pending.items ++ map (λ i. Put i l.interface) (take l.number-index l.numbers);
      len : vec_len l.pending ≡ vec_len l.fn.pending + l.number-index;
      capacity : vec_capacity l.pending ≡ vec_capacity l.fn.pending;
    }
