use Rattle.std.proofs.Common.{◌≡◌, ◌+◌, ◌*◌, ◌^◌, ◌≤◌, drop}
use Rattle.program_sequential.specs.Printed.{messages_in}
use Rattle.program_sequential.proofs.summary.messages.Given as goal

abbrev pub invariant-loop-entry : goal.invariant-loop-entry
invariant-loop-entry l =
    record {
      sum : l.count + messages_in (drop l.entry-index l.journal) ≡ messages_in l.journal;
      most : l.count ≤ 2 ^ 64 * l.entry-index;
    }
