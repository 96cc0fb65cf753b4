use Rattle.std.proofs.Common.{◌≡◌, ◌++◌, map}
use Rattle.output_flood.proofs.rows.lists_of.Given as goal

abbrev pub invariant-loop-rows : goal.invariant-loop-rows
invariant-loop-rows l = l.lists.items ++ map (λ rows. rows.items) l.rows-iterator.rest.items ≡ map (λ rows. rows.items) l.fn.all.items
