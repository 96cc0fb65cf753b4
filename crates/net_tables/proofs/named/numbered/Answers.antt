use Rattle.std.proofs.Common.{◌∙◌}
use Rattle.net_tables.proofs.Kept.{kept_live, numbers_of}
use Rattle.net_tables.proofs.named.numbered.Goals as goal

pub numbers-requires-clause-live : goal.numbers-requires-clause-live
numbers-requires-clause-live g c = rw c.deref.ensures.value (kept_live c.args.kept.pool.slots c.args.kept.keys.items c.requires.kept.0 c.requires.kept.1.at)

pub returns-clause-numbers : goal.returns-clause-numbers
returns-clause-numbers g c = λ named are.
    numbers_of c.args.kept.pool.items c.in_ok-numbers.numbers.items named ((rw c.deref.ensures.value at c.in_ok-numbers.ensures) ∙ are.at)
