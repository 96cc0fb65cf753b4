use Rattle.std.proofs.Common.{nat_lt, ap, ◌∙◌}
use Rattle.base.specs.Sets.{minus}
use Rattle.output_flood.proofs.Steady.{all_there}
use Rattle.output_flood.proofs.tables.has_all.Goals as goal

pub returns-clause-all : goal.returns-clause-all
returns-clause-all c e =
    all_there c.args.row.now.members c.args.other.now.members c.remove_all.new.self.members
    (c.remove_all.ensures.members ∙ ap (λ z. minus nat_lt z c.args.row.now.members) c.copy_from.ensures.members) (c.is_empty.ensures.none e)
