use Rattle.std.proofs.Common.{nat_lt, ap, ◌∙◌}
use Rattle.base.specs.Sets.{minus}
use Rattle.output_flood.proofs.Showing.{brought_by}
use Rattle.output_flood.proofs.tables.bring.Goals as goal

pub returns-clause-brought : goal.returns-clause-brought
returns-clause-brought c =
    brought_by c.args.place c.args.old.now.members c.args.new.now.members c.remove_all.new.self.members c.remove_all-2.new.self.members c.args.table.now.pairs c.take_all.new.table.pairs
    c.put_all.new.table.pairs
    (c.remove_all.ensures.members ∙ ap (λ z. minus nat_lt z c.args.new.now.members) c.copy_from.ensures.members)
    (c.remove_all-2.ensures.members ∙ ap (λ z. minus nat_lt z c.args.old.now.members) c.copy_from-2.ensures.members)
    c.requires.shown c.take_all.ensures.pairs c.put_all.ensures.pairs
