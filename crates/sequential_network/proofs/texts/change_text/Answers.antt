use Rattle.std.proofs.Common.{subst}
use Rattle.base.specs.Sets.{Has}
use Rattle.sequential_network.proofs.texts.change_text.Goals as goal

pub push_items-requires : goal.push_items-requires
push_items-requires g c = λ i h. c.requires.withdrawn_known i (subst (Has i) c.withdrawn.ensures h)

pub push_items-requires-2 : goal.push_items-requires-2
push_items-requires-2 g c = λ i h. c.requires.added_known i (subst (Has i) c.added.ensures h)
