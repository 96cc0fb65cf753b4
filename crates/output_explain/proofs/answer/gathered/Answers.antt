use Rattle.std.proofs.Common.{sym, subst}
use Rattle.net_model.specs.Parts.{ClientParts}
use Rattle.net_model.specs.Nets.{first_tree}
use Rattle.net_model.specs.Sound.{IsAmong}
use Rattle.output_explain.proofs.Serving.{home_among}
use Rattle.output_explain.proofs.answer.gathered.Goals as goal

pub path_of-requires-clause-from : goal.path_of-requires-clause-from
path_of-requires-clause-from c =
    subst (λ (z : ClientParts). IsAmong (first_tree c.args.net.now.trees).count z.home) (sym c.publisher.view_is)
    (home_among c.args.net.now c.args.id.publisher c.client_of-publisher.result.now c.requires.sound c.client_of-publisher.ensures)

pub path_of-requires-clause-to : goal.path_of-requires-clause-to
path_of-requires-clause-to c =
    subst (λ (z : ClientParts). IsAmong (first_tree c.args.net.now.trees).count z.home) (sym c.receiver.view_is)
    (home_among c.args.net.now c.args.client c.client_of-receiver.result.now c.requires.sound c.client_of-receiver.ensures)
