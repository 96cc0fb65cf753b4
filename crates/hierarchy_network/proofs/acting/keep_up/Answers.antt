use Rattle.std.proofs.Common.{◌==◌, rules}
use Rattle.std.proofs.lemmas.Fn.{filter_same}
use Rattle.server_message.specs.Parts.{SendingParts}
use Rattle.hierarchy_network.proofs.acting.keep_up.Goals as goal

pub returns : goal.returns
returns c = filter_same _ (λ (x : SendingParts). x.to == c.args.master) _ (λ x b f' k. search rules) _ _ c.retain.ensures.filtered
