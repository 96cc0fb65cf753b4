use Rattle.std.proofs.Common.{not, rules}
use Rattle.std.proofs.lemmas.Fn.{filter_same}
use Rattle.filter_types.specs.Cover.{advert_covers}
use Rattle.output_flood.proofs.adverts.withdraw.Goals as goal

pub returns : goal.returns
returns c = filter_same _ (λ x. not (advert_covers c.args.advert.now x)) _ (λ x b f' k. search rules) _ _ c.retain.ensures.filtered
