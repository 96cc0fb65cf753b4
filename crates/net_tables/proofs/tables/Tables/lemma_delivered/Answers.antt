use Rattle.std.proofs.Common.{◌≤◌, length, subst}
use Rattle.net_model.specs.Sound.{IsSound}
use Rattle.net_tables.specs.Known.{known_publications}
use Rattle.net_tables.proofs.Ids.{id-known}
use Rattle.net_tables.proofs.tables.Tables.lemma_delivered.Goals as goal

pub returns-clause-range : goal.returns-clause-range
returns-clause-range c =
    let sound = subst IsSound c.self.view_is c.lemma_sound.ensures.sound in
    let few = subst (λ net. length (known_publications 1 net.clients) ≤ 100000) c.self.view_is c.lemma_sound.ensures.few_publications in
    id-known c.args.self.now sound few c.args.number c.requires
