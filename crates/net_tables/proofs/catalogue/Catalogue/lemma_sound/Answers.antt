use Rattle.std.proofs.Common.{subst, arith}
use Rattle.net_model.specs.Sound.{IsSound}
use Rattle.net_tables.proofs.Counting.{known_filters_few, known_adverts_few, known_filters_rise, known_adverts_rise, publications_count}
use Rattle.net_tables.proofs.catalogue.Catalogue.lemma_sound.Goals as goal

pub returns-clause-few_filters : goal.returns-clause-few_filters
returns-clause-few_filters c = known_filters_few c.args.self.now.clients (subst IsSound c.self.view_is c.self.invariant.0.sound).controls

pub returns-clause-few_adverts : goal.returns-clause-few_adverts
returns-clause-few_adverts c = known_adverts_few c.args.self.now.clients (subst IsSound c.self.view_is c.self.invariant.0.sound).controls

pub returns-clause-few_publications : goal.returns-clause-few_publications
returns-clause-few_publications c = omega (arith, publications_count 1 c.args.self.now.clients, (subst IsSound c.self.view_is c.self.invariant.0.sound).publishes)

pub returns-clause-filters : goal.returns-clause-filters
returns-clause-filters c = known_filters_rise c.args.self.now.clients

pub returns-clause-adverts : goal.returns-clause-adverts
returns-clause-adverts c = known_adverts_rise c.args.self.now.clients
