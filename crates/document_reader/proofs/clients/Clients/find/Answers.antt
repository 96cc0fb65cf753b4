use Rattle.std.proofs.Common.{refl}
use Rattle.document_reader.proofs.Drafting.{found_place, place_few}
use Rattle.document_reader.proofs.clients.Clients.find.Goals as goal

pub returns-clause-value : goal.returns-clause-value
returns-clause-value c = found_place c.self.inside.names c.self.inside.drafts.items c.args.self.now c.args.name.now c.place.result c.self.invariant c.self.view_is c.place.ensures

pub returns-clause-within : goal.returns-clause-within
returns-clause-within c =
    place_few c.place.result c.self.inside.drafts.items c.args.name.now
    (found_place c.self.inside.names c.self.inside.drafts.items c.self.inside.drafts.items c.args.name.now c.place.result c.self.invariant refl c.place.ensures) c.self.invariant.few
