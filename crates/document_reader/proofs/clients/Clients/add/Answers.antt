use Rattle.document_reader.proofs.Drafting.{new_place}
use Rattle.document_reader.proofs.clients.Clients.add.Goals as goal

pub add-requires : goal.add-requires
add-requires c = new_place c.self.inside.names c.self.inside.drafts.items c.args.self.now c.args.name.now c.self.invariant c.self.view_is c.requires.new
