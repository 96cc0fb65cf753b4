use Rattle.std.proofs.Common.{◌≡◌}
use Rattle.document_reader.proofs.NamePlaces.{added}
use Rattle.document_reader.proofs.names.Names.add.Goals as goal

pub returns-clause-ok : goal.returns-clause-ok
returns-clause-ok c =
    let same : c.in-Ok.key.items ≡ c.args.name.now = c.in-Ok.ensures.items_if_clones_equal (λ x y e. e) in
    added (λ k. k.items) c.self.inside.names.keys c.insert.new.self.keys c.in-Ok.key c.args.self.now c.args.name.now c.in-Ok-insert.ensures.keys same c.self.view_is c.requires
