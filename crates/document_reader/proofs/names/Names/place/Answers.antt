use Rattle.std.proofs.Common.{ap, ◌∙◌}
use Rattle.std.specs.Str.{bytes_eq}
use Rattle.document_reader.specs.Drafts.{name_place}
use Rattle.document_reader.proofs.NamePlaces.{position-map}
use Rattle.document_reader.proofs.names.Names.place.Goals as goal

pub returns : goal.returns
returns c = (c.get_index_of.ensures.index ∙ position-map (bytes_eq c.args.name.now) (λ k. k.items) c.self.inside.names.keys) ∙ ap (λ ns. name_place ns c.args.name.now) c.self.view_is
