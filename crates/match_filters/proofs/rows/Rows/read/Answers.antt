use Rattle.std.proofs.Common.{◌∙◌, ◌++◌, ◌∷◌, [], ap}
use Rattle.match_filters.proofs.RowLaws.{read-more}
use Rattle.match_filters.proofs.rows.Rows.read.Goals as goal

pub returns : goal.returns
returns c = record {
  row = c.read.new.row;
  more = read-more c.make_room.new.list.items c.self.inside.used c.read.new.row c.in_ok-make_room.ensures.room ∙ ap (λ rows. rows ++ c.read.new.row ∷ []) (c.in_ok-make_room.ensures.same ∙ c.self.view_is);
  long = c.in_ok-read.ensures.long;
  bits = c.in_ok-read.ensures.bits;
}
