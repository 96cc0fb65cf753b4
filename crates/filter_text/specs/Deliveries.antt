-- What contracts see of a notification that a client receives.
use Rattle.std.specs.Prelude.{ℕ, List}
use Rattle.filter_text.specs.declared.id.Id.{Id}

-- the id of a publication, and the text of its notice
pub record Delivery : Type 0 where
  pub id : Id
  pub bytes : List ℕ
