-- Proves that the place of a client that is found is one of the list.
use Rattle.std.proofs.Common.{◌≡◌, ◌<◌, ℕ, List, [], length, Some}
use Rattle.std.specs.List.{position}
use Rattle.std.proofs.lemmas.List.Quantifiers.{position-Some}
use Rattle.net_model.specs.Parts.{ClientParts, client_parts}
use Rattle.audit_claim.specs.Trace.{lives_as}

pub place_within : (server : ℕ) (name : List ℕ) (clients : List ClientParts) (place : ℕ) → position (lives_as server name) clients ≡ Some place → place < length clients
place_within server name clients place e = (position-Some (lives_as server name) clients place (client_parts [] 0 0 []) e).0
