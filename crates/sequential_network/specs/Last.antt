-- What lies last on the links of a server, and its texts.
use Rattle.std.specs.Prelude.{◌≡◌, ℕ, List, [], ◌∷◌, ◌++◌, map}
use Rattle.std.specs.List.{flat_map}
use Rattle.base.specs.Sets.{Has}
use Rattle.filter_constraints.specs.Constraint.{ConstraintParts}
use Rattle.filter_text.specs.declared.sent.Sent.{Sent}
use Rattle.filter_text.specs.MessageText.{change_text}
use Rattle.server_spec.specs.Control.{sent_to}
use Rattle.server_message.specs.Parts.{SendingParts}
use Rattle.sequential_network.specs.Links.{StampedMessageParts, waiting_as}

-- on each of these links of a server the message for it lies last
pub record LieLast (messages : ℕ → ℕ → List StampedMessageParts) (server : ℕ) (outs : List ℕ) (sent : List SendingParts) : Type 0 where
  pub stamp : ℕ
  pub receivers : outs ≡ map (λ s. s.to) sent
  pub last : (s : SendingParts) → Has s sent → (before : List StampedMessageParts) × (messages server s.to ≡ before ++ waiting_as stamp s ∷ [])

-- the text of a message on its way to a neighbour
abbrev pub text_of_sending : SendingParts → Sent
text_of_sending s = sent_to s.to s.sent.message

-- the texts of items behind a sign, by their constraints
abbrev pub texts_of : {T : Type 0} → (T → List ConstraintParts) → ℕ → List T → List ℕ
texts_of constraints sign items = flat_map (λ item. change_text sign (constraints item)) items
