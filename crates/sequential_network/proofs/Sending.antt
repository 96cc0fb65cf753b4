-- What a step puts on each link, as the links have it.
use Rattle.std.proofs.Common.{◌≡◌, ℕ, ◌+◌, Bool, true, false, cond, List, [], ◌∷◌, ◌++◌, length, map, filter, refl, ap, ◌∙◌, arith}
use Rattle.base.specs.Numbers.{IsDistinct}
use Rattle.law_machine.specs.Machine.{stamped}
use Rattle.law_routing.specs.Net.{Net}
use Rattle.law_routing.specs.Server.{Message, is_among}
use Rattle.law_routing.specs.Routing.{routing_machine}
use Rattle.net_model.specs.Real.{real}
use Rattle.server_message.specs.Parts.{onto, sent_by}
use Rattle.net_model.specs.Parts.{NetParts}
use Rattle.server_core.proofs.SentOnLinks.{sent-for}
use Rattle.sequential_network.specs.Links.{StampedMessageParts, waiting_in, waiting_as, messages_to}

-- lists

-- what is on a link are its messages
pub messages-told : (of : NetParts) (outs : ℕ → List (Message real)) (net : Net real) (stamp : ℕ) (links : List ℕ) → IsDistinct links → (b : ℕ)
    → messages_to stamp (sent_by of outs links) b ≡ cond (is_among b links) (map (waiting_in of) (stamped (routing_machine real net) stamp (outs b))) []
messages-told of outs net stamp links apart b = ap (map (waiting_as stamp)) (sent-for of outs links apart b) ∙ go (is_among b links)
  where
    put : (ms : List (Message real)) → map (waiting_as stamp) (map (onto of b) ms) ≡ map (waiting_in of) (stamped (routing_machine real net) stamp ms)
    put [] = refl
    put (m ∷ ms) = ap (λ (z : List StampedMessageParts). waiting_in of (record { stamp = stamp; message = m }) ∷ z) (put ms)

    go : (a : Bool) → map (waiting_as stamp) (cond a (map (onto of b) (outs b)) []) ≡ cond a (map (waiting_in of) (stamped (routing_machine real net) stamp (outs b))) []
    go true = put (outs b)
    go false = refl
