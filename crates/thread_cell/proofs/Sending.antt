-- What a step sends to each neighbour, as a link says it.
use Rattle.std.proofs.Common.{◌≡◌, ℕ, Bool, true, false, cond, List, [], ◌∷◌, map, refl, ap, ◌∙◌}
use Rattle.base.specs.Numbers.{IsDistinct}
use Rattle.law_machine.specs.Machine.{stamped}
use Rattle.law_routing.specs.Net.{Net}
use Rattle.law_routing.specs.Server.{Message, is_among}
use Rattle.law_routing.specs.Routing.{routing_machine}
use Rattle.net_model.specs.Real.{real}
use Rattle.server_message.specs.Parts.{onto, sent_by}
use Rattle.net_model.specs.Parts.{NetParts}
use Rattle.server_core.proofs.SentOnLinks.{sent-for}
use Rattle.thread_cell.specs.Acted.{Represented}
use Rattle.thread_cell.specs.LaneMessages.{sent_as, all_sent_as, only_for}

-- what is sent to a neighbour are its messages
pub messages-told : (of : NetParts) (outs : ℕ → List (Message real)) (net : Net real) (stamp : ℕ) (links : List ℕ) → IsDistinct links → (b : ℕ)
    → all_sent_as stamp (only_for b (sent_by of outs links)) ≡ cond (is_among b links) (stamped (routing_machine real net) stamp (outs b)) []
messages-told of outs net stamp links apart b = ap (map (sent_as stamp)) (sent-for of outs links apart b) ∙ go (is_among b links)
  where
    put : (ms : List (Message real)) → map (sent_as stamp) (map (onto of b) ms) ≡ stamped (routing_machine real net) stamp ms
    put [] = refl
    put (m ∷ ms) = ap (λ (z : List Represented). record { stamp = stamp; message = m } ∷ z) (put ms)

    go : (a : Bool) → map (sent_as stamp) (cond a (map (onto of b) (outs b)) []) ≡ cond a (stamped (routing_machine real net) stamp (outs b)) []
    go true = put (outs b)
    go false = refl
