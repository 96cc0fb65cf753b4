-- The servers of clients are those of each tree.
use Rattle.std.proofs.Common.{◌≡◌, ℕ, zero, suc, Some, sym, subst}
use Rattle.base.specs.Sets.{Has}
use Rattle.base.proofs.Sets.{get-has}
use Rattle.base_tree.specs.Tree.{Topology, IsServer}
use Rattle.net_model.specs.Parts.{ClientParts, NetParts}
use Rattle.net_model.specs.Nets.{client_at, first_tree, topology_at}
use Rattle.net_model.specs.Sound.{IsAmong, IsSound}
use Rattle.net_model.proofs.SoundNets.{count-at}

pub is_server : (net : NetParts) (phase server : ℕ) (tree : Topology) → IsSound net → tree ≡ topology_at net phase
    → IsAmong (first_tree net.trees).count server → IsServer tree server
is_server net phase server tree sound e among =
    subst (λ (t : Topology). IsServer t server) (sym e) (subst (λ n. IsAmong n server) (sym (count-at net sound phase)) among)

client_has : (net : NetParts) (number : ℕ) (client : ClientParts) → client_at net.clients number ≡ Some client → Has client net.clients
client_has net zero client e = absurd cc
client_has net (suc place) client e = get-has net.clients place client e

pub home_among : (net : NetParts) (number : ℕ) (client : ClientParts) → IsSound net → client_at net.clients number ≡ Some client
    → IsAmong (first_tree net.trees).count client.home
home_among net number client sound e = (sound.clients client (client_has net number client e)).home
