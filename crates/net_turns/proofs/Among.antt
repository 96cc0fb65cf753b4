-- Members of lists and at their places, and servers of a net's trees.
use Rattle.std.proofs.Common.{◌≡◌, ◌↔◌, ℕ, zero, suc, ◌<◌, ◌≤◌, ◌==◌, ◌||◌, nat_le, cond, Bool, true, false, List, [], ◌∷◌, length, slice_get, slice_index_or, Some, inl, inr, refl, sym, ap, ◌∙◌, arith, eq-eqb, IsTrue}
use Rattle.std.specs.List.{list_any}
use Rattle.base.specs.Sets.{Has}
use Rattle.base_tree.specs.Tree.{servers_of}
use Rattle.base_tree.proofs.Servers.{server-in, in-server}
use Rattle.net_model.specs.Parts.{NetParts}
use Rattle.net_model.specs.Nets.{first_tree}

-- a server of the net
pub server_low : (net : NetParts) (server : ℕ) → Has server (servers_of (first_tree net.trees)) → (1 ≤ server) × (server ≤ (first_tree net.trees).count)
server_low net server h = server-in (first_tree net.trees).count server h

pub low_server : (net : NetParts) (server : ℕ) → (1 ≤ server) × (server ≤ (first_tree net.trees).count) → Has server (servers_of (first_tree net.trees))
low_server net server l = in-server (first_tree net.trees).count server l
