-- A control beside the server of a net that it represents.
use Rattle.std.specs.Prelude.{◌≡◌, ℕ, []}
use Rattle.base.specs.Sets.{Has}
use Rattle.law_routing.specs.Net.{Net}
use Rattle.law_routing.specs.Server.{ServerState, interfaces}
use Rattle.net_model.specs.Real.{real}
use Rattle.server_spec.specs.Control.{Controlled, by_adverts, subs, advs}

-- the control has the semantics and the links of the server, holds from each of its interfaces what the server holds, and nothing from others
pub record RepresentsControl (net : Net real) (server : ℕ) (control : Controlled) (state : ServerState real) : Type 0 where
  pub adverts : net.adverts ≡ by_adverts control.semantics
  pub links : net.links server ≡ control.links
  pub subs_held : (i : ℕ) → Has i (interfaces real net server) → state.subs i ≡ subs control i
  pub advs_held : (i : ℕ) → Has i (interfaces real net server) → state.advs i ≡ advs control i
  pub subs_apart : (i : ℕ) → (Has i (interfaces real net server) → ⊥) → subs control i ≡ []
  pub advs_apart : (i : ℕ) → (Has i (interfaces real net server) → ⊥) → advs control i ≡ []
