-- A core at rest: nothing is pending, and all that it holds is installed.
use Rattle.std.proofs.Common.{◌≡◌, ℕ, ◌+◌, Bool, true, false, List, [], ◌∷◌, map, refl, sym, ◌∙◌}
use Rattle.base.specs.Sets.{Has}
use Rattle.law_routing.specs.Net.{Net}
use Rattle.law_routing.specs.Server.{is_among, interfaces}
use Rattle.law_routing.proofs.Listing.{has-one}
use Rattle.law_phases.specs.Trees.{State, net_at, IsAtRestOn}
use Rattle.net_model.specs.Real.{real}
use Rattle.net_model.specs.Parts.{NetParts}
use Rattle.net_model.specs.Nets.{phased_net, clients_of}
use Rattle.net_model.specs.Sound.{IsSound}
use Rattle.match_routes.specs.declared.table_change.TableChange.{TableChange}
use Rattle.server_spec.specs.Control.{subs}
use Rattle.server_core.specs.Ledger.{LedgerParts}
use Rattle.server_core.specs.Core.{CoreParts, RepresentsServer, installed_from}
use Rattle.server_core.specs.Pending.{is_some_there}
use Rattle.server_core.specs.Linked.{SuitsCore}
use Rattle.sequential_network.specs.Begin.{FitsCore}
use Rattle.law_routing.proofs.Laws.{one-has}
use Rattle.std.proofs.lemmas.Bool.{false≢true}

-- the interfaces of a server's clients
abbrev pub client_interfaces : NetParts → ℕ → List ℕ
client_interfaces net server = map (λ c. 64 + c) (clients_of net server)

module _ (net : NetParts) (sound : IsSound net) where
  -- a core at rest
  module _ (last : ℕ) (state : State real) (rest : IsAtRestOn real (phased_net net) last state) (core : CoreParts) (is : RepresentsServer (net_at real (phased_net net) last) core (state.state core.server)) where
    abbrev n : Net real
    n = net_at real (phased_net net) last

    no-change : (xs : List TableChange) → is_some_there xs ≡ false → xs ≡ []
    no-change [] e = refl
    no-change (x ∷ xs) e = absurd (false≢true (sym e))

    pub all-installed : (i : ℕ) → installed_from core i ≡ subs core.control i
    all-installed i = go (is_among i (interfaces real n core.server)) refl
      where
        go : (b : Bool) → is_among i (interfaces real n core.server) ≡ b → installed_from core i ≡ subs core.control i
        go true e = let m = one-has i (interfaces real n core.server) e in sym (is.installed i m) ∙ rest.installed core.server i ∙ is.control.subs_held i m
        go false e =
            let none : Has i (interfaces real n core.server) → ⊥ = λ k. false≢true (sym e ∙ has-one i (interfaces real n core.server) k) in
            is.installed_apart i none ∙ sym (is.control.subs_apart i none)

    pub fits : (ledger : LedgerParts) → SuitsCore core ledger → FitsCore core ledger
    fits ledger suits = record { suits = suits; pending = no-change core.pending (sym is.pending ∙ rest.none_pending core.server); installed = all-installed }
