-- What was delivered to a hierarchy's clients lies at their homes.
use Rattle.std.proofs.Common.{ℕ, suc, ◌-◌, ap, ◌∙◌, arith}
use Rattle.net_model.specs.Parts.{NetParts}
use Rattle.net_model.specs.Meaning.{deliveries_of}
use Rattle.net_model.specs.Nets.{home_of}
use Rattle.hierarchy_network.specs.Core.{HierarchyParts}
use Rattle.hierarchy_turns.specs.Network.{moment_by, received_by}
use Rattle.sequential_network.specs.Acted.{Servers}
use Rattle.sequential_network.specs.Inboxes.{HaveInboxes}
use Rattle.hierarchy_network.specs.Kept.{IsNetwork}
use Rattle.hierarchy_network.specs.Stepping.{hierarchy}
use Rattle.hierarchy_network.proofs.Commanding.{lives_there, home_place}

-- nothing is handed on of a network
pub have_all : (net : NetParts) (phase : ℕ) (now : Servers HierarchyParts) → IsNetwork net phase now → HaveInboxes hierarchy net (received_by net now.journal) 0 now.cores
have_all net phase now kept = record {
  all = kept.cores.all;
  nets = λ client parts l m at. kept.cores.nets (home_of net client - 1) parts at;
  lives = λ client parts l m at. lives_there net kept.sound (moment_by net now.journal).network now.cores kept.cores client (omega (arith, l), m) parts at;
  inbox = λ client parts s l m at h e.
      (kept.cores.states (home_of net client - 1) parts at).stands.inboxes s h
      ∙ ap (λ z. deliveries_of (((moment_by net now.journal).network.state (suc (home_of net client - 1))).inbox z)) e
      ∙ ap (λ z. deliveries_of (((moment_by net now.journal).network.state z).inbox client)) (home_place net kept.sound (moment_by net now.journal).network now.cores kept.cores client);
}
