-- A table update, as a step of a server of a hierarchy.
use Rattle.std.proofs.Common.{◌≡◌, ℕ, suc, max, ◌^◌, ◌<◌, cond, ◌&&◌, List, [], map, Some, None, refl, sym, ap, subst, ◌∙◌}
use Rattle.std.proofs.lemmas.Option.{same_Some}
use Rattle.base.specs.Sets.{Has}
use Rattle.law_machine.specs.Machine.{Does}
use Rattle.law_routing.specs.Net.{Net}
use Rattle.law_routing.specs.Server.{ServerState, is_among}
use Rattle.law_routing.specs.Step.{TableUpdate, InstallsTable}
use Rattle.law_routing.specs.Step.{effect as peer_effect}
use Rattle.law_routing.proofs.Laws.{cond-some}
use Rattle.net_model.specs.Real.{real}
use Rattle.net_model.specs.Parts.{NetParts}
use Rattle.net_model.specs.Nets.{with_adverts}
use Rattle.server_message.specs.Parts.{onto}
use Rattle.server_spec.specs.Session.{SessionParts}
use Rattle.law_hierarchy.specs.Step.{effect}
use Rattle.server_core.specs.Clients.{bare}
use Rattle.server_core.specs.Ledger.{LedgerParts}
use Rattle.server_core.specs.Core.{core_parts, RepresentsServer}
use Rattle.server_core.specs.Kept.{IsCore}
use Rattle.server_core.proofs.Steps.{flat-none}
use Rattle.server_core.proofs.Made.{update_table-made, update_table-kept}
use Rattle.hierarchy_network.specs.Core.{hierarchy_parts, unsteered, RepresentsHierarchyServer}
use Rattle.hierarchy_network.specs.Step.{IsHierarchyStep, MakesHierarchyStep}
use Rattle.hierarchy_network.specs.CoreKept.{plain, plain_core}
use Rattle.hierarchy_network.proofs.CoreSent.{none-anyway}

module _ (server clock stamp master : ℕ) (old new : LedgerParts) (sessions : List SessionParts) (net-same : new.net ≡ old.net) (control-same : new.control ≡ old.control)
    (all-installed : new.installed ≡ old.control.filters) (none-pending : new.pending ≡ []) where
  update_table-step : (old.pending ≡ [] → ⊥) → stamp ≡ suc (max clock 0) → (net : Net real) (state : ServerState real) → RepresentsHierarchyServer net (hierarchy_parts (core_parts server old (map bare sessions) clock) master) state
      → IsHierarchyStep net state (Does TableUpdate) (hierarchy_parts (core_parts server old (map bare sessions) clock) master) (hierarchy_parts (core_parts server new (map bare sessions) stamp) master) []
  update_table-step some e net state stands =
      let peers = update_table-made server clock stamp old new (map bare sessions) net-same control-same all-installed none-pending some e in
      let s = peers.step (unsteered net) state stands.stands in
      let c = cond-some (is_among server net.servers) state.pending (Some (peer_effect real (unsteered net) server state InstallsTable)) s.outcome s.step in
      let made : s.outcome ≡ peer_effect real (unsteered net) server state InstallsTable = sym (same_Some _ _ c.2) in
      record {
        outcome = effect real net server state InstallsTable;
        step = ap (λ b. cond (b && state.pending) (Some (effect real net server state InstallsTable)) None) c.0 ∙ ap (λ b. cond b (Some (effect real net server state InstallsTable)) None) c.1;
        state_after = record {
          stands = subst (λ z. RepresentsServer (unsteered net) (core_parts server new (map bare sessions) stamp) z.state) made s.state_after;
          refuses = stands.refuses ∙ ap (λ (z : NetParts). with_adverts z.semantics) (sym net-same);
          masters = λ link h. stands.masters link (subst (Has link) (ap (λ z. z.links) control-same) h);
        };
        sent_are = sym (flat-none (λ link. map (onto old.net link) ((effect real net server state InstallsTable).outs link)) old.control.links (λ link m. ap (map (onto old.net link)) (none-anyway (is_among link (net.links server)))));
      }

  pub update_table-up : (old.pending ≡ [] → ⊥) → stamp ≡ suc (max clock 0)
      → MakesHierarchyStep (Does TableUpdate) 0 (hierarchy_parts (core_parts server old (map bare sessions) clock) master) (hierarchy_parts (core_parts server new (map bare sessions) stamp) master) stamp []
  update_table-up some e = record {
    step = update_table-step some e;
    stamp_is = e;
    clock_is = refl;
    same_net = net-same;
    same_server = refl;
    same_links = ap (λ z. z.links) control-same;
    same_master = refl;
  }

pub update_table-up-kept : (server clock stamp : ℕ) (old new : LedgerParts) (sessions : List SessionParts) → new.net ≡ old.net → new.control ≡ old.control → new.installed ≡ old.control.filters → new.pending ≡ []
    → IsCore (plain_core (core_parts server old (map bare sessions) clock)) → stamp < 2 ^ 62 → IsCore (plain_core (core_parts server new (map bare sessions) stamp))
update_table-up-kept server clock stamp old new sessions net-same control-same all-installed none-pending kept low =
    update_table-kept server clock stamp old new (map plain (map bare sessions)) net-same control-same all-installed none-pending kept low
