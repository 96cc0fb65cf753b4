-- What the core of a server of a hierarchy keeps through a step.
use Rattle.std.proofs.Common.{◌≡◌, ℕ, ◌+◌, List, map, sym, ap, ap₂, subst, ◌∙◌}
use Rattle.std.specs.List.Sorted.{IsStrictlyIncreasing}
use Rattle.base.specs.Sets.{Has}
use Rattle.filter_text.specs.declared.semantics.Semantics.{Semantics}
use Rattle.filter_text.specs.declared.semantics.Semantics.TheVariants.{Subscription, Advertisement}
use Rattle.net_model.specs.Parts.{NetParts}
use Rattle.server_message.specs.Parts.{SendingParts}
use Rattle.server_session.specs.declared.planned.Planned as numbers
use Rattle.server_session.specs.declared.planned.Planned.TheVariants as plans_by
use Rattle.server_session.specs.declared.planned.Moved.{Moved}
use Rattle.server_spec.specs.Session.{SessionParts}
use Rattle.server_core.specs.Clients.{bare, client_numbers}
use Rattle.server_core.specs.Ledger.{LedgerParts}
use Rattle.server_core.specs.Acting.{HasChanged, HasOffered}
use Rattle.server_core.specs.Core.{core_parts}
use Rattle.server_core.specs.Kept.{IsCore}
use Rattle.server_core.specs.Linked.{interfaces_on}
use Rattle.server_core.proofs.Commands.{numbers-bare}
use Rattle.hierarchy_network.specs.CoreKept.{plain, IsHierarchyKept}
use Rattle.hierarchy_network.proofs.Plain.{plain-bare, AllOf}
use Rattle.base.proofs.Sets.{has-map, map-has}

-- of what is kept, what the steps ask
pub plainly-kept : (server clock : ℕ) (ledger : LedgerParts) (sessions : List SessionParts) (interfaces : List ℕ) (net : NetParts)
    → IsHierarchyKept interfaces net (core_parts server ledger (map bare sessions) clock) → IsCore (core_parts server ledger (map bare (map plain sessions)) clock)
plainly-kept server clock ledger sessions interfaces net kept = subst (λ z. IsCore (core_parts server ledger z clock)) (sym (plain-bare sessions)) kept.kept

pub mid-kept : (server clock : ℕ) (ledger : LedgerParts) (before mid : List SessionParts) (interfaces : List ℕ) (net : NetParts)
    → IsHierarchyKept interfaces net (core_parts server ledger (map bare before) clock) → map bare mid ≡ map bare before → IsCore (core_parts server ledger (map bare (map plain mid)) clock)
mid-kept server clock ledger before mid interfaces net kept same =
    subst (λ z. IsCore (core_parts server ledger z clock)) (ap (map plain) (sym same) ∙ sym (plain-bare mid)) kept.kept

pub mid-rises : (before mid : List SessionParts) → map bare mid ≡ map bare before → IsStrictlyIncreasing (client_numbers before) → IsStrictlyIncreasing (client_numbers mid)
mid-rises before mid same rises = subst IsStrictlyIncreasing (sym (numbers-bare before) ∙ (ap client_numbers (sym same) ∙ numbers-bare mid)) rises

pub keeps : (server clock stamp : ℕ) (old new : LedgerParts) (before after : List SessionParts) (net net_after : NetParts) → IsHierarchyKept old.interfaces net (core_parts server old (map bare before) clock)
    → IsCore (core_parts server new (map bare (map plain after)) stamp) → AllOf old.net.semantics (map bare after) → new.interfaces ≡ old.interfaces → new.net ≡ old.net → net_after ≡ net
    → new.control.semantics ≡ old.control.semantics → new.control.links ≡ old.control.links → client_numbers (map bare after) ≡ client_numbers (map bare before)
    → IsHierarchyKept new.interfaces net_after (core_parts server new (map bare after) stamp)
keeps server clock stamp old new before after net net_after was kept all same nets of semantics links numbers = record {
  kept = subst (λ z. IsCore (core_parts server new z stamp)) (plain-bare after) kept;
  plainly = semantics ∙ was.plainly;
  sessions = λ s h. all s h ∙ ap (λ (z : NetParts). z.semantics) (sym nets);
  of_net = of ∙ (was.of_net ∙ sym nets);
  whole = same ∙ (was.whole ∙ ap₂ (λ ls ns. interfaces_on ls ns) (sym links) (sym numbers));
  linked = λ l h. subst (Has l) (sym same) (was.linked l (subst (Has l) links h));
  reached = λ s h.
      let r = has-map (λ (t : SessionParts). t.client) (map bare before) s.client (subst (Has s.client) numbers (map-has (λ (t : SessionParts). t.client) (map bare after) s h)) in
      subst (λ z. Has (64 + z) new.interfaces) (sym r.2) (subst (Has (64 + r.0.client)) (sym same) (was.reached r.0 r.1));
}

-- a change by a plan installs nothing
offered-installed : (semantics : Semantics) (i : ℕ) (moved : Moved) (old new : LedgerParts) (sent : List SendingParts) → HasOffered semantics i moved old new sent → new.installed ≡ old.installed
offered-installed Subscription i moved old new sent h = ap (λ z. z.installed) h.0
offered-installed Advertisement i moved old new sent h = h.installed

pub changed-installed : (i : ℕ) (q : numbers.Planned) (old new : LedgerParts) (sent : List SendingParts) → HasChanged i q old new sent → new.installed ≡ old.installed
changed-installed i (plans_by.Filters moved) old new sent h = h.installed
changed-installed i (plans_by.Adverts moved) old new sent h = offered-installed old.control.semantics i moved old new sent h
changed-installed i (plans_by.Publish id number) old new sent h = absurd h
changed-installed i (plans_by.Refused o) old new sent h = ap (λ z. z.installed) h.0
