-- What the walk of a hierarchy leaves, and what is shown of it.
use Rattle.std.proofs.Common.{◌≡◌, ℕ, List, [], ◌++◌, length, Result, Ok, Err, IfOk, sym, ap, ◌∙◌, subst}
use Rattle.std.proofs.lemmas.List.FromFn.{length-map-range_with_len}
use Rattle.net_model.specs.Parts.{NetParts}
use Rattle.net_model.specs.Nets.{of_clients}
use Rattle.hierarchy_turns.specs.Network.{NetworkParts, network_parts, IsLegal, refused_by, received_by}
use Rattle.hierarchy_turns.specs.Walked.{IsWalked}
use Rattle.output_report.specs.Deliveries.{deliveries_text}
use Rattle.net_journal.specs.declared.ran.Ran.{Ran}
use Rattle.program_sequential.specs.declared.words.Shown.{Shown}
use Rattle.program_sequential.specs.Hierarchy.{hierarchy_trace}
use Rattle.program_sequential.specs.HierarchyRan.{IsHierarchyRan, IsHierarchyShown, IsHierarchyWalk}
use Rattle.program_sequential.specs.Showing.{PrintedParts}

-- a network that walked from its start
pub walked-from : (net : NetParts) (old new : NetworkParts) → old ≡ network_parts net [] → IsWalked old new → IsLegal new.net new.journal
    → IsHierarchyWalk net new.journal
walked-from net old new e w legal = go (subst (λ (n : NetworkParts). IsWalked n new) e w)
  where
    go : IsWalked (network_parts net []) new → IsHierarchyWalk net new.journal
    go s = subst (λ (n : NetworkParts). IsHierarchyWalk net n.journal) (sym s.later)
        (record { legal = subst (λ (n : NetworkParts). IsLegal n.net n.journal) s.later legal; drained = s.drained; walk = s.walk })

pub net-from : (net : NetParts) (old new : NetworkParts) → old ≡ network_parts net [] → IsWalked old new → new.net ≡ net
net-from net old new e w = ap (λ (n : NetworkParts). n.net) w.later ∙ ap (λ (n : NetworkParts). n.net) e

-- what such a network leaves
pub ran-from : (net : NetParts) (old new : NetworkParts) (ran : Ran) → old ≡ network_parts net [] → IsWalked old new → IsLegal new.net new.journal
    → ran.journal.entries ≡ new.journal → ran.refused.items ≡ of_clients new.net (refused_by new.net new.journal)
    → ran.received.items ≡ of_clients new.net (received_by new.net new.journal) → IsHierarchyRan net ran
ran-from net old new ran e w legal j refused received =
    let same = net-from net old new e w in record {
      walked = subst (λ l. IsHierarchyWalk net l) (sym j) (walked-from net old new e w legal);
      refused = refused ∙ ap (λ n. of_clients n (refused_by n new.journal)) same ∙ ap (λ l. of_clients net (refused_by net l)) (sym j);
      received = received ∙ ap (λ n. of_clients n (received_by n new.journal)) same ∙ ap (λ l. of_clients net (received_by net l)) (sym j);
    }

-- each client has its lists
pub refused-all : (net : NetParts) (ran : Ran) → IsHierarchyRan net ran → length ran.refused.items ≡ length net.clients
refused-all net ran r = ap length r.refused ∙ length-map-range_with_len (refused_by net ran.journal.entries) 1 (length net.clients)

pub received-all : (net : NetParts) (ran : Ran) → IsHierarchyRan net ran → length ran.received.items ≡ length net.clients
received-all net ran r = ap length r.received ∙ length-map-range_with_len (received_by net ran.journal.entries) 1 (length net.clients)

-- the text of these lists and of the trace
pub shown-of : (shown : Shown) (net : NetParts) (ran : Ran) (trace : List ℕ) (p : PrintedParts) → IsHierarchyRan net ran
    → trace ≡ hierarchy_trace shown.trace net ran.journal.entries
    → p.text ≡ deliveries_text net ran.refused.items ran.received.items shown.sorted ++ trace → p.journal ≡ ran.journal.entries
    → IsHierarchyShown shown net p.text p.journal
shown-of shown net ran trace p r t e j =
    let journal = ran.journal.entries in
    subst (λ l. IsHierarchyShown shown net p.text l) (sym j) (record {
      walked = r.walked;
      printed =
          e ∙ ap (λ l. deliveries_text net l ran.received.items shown.sorted ++ trace) r.refused
          ∙ ap (λ l. deliveries_text net (of_clients net (refused_by net journal)) l shown.sorted ++ trace) r.received
          ∙ ap (λ l. deliveries_text net (of_clients net (refused_by net journal)) (of_clients net (received_by net journal)) shown.sorted ++ l) t;
    })

pub shown-where : {E : Type 0} (shown : Shown) (net : NetParts) (ran : Ran) (trace : List ℕ) (r : Result PrintedParts E) → IsHierarchyRan net ran
    → trace ≡ hierarchy_trace shown.trace net ran.journal.entries
    → IfOk r (λ p. p.text ≡ deliveries_text net ran.refused.items ran.received.items shown.sorted ++ trace) → IfOk r (λ p. p.journal ≡ ran.journal.entries)
    → IfOk r (λ p. IsHierarchyShown shown net p.text p.journal)
shown-where shown net ran trace (Ok p) rr t e j = shown-of shown net ran trace p rr t e j
shown-where shown net ran trace (Err x) rr t e j = tt
