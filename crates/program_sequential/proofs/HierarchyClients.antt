-- What the clients of a hierarchy have, by the scripts alone.
use Rattle.std.proofs.Common.{◌≡◌, ◌≤◌, ◌<◌, ℕ, List, length, slice_get, Some, refl, sym, ap, ◌∙◌, subst}
use Rattle.law_routing.specs.AsOf.{times_delivered}
use Rattle.law_routing.specs.Order.{IsStrictlyRising, ordinals_delivered}
use Rattle.law_routing.specs.Routing.{Network}
use Rattle.law_routing.specs.Server.{Publication}
use Rattle.law_routing.specs.Owed.{IsPublication}
use Rattle.law_phases.specs.Trees.{PhasedNetLaws}
use Rattle.law_phases.specs.Sequence.{AreByPhase}
use Rattle.law_hierarchy.specs.HierarchyRun.{HierarchyRun, IsInOrder, inbox_of, states, last_state}
use Rattle.hierarchy_turns.specs.Network.{net_of, entry_in, run_of}
use Rattle.hierarchy_turns.specs.Promise.{HierarchyPromise, IsWholeRun}
use Rattle.net_model.specs.Real.{real}
use Rattle.net_model.specs.Parts.{NetParts, EntryParts}
use Rattle.net_model.specs.Meaning.{delivery_of}
use Rattle.net_model.specs.Nets.{phased_net, home_of}
use Rattle.net_model.specs.Lists.{refused_ordinals}
use Rattle.document_reader.specs.Net.{IsNetOf}
use Rattle.output_report.proofs.AsDelivered.{client_delivered, as_delivered}
use Rattle.program_sequential.specs.declared.words.Shown.{Shown}
use Rattle.program_sequential.specs.Hierarchy.{hierarchy_lists, hierarchy_text, hierarchy_trace}
use Rattle.program_sequential.specs.Runs.{IsClient}
use Rattle.program_sequential.specs.Promise.{AreOfNotices, ClientPromise, RefusesByScripts, id_of}
use Rattle.program_sequential.proofs.Inboxes.{times-delivered, ordinals-delivered, client-lives, published-notice}
use Rattle.program_sequential.proofs.Flooded.{flooding-in, flood-printed}
use Rattle.program_sequential.proofs.Hierarchies.{published, to-owed, to-flood-owed, from-allowed, stable-by-scripts}
use Rattle.program_sequential.proofs.Phased.{by-phase-ids}
use Rattle.base.proofs.Sets.{has-map}
use Rattle.std.proofs.lemmas.List.{length-map}

module _ (net : NetParts) (journal : List EntryParts) (whole : IsWholeRun net journal) (notices : AreOfNotices net.clients)
    (p : HierarchyPromise net journal) where
  abbrev run : HierarchyRun real
  run = run_of net p.laws journal p.legal

  -- what is used of the run besides
  abbrev pub EndsAtEnd : Type 0
  EndsAtEnd = states real run (length run.journal) ≡ last_state real run

  abbrev pub DeliversOnce : Type 0
  DeliversOnce = (n server client publisher ordinal : ℕ) → times_delivered real run.net publisher ordinal (((states real run n).state server).inbox client) ≤ 1

  -- the phases of the publications in a client's inbox never fall, in the state of all servers
  abbrev IsByPhaseIn : ℕ → Network real (net_of net) → Type 0
  IsByPhaseIn client z = (one other : Publication real) (place later phase next : ℕ) → place < later
      → slice_get ((z.state (home_of net client)).inbox client) place ≡ Some one
      → slice_get ((z.state (home_of net client)).inbox client) later ≡ Some other
      → IsPublication real (net_of net) one.publisher one.ordinal phase one.notice
      → IsPublication real (net_of net) other.publisher other.ordinal next other.notice → phase ≤ next

  module _ (last : EndsAtEnd) (twice : DeliversOnce) (laws : PhasedNetLaws real (phased_net net)) where
    refuses : RefusesByScripts net (hierarchy_lists net journal)
    refuses = λ client is. ap (refused_ordinals net client) (whole.drained.taken (home_of net client) client (client-lives net client is))

    once : (client publisher ordinal : ℕ) → times_delivered real (net_of net) publisher ordinal (inbox_of real run client) ≤ 1
    once client publisher ordinal =
        subst (λ (z : Network real (net_of net)). times_delivered real (net_of net) publisher ordinal ((z.state (home_of net client)).inbox client) ≤ 1) last
        (twice (length run.journal) (home_of net client) client publisher ordinal)

    in-order : (client publisher : ℕ) → IsStrictlyRising (ordinals_delivered real (net_of net) publisher (inbox_of real run client))
    in-order client publisher =
        subst (λ (z : Network real (net_of net)). IsStrictlyRising (ordinals_delivered real (net_of net) publisher ((z.state (home_of net client)).inbox client)))
        last
        ((subst (IsInOrder real run publisher) (sym (length-map journal (entry_in net))) (p.in_order publisher)).delivered (home_of net client) client)

    by-phase : (client : ℕ) → IsClient net client → AreByPhase real (phased_net net) (inbox_of real run client)
    by-phase client is = λ one other phase next s a b.
        subst (IsByPhaseIn client) last (p.by_phase (length run.journal) (home_of net client) client (client-lives net client is))
        one other s.place s.later phase next s.before s.here s.there
        (published net phase 0 one.publisher one.ordinal phase one.notice a) (published net next 0 other.publisher other.ordinal next other.notice b)

    pub clients-promised : (shown : Shown) (input : List ℕ) → IsNetOf input net
        → ClientPromise shown input (hierarchy_text shown net journal) net (hierarchy_lists net journal) (hierarchy_trace shown.trace net journal)
    clients-promised shown input of = record {
      printed = refl;
      notices = notices;
      refusals = refuses;
      owed_once = λ client publication owed.
          times-delivered (net_of net) (id_of publication) (inbox_of real run client)
          ∙ (p.owed_once publication client (to-owed net p.laws journal p.legal publication client owed)).1;
      due_once = λ publication client due.
          times-delivered (net_of net) (id_of publication) (inbox_of real run client)
          ∙ (p.flood_owed_once publication client (to-flood-owed net p.laws journal p.legal publication client due)).1;
      allowed = λ client d is h.
          let m = has-map delivery_of (inbox_of real run client) d h in
          let a = from-allowed net p.laws journal p.legal m.0 client (p.allowed m.0 client (client-lives net client is) m.1) in record {
            publication = m.0;
            id = subst (λ z. z.id ≡ id_of m.0) (sym m.2) refl;
            allowed = a;
            text = record {
              notice = published-notice net m.0.publisher m.0.ordinal a.0 m.0.notice notices a.1;
              text = subst (λ z. z.bytes ≡ (delivery_of m.0).bytes) (sym m.2) refl;
            };
          };
      never_twice = λ client id.
          subst (λ n. n ≤ 1) (sym (times-delivered (net_of net) id (inbox_of real run client))) (once client id.publisher id.ordinal);
      in_order = λ client publisher.
          subst IsStrictlyRising (sym (ordinals-delivered (net_of net) publisher (inbox_of real run client))) (in-order client publisher);
      by_phase = λ client one other phase next is.
          by-phase-ids (phased_net net) laws (inbox_of real run client) (by-phase client is)
          (λ q has. (let a = from-allowed net p.laws journal p.legal q client (p.allowed q client (client-lives net client is) has) in (a.0, a.1)))
          one other phase next;
      stable = λ text flood place rows at owed.
          client_delivered net flood.rows flood.refused (flooding-in input net text of flood) (inbox_of real run)
          (stable-by-scripts net p.laws journal p.legal p.stable) (net_of net) once place rows at owed;
      all_stable = λ text flood owed.
          flood-printed input net (hierarchy_lists net journal) text of refuses flood
          (λ flooding. as_delivered net flood.rows flood.refused flooding owed (inbox_of real run)
          (stable-by-scripts net p.laws journal p.legal p.stable) (net_of net) once);
    }
