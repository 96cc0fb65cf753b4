use Rattle.std.proofs.Common.{◌≡◌, ◌≤◌, length, refl, sym, ap, ◌∙◌, subst}
use Rattle.law_routing.specs.Order.{IsStrictlyRising}
use Rattle.law_phases.specs.AtMoments.{net_then, inbox_of}
use Rattle.net_model.specs.Real.{real}
use Rattle.net_model.specs.Meaning.{delivery_of}
use Rattle.net_model.specs.Nets.{home_of, clients_in}
use Rattle.net_model.specs.Lists.{refused_ordinals}
use Rattle.program_sequential.specs.Promise.{RefusesByScripts, id_of}
use Rattle.program_sequential.specs.Network.{lists_by, run_of}
use Rattle.program_sequential.proofs.Inboxes.{times-delivered, ordinals-delivered, client-lives, published-notice}
use Rattle.program_sequential.proofs.Flooded.{flooding-in, flood-printed}
use Rattle.net_model.proofs.ClientsInNet.{are-clients}
use Rattle.program_sequential.proofs.Settled.{settled-to}
use Rattle.program_sequential.proofs.Phased.{by-phase-ids}
use Rattle.program_sequential.proofs.law.lemma_promise.Goals as goal
use Rattle.base.proofs.Sets.{has-map}

pub returns-clause-clients : goal.returns-clause-clients
returns-clause-clients c = λ shown input net journal of whole.
    let run = run_of net (c.lemma_lawful_net.ensures.laws net whole.sound) journal whole.legal in
    let all : RefusesByScripts net (lists_by net journal) = λ client is. ap (refused_ordinals net client) (whole.drained.taken (home_of net client) client (client-lives net client is)) in
    record {
      printed = refl;
      notices = whole.notices;
      refusals = all;
      owed_once = λ client publication owed.
          times-delivered (net_then real run (length run.journal)) (id_of publication) (inbox_of real run client)
          ∙ (c.owed_once.ensures run whole.drained publication client owed).1;
      due_once = λ publication client due.
          times-delivered (net_then real run (length run.journal)) (id_of publication) (inbox_of real run client)
          ∙ (c.due_once.ensures run whole.drained publication client due).1;
      allowed = λ client d is h.
          let m = has-map delivery_of (inbox_of real run client) d h in
          let a = c.delivered_allowed.ensures run (length run.journal) (home_of net client) client m.0 (client-lives net client is) m.1 in record {
            publication = m.0;
            id = subst (λ z. z.id ≡ id_of m.0) (sym m.2) refl;
            allowed = a;
            text = record {
              notice = published-notice net m.0.publisher m.0.ordinal a.0 m.0.notice whole.notices a.1;
              text = subst (λ z. z.bytes ≡ (delivery_of m.0).bytes) (sym m.2) refl;
            };
          };
      never_twice = λ client id.
          subst (λ n. n ≤ 1) (sym (times-delivered (net_then real run (length run.journal)) id (inbox_of real run client)))
          (c.never_twice.ensures run (length run.journal) (home_of net client) client id.publisher id.ordinal);
      in_order = λ client publisher.
          subst IsStrictlyRising (sym (ordinals-delivered (net_then real run (length run.journal)) publisher (inbox_of real run client)))
          (c.delivered_in_order.ensures run (length run.journal) publisher (home_of net client) client);
      by_phase = λ client one other phase next is.
          by-phase-ids run.net run.laws (inbox_of real run client) (c.delivered_by_phase.ensures run (length run.journal) (home_of net client) client)
          (λ p has. (let a = c.delivered_allowed.ensures run (length run.journal) (home_of net client) client p (client-lives net client is) has in (a.0, a.1)))
          one other phase next;
      stable = λ text flood place rows at owed.
          c.flood_as_delivered.ensures.client net whole.sound flood.rows flood.refused (flooding-in input net text of flood) run refl whole.drained place rows at owed;
      all_stable = λ text flood owed.
          flood-printed input net (lists_by net journal) text of all flood
          (λ flooding. c.flood_as_delivered.ensures.whole net whole.sound flood.rows flood.refused flooding owed run refl whole.drained);
    }

pub returns-clause-run : goal.returns-clause-run
returns-clause-run c = λ shown net journal whole.
    let laws = c.lemma_lawful_net.ensures.laws net whole.sound in
    let run = run_of net laws journal whole.legal in record {
      laws = laws;
      legal = whole.legal;
      drained = whole.drained;
      gives = refl;
      traced = refl;
      carries_wanted = c.pruning.ensures run;
      settled_once = λ publication client settled.
          times-delivered (net_then real run (length run.journal)) (id_of publication) (inbox_of real run client)
          ∙ (c.settled_delivery.ensures run publication client (settled-to run whole.drained publication client settled)).1;
      settled_by = c.settled_by.ensures run;
      causal = c.causal_order.ensures.knowing run;
      never_more = c.economy.ensures.never_more run (clients_in net) (are-clients net);
      as_many = c.economy.ensures.as_many run whole.drained (clients_in net) (are-clients net);
      in_force = c.in_force.ensures run;
      sends_roots = c.holds_roots.ensures run;
      bounded = c.bounded.ensures run;
    }

pub returns-clause-network : goal.returns-clause-network
returns-clause-network c = λ schedule shown net journal whole goes. record { goes_by = goes; run = returns-clause-run c shown net journal whole }
