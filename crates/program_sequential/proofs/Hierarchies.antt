-- What is owed and allowed in a hierarchy is what is owed and allowed by the scripts, whatever the tree of a phase.
use Rattle.std.proofs.Common.{◌↔◌, ℕ, List}
use Rattle.base.specs.Sets.{Has}
use Rattle.filter_types.specs.Notice.{Attribute}
use Rattle.law_routing.specs.Owed.{IsPublication, IsMomentOfPhase, IsAdvertisedThroughout, IsOwed, IsAllowed}
use Rattle.law_routing.specs.Server.{Publication}
use Rattle.law_phases.specs.Owing.{IsOwedByScripts, IsDueByScripts, IsAllowedByScripts}
use Rattle.net_model.specs.Real.{real}
use Rattle.law_hierarchy.specs.HierarchyRun.{HierarchyRun, IsOwedTo, IsFloodOwedTo, IsAllowedTo, inbox_of}
use Rattle.law_hierarchy.specs.Masters.{HierarchyLaws}
use Rattle.hierarchy_turns.specs.Network.{net_of, run_of, IsLegal}
use Rattle.hierarchy_turns.specs.Promise.{DeliversStably}
use Rattle.net_model.specs.Parts.{NetParts, EntryParts}
use Rattle.net_model.specs.Nets.{phased_net, clients_of, home_of}
use Rattle.output_flood.specs.Flooding.{net_in}

module _ (net : NetParts) (k l : ℕ) where
  pub published : (q o p : ℕ) (n : List Attribute) → IsPublication real (net_in net k) q o p n → IsPublication real (net_in net l) q o p n
  published q o p n h = record {
    index = h.index;
    command = h.command;
    at = h.at;
    publishes = h.publishes;
    ordinal = h.ordinal;
    allowed = h.allowed;
    phase = h.phase;
  }

  moment : (p c j : ℕ) → IsMomentOfPhase real (net_in net k) p c j → IsMomentOfPhase real (net_in net l) p c j
  moment p c j m = record { from = m.from; upto = m.upto }

  moment-back : (p c j : ℕ) → IsMomentOfPhase real (net_in net l) p c j → IsMomentOfPhase real (net_in net k) p c j
  moment-back p c j m = record { from = m.from; upto = m.upto }

  advertised : (q p : ℕ) (n : List Attribute) → IsAdvertisedThroughout real (net_in net k) q p n → IsAdvertisedThroughout real (net_in net l) q p n
  advertised q p n a = record { advert = a.advert; always = λ j m. a.always j (moment-back p q j m); allows = a.allows }

  owed : (q p : ℕ) (n : List Attribute) (c : ℕ) → IsOwed real (net_in net k) q p n c → IsOwed real (net_in net l) q p n c
  owed q p n c o = record {
    filter = o.filter;
    always = λ j m. o.always j (moment-back p c j m);
    matches = o.matches;
    allowed = λ e. advertised q p n (o.allowed e);
  }

  allowed : (p : ℕ) (n : List Attribute) (c : ℕ) → IsAllowed real (net_in net k) p n c → IsAllowed real (net_in net l) p n c
  allowed p n c a = record { index = a.index; moment = moment p c a.index a.moment; filter = a.filter; listed = a.listed; matches = a.matches }

module _ (net : NetParts) (laws : HierarchyLaws real (net_of net)) (journal : List EntryParts) (legal : IsLegal net journal) where
  abbrev run : HierarchyRun real
  run = run_of net laws journal legal

  pub to-owed : (p : Publication real) (client : ℕ) → IsOwedByScripts real (phased_net net) p client → IsOwedTo real run p client
  to-owed p client o = record {
    accepted = record { phase = o.phase; published = published net o.phase 0 p.publisher p.ordinal o.phase p.notice o.published; here = o.here };
    owed = owed net o.phase 0 p.publisher o.phase p.notice client o.owed;
    lives = o.lives;
  }

  -- what is due flooding owes
  pub to-flood-owed : (p : Publication real) (client : ℕ) → IsDueByScripts real (phased_net net) p client → IsFloodOwedTo real run p client
  to-flood-owed p client d = record {
    accepted = record { phase = d.phase; published = published net d.phase 0 p.publisher p.ordinal d.phase p.notice d.published; here = d.here };
    wanted = λ count m. d.due.wanted count (moment-back net d.phase 0 d.phase client count m);
    lives = d.lives;
  }

  pub from-allowed : (p : Publication real) (client : ℕ) → IsAllowedTo real run p client → IsAllowedByScripts real (phased_net net) p client
  from-allowed p client a = (a.0, published net 0 a.0 p.publisher p.ordinal a.0 p.notice a.1, allowed net 0 a.0 a.0 p.notice client a.2)

  to-allowed : (p : Publication real) (client : ℕ) → IsAllowedByScripts real (phased_net net) p client → IsAllowedTo real run p client
  to-allowed p client a = (a.0, published net a.0 0 p.publisher p.ordinal a.0 p.notice a.1, allowed net a.0 0 a.0 p.notice client a.2)

  -- a client to whom all that is allowed is owed has exactly what is allowed
  pub stable-by-scripts : DeliversStably run → (client : ℕ) → Has client (clients_of net (home_of net client))
      → ((p : Publication real) → IsAllowedByScripts real (phased_net net) p client → IsOwedByScripts real (phased_net net) p client)
      → (p : Publication real) → Has p (inbox_of real run client) ↔ IsAllowedByScripts real (phased_net net) p client
  stable-by-scripts stable client lives all p =
      let s = stable client (record { lives = lives; owed = λ q a. to-owed q client (all q (from-allowed q client a)) }) p in
      ((λ h. from-allowed p client (s.0 h)), (λ a. s.1 (to-allowed p client a)))
