-- A cell before its first step keeps what its type says.
use Rattle.std.proofs.Common.{◌≡◌, ℕ, zero, suc, ◌≤◌, ◌==◌, cond, Bool, true, false, List, [], ◌∷◌, length, map, take, drop, refl, sym, ap, subst, ◌∙◌, arith}
use Rattle.base.specs.Sets.{Has}
use Rattle.base_tree.specs.Tree.{links_of}
use Rattle.law_machine.specs.Journals.{Cell, IsReplay, opening_cells}
use Rattle.law_routing.specs.Net.{Net}
use Rattle.law_routing.specs.Routing.{empty_server}
use Rattle.law_phases.specs.Trees.{net_at, entries_on}
use Rattle.net_model.specs.Real.{real}
use Rattle.thread_lane.specs.Lane.{put_list, taken_list}
use Rattle.server_message.specs.declared.stamped.StampedLoad.{StampedLoad}
use Rattle.net_model.specs.Parts.{NetParts, EntryParts}
use Rattle.net_model.specs.Meaning.{journal_of}
use Rattle.net_model.specs.Nets.{phased_net, topology_at}
use Rattle.net_model.specs.Sound.{IsSound}
use Rattle.server_core.specs.Core.{CoreParts, RepresentsServer, installed_from}
use Rattle.thread_versions.specs.declared.publisher.Publisher.{Publisher}
use Rattle.thread_versions.specs.Pairs.{pairs_after}
use Rattle.thread_versions.proofs.Pairs.{none_after}
use Rattle.thread_versions.specs.Ends.{pending, installed, forwarding_of, IsViewerOf}
use Rattle.thread_cell.specs.declared.held.ServerInHand.{ServerInHand}
use Rattle.thread_cell.specs.declared.held.Root.{Root}
use Rattle.thread_cell.specs.declared.link.Link.{Link}
use Rattle.filter_text.specs.MessageText.{Each}
use Rattle.thread_cell.specs.Links.{Both, IsSameLink}
use Rattle.thread_cell.specs.LaneMessages.{put_for, taken_from, represented_put, represented_received}
use Rattle.thread_cell.specs.Lanes.{IsNew}
use Rattle.thread_cell.specs.Kept.{AreOf, IsWideFor}
use Rattle.thread_cell.specs.Heard.{heard_stamped}
use Rattle.thread_cell.specs.Cell.{RepresentsCell, IsKept, IsDue, IsInstalledBy, machine_in, count_before}
use Rattle.thread_cell.proofs.HandAll.{names}
use Rattle.thread_cell.proofs.Entering.{all-same}
use Rattle.server_core.proofs.KeepsInstalled.{by-interface-of}
use Rattle.thread_cell.proofs.Due.{due-sessions}
use Rattle.net_model.proofs.TreesByPhase.{links_at}

pub new-put : (net : NetParts) (links : List Link) → Each IsNew links → (n : ℕ) → put_for net links n ≡ []
new-put net [] e n = refl
new-put net (x ∷ links) e n = go (x.neighbour == n) e.0.put (new-put net links e.1 n)
  where
    go : (b : Bool) → put_list x.enter ≡ [] → put_for net links n ≡ [] → cond b (represented_put net x) (put_for net links n) ≡ []
    go true p q = ap (map (heard_stamped net)) p
    go false p q = q

pub new-taken : (net : NetParts) (links : List Link) → Each IsNew links → (n : ℕ) → taken_from net links n ≡ []
new-taken net [] e n = refl
new-taken net (x ∷ links) e n = go (x.neighbour == n) e.0.taken (new-taken net links e.1 n)
  where
    go : (b : Bool) → taken_list x.leave ≡ [] → taken_from net links n ≡ [] → cond b (represented_received net x) (taken_from net links n) ≡ []
    go true p q = ap (map (heard_stamped net)) p
    go false p q = q

pub new-few : (clock : ℕ) (links : List Link) → Each IsNew links → Each (λ link. length (put_list link.enter) ≤ clock) links
new-few clock [] e = tt
new-few clock (x ∷ links) e = ((let n = ap (λ (l : List StampedLoad). length l) e.0.put in omega (arith, n)), new-few clock links e.1)

drop-none : {T : Type 0} (n : ℕ) → drop {A = T} n [] ≡ []
drop-none zero = refl
drop-none (suc n) = refl

module _ (net : NetParts) (core : CoreParts) (links : List Link) (stands : RepresentsServer (net_at real (phased_net net) 0) core (empty_server real (net_at real (phased_net net) 0))) (clock : core.clock ≡ 0) (new : Each IsNew links) where
  abbrev here : Net real
  here = net_at real (phased_net net) 0

  abbrev pub opening-cell : (server : ℕ) → Cell (machine_in net 0)
  opening-cell server = opening_cells (machine_in net 0) (λ server. empty_server real here) server

  pub opening-stands : (server : ℕ) → RepresentsCell net 0 core links (opening-cell server)
  opening-stands server = record {
    state = stands;
    clock = clock;
    put = λ link. new-put net links new link;
    took = λ link. new-taken net links new link;
  }

  nothing-installed : (i : ℕ) → installed_from core i ≡ []
  nothing-installed = by-interface-of here core (λ i. installed_from core i ≡ []) (λ i h. sym (stands.installed i h)) (λ i n. stands.installed_apart i n)

  shown : (publisher : Publisher) → installed publisher ≡ [] → IsWideFor core (forwarding_of publisher) → IsInstalledBy publisher core
  shown publisher e wide = record {
    wide = wide;
    pairs = subst (λ l. AreOf core l) (sym (ap pairs_after e ∙ none_after)) (record {
      pairs_are = λ i k x at. (λ h. absurd h, λ m. absurd (subst (Has x) (nothing-installed i) m));
      known = λ i f m. absurd (subst (Has f) (nothing-installed i) m);
    });
  }

  due : IsDue 0 core.clients
  due = due-sessions here core (empty_server real here) stands 0 (record {
    left = λ client c h e. omega arith;
    taken = λ client k c h lt e. absurd (omega (arith, lt));
  })

  pub kept-fresh : (root : Root) (held : ServerInHand) (journal : List EntryParts) → IsSound net → root.net.value ≡ net → core.net ≡ net → IsWideFor core (forwarding_of held.publisher) → core.server ≡ root.server → root.phase ≡ 0 → root.before.value.entries ≡ [] → root.core.value ≡ core → root.links.value.items ≡ links
      → held.core ≡ core → held.links.items ≡ links → pending held.publisher ≡ [] → installed held.publisher ≡ [] → held.handed.items ≡ [] → IsViewerOf held.publisher root.viewer.value → names links ≡ links_of (topology_at net 0) root.server → journal ≡ [] → IsKept net root journal held
  kept-fresh root held journal sound net_is run wide server phase before core_is links_is core_held links_held none-pending none-installed none-handed viewer named none = record {
    net_is = net_is;
    sound = sound;
    run = ap (λ (c : CoreParts). c.net) core_held ∙ run;
    number = ap (λ (c : CoreParts). c.server) core_held ∙ server;
    begins = subst (λ p. (begun : Cell (machine_in net p)) × RepresentsCell net p root.core.value root.links.value.items begun) (sym phase)
        (opening-cell root.server, subst (λ c. RepresentsCell net 0 c root.links.value.items (opening-cell root.server)) (sym core_is) (subst (λ l. RepresentsCell net 0 core l (opening-cell root.server)) (sym links_is) (opening-stands root.server)));
    replays = λ begun is. record {
      end = begun;
      replay = replay begun;
      stands = subst (λ c. RepresentsCell net root.phase c held.links.items begun) (core_is ∙ sym core_held) (subst (λ l. RepresentsCell net root.phase root.core.value l begun) (links_is ∙ sym links_held) is);
    };
    entries = (let e = entries in omega (arith, e));
    before = ap (λ n. take n journal) entries ∙ sym before;
    links = subst (λ l. Both IsSameLink l held.links.items) (links_held ∙ sym links_is) (all-same held.links.items);
    publisher = viewer;
    now = record {
      low = (let c = ap (λ (c : CoreParts). c.clock) core_held in omega (arith, c, clock));
      neighbours = ap (λ l. names l) links_held ∙ named ∙ sym (links_at net 0 root.server) ∙ ap here.links (sym server) ∙ stands.control.links ∙ ap (λ (c : CoreParts). c.control.links) (sym core_held);
      few = subst (λ l. Each (λ link. length (put_list link.enter) ≤ held.core.clock) l) (sym links_held) (new-few held.core.clock links new);
      shown = subst (λ (c : CoreParts). IsInstalledBy held.publisher c) (sym core_held) (shown held.publisher none-installed wide);
      handed = none-pending ∙ rw (none-installed, none-handed) refl;
    };
    due = subst (λ p. IsDue p held.core.clients) (sym phase) (subst (λ (c : CoreParts). IsDue 0 c.clients) (sym core_held) due);
  }
    where
      entries : count_before root ≡ 0
      entries = ap length before

      replay : (begun : Cell (machine_in net root.phase)) → IsReplay (machine_in net root.phase) root.phase root.server begun (entries_on real (net_at real (phased_net net) root.phase) (journal_of (drop (count_before root) journal))) begun
      replay begun = subst (λ l. IsReplay (machine_in net root.phase) root.phase root.server begun (entries_on real (net_at real (phased_net net) root.phase) (journal_of l)) begun) (sym (ap (drop (count_before root)) none ∙ drop-none (count_before root))) refl
