-- Standings that cores take on: what they lead to, and what they take back.
use Rattle.std.proofs.Common.{◌≡◌, ℕ, suc, ◌<◌, ◌^◌, Bool, true, false, cond, eqb-true, List, map, length, Option, Some, None, slice_get, refl, sym, ap, subst, ◌∙◌, arith}
use Rattle.base.specs.Sets.{Has}
use Rattle.base_tree.specs.Tree.{links_of}
use Rattle.law_machine.specs.Runs.{greatest}
use Rattle.law_routing.specs.Net.{Net}
use Rattle.law_phases.specs.Trees.{State, net_at, machine_at, trees_by, is_one_tree, IsAtRestOn}
use Rattle.law_phases.specs.Moments.{begun, with_clocks_raised, with_tree_changed}
use Rattle.law_phases.proofs.Nets.{net-one}
use Rattle.net_model.specs.Real.{real}
use Rattle.net_model.specs.Parts.{NetParts}
use Rattle.net_model.specs.Nets.{phased_net, servers_in, topology_at}
use Rattle.net_model.specs.Sound.{IsSound}
use Rattle.server_spec.specs.declared.control.HeldLink.{HeldLink}
use Rattle.server_spec.specs.Control.{subs}
use Rattle.server_core.specs.Ledger.{LedgerParts}
use Rattle.server_spec.specs.declared.home.Home.{Home}
use Rattle.server_spec.specs.Flow.{IsFlow}
use Rattle.server_spec.proofs.Nets.{net-on}
use Rattle.server_core.specs.Core.{CoreParts, RepresentsServer, installed_from}
use Rattle.server_core.specs.Linked.{IsOnLinks, ledger_of}
use Rattle.sequential_network.specs.Kept.{AreServers}
use Rattle.sequential_network.specs.declared.relinking.Standing.{Standing}
use Rattle.sequential_network.specs.Stepping.{greatest_clock, peers}
use Rattle.sequential_network.specs.Begin.{FitsWhere, CanTake, IsGivenLedger, given_back, IsExchanged, CanAllTake, AreExchanged, Begins, IsCoreKept, IsUndone, IsUndoneBy, IsOnOtherLinks}
use Rattle.server_core.proofs.TreeChanged.{AreUnions, client_filters, client_adverts, server-moved}
use Rattle.sequential_network.proofs.Beginning.{also, other-clock, its-state, all-fit, clock-is}
use Rattle.base.proofs.Lists.{get-one}

-- one core

-- its server stays
given-server : (links : Option LedgerParts) (old new : CoreParts) → IsGivenLedger links old new → new.server ≡ old.server
given-server None old new g = ap (λ (z : CoreParts). z.server) g
given-server (Some ledger) old new g = g.server

given-net : (links : Option LedgerParts) (old new : CoreParts) → IsGivenLedger links old new → new.net ≡ old.net
given-net None old new g = ap (λ (z : CoreParts). z.net) g
given-net (Some ledger) old new g = g.net

-- what was taken on by a core takes it back
pub undone : (standing left : Standing) (old new : CoreParts) → CanTake standing old → IsExchanged standing old left new → IsUndone left old new
undone standing left old new can x = record { can = x.can; clock = x.clock_back; kept = subst (λ z. IsCoreKept z old new) (sym x.back) (go standing.links can.fits x.given) }
  where
    go : (links : Option LedgerParts) → FitsWhere old links → IsGivenLedger links old new → IsCoreKept (given_back links (ledger_of old)) old new
    go None f g = g
    go (Some ledger) f g = (refl, f.pending, f.installed, g.net, g.server, g.clients)

-- a core that is as another in all that a server's state speaks of
pub record IsAlike (old new : CoreParts) : Type 0 where
  pub net : new.net ≡ old.net
  pub server : new.server ≡ old.server
  pub control : new.control ≡ old.control
  pub installed : (i : ℕ) → installed_from new i ≡ installed_from old i
  pub pending : new.pending ≡ old.pending
  pub clients : new.clients ≡ old.clients
  pub clock : new.clock ≡ old.clock

alike-state : (n : Net real) (old new : CoreParts) {state : _} → IsAlike old new → RepresentsServer n old state → RepresentsServer n new state
alike-state n old new {state} a is = subst (λ z. RepresentsServer n z state) (sym same) moved
  where
    like : CoreParts
    like = record { net = old.net; server = old.server; interfaces = new.interfaces; control = old.control; installed = new.installed; pending = old.pending; clients = old.clients; clock = old.clock }

    same : new ≡ like
    same = λ i. record { net = a.net i; server = a.server i; interfaces = new.interfaces; control = a.control i; installed = new.installed; pending = a.pending i; clients = a.clients i; clock = a.clock i }

    moved : RepresentsServer n like state
    moved = record {
      among = is.among;
      control = is.control;
      installed = λ i m. is.installed i m ∙ sym (a.installed i);
      installed_apart = λ i none. a.installed i ∙ is.installed_apart i none;
      pending = is.pending;
      clients = is.clients;
      scripts = is.scripts;
      taken = is.taken;
      inboxes = is.inboxes;
    }

pub taken-back : (before left : Standing) (old now after : CoreParts) → IsUndone before old now → IsExchanged before now left after → IsAlike old after
taken-back before left old now after u x = go before.links u.kept x.given
  where
    clock : after.clock ≡ old.clock
    clock = x.clock ∙ u.clock

    go : (links : Option LedgerParts) → IsCoreKept links old now → IsGivenLedger links now after → IsAlike old after
    go None k g =
        alike-of after old both
      where
        both : after ≡ old
        both = ap (λ (z : CoreParts). record z { clock = after.clock }) g ∙ ap (λ c. record now { clock = c }) clock ∙ k

        alike-of : (after old : CoreParts) → after ≡ old → IsAlike old after
        alike-of after old e = record {
          net = ap (λ (z : CoreParts). z.net) e;
          server = ap (λ (z : CoreParts). z.server) e;
          control = ap (λ (z : CoreParts). z.control) e;
          installed = λ i. ap (λ (z : CoreParts). installed_from z i) e;
          pending = ap (λ (z : CoreParts). z.pending) e;
          clients = ap (λ (z : CoreParts). z.clients) e;
          clock = ap (λ (z : CoreParts). z.clock) e;
        }
    go (Some ledger) (given, pending, installed, net, server, clients) g = record {
      net = g.net ∙ net;
      server = g.server ∙ server;
      control = g.control_is ∙ ap (λ (z : LedgerParts). z.control) given;
      installed = λ i. g.installed i ∙ ap (λ (z : LedgerParts). subs z.control i) given ∙ sym (installed i);
      pending = g.pending ∙ sym pending;
      clients = g.clients ∙ clients;
      clock = clock;
    }

-- all cores

pub all-undone : (standings left : List Standing) (old new : List CoreParts) → CanAllTake standings old → AreExchanged standings old left new → IsUndoneBy left old new
all-undone standings left old new can x = record {
  long = x.long;
  long_before = x.long_back ∙ can.long ∙ sym x.long;
  each = λ place standing core now l o n.
      let s = also old standings place core can.long o in
      let e = x.each place s.0 core s.1 o in
      let same-left : e.0 ≡ standing = get-one left place e.0 standing e.2 l in
      let same-new : e.1 ≡ now = get-one new place e.1 now e.3 n in
      subst (λ z. IsUndone standing core z) same-new (subst (λ z. IsUndone z core e.1) same-left (undone s.0 e.0 core e.1 (can.each place s.0 core s.1 o) e.4));
}

pub can-undo : (before : List Standing) (old now : List CoreParts) → IsUndoneBy before old now → CanAllTake before now
can-undo before old now u = record {
  long = u.long_before;
  each = λ place standing core s n. let o = also now old place core (sym u.long) n in (u.each place standing o.0 core s o.1 n).can;
}

pub all-back : (net : NetParts) (last : ℕ) (state : State real) (before left : List Standing) (old now after : List CoreParts) → IsUndoneBy before old now → AreExchanged before now left after
    → AreServers net last state old → AreServers net last state after
all-back net last state before left old now after u x servers = record {
  all = x.long ∙ u.long ∙ servers.all;
  nets = λ place core at. let p = at-place place core at in p.2.net ∙ servers.nets place p.0 p.1;
  number = λ place core at. let p = at-place place core at in p.2.server ∙ servers.number place p.0 p.1;
  states = λ place core at. let p = at-place place core at in alike-state (net_at real (phased_net net) last) p.0 core p.2 (servers.states place p.0 p.1);
  clocks = λ place core at. let p = at-place place core at in p.2.clock ∙ servers.clocks place p.0 p.1;
}
  where
    at-place : (place : ℕ) (core : CoreParts) → slice_get after place ≡ Some core → (was : CoreParts) × (slice_get old place ≡ Some was) × IsAlike was core
    at-place place core at =
        let n = also after now place core (sym x.long) at in
        let o = also now old place n.0 (sym u.long) n.1 in
        let s = also now before place n.0 u.long_before n.1 in
        let e = x.each place s.0 n.0 s.1 n.1 in
        let same : e.1 ≡ core = get-one after place e.1 core e.3 at in
        (o.0, o.1, subst (IsAlike o.0) same (taken-back s.0 e.0 o.0 n.0 e.1 (u.each place s.0 o.0 n.0 s.1 o.1 n.1) e.4))

-- the clocks of a phase that begins
begun-clock : (net : NetParts) (last phase : ℕ) (state : State real) (server : ℕ) → (begun real (phased_net net) last phase state).clock server ≡ greatest (machine_at real (phased_net net) last) state.clock (servers_in net)
begun-clock net last phase state server = go (is_one_tree real (phased_net net) last phase)
  where
    go : (b : Bool) → (cond b (with_clocks_raised real (phased_net net) last state) (with_tree_changed real (phased_net net) last phase state)).clock server ≡ greatest (machine_at real (phased_net net) last) state.clock (servers_in net)
    go true = refl
    go false = refl

record IsGone (standing : Standing) (was core : CoreParts) : Type 0 where
  pub given : IsGivenLedger standing.links was core
  pub clock : core.clock ≡ standing.clock

pub all-begun : (net : NetParts) (sound : IsSound net) (last phase : ℕ) (standings left : List Standing) (old new : List CoreParts) → Begins net last phase old standings → AreExchanged standings old left new
    → (state : State real) → AreServers net last state old → IsAtRestOn real (phased_net net) last state → AreServers net phase (begun real (phased_net net) last phase state) new
all-begun net sound last phase standings left old new begins x state servers rest = record {
  all = x.long ∙ servers.all;
  nets = λ place core at. let p = at-place place core at in given-net p.2.0.links p.0 core p.2.2.given ∙ servers.nets place p.0 p.1;
  number = λ place core at. let p = at-place place core at in given-server p.2.0.links p.0 core p.2.2.given ∙ servers.number place p.0 p.1;
  states = λ place core at. let p = at-place place core at in begins.stands state servers rest place p.2.0 p.0 core p.2.1 p.1 p.2.2.given;
  clocks = λ place core at. let p = at-place place core at in p.2.2.clock ∙ begins.clock place p.2.0 p.2.1 ∙ clock-is net sound last state old servers rest ∙ sym (begun-clock net last phase state (suc place));
}
  where
    at-place : (place : ℕ) (core : CoreParts) → slice_get new place ≡ Some core
        → (was : CoreParts) × (slice_get old place ≡ Some was) × ((standing : Standing) × (slice_get standings place ≡ Some standing) × IsGone standing was core)
    at-place place core at =
        let o = also new old place core (sym x.long) at in
        let s = also old standings place o.0 begins.can.long o.1 in
        let e = x.each place s.0 o.0 s.1 o.1 in
        let same : e.1 ≡ core = get-one new place e.1 core e.3 at in
        (o.0, o.1, (s.0, s.1, subst (IsGone s.0 o.0) same (record { given = e.4.given; clock = e.4.clock })))

-- the standings of a phase on the same tree
pub raised-begins : (net : NetParts) (sound : IsSound net) (last phase clock : ℕ) (cores : List CoreParts) (standings : List Standing) → is_one_tree real (phased_net net) last phase ≡ true
    → clock ≡ greatest_clock peers cores → clock < 2 ^ 62 → length standings ≡ length cores → ((place : ℕ) (standing : Standing) → slice_get standings place ≡ Some standing → (standing.clock ≡ clock) × (standing.links ≡ None))
    → Begins net last phase cores standings
raised-begins net sound last phase clock cores standings one is low long all = record {
  can = record { long = long; each = λ place standing core s c. record { low = omega (arith, low, (all place standing s).0); fits = subst (FitsWhere core) (sym (all place standing s).1) unit } };
  clock = λ place standing s. (all place standing s).0 ∙ is;
  stands = λ state servers rest place standing core new s c g. same-tree state place core new (servers.states place core c) (subst (λ z. IsGivenLedger z core new) (all place standing s).1 g);
}
  where
    unit : Unit {0}
    unit = tt

    same-tree : (state : State real) (place : ℕ) (core new : CoreParts) → RepresentsServer (net_at real (phased_net net) last) core (state.state (suc place)) → record new { clock = core.clock } ≡ core
        → RepresentsServer (net_at real (phased_net net) phase) new ((begun real (phased_net net) last phase state).state (suc place))
    same-tree state place core new st e =
        let here : RepresentsServer (net_at real (phased_net net) last) new (state.state (suc place)) = other-clock (net_at real (phased_net net) last) core new (state.state (suc place)) (subst (λ z. RepresentsServer (net_at real (phased_net net) last) z (state.state (suc place))) (sym e) st) in
        let on : RepresentsServer (net_at real (phased_net net) phase) new (state.state (suc place)) = subst (λ (z : Net real). RepresentsServer z new (state.state (suc place))) (net-one real (phased_net net) last phase (eqb-true (trees_by (phased_net net).later last) (trees_by (phased_net net).later phase) one)) here in
        subst (RepresentsServer (net_at real (phased_net net) phase) new) (ap (λ b. (cond b (with_clocks_raised real (phased_net net) last state) (with_tree_changed real (phased_net net) last phase state)).state (suc place)) (sym one)) on

-- the standings of a phase on another tree
pub moved-begins : (net : NetParts) (sound : IsSound net) (last phase clock : ℕ) (cores : List CoreParts) (standings : List Standing) (state : State real) → is_one_tree real (phased_net net) last phase ≡ false
    → clock ≡ greatest_clock peers cores → clock < 2 ^ 62 → length standings ≡ length cores → ((place : ℕ) (standing : Standing) → slice_get standings place ≡ Some standing → standing.clock ≡ clock)
    → (homes : List Home) → ((state : State real) → AreServers net last state cores → IsAtRestOn real (phased_net net) last state
    → AreUnions (net_at real (phased_net net) phase) (client_filters net sound last phase state homes) (client_adverts net sound last phase state homes) homes)
    → ((place : ℕ) (standing : Standing) (core : CoreParts) → slice_get standings place ≡ Some standing → slice_get cores place ≡ Some core
    → (held : List HeldLink) × (map (λ h. h.link) held ≡ links_of (topology_at net phase) (suc place)) × ((h : HeldLink) → Has h held → IsFlow net.semantics (topology_at net phase) homes (suc place) h) × IsOnOtherLinks held core standing)
    → AreServers net last state cores → IsAtRestOn real (phased_net net) last state → Begins net last phase cores standings
moved-begins net sound last phase clock cores standings state other is low long clocks homes unions all servers rest = record {
  can = record {
    long = long;
    each = λ place standing core s c.
        let m = (all place standing core s c).3 in
        record { low = omega (arith, low, clocks place standing s); fits = subst (FitsWhere core) (sym m.given) (all-fit net sound last state cores servers rest place core m.ledger c m.suits) };
  };
  clock = λ place standing s. clocks place standing s ∙ is;
  stands = λ state servers rest place standing core new s c g. on-tree state servers rest place standing core new s c g;
}
  where
    on-tree : (state : State real) → AreServers net last state cores → IsAtRestOn real (phased_net net) last state → (place : ℕ) (standing : Standing) (core new : CoreParts) → slice_get standings place ≡ Some standing → slice_get cores place ≡ Some core
        → IsGivenLedger standing.links core new → RepresentsServer (net_at real (phased_net net) phase) new ((begun real (phased_net net) last phase state).state (suc place))
    on-tree state servers rest place standing core new s c g =
        let a = all place standing core s c in
        let number : core.server ≡ suc place = servers.number place core c in
        let links = a.1 ∙ ap (links_of (topology_at net phase)) (sym number) in
        let given : IsOnLinks a.3.ledger core (record new { clock = core.clock }) = subst (λ z. IsGivenLedger z core new) a.3.given g in
        let moved = server-moved net sound last phase state homes (net-on net sound phase) (unions state servers rest) core a.0 a.3.ledger (its-state net sound last state cores servers rest place core c) links
        (λ h m. subst (λ z. IsFlow net.semantics (topology_at net phase) homes z h) (sym number) (a.2 h m)) a.3.linked a.3.suits (record new { clock = core.clock }) given in
        let here = other-clock (net_at real (phased_net net) phase) core new ((with_tree_changed real (phased_net net) last phase state).state core.server) moved in
        let there : RepresentsServer (net_at real (phased_net net) phase) new ((with_tree_changed real (phased_net net) last phase state).state (suc place)) = subst (λ z. RepresentsServer (net_at real (phased_net net) phase) new ((with_tree_changed real (phased_net net) last phase state).state z)) number here in
        subst (RepresentsServer (net_at real (phased_net net) phase) new) (ap (λ b. (cond b (with_clocks_raised real (phased_net net) last state) (with_tree_changed real (phased_net net) last phase state)).state (suc place)) (sym other)) there
