use Rattle.std.proofs.Common.{◌≡◌, ◌<◌, ◌+◌, nat_lt, length, map, take, sym, ap, subst, ◌∙◌, arith}
use Rattle.base.specs.Sets.{Has, IsRising}
use Rattle.base_tree.specs.Tree.{links_of}
use Rattle.law_routing.specs.Routing.{empty_server}
use Rattle.law_phases.specs.Trees.{net_at}
use Rattle.net_model.specs.Real.{real}
use Rattle.net_model.specs.Parts.{NetParts}
use Rattle.net_model.specs.Nets.{phased_net, topology_at}
use Rattle.server_core.specs.Clients.{ClientsParts, bare, client_numbers}
use Rattle.server_core.specs.Core.{RepresentsServer, core_parts}
use Rattle.server_core.specs.Kept.{IsKept}
use Rattle.server_core.specs.Start.{sessions_of}
use Rattle.server_core.proofs.Starting.{first_control, first_core, interfaces_by, interfaces-rise, interfaces-few, in-range, is-first-core, is-kept, is-state, its-server, numbers-rise, small, home-numbers}
use Rattle.server_core.proofs.server.Core.start.Goals as goal
use Rattle.std.proofs.Math.Seq.{take-append_seam}

pub neighbours-links-requires : goal.neighbours-links-requires
neighbours-links-requires c = its-server c.args.tables.now c.args.server c.tree.result.now c.requires.sound c.requires.among (c.tree.ensures ∙ ap (λ (z : NetParts). topology_at z 0) c.net.ensures)

pub interfaces_of-requires : goal.interfaces_of-requires
interfaces_of-requires c n h =
    let net = c.args.tables.now in
    let links = c.neighbours-links.result.now in
    let linked : links ≡ links_of (topology_at net 0) c.args.server = c.neighbours-links.ensures.value ∙ ap (λ t. links_of t c.args.server) (c.tree.ensures ∙ ap (λ (z : NetParts). topology_at z 0) c.net.ensures) in
    let numbers : c.numbers.result.now ≡ client_numbers (sessions_of net.semantics c.args.server 1 net.clients) = c.numbers.ensures ∙ ap (λ (z : ClientsParts). client_numbers z.sessions) c.in_ok-clients.ensures in
    (in-range net c.requires.sound c.args.server links linked n (subst (Has n) numbers h)).1

pub new-requires-clause-rising : goal.new-requires-clause-rising
new-requires-clause-rising c =
    let net = c.args.tables.now in
    let links = c.neighbours-links.result.now in
    let linked : links ≡ links_of (topology_at net 0) c.args.server = c.neighbours-links.ensures.value ∙ ap (λ t. links_of t c.args.server) (c.tree.ensures ∙ ap (λ (z : NetParts). topology_at z 0) c.net.ensures) in
    let numbers : c.numbers.result.now ≡ client_numbers (sessions_of net.semantics c.args.server 1 net.clients) = c.numbers.ensures ∙ ap (λ (z : ClientsParts). client_numbers z.sessions) c.in_ok-clients.ensures in
    subst (IsRising nat_lt) (sym (c.deref.ensures.value ∙ (c.in_ok-interfaces.ensures ∙ ap (interfaces_by links) numbers)))
    (interfaces-rise links (client_numbers (sessions_of net.semantics c.args.server 1 net.clients)) c.neighbours-links.ensures.rising (small net c.requires.sound c.args.server links linked)
    (numbers-rise net.semantics c.args.server 1 net.clients) (λ n h. (in-range net c.requires.sound c.args.server links linked n h).0))

pub new-requires-clause-few : goal.new-requires-clause-few
new-requires-clause-few c =
    let net = c.args.tables.now in
    let links = c.neighbours-links.result.now in
    let linked : links ≡ links_of (topology_at net 0) c.args.server = c.neighbours-links.ensures.value ∙ ap (λ t. links_of t c.args.server) (c.tree.ensures ∙ ap (λ (z : NetParts). topology_at z 0) c.net.ensures) in
    let numbers : c.numbers.result.now ≡ client_numbers (sessions_of net.semantics c.args.server 1 net.clients) = c.numbers.ensures ∙ ap (λ (z : ClientsParts). client_numbers z.sessions) c.in_ok-clients.ensures in
    let interfaces : c.deref.result.now ≡ interfaces_by links (home-numbers net c.requires.sound c.args.server links linked) = c.deref.ensures.value ∙ (c.in_ok-interfaces.ensures ∙ ap (interfaces_by links) numbers) in
    let rising = interfaces-rise links (home-numbers net c.requires.sound c.args.server links linked) c.neighbours-links.ensures.rising (small net c.requires.sound c.args.server links linked)
    (numbers-rise net.semantics c.args.server 1 net.clients) (λ n h. (in-range net c.requires.sound c.args.server links linked n h).0) in
    let few = interfaces-few links (home-numbers net c.requires.sound c.args.server links linked) rising (small net c.requires.sound c.args.server links linked) (λ n h. (in-range net c.requires.sound c.args.server links linked n h).1) in
    subst (λ z. length z < 4294967296) (sym interfaces) (omega (arith, few))

pub of-requires : goal.of-requires
of-requires c =
    let net = c.args.tables.now in
    let links = c.neighbours-links.result.now in
    let linked : links ≡ links_of (topology_at net 0) c.args.server = c.neighbours-links.ensures.value ∙ ap (λ t. links_of t c.args.server) (c.tree.ensures ∙ ap (λ (z : NetParts). topology_at z 0) c.net.ensures) in
    let numbers : c.numbers.result.now ≡ client_numbers (sessions_of net.semantics c.args.server 1 net.clients) = c.numbers.ensures ∙ ap (λ (z : ClientsParts). client_numbers z.sessions) c.in_ok-clients.ensures in
    let interfaces : c.deref.result.now ≡ interfaces_by links (home-numbers net c.requires.sound c.args.server links linked) = c.deref.ensures.value ∙ (c.in_ok-interfaces.ensures ∙ ap (interfaces_by links) numbers) in
    let e = c.in_ok-ledger.ensures in
    let control : c.in_ok-ledger.ledger.control ≡ first_control net.semantics links =
    e.control ∙ (ap (λ z. first_control z (take (length links) c.deref.result.now)) c.semantics.ensures ∙ (ap (λ z. first_control net.semantics (take (length links) z)) interfaces ∙ ap (first_control net.semantics) (take-append_seam links (map (λ n. 64 + n) (home-numbers net c.requires.sound c.args.server links linked))))) in
    let core : core_parts c.args.server c.in_ok-ledger.ledger (map bare c.in_ok-clients.clients.sessions) 0 ≡ first_core net c.requires.sound c.args.server links linked =
    is-first-core net c.requires.sound c.args.server links linked c.in_ok-ledger.ledger c.in_ok-clients.clients.sessions e.net (e.interfaces ∙ interfaces) control e.installed e.pending
    (ap (λ (z : ClientsParts). z.sessions) c.in_ok-clients.ensures) in
    subst (λ z. IsKept z c.in_ok-clients.clients.net (core_parts c.args.server c.in_ok-ledger.ledger (map bare c.in_ok-clients.clients.sessions) 0)) (sym (e.interfaces ∙ interfaces))
    (subst (λ (z : NetParts). IsKept (interfaces_by links (home-numbers net c.requires.sound c.args.server links linked)) z (core_parts c.args.server c.in_ok-ledger.ledger (map bare c.in_ok-clients.clients.sessions) 0)) (sym (ap (λ (z : ClientsParts). z.net) c.in_ok-clients.ensures))
    (subst (IsKept (interfaces_by links (home-numbers net c.requires.sound c.args.server links linked)) net) (sym core) (is-kept net c.requires.sound c.args.server links linked c.neighbours-links.ensures.rising)))

pub returns-clause-state : goal.returns-clause-state
returns-clause-state c =
    let net = c.args.tables.now in
    let links = c.neighbours-links.result.now in
    let linked : links ≡ links_of (topology_at net 0) c.args.server = c.neighbours-links.ensures.value ∙ ap (λ t. links_of t c.args.server) (c.tree.ensures ∙ ap (λ (z : NetParts). topology_at z 0) c.net.ensures) in
    let numbers : c.numbers.result.now ≡ client_numbers (sessions_of net.semantics c.args.server 1 net.clients) = c.numbers.ensures ∙ ap (λ (z : ClientsParts). client_numbers z.sessions) c.in_ok-clients.ensures in
    let interfaces : c.deref.result.now ≡ interfaces_by links (home-numbers net c.requires.sound c.args.server links linked) = c.deref.ensures.value ∙ (c.in_ok-interfaces.ensures ∙ ap (interfaces_by links) numbers) in
    let e = c.in_ok-ledger.ensures in
    let control : c.in_ok-ledger.ledger.control ≡ first_control net.semantics links =
    e.control ∙ (ap (λ z. first_control z (take (length links) c.deref.result.now)) c.semantics.ensures ∙ (ap (λ z. first_control net.semantics (take (length links) z)) interfaces ∙ ap (first_control net.semantics) (take-append_seam links (map (λ n. 64 + n) (home-numbers net c.requires.sound c.args.server links linked))))) in
    let core : core_parts c.args.server c.in_ok-ledger.ledger (map bare c.in_ok-clients.clients.sessions) 0 ≡ first_core net c.requires.sound c.args.server links linked =
    is-first-core net c.requires.sound c.args.server links linked c.in_ok-ledger.ledger c.in_ok-clients.clients.sessions e.net (e.interfaces ∙ interfaces) control e.installed e.pending
    (ap (λ (z : ClientsParts). z.sessions) c.in_ok-clients.ensures) in
    subst (λ z. RepresentsServer (net_at real (phased_net net) 0) z (empty_server real (net_at real (phased_net net) 0))) (sym (c.of.ensures ∙ core))
    (is-state net c.requires.sound c.args.server links linked c.requires.among)
