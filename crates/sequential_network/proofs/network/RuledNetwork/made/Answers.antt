use Rattle.std.proofs.Common.{◌≡◌, length, subst, ap, ◌∙◌, arith}
use Rattle.std.proofs.Math.Nat.{min-eq_left}
use Rattle.net_turns.specs.Network.{NetworkParts}
use Rattle.sequential_network.specs.Seen.{seen}
use Rattle.sequential_network.proofs.Few.{few-made}
use Rattle.sequential_network.proofs.network.RuledNetwork.made.Goals as goal

pub returns-clause-count : goal.returns-clause-count
returns-clause-count g c =
    let inside = c.self.inside in
    let stands = c.lemma_laws.ensures.stands inside.tables.now inside.phase (seen inside.servers) c.self.invariant.0 in
    let few = few-made g.P.Ruled.trying inside.tables.now inside.servers.journal.entries stands.sound stands.legal in
    c.len.ensures ∙ min-eq_left (let f = few in omega (arith, f)) ∙ ap (λ (z : NetworkParts). length z.journal) c.self.view_is
