use Rattle.std.proofs.Common.{◌==◌, eq-eqb}
use Rattle.base_tree.specs.Tree.{servers_of, links_of, hop_of}
use Rattle.base_tree.proofs.Truths.{not-now}
use Rattle.base_tree.proofs.Servers.{in-server}
use Rattle.base_tree.proofs.Paths.{side-test, side-end}
use Rattle.base_tree.proofs.tree.Tree.side.Goals as goal

pub returns-then-a-x-clause-path : goal.returns-then-a-x-clause-path
returns-then-a-x-clause-path c =
    side-test (servers_of c.args.self.now) (links_of c.args.self.now) (hop_of c.args.self.now) c.lemma_laws.ensures.hops c.args.a c.args.b c.args.x c.next_hop.result (in-server c.args.self.now.count c.args.a c.requires.from) (in-server c.args.self.now.count c.args.x c.requires.to) c.if-a-x.true c.next_hop.ensures.value

pub returns-else-a-x-clause-path : goal.returns-else-a-x-clause-path
returns-else-a-x-clause-path c = ((λ t. absurd (not-now (c.args.a == c.args.x) t (eq-eqb c.args.a c.args.x c.if-a-x.false))), (λ r. absurd (side-end (servers_of c.args.self.now) (links_of c.args.self.now) (hop_of c.args.self.now) c.lemma_laws.ensures.hops c.args.a c.args.b c.args.x c.if-a-x.false (in-server c.args.self.now.count c.args.a c.requires.from) (in-server c.args.self.now.count c.args.x c.requires.to) r)))
