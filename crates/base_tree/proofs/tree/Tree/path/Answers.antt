use Rattle.std.proofs.Common.{subst, sym}
use Rattle.base_tree.specs.Tree.{servers_of, links_of, hop_of, IsPath}
use Rattle.base_tree.proofs.Servers.{in-server, server-in}
use Rattle.base_tree.proofs.Paths.{toward-start, toward-more, nearer, one-path}
use Rattle.base_tree.proofs.tree.Tree.path.Goals as goal

pub loop-at-init : goal.loop-at-init
loop-at-init c =
    rw (c.in_ok-push.ensures.items, c.new-path.ensures.items) (toward-start (servers_of c.args.self.now) (links_of c.args.self.now) (hop_of c.args.self.now) c.lemma_laws.ensures.hops c.args.a c.args.x (in-server c.args.self.now.count c.args.a c.requires.from))

pub hop-at-requires-clause-from : goal.hop-at-requires-clause-from
hop-at-requires-clause-from c = server-in c.args.self.now.count c.loop-at.at c.loop-at.invariant.here

pub loop-at-smaller : goal.loop-at-smaller
loop-at-smaller c =
    rw c.hop-at.ensures (nearer (servers_of c.args.self.now) (links_of c.args.self.now) (hop_of c.args.self.now) c.lemma_laws.ensures.hops c.args.x c.loop-at.at c.loop-at.invariant.here (in-server c.args.self.now.count c.args.x c.requires.to) (λ e. c.loop-at-test.true (sym e)))

pub loop-at-preserved : goal.loop-at-preserved
loop-at-preserved c =
    rw (c.in_ok-push-2.ensures.items, c.hop-at.ensures) (toward-more (servers_of c.args.self.now) (links_of c.args.self.now) (hop_of c.args.self.now) c.lemma_laws.ensures.hops c.args.a c.args.x c.loop-at.at c.loop-at.path.items (in-server c.args.self.now.count c.args.x c.requires.to) (λ e. c.loop-at-test.true (sym e)) c.loop-at.invariant)

pub returns-clause-one : goal.returns-clause-one
returns-clause-one c = λ other p.
    one-path (servers_of c.args.self.now) (links_of c.args.self.now) (hop_of c.args.self.now) c.lemma_laws.ensures.hops c.args.a c.args.x other c.loop-at.path.items (in-server c.args.self.now.count c.args.x c.requires.to) p
    (subst (λ z. IsPath (links_of c.args.self.now) c.args.a z c.loop-at.path.items) c.loop-at-test.false c.loop-at.invariant.path_so_far)
