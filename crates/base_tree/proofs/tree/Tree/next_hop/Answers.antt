use Rattle.std.proofs.Common.{Some, ap, sym, ◌∙◌}
use Rattle.base_tree.specs.Tree.{servers_of, links_of, hop_of}
use Rattle.base_tree.proofs.Servers.{in-server}
use Rattle.base_tree.proofs.Paths.{path-second}
use Rattle.base_tree.proofs.tree.Tree.next_hop.Goals as goal

pub returns-clause-near : goal.returns-clause-near
returns-clause-near c =
    rw c.hop.ensures (c.lemma_laws.ensures.hops.near c.args.a c.args.x (in-server c.args.self.now.count c.args.a c.requires.from) (in-server c.args.self.now.count c.args.x c.requires.to) (λ e. c.requires.apart (sym e)))

pub returns-clause-path : goal.returns-clause-path
returns-clause-path c = λ path p.
    path-second (servers_of c.args.self.now) (links_of c.args.self.now) (hop_of c.args.self.now) c.lemma_laws.ensures.hops c.args.a c.args.x path c.requires.apart (in-server c.args.self.now.count c.args.x c.requires.to) p ∙ ap Some (sym c.hop.ensures)
