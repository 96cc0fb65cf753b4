use Rattle.std.proofs.Common.{◌++◌, ap, ◌∙◌, arith}
use Rattle.base_tree.specs.Graph.{servers_to}
use Rattle.output_traffic.specs.Links.{links_from, links_in}
use Rattle.output_traffic.proofs.Edges.{all-next}
use Rattle.output_traffic.proofs.links.links.Goals as goal

pub loop-a-preserved : goal.loop-a-preserved
loop-a-preserved c =
    let net = c.args.net.now in
    let count = c.servers-count.result in
    let a = c.loop-a.a in
    let trees = c.deref.ensures.value ∙ ap (λ n. n.trees) c.net.view_is in
    record {
      links = all-next (links_from net.trees (servers_to count)) count a c.loop-a.links.items c.push_links.new.links.items (links_in net) c.loop-a-test.true c.loop-a.invariant.links
          (c.in_ok-push_links.ensures.links ∙ ap (λ z. c.loop-a.links.items ++ links_from z (servers_to count) a) trees);
      few = omega (arith, c.loop-a.invariant.few, c.in_ok-push_links.ensures.most);
    }
