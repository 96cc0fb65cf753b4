use Rattle.std.proofs.Common.{◌≡◌, ◌+◌, suc, [], ◌∷◌, ◌++◌, drop, sym, ap, refl, ◌∙◌, arith, append_assoc}
use Rattle.base_devices.proofs.Outlets.{went-then, went-nothing}
use Rattle.output_traffic.specs.Text.{client_node, client_nodes}
use Rattle.output_traffic.proofs.graph.put_clients.Goals as goal
use Rattle.base.proofs.Lists.{drop-next}

pub loop-i-init : goal.loop-i-init
loop-i-init g c = ([], went-nothing _, refl)

pub loop-i-preserved : goal.loop-i-preserved
loop-i-preserved g c =
    let (done, went, rest) = c.loop-i.invariant in
    let i = c.loop-i.i in
    let clients = c.args.clients.now in
    let client = c.index-clients-i.result in
    let next : suc (i + 1) ≡ (i + 1) + 1 = omega arith in
    let whole = drop-next clients i client c.loop-i-test.true ∙ ap (λ z. z ∷ drop (i + 1) clients) (sym c.index-clients-i.is) in (
      done ++ client_node (i + 1) client,
      went-then _ _ _ done (client_node (i + 1) client) went c.put_client.ensures,
      append_assoc done (client_node (i + 1) client) (client_nodes ((i + 1) + 1) (drop (i + 1) clients))
          ∙ (ap (λ k. done ++ (client_node (i + 1) client ++ client_nodes k (drop (i + 1) clients))) (sym next) ∙ (ap (λ z. done ++ client_nodes (i + 1) z) (sym whole) ∙ rest)),
    )
