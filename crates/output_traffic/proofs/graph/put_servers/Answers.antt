use Rattle.std.proofs.Common.{◌≡◌, ◌-◌, ◌+◌, suc, [], ◌++◌, sym, ap, ◌∙◌, arith, append_assoc}
use Rattle.std.specs.List.{flat_map, range_with_len}
use Rattle.base_devices.proofs.Outlets.{went-then, went-nothing}
use Rattle.output_traffic.specs.Text.{server_node}
use Rattle.output_traffic.proofs.graph.put_servers.Goals as goal

pub loop-server-init : goal.loop-server-init
loop-server-init g c =
    let count = c.args.count in
    let e : count + 1 - 1 ≡ count = omega arith in
    ([], went-nothing _, ap (λ k. flat_map server_node (range_with_len 1 k)) e)

pub loop-server-preserved : goal.loop-server-preserved
loop-server-preserved g c =
    let (done, went, rest) = c.loop-server.invariant in
    let count = c.args.count in
    let a = c.loop-server.server in
    let more = c.loop-server-test.true in
    let e : count + 1 - a ≡ suc (count + 1 - (a + 1)) = omega (arith, more) in (
      done ++ server_node a,
      went-then _ _ _ done (server_node a) went c.put_server.ensures,
      append_assoc done (server_node a) (flat_map server_node (range_with_len (a + 1) (count + 1 - (a + 1)))) ∙ ap (λ k. done ++ flat_map server_node (range_with_len a k)) (sym e) ∙ rest,
    )
