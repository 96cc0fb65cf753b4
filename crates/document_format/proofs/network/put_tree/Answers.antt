use Rattle.std.proofs.Common.{◌≡◌, ◌-◌, ◌+◌, suc, [], ◌++◌, sym, ap, ◌∙◌, arith, append_assoc}
use Rattle.std.specs.List.{flat_map, range_with_len}
use Rattle.base_devices.proofs.Outlets.{went-then, went-nothing}
use Rattle.document_format.specs.Writing.{server_text}
use Rattle.document_format.proofs.network.put_tree.Goals as goal

pub loop-a-init : goal.loop-a-init
loop-a-init g c =
    let tree = c.args.tree.now in
    let e : tree.count + 1 - 1 ≡ tree.count = omega arith in
    ([], went-nothing _, ap (λ k. flat_map (server_text tree) (range_with_len 1 k)) e)

pub loop-a-preserved : goal.loop-a-preserved
loop-a-preserved g c =
    let (done, went, rest) = c.loop-a.invariant in
    let tree = c.args.tree.now in
    let a = c.loop-a.a in
    let more = c.loop-a-test.true in
    let count = c.servers-a-end.ensures.value in
    let e : tree.count + 1 - a ≡ suc (tree.count + 1 - (a + 1)) = omega (arith, more, count) in (
      done ++ server_text tree a,
      went-then _ _ _ done (server_text tree a) went (rw c.neighbours.ensures.value at c.put_edges.ensures),
      append_assoc done (server_text tree a) (flat_map (server_text tree) (range_with_len (a + 1) (tree.count + 1 - (a + 1))))
          ∙ ap (λ k. done ++ flat_map (server_text tree) (range_with_len a k)) (sym e) ∙ rest,
    )
