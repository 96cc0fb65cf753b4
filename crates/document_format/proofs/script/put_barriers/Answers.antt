use Rattle.std.proofs.Common.{◌≡◌, ◌-◌, ◌+◌, suc, ◌++◌, sym, ap, ◌∙◌, arith, append_assoc}
use Rattle.std.specs.Prelude.{codes}
use Rattle.std.specs.List.{flat_map}
use Rattle.base_devices.proofs.Outlets.{went-then}
use Rattle.document_format.specs.DocumentText.{barrier_lines, ended}
use Rattle.document_format.proofs.script.put_barriers.Goals as goal

pub loop-preserved : goal.loop-preserved
loop-preserved g c =
    let (done, went, rest) = c.loop.invariant in
    let count = c.args.count in
    let n = c.loop.counter in
    let more = c.loop-test.true in
    let e : count - n ≡ suc (count - (n + 1)) = omega (arith, more) in (
      done ++ codes "barrier\n",
      went-then _ _ _ done (codes "barrier\n") went c.put.ensures,
      append_assoc done (codes "barrier\n") (flat_map ended (barrier_lines (count - (n + 1))))
          ∙ ap (λ k. done ++ flat_map ended (barrier_lines k)) (sym e) ∙ rest,
    )
