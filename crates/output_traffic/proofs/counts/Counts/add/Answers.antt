use Rattle.std.proofs.Common.{◌+◌, ◌*◌, ◌^◌, inl, inr, get_or, ap, ◌∙◌}
use Rattle.base.proofs.Numbers.{le-or-gt}
use Rattle.output_traffic.specs.Counts.{count_at}
use Rattle.output_traffic.proofs.Cells.{filled, raised}
use Rattle.output_traffic.proofs.counts.Counts.add.Goals as goal

pub returns : goal.returns
returns c from to lf lt small =
    let la = c.if-a-gt64.false in
    let lb = c.if-b-gt64.false in
    elim (le-or-gt (2 ^ 32) (get_or c.args.self.now (c.args.a * 65 + c.args.b) 0 + 1)) [
      | inl full ↦
          ap (λ z. count_at z from to) (c.raise.ensures.full full)
          ∙ filled c.args.self.now c.args.a c.args.b from to c.raise.ensures.places la lb lf lt full small
      | inr less ↦
          ap (λ z. count_at z from to) (c.raise.ensures.more less)
          ∙ raised c.args.self.now c.args.a c.args.b from to c.raise.ensures.places la lb lf lt
    ]
