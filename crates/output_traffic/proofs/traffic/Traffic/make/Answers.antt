use Rattle.output_traffic.specs.Text.{loads_of}
use Rattle.output_traffic.specs.Printed.{loads_by}
use Rattle.output_traffic.proofs.Few.{few-flooded}
use Rattle.output_traffic.proofs.Same.{same-printed}
use Rattle.output_traffic.proofs.traffic.Traffic.make.Goals as goal

pub returns : goal.returns
returns c journal outs counted few =
    same-printed c.args.net c.requires.sound (loads_by (record { notices = c.args.carried.notices; flood = c.in_ok-flood.flood; messages = c.args.carried.changes })) (loads_of c.args.net journal outs)
    (record {
      notices = λ from to lf lt. counted.notices from to lf lt (few.notices from to);
      flood = λ from to lf lt. c.in_ok-flood.ensures from to lf lt (few-flooded c.args.net c.requires.sound from to);
      messages = λ from to lf lt. counted.changes from to lf lt (few.changes from to);
    })
    c.args.graph
