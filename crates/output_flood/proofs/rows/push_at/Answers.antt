use Rattle.std.proofs.Common.{◌<◌, length, refl, arith}
use Rattle.std.proofs.lemmas.Option.{slice_get_read}
use Rattle.output_flood.proofs.Gathering.{pushed_at}
use Rattle.output_flood.proofs.rows.push_at.Goals as goal

pub returns-in_ok-push-clause-rows : goal.returns-in_ok-push-clause-rows
returns-in_ok-push-clause-rows c =
    let all = c.args.all.now.items in
    let within : c.args.place < length all = omega arith in
    pushed_at all _ c.args.place c.index_mut.result.now c.push.new.self c.args.row
    (slice_get_read all (length all) c.args.place c.index_mut.result.now refl within c.index_mut.ensures.value) c.in_ok-push.ensures.items refl
