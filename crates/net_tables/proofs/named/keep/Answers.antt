use Rattle.net_tables.proofs.Kept.{kept_next, kept_roomed}
use Rattle.net_tables.proofs.named.keep.Goals as goal

pub returns : goal.returns
returns g c = λ named are. rw (c.push_reserved.ensures.items, c.reserve.ensures.items)
    (kept_next g.met.T.Cover.laws c.reserve-2.new.self c.keep.new.self c.args.kept.now.keys.items named c.args.item c.in-Ok.key c.in-Ok.ensures.items c.in-Ok.ensures.kept c.in-Ok.ensures.others
    (kept_roomed _ c.args.kept.now.pool c.reserve-2.new.self c.args.kept.now.keys.items named c.reserve-2.ensures.items c.reserve-2.ensures.slots are))
