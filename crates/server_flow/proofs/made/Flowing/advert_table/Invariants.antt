use Rattle.std.proofs.Common.{take}
use Rattle.base.specs.Sets.{Has}
use Rattle.server_flow.specs.Homes.{homes_in}
use Rattle.server_flow.specs.Rows.{AdvertsFor}
use Rattle.server_flow.proofs.made.Flowing.advert_table.Given as goal

abbrev pub invariant-loop-at : goal.invariant-loop-at
invariant-loop-at l = AdvertsFor l.self.tables.now l.self.tree.now (homes_in l.self.homes.now) (λ a b. Has (a, b) (take l.at-index l.self.order.now)) l.table
