-- Threads may share the items of a pool where they may share an item.
use denote.RattleType.{RattleType}
use denote.Param.Send.{IsSync, sendable}
use Rattle.std.proofs.Crossing.{crosses}
use Rattle.base_pool.specs.contracts.items.Items as Items
use Rattle.base_pool.specs.contracts.pool.Pool as Pool
use Rattle.base_pool.specs.contracts.pool.Counted as Counted

pub counted_sync : (T : RattleType) → IsSync T → IsSync (Counted.the_field T).row
counted_sync T a = search (sendable, crosses) depth 20

pub pool_sync : (T : RattleType) (g : _) → IsSync T → IsSync (Pool.the_field T g).row
pool_sync T g a = search (sendable, crosses, counted_sync) depth 20

pub items_sync : (T : RattleType) (g : _) → IsSync T → IsSync (Items.the_field T g).row
items_sync T g a = search (sendable, crosses, pool_sync) depth 20
