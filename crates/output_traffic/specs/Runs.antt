-- What the links carry in a run over trees by phase, by what its entries put on them.
pub use Rattle.law_phases.specs.Economy.{is_noticed, noticed_at, noticed_maybe, noticed, AreClients, IsOwedBeyond, IsAllOwed}
