use Rattle.std.proofs.Common.{◌≡◌, ℕ, ◌<◌, true, subst}
use Rattle.server_stock.specs.Held.{Held, needs}
use Rattle.server_stock.proofs.Counts.{needs-within}
use Rattle.server_stock.proofs.holders.Holders.lemma_bounded.Goals as goal

pub returns : goal.returns
returns c = subst (λ (z : Held). (p k : ℕ) → needs z.rows p k ≡ true → k < z.width) c.self.view_is (needs-within c.self.invariant)
