use Rattle.std.proofs.Common.{◌≡◌, ℕ, ◌<◌, nat_lt, length, subst}
use Rattle.base.specs.Sets.{Has, IsRising, roots}
use Rattle.base_order.specs.Order.{picked, root_numbers}
use Rattle.base_order.proofs.Picked.{roots-picked}
use Rattle.base_order.proofs.order.Order.lemma_roots.Goals as goal

pub returns : goal.returns
returns g c =
    subst (λ z. (ns : _) → IsRising nat_lt ns → ((i : ℕ) → Has i ns → i < length z) → picked z (root_numbers g.T.Cover.covering z ns) ≡ roots g.T.Cover.covering g.T.Cover.order (picked z ns)) c.self.view_is
    (λ ns r l. roots-picked g.met.T.Cover.laws c.self.inside.items.value c.self.invariant.rising ns l)
