use Rattle.std.proofs.Common.{◌↔◌, ℕ, sym, subst}
use Rattle.base.specs.Sets.{Has}
use Rattle.base_bits.specs.Rows.{Numbers}
use Rattle.base_order.specs.Order.{covered_row}
use Rattle.server_session.proofs.Moving.{withdrawn-moved}
use Rattle.server_session.proofs.own.withdrawn.Goals as goal

pub returns : goal.returns
returns g c x e = withdrawn-moved g.met.T.Cover.laws c.args.order.now c.lemma_sorted.ensures.rising c.args.i x e c.args.row.now.members c.lemma_sorted-2.ensures.rising c.of.result common
  where
    common : (k : ℕ) → Has k c.of.result ↔ (Has k c.args.row.now.members × Has k (covered_row g.T.Cover.covering c.args.order.now c.args.i).members)
    common k =
        let w = c.in_ok-list.ensures k in (
          λ h. let m = w.0 (subst (Has k) c.of.ensures h) in (m.0, subst (λ (z : Numbers). Has k z.members) c.covered_by.ensures m.1),
          λ h. subst (Has k) (sym c.of.ensures) (w.1 (h.0, subst (λ (z : Numbers). Has k z.members) (sym c.covered_by.ensures) h.1)),
        )
