use Rattle.std.proofs.Common.{map, sym, ap, subst, ◌∙◌, arith, length}
use Rattle.base.specs.Sets.{Has}
use Rattle.net_tables.specs.Known.{known_filters}
use Rattle.net_tables.proofs.Counting.{known_filters_rise}
use Rattle.base_order.specs.Order.{picked}
use Rattle.net_model.specs.Parts.{NetParts}
use Rattle.thread_cell.specs.Relinking.{takes}
use Rattle.thread_cell.proofs.WithdrawAll.{taken-one}
use Rattle.thread_cell.proofs.Splits.{ok-map}
use Rattle.thread_cell.proofs.rehanging.withdraw_link.Goals as goal

pub withdraw-requires-clause-known : goal.withdraw-requires-clause-known
withdraw-requires-clause-known c number h =
    let m = subst (Has number) (c.deref.ensures.value ∙ c.in_ok-numbers.ensures) h in
    let low = c.lemma_sorted.ensures.within number m in
    let width = c.filters-filters.ensures.width ∙ ap (λ (n : NetParts). length (known_filters n.clients)) c.in_ok-held.ensures.net ∙ sym c.requires.wide.width in
    record { interface = c.requires.wide.links c.args.link c.requires.small; number = omega (arith, low, width) }

pub returns-clause-all : goal.returns-clause-all
returns-clause-all c =
    ok-map c.withdraw.result c.withdraw.ensures.all (λ e. (
      map (takes c.args.link) c.deref.result.now,
      e,
      taken-one (known_filters c.args.core.now.net.clients) c.args.core.now.control (known_filters_rise c.args.core.now.net.clients) c.args.link c.deref.result.now
          (ap (picked (known_filters c.args.core.now.net.clients)) (c.deref.ensures.value ∙ c.in_ok-numbers.ensures)
          ∙ (ap (λ (n : NetParts). picked (known_filters n.clients) c.filters-filters.result.now.members) (sym c.in_ok-held.ensures.net) ∙ c.filters-filters.ensures.represents ∙ c.in_ok-held.ensures.filters)),
    ))
