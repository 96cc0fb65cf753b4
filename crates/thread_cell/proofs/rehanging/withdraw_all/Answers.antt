use Rattle.std.proofs.Common.{◌++◌, length, take, [], refl, sym, ap, subst, ◌∙◌, append_assoc}
use Rattle.std.proofs.lemmas.List.{append-nil}
use Rattle.std.proofs.lemmas.Option.{slice_get_read}
use Rattle.net_tables.specs.Known.{known_filters}
use Rattle.server_spec.proofs.Taken.{take-all}
use Rattle.thread_cell.specs.Lanes.{neighbours_in}
use Rattle.thread_cell.specs.Relinking.{AreTaken}
use Rattle.thread_cell.proofs.WithdrawAll.{taken-none, taken-more, names-take}
use Rattle.thread_cell.proofs.Places.{found-name}
use Rattle.thread_cell.proofs.Shown.{same-one, same-on, wide-later}
use Rattle.thread_cell.proofs.rehanging.withdraw_all.Goals as goal

pub loop-link-init : goal.loop-link-init
loop-link-init c = record {
  same = same-one c.args.publisher.now;
  shown = refl;
  kept = c.requires.handed;
  more = ([], sym (append-nil c.args.handed.now.items), taken-none (known_filters c.args.core.now.net.clients) c.args.core.now.control);
}

pub withdraw_link-requires-clause-wide : goal.withdraw_link-requires-clause-wide
withdraw_link-requires-clause-wide c = wide-later c.args.publisher.now c.loop-link.publisher c.args.core.now c.loop-link.invariant.same c.requires.wide

pub withdraw_link-requires-clause-small : goal.withdraw_link-requires-clause-small
withdraw_link-requires-clause-small c =
    let at = slice_get_read c.args.links.now (length c.args.links.now) c.loop-link.link-index c.link-item.result refl c.loop-link-test.true c.link-item.is in
    c.requires.small c.link-item.result.neighbour (found-name c.loop-link.link-index c.args.links.now c.link-item.result at)

pub loop-link-preserved : goal.loop-link-preserved
loop-link-preserved c =
    let at = slice_get_read c.args.links.now (length c.args.links.now) c.loop-link.link-index c.link-item.result refl c.loop-link-test.true c.link-item.is in
    let before = c.loop-link.invariant.more in
    let here = c.in_ok-withdraw_link.ensures.all in
    record {
      same = same-on c.args.publisher.now c.loop-link.publisher c.withdraw_link.new.publisher c.loop-link.invariant.same c.withdraw_link.ensures.same.0;
      shown = c.withdraw_link.ensures.same.1 ∙ c.loop-link.invariant.shown;
      kept = c.withdraw_link.ensures.handed;
      more = (
        before.0 ++ here.0,
        here.1 ∙ ap (λ l. l ++ here.0) before.1 ∙ append_assoc c.args.handed.now.items before.0 here.0,
        subst (λ l. AreTaken (known_filters c.args.core.now.net.clients) c.args.core.now.control l (before.0 ++ here.0)) (sym (names-take c.args.links.now c.loop-link.link-index c.link-item.result at))
            (taken-more (known_filters c.args.core.now.net.clients) c.args.core.now.control (neighbours_in (take c.loop-link.link-index c.args.links.now)) c.link-item.result.neighbour before.0 here.0 before.2 here.2),
      );
    }

pub returns-clause-all : goal.returns-clause-all
returns-clause-all c =
    let whole = take-all c.args.links.now c.loop-link.link-index c.loop-link-test.false in
    let all = c.loop-link.invariant.more in
    (all.0, all.1, subst (λ l. AreTaken (known_filters c.args.core.now.net.clients) c.args.core.now.control (neighbours_in l) all.0) whole all.2)
