use Rattle.std.proofs.Common.{◌++◌, Vec, Global, List, Some, get_or, map, sym, ap, subst, ◌∙◌, arith}
use Rattle.std.proofs.lemmas.List.{take_all}
use Rattle.server_stock.proofs.Turns.{get-some}
use Rattle.server_message.specs.Parts.{SendingParts, onto, sent_by}
use Rattle.server_core.specs.Showing.{AnnouncesFilters}
use Rattle.server_core.proofs.Going.{got-number}
use Rattle.server_core.proofs.Sendings.{sent-more}
use Rattle.server_core.proofs.due.advert_messages.Goals as goal
use Rattle.server_core.proofs.due.advert_messages.Goals.{then-link-interface+in_ok-put_announced, else-link-interface+in_ok-put_announced-2}

pub loop-p-preserved : goal.loop-p-preserved
loop-p-preserved c messages filters adverts =
    let links = c.args.links.now in
    let p = c.loop-p.p in
    let link = get_or links p 0 in
    let at = got-number links p (omega arith) in
    let f = get-some c.args.filters.now.announced p (omega (arith, c.requires.links.0)) in
    let a = get-some c.args.adverts.now.announced p (omega (arith, c.requires.links.1)) in
    let more = ap (λ (z : List SendingParts). z ++ map (onto c.args.tables.now link) (messages link)) (c.loop-p.invariant messages filters adverts) ∙ sym (sent-more c.args.tables.now messages links p link at) in
    elim c.if-link-interface.branch [
      | then-link-interface+in_ok-put_announced w ↦
          let announces = subst (λ z. AnnouncesFilters c.args.filters.now.items f.0 (messages z)) (sym w.if-link-interface.true) (filters p f.0 (at ∙ ap Some w.if-link-interface.true) f.1) in
          ap (λ (v : Vec SendingParts Global). v.items) w.sent-is ∙ (w.in_ok-put_announced.ensures f.0 (messages link) f.1 (record { items_are = c.requires.filter_items; announces = announces }) ∙ more)
      | else-link-interface+in_ok-put_announced-2 w ↦
          ap (λ (v : Vec SendingParts Global). v.items) w.sent-is ∙ (w.in_ok-put_announced-2.ensures a.0 (messages link) a.1 (record { items_are = c.requires.advert_items; steered = c.requires.steered; announces = adverts p link a.0 at w.if-link-interface.false a.1 }) ∙ more)
    ]

pub returns : goal.returns
returns c messages filters adverts = c.loop-p.invariant messages filters adverts ∙ ap (sent_by c.args.tables.now messages) (take_all c.loop-p.p c.args.links.now (omega arith))
