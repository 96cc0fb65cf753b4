use Rattle.std.proofs.Common.{◌++◌, List, get_or, map, sym, ap, ◌∙◌, arith}
use Rattle.std.proofs.lemmas.List.{take_all}
use Rattle.server_stock.proofs.Turns.{get-some}
use Rattle.server_message.specs.Parts.{SendingParts, onto, sent_by}
use Rattle.server_core.proofs.Going.{got-number}
use Rattle.server_core.proofs.Sendings.{sent-more}
use Rattle.server_core.proofs.due.filter_messages.Goals as goal

pub put_announced-requires-clause-announced : goal.put_announced-requires-clause-announced
put_announced-requires-clause-announced c t e = let r = c.requires.announced c.loop-p.p t (omega arith) e in (r.0, record { items_are = c.requires.items; announces = r.1 })

pub loop-p-preserved : goal.loop-p-preserved
loop-p-preserved c messages announces =
    let links = c.args.links.now in
    let p = c.loop-p.p in
    let link = get_or links p 0 in
    let at = got-number links p (omega arith) in
    let t = get-some c.args.filters.now.announced p (omega (arith, c.requires.links)) in
    c.in_ok-put_announced.ensures t.0 (messages link) t.1 (record { items_are = c.requires.items; announces = announces p link t.0 at t.1 })
    ∙ (ap (λ (z : List SendingParts). z ++ map (onto c.args.tables.now link) (messages link)) (c.loop-p.invariant messages announces) ∙ sym (sent-more c.args.tables.now messages links p link at))

pub returns : goal.returns
returns c messages announces = c.loop-p.invariant messages announces ∙ ap (sent_by c.args.tables.now messages) (take_all c.loop-p.p c.args.links.now (omega arith))
