use Rattle.std.proofs.Common.{◌∙◌, ◌∷◌, [], sym, ap}
use Rattle.base.specs.Sets.{put_in, minus}
use Rattle.match_routes.specs.Installed.{pair_before}
use Rattle.match_routes.specs.declared.table_change.TableChange.TheVariants.{Put, Take}
use Rattle.thread_versions.specs.Pairs.{made}
use Rattle.thread_versions.proofs.Applied.{true-known, made-known, made-nothing, of-parts}
use Rattle.thread_versions.proofs.applying.make.Goals as goal

pub put-requires : goal.put-requires
put-requires c = true-known c.args.forwarding.now (c.in-Put.interface, c.in-Put.number) (sym c.is_known_to.ensures ∙ c.if-is_known_to.true)

pub take-requires : goal.take-requires
take-requires c = true-known c.args.forwarding.now (c.in-Take.interface, c.in-Take.number) (sym c.is_known_to-in-Take.ensures ∙ c.if-is_known_to-2.true)

pub returns-then-is_known_to : goal.returns-then-is_known_to
returns-then-is_known_to c =
    let p = c.args.forwarding.now in
    let change = Put c.in-Put.number c.in-Put.interface in
    of-parts p c.put.new.self (put_in pair_before (c.in-Put.interface, c.in-Put.number) p.pairs) c.put.ensures.same c.put.ensures.pairs
    ∙ sym (made-known p change (sym c.is_known_to.ensures ∙ c.if-is_known_to.true)) ∙ ap (made p) (sym c.in-Put.is)

pub returns-else-is_known_to : goal.returns-else-is_known_to
returns-else-is_known_to c =
    let p = c.args.forwarding.now in
    sym (made-nothing p (Put c.in-Put.number c.in-Put.interface) (sym c.is_known_to.ensures ∙ c.if-is_known_to.false)) ∙ ap (made p) (sym c.in-Put.is)

pub returns-then-is_known_to-2 : goal.returns-then-is_known_to-2
returns-then-is_known_to-2 c =
    let p = c.args.forwarding.now in
    let change = Take c.in-Take.number c.in-Take.interface in
    of-parts p c.take.new.self (minus pair_before p.pairs ((c.in-Take.interface, c.in-Take.number) ∷ [])) c.take.ensures.same c.take.ensures.pairs
    ∙ sym (made-known p change (sym c.is_known_to-in-Take.ensures ∙ c.if-is_known_to-2.true)) ∙ ap (made p) (sym c.in-Take.is)

pub returns-else-is_known_to-2 : goal.returns-else-is_known_to-2
returns-else-is_known_to-2 c =
    let p = c.args.forwarding.now in
    sym (made-nothing p (Take c.in-Take.number c.in-Take.interface) (sym c.is_known_to-in-Take.ensures ∙ c.if-is_known_to-2.false)) ∙ ap (made p) (sym c.in-Take.is)
