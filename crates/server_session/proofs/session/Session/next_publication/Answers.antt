use Rattle.std.proofs.Common.{sym, subst}
use Rattle.net_tables.specs.declared.numbered.NumberedCommand.{NumberedCommand}
use Rattle.server_session.specs.Session.{IsNextCommand}
use Rattle.server_session.proofs.Keeping.{known-publication, publishes-plan, refuses-plan, refused-publish}
use Rattle.server_session.proofs.session.Session.next_publication.Goals as goal

pub returns-then-accepts-clause-publish : goal.returns-then-accepts-clause-publish
returns-then-accepts-clause-publish c =
    let s = c.args.self.now in
    let n = subst (λ (z : NumberedCommand). IsNextCommand s.net s.session z) c.in-Publish.is c.in_ok-k.ensures.some in
    let q = known-publication s.net s.session c.in-Publish.k n in
    (q.0, q.1, publishes-plan s.net s.session c.in-Publish.k q.0 n q.1 (sym (c.if-accepts.ensures q.0 q.1)))

pub returns-else-accepts-clause-none : goal.returns-else-accepts-clause-none
returns-else-accepts-clause-none c id note e =
    let s = c.args.self.now in
    let n = subst (λ (z : NumberedCommand). IsNextCommand s.net s.session z) c.in-Publish.is c.in_ok-k.ensures.some in
    let q = known-publication s.net s.session c.in-Publish.k n in
    refused-publish s.session _ id note (refuses-plan s.net s.session c.in-Publish.k q.0 n q.1 (sym (c.if-accepts.ensures q.0 q.1))) e
