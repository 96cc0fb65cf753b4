use Rattle.std.proofs.Common.{◌∙◌, ap, subst}
use Rattle.base_devices.specs.Pending.{outlet, Went}
use Rattle.base_devices.proofs.Outlets.{went-then}
use Rattle.document_format.proofs.Chain.{whole_text}
use Rattle.document_format.proofs.document.put_document.Goals as goal

pub returns : goal.returns
returns g c =
    let old = outlet (g.K.Sink.state c.args.sink.now) c.args.out.now in
    let new = outlet (g.K.Sink.state c.put_schedule.new.sink) c.put_schedule.new.out in
    let trees = rw (c.deref.ensures.value ∙ ap (λ n. n.trees) c.net.view_is) at c.put_trees.ensures in
    let clients = rw (c.deref-2.ensures.value ∙ ap (λ n. n.clients) c.net.view_is) at c.put_clients.ensures in
    let scripts = rw (c.deref-3.ensures.value ∙ ap (λ n. n.clients) c.net.view_is) at c.put_scripts.ensures in
    let schedule = rw (c.deref-4.ensures.value ∙ ap (λ n. n.clients) c.net.view_is, c.deref-5.ensures.value ∙ ap (λ n. n.schedule) c.net.view_is) at c.put_schedule.ensures in
    subst (Went old new) (whole_text c.args.net.now)
    (went-then _ _ _ _ _ (went-then _ _ _ _ _ (went-then _ _ _ _ _ (went-then _ _ _ _ _ c.put_first.ensures trees) clients) scripts) schedule)
