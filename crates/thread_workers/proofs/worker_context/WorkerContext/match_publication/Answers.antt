use Rattle.std.proofs.Common.{◌<◌, length, ap, sym, subst, ◌∙◌}
use Rattle.base_bits.specs.Rows.{Numbers}
use Rattle.net_model.specs.Parts.{NetParts}
use Rattle.net_tables.specs.Known.{known_filters, known_publications}
use Rattle.thread_workers.proofs.worker_context.WorkerContext.match_publication.Goals as goal

pub matched-matched-requires : goal.matched-matched-requires
matched-matched-requires g c = subst (λ (z : NetParts). c.args.number < length (known_publications 1 z.clients)) c.args.self.now.lock_for.net_is c.requires.known.0

pub match_ahead-requires : goal.match_ahead-requires
match_ahead-requires g c =
    ap (λ (z : Numbers). z.width) c.matched-matched.ensures.matched
    ∙ ap (λ (z : NetParts). length (known_filters z.clients)) (sym c.args.self.now.lock_for.net_is)
    ∙ sym c.requires.known.1
    ∙ sym c.requires.handles.viewer_is.width
