use Rattle.std.proofs.Common.{ap, ◌∙◌, sym}
use Rattle.thread_versions.proofs.Pens.{makes_moves}
use Rattle.thread_versions.proofs.history.make_pen.Goals as goal

pub compare_exchange-found-requires : goal.compare_exchange-found-requires
compare_exchange-found-requires c =
    let word = c.requires in
    let seen = c.again-seen.ensures in
    let offer = c.plain-offer.ensures in
    let pen = c.no_pen-pen.ensures in
    let book = ap (λ s. s.book) seen ∙ sym (ap (λ w. w.book) word) in (
      ap (λ w. w.tracked) word,
      book,
      pen.0 ∙ book,
      offer.0,
      rw (ap (λ w. w.key) word, pen.1, offer.3) (makes_moves c.again-seen.result.log c.plain-offer.result.ask),
    )
