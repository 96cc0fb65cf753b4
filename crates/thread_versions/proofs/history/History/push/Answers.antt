use Rattle.std.proofs.Common.{ap, ◌∙◌, sym}
use Rattle.thread_versions.specs.Book.{first_pen, pen_after, word_of}
use Rattle.thread_versions.proofs.Pens.{adds_moves, pen_after-add}
use Rattle.thread_versions.proofs.history.History.push.Goals as goal

pub compare_exchange-found-requires : goal.compare_exchange-found-requires
compare_exchange-found-requires c =
    let had = c.self.invariant in
    let offer = c.plain-offer.ensures in
    let draft = c.new-draft.ensures.pens in
    let book = sym (ap (λ w. w.book) had.word) in
    let own = ap (λ e. e.pen) offer.1 ∙ ap (λ p. p.nib.key) draft.0 in (
      ap (λ w. w.tracked) had.word,
      book,
      had.book ∙ book,
      offer.0,
      rw (ap (λ w. w.key) had.word, offer.3) (adds_moves c.self.inside.seen.log c.plain-offer.result.ask c.self.inside.pen.nib had.right had.turn own),
    )

pub invariant_of-self : goal.invariant_of-self
invariant_of-self c =
    let had = c.self.invariant in
    let next = c.make_pen-next.ensures.pen in
    let draft = c.new-draft.ensures.pens in
    let offer = c.plain-offer.ensures in
    let after = c.compare_exchange-found.ensures in
    let book = sym after.0 in
    record {
      word = had.word ∙ ap (word_of) book;
      book = next.0 ∙ book;
      right = next.1;
      turn = sym (ap (λ p. p.nib.key) draft.1) ∙ sym (ap (λ e. e.next) offer.1) ∙ sym (pen_after-add first_pen c.self.inside.seen.log c.plain-offer.result.ask)
          ∙ ap (pen_after first_pen) (sym after.7);
    }
