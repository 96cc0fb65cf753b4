-- A look leaves what is in hand as it was.
use Rattle.std.proofs.Common.{◌≡◌, List, refl, sym, subst}
use Rattle.net_model.specs.Parts.{NetParts, EntryParts}
use Rattle.thread_cell.specs.declared.held.ServerInHand.{ServerInHand}
use Rattle.thread_cell.specs.declared.held.Root.{Root}
use Rattle.thread_cell.specs.Links.{Both, IsUnmoved}
use Rattle.thread_cell.specs.Cell.{IsKept}
use Rattle.thread_cell.specs.Turns.{IsStill}
use Rattle.thread_cell.proofs.Turning.{still, held-still}
use Rattle.thread_cell.proofs.Keeping.{kept-still}
use Rattle.thread_cell.proofs.Shown.{same-one}
use Rattle.thread_versions.specs.Ends.{IsSamePublisher}

pub still-looked : (old new : ServerInHand) (journal : List EntryParts) → new.core ≡ old.core → Both IsUnmoved old.links.items new.links.items → new.publisher ≡ old.publisher → IsStill old new journal journal
still-looked old new journal core links publisher = still old new journal journal core links refl (subst (IsSamePublisher old.publisher) (sym publisher) (same-one old.publisher)) (rw publisher refl)

pub kept-looked : (net : NetParts) (root : Root) (journal : List EntryParts) (old new : ServerInHand) → IsKept net root journal old → new.core ≡ old.core → Both IsUnmoved old.links.items new.links.items → new.publisher ≡ old.publisher → new.handed ≡ old.handed → IsKept net root journal new
kept-looked net root journal old new kept core links publisher handed =
    kept-still net root journal old kept new journal (still-looked old new journal core links publisher)
    (held-still old new kept.now core links (rw (publisher, core) kept.now.shown) (rw (publisher, handed) kept.now.handed))
