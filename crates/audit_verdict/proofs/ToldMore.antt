-- The messages of a run of peers grow with it.
use Rattle.std.proofs.Common.{◌≡◌, ℕ, zero, suc, ◌+◌, ◌<◌, ◌≤◌, List, [], ◌∷◌, ◌++◌, length, refl, ap, ◌∙◌, arith}
use Rattle.std.proofs.lemmas.List.{length-map, map-append}
use Rattle.law_phases.specs.Moments.{found_of, opening_moment}
use Rattle.law_phases.proofs.Moments.{found-left}
use Rattle.net_model.specs.Real.{real}
use Rattle.net_model.specs.Parts.{NetParts, EntryParts}
use Rattle.net_model.specs.Meaning.{entry_of, journal_of}
use Rattle.net_model.specs.Nets.{phased_net}
use Rattle.net_turns.specs.Told.{told_by, told_from, told_of}

-- what is told of a run stays when it goes on
told-left : (net : NetParts) (journal later : List EntryParts) (n : ℕ) (es : List EntryParts) → n + length es ≤ length journal → told_from net (journal ++ later) n es ≡ told_from net journal n es
told-left net journal later n [] l = refl
told-left net journal later n (e ∷ es) l =
    let here : n < length (journal_of journal) = omega (arith, l, length-map journal entry_of) in
    let found : found_of real (phased_net net) (journal_of (journal ++ later)) n ≡ found_of real (phased_net net) (journal_of journal) n =
    ap (λ z. found_of real (phased_net net) z n) (map-append entry_of journal later) ∙ found-left real (phased_net net) (opening_moment real (phased_net net)) (journal_of journal) (journal_of later) n here in
    λ i. told_of net (found i) e ∷ told-left net journal later (suc n) es (omega (arith, l)) i

told-append : (net : NetParts) (whole : List EntryParts) (n : ℕ) (es : List EntryParts) (e : EntryParts)
    → told_from net whole n (es ++ e ∷ []) ≡ told_from net whole n es ++ told_of net (found_of real (phased_net net) (journal_of whole) (n + length es)) e ∷ []
told-append net whole n [] e = let z : n ≡ n + 0 = omega arith in ap (λ k. told_of net (found_of real (phased_net net) (journal_of whole) k) e ∷ []) z
told-append net whole n (x ∷ es) e =
    let z : suc n + length es ≡ n + suc (length es) = omega arith in
    ap (λ l. told_of net (found_of real (phased_net net) (journal_of whole) n) x ∷ l)
    (told-append net whole (suc n) es e ∙ ap (λ k. told_from net whole (suc n) es ++ told_of net (found_of real (phased_net net) (journal_of whole) k) e ∷ []) z)

-- one entry more
pub told-one-more : (net : NetParts) (journal : List EntryParts) (e : EntryParts)
    → told_by net (journal ++ e ∷ []) ≡ told_by net journal ++ told_of net (found_of real (phased_net net) (journal_of (journal ++ e ∷ [])) (length journal)) e ∷ []
told-one-more net journal e =
    let z : zero + length journal ≡ length journal = omega arith in
    told-append net (journal ++ e ∷ []) zero journal e
    ∙ (λ i. told-left net journal (e ∷ []) zero journal (omega arith) i ++ told_of net (found_of real (phased_net net) (journal_of (journal ++ e ∷ [])) (z i)) e ∷ [])
