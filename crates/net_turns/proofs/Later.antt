-- What goes on: journals that grow, turn by turn.
use Rattle.std.proofs.Common.{◌≡◌, ℕ, ◌≤◌, Bool, true, false, List, [], ◌∷◌, ◌++◌, length, refl, sym, ap, subst, ◌∙◌, arith, length-append}
use Rattle.std.proofs.lemmas.List.{append-nil, append_assoc}
use Rattle.net_model.specs.declared.turn.Turn.{Turn}
use Rattle.net_model.specs.Parts.{NetParts, EntryParts}
use Rattle.net_turns.specs.Network.{NetworkParts, network_parts, IsLater}
use Rattle.net_turns.specs.Turns.{IsTurn, IsEntryOf, AreMade}

pub later-same : (a b : NetworkParts) → b ≡ a → IsLater a b
later-same a b e = record { made = []; later = e ∙ ap (network_parts a.net) (sym (append-nil a.journal)) }

pub later-on : (a b c : NetworkParts) → IsLater a b → IsLater b c → IsLater a c
later-on a b c x y =
    let z = subst (λ w. IsLater w c) x.later y in
    record { made = x.made ++ z.made; later = z.later ∙ ap (network_parts a.net) (append_assoc a.journal x.made z.made) }

pub later-turn : (made : Bool) (turn : Turn) (a b : NetworkParts) → IsTurn made turn a b → IsLater a b
later-turn true turn a b x = record { made = x.entry ∷ []; later = x.later }
later-turn false turn a b x = later-same a b x.0

-- one turn more was made
pub made-more : (net : NetParts) (journal : List EntryParts) (turns : List (ℕ × Turn)) (after : List EntryParts) (turn : ℕ × Turn) (entry : EntryParts)
    → AreMade net journal turns after → IsEntryOf net after turn.1 entry → AreMade net journal (turns ++ turn ∷ []) (after ++ entry ∷ [])
made-more net journal [] after turn entry e x = (entry, subst (λ z. IsEntryOf net z turn.1 entry) (sym e) x, ap (λ z. z ++ entry ∷ []) e)
made-more net journal (t ∷ turns) after turn entry (first, is, rest) x = (first, is, made-more net (journal ++ first ∷ []) turns after turn entry rest x)

pub later-net : (a b : NetworkParts) → IsLater a b → b.net ≡ a.net
later-net a b x = ap (λ (z : NetworkParts). z.net) x.later

-- no longer journal is none that went on
pub later-none : (a b : NetworkParts) → IsLater a b → length b.journal ≤ length a.journal → b ≡ a
later-none a b x short = x.later ∙ (ap (λ z. network_parts a.net (a.journal ++ z)) (nothing x.made few) ∙ ap (network_parts a.net) (append-nil a.journal))
  where
    nothing : (made : List EntryParts) → length made ≤ 0 → made ≡ []
    nothing [] e = refl
    nothing (entry ∷ made) e = absurd (omega (arith, e))

    few : length x.made ≤ 0
    few = omega (arith, short, ap (λ (z : NetworkParts). length z.journal) x.later, length-append a.journal x.made)
