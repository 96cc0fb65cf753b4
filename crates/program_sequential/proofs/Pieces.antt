-- A text that is written in pieces, where the sink fails.
use Rattle.std.proofs.Common.{◌≡◌, ◌<◌, ℕ, List, ◌++◌, ◌∷◌, length, length-append, arith, take, drop, sym, ap, ◌∙◌, append_assoc}
use Rattle.std.proofs.lemmas.Grind.{flat_map-append}
use Rattle.std.specs.Borrow.{Bor}
use Rattle.base_devices.specs.Sinks.{SinkParts, Took, TookFront}
use Rattle.base_devices.proofs.Outlets.{took-then}
use Rattle.program_sequential.specs.Pieces.{joined}

-- pieces were taken, and then a front of the next: so a front of all of them was
pub cut-short : (a b c : SinkParts) (before after : List (Bor (List ℕ))) (piece : Bor (List ℕ)) → Took a b (joined before) → TookFront b c piece.now
    → TookFront a c (joined (before ++ piece ∷ after))
cut-short a b c before after piece all some = record {
  front = joined before ++ some.front;
  rest = some.rest ++ joined after;
  split = flat_map-append (λ (p : Bor (List ℕ)). p.now) before (piece ∷ after) ∙ ap (λ l. joined before ++ (l ++ joined after)) some.split
      ∙ ap (λ l. joined before ++ l) (append_assoc some.front some.rest (joined after)) ∙ sym (append_assoc (joined before) some.front (some.rest ++ joined after));
  some = omega (arith, some.some, length-append some.rest (joined after));
  took = took-then a b c (joined before) some.front all some.took;
}
