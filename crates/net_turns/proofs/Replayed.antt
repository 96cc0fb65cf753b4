-- A schedule that is made turn by turn, up to the first that is not permitted.
use Rattle.std.proofs.Common.{◌≡◌, ℕ, suc, ◌+◌, ◌<◌, Bool, true, false, List, [], ◌∷◌, ◌++◌, length, get_or, take, drop, refl, sym, ap, subst, ◌∙◌, drop-cons}
use Rattle.std.proofs.lemmas.List.{take_more, take-append-drop}
use Rattle.net_model.specs.declared.turn.Turn.{Turn}
use Rattle.net_turns.specs.Network.{NetworkParts, IsLater}
use Rattle.net_turns.specs.Turns.{IsEntryOf, IsMade, IsTurn, IsBarred, AreMade, StopsAt}
use Rattle.net_turns.proofs.Later.{later-same, later-on, made-more}

-- so far a schedule was made
pub record IsReplayedTo (count : ℕ) (turns : List (ℕ × Turn)) (old new : NetworkParts) : Type 0 where
  pub net : new.net ≡ old.net
  pub made : AreMade old.net old.journal (take count turns) new.journal
  pub later : IsLater old new

pub replayed-none : (turns : List (ℕ × Turn)) (network : NetworkParts) → IsReplayedTo 0 turns network network
replayed-none turns network = record { net = refl; made = refl; later = later-same network network refl }

pub replayed-more : (turns : List (ℕ × Turn)) (old now new : NetworkParts) (i : ℕ) (d : ℕ × Turn) (b : Bool) → i < length turns → IsReplayedTo i turns old now
    → b ≡ true → IsTurn b (get_or turns i d).1 now new → IsReplayedTo (i + 1) turns old new
replayed-more turns old now new i d b less so yes-made x = record {
  net = ap (λ (z : NetworkParts). z.net) m.later ∙ so.net;
  made = subst (λ z. AreMade old.net old.journal z new.journal) (sym (take_more turns i d less))
      (subst (λ (z : NetworkParts). AreMade old.net old.journal (take i turns ++ get_or turns i d ∷ []) z.journal) (sym m.later)
      (made-more old.net old.journal (take i turns) now.journal (get_or turns i d) m.entry so.made
      (subst (λ z. IsEntryOf z now.journal (get_or turns i d).1 m.entry) so.net m.permitted)));
  later = later-on old now new so.later (record { made = m.entry ∷ []; later = m.later });
}
  where
    m : IsMade (get_or turns i d).1 now new
    m = subst (λ z. IsTurn z (get_or turns i d).1 now new) yes-made x

pub stops : (turns : List (ℕ × Turn)) (old now new : NetworkParts) (i line : ℕ) (d : ℕ × Turn) (b : Bool) → i < length turns → IsReplayedTo i turns old now
    → b ≡ false → IsTurn b (get_or turns i d).1 now new → (get_or turns i d).0 ≡ line → StopsAt line turns old new
stops turns old now new i line d b less so not-made x here = record {
  before = take i turns;
  turn = (get_or turns i d).1;
  rest = drop (suc i) turns;
  there = sym (take-append-drop i turns) ∙ (ap (λ z. take i turns ++ z) (drop-cons turns i d less) ∙ (λ k. take i turns ++ (here k, (get_or turns i d).1) ∷ drop (suc i) turns));
  net = ap (λ (z : NetworkParts). z.net) no.0 ∙ so.net;
  made = subst (λ (z : NetworkParts). AreMade old.net old.journal (take i turns) z.journal) (sym no.0) so.made;
  barred = subst (λ (z : NetworkParts). IsBarred old.net z.journal (get_or turns i d).1) (sym no.0) (subst (λ z. IsBarred z now.journal (get_or turns i d).1) so.net no.1);
}
  where
    no : (new ≡ now) × IsBarred now.net now.journal (get_or turns i d).1
    no = subst (λ z. IsTurn z (get_or turns i d).1 now new) not-made x
