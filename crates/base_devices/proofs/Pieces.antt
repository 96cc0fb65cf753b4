-- Lemmas on bytes that are read or written piece by piece.
use Rattle.std.proofs.Common.{◌≡◌, ◌≤◌, Option, arith, ℕ, ◌+◌, ◌-◌, List, [], ◌++◌, length, take, drop, sym, ap, subst, ◌∙◌, append_assoc, append-nil, take-append-drop}
use Rattle.std.proofs.lemmas.List.{take_rest, append_cancel_left}
use Rattle.std.proofs.KnownBytes.{Consumes-nil, Consumes-trans, Consumes-kept}
use Rattle.std.specs.Io.KnownBytes.{Consumes, Keeps}
use Rattle.base_devices.specs.Whole.{Gave}

-- a front of the rest goes to what is done
pub moves_front : (all done rest : List ℕ) (n : ℕ) → all ≡ done ++ rest → all ≡ (done ++ take n rest) ++ take (length rest - n) (drop n rest)
moves_front all done rest n e =
    e ∙ ap (λ l. done ++ l) (sym (take-append-drop n rest)) ∙ sym (append_assoc done (take n rest) (drop n rest)) ∙ ap (λ l. (done ++ take n rest) ++ l) (sym (take_rest rest n))

-- two pieces are one
pub joined : (a b c x y : List ℕ) → b ≡ a ++ x → c ≡ b ++ y → c ≡ a ++ (x ++ y)
joined a b c x y p q = q ∙ ap (λ l. l ++ y) p ∙ append_assoc a x y

-- what was given is no other than these bytes
pub told_by : (a b : List ℕ) (old new : Option (List ℕ)) (items : List ℕ) → b ≡ a ++ items → Consumes old new items → (given : List ℕ) → b ≡ a ++ given → Consumes old new given
told_by a b old new items p told given q = subst (λ l. Consumes old new l) (append_cancel_left a items given (sym p ∙ q)) told

-- where nothing was read, nothing was given
pub told_unread : (a : List ℕ) (left : Option (List ℕ)) (given : List ℕ) → a ≡ a ++ given → Consumes left left given
told_unread a left given p = told_by a a left left [] (sym (append-nil a)) (Consumes-nil left) given p

-- nor are the bytes before and a piece
pub told_then : (a b c : List ℕ) (old mid new : Option (List ℕ)) (items piece : List ℕ) → b ≡ a ++ items → Consumes old mid items → c ≡ b ++ piece → Consumes mid new piece
    → (given : List ℕ) → c ≡ a ++ given → Consumes old new given
told_then a b c old mid new items piece p first q second = told_by a c old new (items ++ piece) (joined a b c items piece p q) (Consumes-trans old mid new items piece first second)

-- where nothing more came, the bytes before are all
pub told_still : (a b c : List ℕ) (old mid new : Option (List ℕ)) (items : List ℕ) → b ≡ a ++ items → Consumes old mid items → c ≡ b → Keeps mid new
    → (given : List ℕ) → c ≡ a ++ given → Consumes old new given
told_still a b c old mid new items p first q keeps = told_by a c old new items (q ∙ p) (Consumes-kept old mid new items first keeps)

-- where these bytes were given, no more were
pub no_more : (a b items : List ℕ) (limit : ℕ) → b ≡ a ++ items → length items ≤ limit → Gave a b (λ given. length given ≡ limit + 1) → ⊥
no_more a b items limit p fits t =
    let same : items ≡ t.0 = append_cancel_left a items t.0 (sym p ∙ t.1) in
    omega (arith, subst (λ (l : List ℕ). length l ≤ limit) same fits, t.2)
