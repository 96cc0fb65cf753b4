-- Lemmas on messages to one link more.
use Rattle.std.proofs.Common.{◌≡◌, ℕ, ◌+◌, List, [], ◌∷◌, ◌++◌, map, take, slice_get, Some, sym, ap, ◌∙◌, append-nil, append_assoc, add-one}
use Rattle.std.specs.List.{flat_map}
use Rattle.law_routing.specs.Server.{Message}
use Rattle.net_model.specs.Real.{real}
use Rattle.net_model.specs.Parts.{NetParts}
use Rattle.server_message.specs.Parts.{onto, sent_by}
use Rattle.base.proofs.Lists.{take-suc-some}

flat-push : {A B : Type 0} (f : A → List B) (xs : List A) (x : A) → flat_map f (xs ++ x ∷ []) ≡ flat_map f xs ++ f x
flat-push f [] x = append-nil (f x)
flat-push f (y ∷ ys) x = ap (λ z. f y ++ z) (flat-push f ys x) ∙ sym (append_assoc (f y) (flat_map f ys) (f x))

pub sent-more : (run : NetParts) (messages : ℕ → List (Message real)) (links : List ℕ) (p link : ℕ) → slice_get links p ≡ Some link
    → sent_by run messages (take (p + 1) links) ≡ sent_by run messages (take p links) ++ map (onto run link) (messages link)
sent-more run messages links p link e = rw (add-one, take-suc-some links p link e) (flat-push (λ link. map (onto run link) (messages link)) (take p links) link)
