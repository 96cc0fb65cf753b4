-- Lemmas on queues of which none has a message.
use Rattle.std.proofs.Common.{◌≡◌, ℕ, zero, suc, nat_le, ◌&&◌, ◌⊎◌, Bool, true, false, cond, List, [], ◌∷◌, ◌++◌, inl, inr, slice_index_or, refl, ap, ◌∙◌}
use Rattle.base.specs.Sets.{Has}
use Rattle.sequential_network.specs.Links.{QueueParts, queue_parts, link_place, messages_at}
use Rattle.base.proofs.Sets.{has-append}

one-of-all : (qs : List QueueParts) (k : ℕ) → ((q : QueueParts) → Has q qs → q ≡ queue_parts [] false) → slice_index_or qs k (queue_parts [] false) ≡ queue_parts [] false
one-of-all [] k all = refl
one-of-all (q ∷ qs) zero all = all q (inl refl)
one-of-all (q ∷ qs) (suc k) all = one-of-all qs k (λ x h. all x (inr h))

-- links all of whose queues are empty have no messages
pub all-silent : (qs : List QueueParts) → ((q : QueueParts) → Has q qs → q ≡ queue_parts [] false) → (from to : ℕ) → messages_at qs from to ≡ []
all-silent qs all from to = go (nat_le from 64 && nat_le to 64)
  where
    go : (b : Bool) → cond b (slice_index_or qs (link_place from to) (queue_parts [] false)).messages [] ≡ []
    go true = ap (λ z. z.messages) (one-of-all qs (link_place from to) all)
    go false = refl

-- one more empty queue
pub one-more : (qs : List QueueParts) (x : QueueParts) → x ≡ queue_parts [] false → ((q : QueueParts) → Has q qs → q ≡ queue_parts [] false)
    → (q : QueueParts) → Has q (qs ++ x ∷ []) → q ≡ queue_parts [] false
one-more qs x e all q h = go (has-append q qs (x ∷ []) h)
  where
    go : Has q qs ⊎ Has q (x ∷ []) → q ≡ queue_parts [] false
    go (inl a) = all q a
    go (inr (inl b)) = b ∙ e
    go (inr (inr b)) = absurd b
