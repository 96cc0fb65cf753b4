-- The last member of a list, and the texts that lie last on links, one after the other.
use Rattle.std.proofs.Common.{◌≡◌, ℕ, zero, suc, ◌+◌, ◌-◌, ◌≤◌, ◌<◌, List, [], ◌∷◌, ◌++◌, inl, inr, length, map, take, get_or, slice_get, slice_index_or, Some, refl, sym, ap, subst, ◌∙◌, arith, length-append}
use Rattle.std.proofs.lemmas.List.{length-map, map-append, take_more}
use Rattle.std.proofs.lemmas.Option.{same_Some}
use Rattle.std.proofs.Math.Seq.{take-length}
use Rattle.base.specs.Sets.{Has}
use Rattle.law_machine.proofs.Lists.{get-after}
use Rattle.filter_text.specs.declared.sent.Sent.{Sent}
use Rattle.server_spec.specs.Control.{sent_to}
use Rattle.server_message.specs.Parts.{SendingParts}
use Rattle.sequential_network.specs.Links.{StampedMessageParts, waiting_as}
use Rattle.sequential_network.specs.Last.{LieLast, text_of_sending}

pub split-last : {T : Type 0} (xs : List T) (x : T) → slice_get xs (length xs - 1) ≡ Some x → (before : List T) × (xs ≡ before ++ x ∷ [])
split-last [] x e = absurd cc
split-last (y ∷ []) x e = ([], ap (λ z. z ∷ []) (same_Some _ _ e))
split-last (y ∷ z ∷ xs) x e =
    let n : length (y ∷ z ∷ xs) - 1 ≡ suc (length (z ∷ xs) - 1) = omega arith in
    let r = split-last (z ∷ xs) x (subst (λ k. slice_get (y ∷ z ∷ xs) k ≡ Some x) n e) in
    (y ∷ r.0, λ i. y ∷ r.1 i)

pub last-is : {T : Type 0} (xs : List T) (x : T) → slice_get xs (length xs - 1) ≡ Some x → (before : List T) (y : T) → xs ≡ before ++ y ∷ [] → x ≡ y
last-is xs x e before y is =
    let sum = length-append before (y ∷ []) in
    let n : length xs - 1 ≡ length before = omega (arith, sum, ap length is) in
    same_Some _ _ (sym e ∙ (ap (slice_get xs) n ∙ (ap (λ z. slice_get z (length before)) is ∙ get-after before y [])))

pub none-last : {T : Type 0} (before : List T) (x : T) → [] ≡ before ++ x ∷ [] → ⊥
none-last before x e = let sum = length-append before (x ∷ []) in omega (arith, sum, ap length e)

pub index-has : (xs : List ℕ) (i : ℕ) → i < length xs → Has (slice_index_or xs i 0) xs
index-has [] i l = absurd (omega (arith, l))
index-has (x ∷ xs) zero l = inl refl
index-has (x ∷ xs) (suc i) l = inr (index-has xs i (omega (arith, l)))

get-has : (xs : List SendingParts) (i : ℕ) (d : SendingParts) → i < length xs → Has (get_or xs i d) xs
get-has [] i d l = absurd (omega (arith, l))
get-has (x ∷ xs) zero d l = inl refl
get-has (x ∷ xs) (suc i) d l = inr (get-has xs i d (omega (arith, l)))

get-to : (xs : List SendingParts) (i : ℕ) (d : SendingParts) → i < length xs → slice_index_or (map (λ s. s.to) xs) i 0 ≡ (get_or xs i d).to
get-to [] i d l = absurd (omega (arith, l))
get-to (x ∷ xs) zero d l = refl
get-to (x ∷ xs) (suc i) d l = get-to xs i d (omega (arith, l))

some-sent : (xs : List SendingParts) → 0 < length xs → SendingParts
some-sent [] l = absurd (omega (arith, l))
some-sent (x ∷ xs) l = x

-- so many texts are told
abbrev pub AreToldTo : ℕ → (ℕ → ℕ → List StampedMessageParts) → ℕ → List ℕ → List Sent → Type 0
AreToldTo n messages server outs told = (sent : List SendingParts) → LieLast messages server outs sent → told ≡ map text_of_sending (take n sent)

pub told_none : (messages : ℕ → ℕ → List StampedMessageParts) (server : ℕ) (outs : List ℕ) (told : List Sent) → told ≡ [] → AreToldTo 0 messages server outs told
told_none messages server outs told e sent lies = e

long-as : (messages : ℕ → ℕ → List StampedMessageParts) (server : ℕ) (outs : List ℕ) (sent : List SendingParts) → LieLast messages server outs sent → length outs ≡ length sent
long-as messages server outs sent lies = ap length lies.receivers ∙ length-map sent (λ s. s.to)

pub told_more : (n : ℕ) (messages : ℕ → ℕ → List StampedMessageParts) (server : ℕ) (outs : List ℕ) (told after : List Sent) (x : Sent) → n < length outs
    → ((before : List StampedMessageParts) (last : StampedMessageParts) → messages server (slice_index_or outs n 0) ≡ before ++ last ∷ [] → x ≡ sent_to (slice_index_or outs n 0) last.sent.message)
    → after ≡ told ++ x ∷ [] → AreToldTo n messages server outs told → AreToldTo (n + 1) messages server outs after
told_more n messages server outs told after x less last e so sent lies =
    let low : n < length sent = subst (λ z. n < z) (long-as messages server outs sent lies) less in
    let d : SendingParts = some-sent sent (omega (arith, low)) in
    let s : SendingParts = get_or sent n d in
    let to-is : slice_index_or outs n 0 ≡ (get_or sent n d).to = ap (λ z. slice_index_or z n 0) lies.receivers ∙ get-to sent n d low in
    let there = lies.last (get_or sent n d) (get-has sent n d low) in
    let x-is : x ≡ sent_to (slice_index_or outs n 0) (get_or sent n d).sent.message = last there.0 (waiting_as lies.stamp (get_or sent n d)) (ap (messages server) to-is ∙ there.1) in
    let same : x ≡ text_of_sending (get_or sent n d) = x-is ∙ (λ i. sent_to (to-is i) (get_or sent n d).sent.message) in
    e ∙ ((λ i. so sent lies i ++ same i ∷ []) ∙ sym (more sent n d low))
  where
    more : (xs : List SendingParts) (k : ℕ) (d : SendingParts) → k < length xs → map text_of_sending (take (k + 1) xs) ≡ map text_of_sending (take k xs) ++ text_of_sending (get_or xs k d) ∷ []
    more xs k d l = ap (map text_of_sending) (take_more xs k d l) ∙ map-append text_of_sending (take k xs) (get_or xs k d ∷ [])

pub told_all : (n : ℕ) (messages : ℕ → ℕ → List StampedMessageParts) (server : ℕ) (outs : List ℕ) (told : List Sent) → n ≤ length outs → length outs ≤ n → AreToldTo n messages server outs told
    → (sent : List SendingParts) → LieLast messages server outs sent → told ≡ map text_of_sending sent
told_all n messages server outs told most end so sent lies =
    let all : n ≡ length outs = omega (arith, most, end) in
    so sent lies ∙ ap (map text_of_sending) (ap (λ k. take k sent) (all ∙ long-as messages server outs sent lies) ∙ take-length sent)
