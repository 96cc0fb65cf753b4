-- Messages that are sent on links, each at most one a link: the receivers, and what is sent to each.
use Rattle.std.proofs.Common.{◌≡◌, ℕ, ◌+◌, ◌≤◌, ◌==◌, ◌⊎◌, cond, Bool, true, false, List, [], ◌∷◌, ◌++◌, length, map, filter, inl, inr, refl, sym, ap, subst, ◌∙◌, arith, eq-eqb, ne_eqb, ◌||◌}
use Rattle.std.proofs.lemmas.List.{length-append, length-map}
use Rattle.base.specs.Sets.{Has}
use Rattle.base.specs.Numbers.{IsDistinct}
use Rattle.base.proofs.Numbers.{Same, Is, Not, compare}
use Rattle.law_machine.specs.Machine.{receivers}
use Rattle.law_routing.specs.Net.{Net}
use Rattle.law_routing.specs.Server.{Message, is_among}
use Rattle.law_routing.specs.Routing.{routing_machine}
use Rattle.law_routing.proofs.Listing.{append-none, not-among}
use Rattle.net_model.specs.Real.{real}
use Rattle.server_message.specs.Parts.{SendingParts, message_parts, onto, sent_by}
use Rattle.net_model.specs.Parts.{NetParts}
use Rattle.base.proofs.Sets.{has-append, has-map}
use Rattle.std.proofs.lemmas.List.Elements.{filter-append}

-- all that is sent to a link is for it, and nothing for another
all-to : (of : NetParts) (l b : ℕ) (ms : List (Message real)) → l ≡ b → filter (λ s. s.to == b) (map (onto of l) ms) ≡ map (onto of l) ms
all-to of l b [] e = refl
all-to of l b (m ∷ ms) e = rw (eq-eqb l b e) (ap (λ (z : List SendingParts). onto of l m ∷ z) (all-to of l b ms e))

none-to : (of : NetParts) (l b : ℕ) (ms : List (Message real)) → (l ≡ b → ⊥) → filter (λ s. s.to == b) (map (onto of l) ms) ≡ []
none-to of l b [] n = refl
none-to of l b (m ∷ ms) n = rw (ne_eqb l b n) (none-to of l b ms n)

module _ (of : NetParts) (outs : ℕ → List (Message real)) where
  -- of these links each gets at most one
  abbrev pub AtMostOne : List ℕ → Type 0
  AtMostOne links = (link : ℕ) → Has link links → length (outs link) ≤ 1

  -- the receivers are the links with a message
  pub receivers-told : (net : Net real) (links : List ℕ) → AtMostOne links → map (λ s. s.to) (sent_by of outs links) ≡ receivers (routing_machine real net) outs links
  receivers-told net [] one = refl
  receivers-told net (l ∷ links) one = go (outs l) refl (one l (inl refl)) (receivers-told net links (λ v h. one v (inr h)))
    where
      go : (xs : List (Message real)) → outs l ≡ xs → length xs ≤ 1 → map (λ s. s.to) (sent_by of outs links) ≡ receivers (routing_machine real net) outs links
          → map (λ s. s.to) (sent_by of outs (l ∷ links)) ≡ receivers (routing_machine real net) outs (l ∷ links)
      go [] e few ih = rw e ih
      go (x ∷ []) e few ih = rw e (ap (λ z. l ∷ z) ih)
      go (x ∷ y ∷ xs) e few ih = absurd (omega (arith, few))

  -- there are no more than links
  pub sent-few : (links : List ℕ) → AtMostOne links → length (sent_by of outs links) ≤ length links
  sent-few [] one = omega arith
  sent-few (l ∷ links) one =
      let here = one l (inl refl) in
      let ih = sent-few links (λ v h. one v (inr h)) in
      let sum = length-append (map (onto of l) (outs l)) (sent_by of outs links) in
      let same = length-map (outs l) (onto of l) in
      omega (arith, here, ih, sum, same)

  -- what is sent goes to a link
  pub sent-to : (links : List ℕ) (s : SendingParts) → Has s (sent_by of outs links) → Has s.to links
  sent-to [] s h = h
  sent-to (l ∷ links) s h = go (has-append s (map (onto of l) (outs l)) (sent_by of outs links) h) (sent-to links s)
    where
      go : Has s (map (onto of l) (outs l)) ⊎ Has s (sent_by of outs links) → (Has s (sent_by of outs links) → Has s.to links) → Has s.to (l ∷ links)
      go (inl a) ih = let m = has-map (onto of l) (outs l) s a in inl (ap (λ z. z.to) m.2)
      go (inr b) ih = inr (ih b)

  -- and is a message to it
  pub sent-of : (links : List ℕ) (s : SendingParts) → Has s (sent_by of outs links) → (m : Message real) × Has m (outs s.to) × (s.sent ≡ message_parts of m)
  sent-of [] s h = absurd h
  sent-of (l ∷ links) s h = go (has-append s (map (onto of l) (outs l)) (sent_by of outs links) h) (sent-of links s)
    where
      go : Has s (map (onto of l) (outs l)) ⊎ Has s (sent_by of outs links) → (Has s (sent_by of outs links) → (m : Message real) × Has m (outs s.to) × (s.sent ≡ message_parts of m))
          → (m : Message real) × Has m (outs s.to) × (s.sent ≡ message_parts of m)
      go (inl a) ih =
          let m = has-map (onto of l) (outs l) s a in
          (m.0, subst (λ z. Has m.0 (outs z)) (sym (ap (λ z. z.to) m.2)) m.1, ap (λ z. z.sent) m.2)
      go (inr b) ih = ih b

  -- what is sent to a neighbour are its messages
  pub sent-for : (links : List ℕ) → IsDistinct links → (b : ℕ) → filter (λ s. s.to == b) (sent_by of outs links) ≡ cond (is_among b links) (map (onto of b) (outs b)) []
  sent-for [] apart b = refl
  sent-for (l ∷ links) apart b = filter-append (λ s. s.to == b) (map (onto of l) (outs l)) (sent_by of outs links) ∙ go (compare l b) (sent-for links apart.1 b)
    where
      gone : l ≡ b → Has b links → ⊥
      gone e h = apart.0 (subst (λ z. Has z links) (sym e) h)

      go : Same l b → filter (λ s. s.to == b) (sent_by of outs links) ≡ cond (is_among b links) (map (onto of b) (outs b)) []
          → filter (λ s. s.to == b) (map (onto of l) (outs l)) ++ filter (λ s. s.to == b) (sent_by of outs links) ≡ cond (is_among b (l ∷ links)) (map (onto of b) (outs b)) []
      go (Is e v) ih =
          ap (λ z. z ++ filter (λ s. s.to == b) (sent_by of outs links)) (all-to of l b (outs l) e ∙ ap (λ z. map (onto of z) (outs z)) e)
          ∙ ap (λ z. map (onto of b) (outs b) ++ z) (ih ∙ ap (λ z. cond z (map (onto of b) (outs b)) []) (not-among b links (gone e)))
          ∙ append-none (map (onto of b) (outs b))
          ∙ sym (ap (λ z. cond (z || is_among b links) (map (onto of b) (outs b)) []) (eq-eqb b l (sym e)))
      go (Not n v) ih =
          ap (λ z. z ++ filter (λ s. s.to == b) (sent_by of outs links)) (none-to of l b (outs l) n) ∙ ih
          ∙ sym (ap (λ z. cond (z || is_among b links) (map (onto of b) (outs b)) []) (ne_eqb b l (λ e. n (sym e))))

  -- what is sent is for links that differ
  pub sent-apart : (links : List ℕ) → AtMostOne links → IsDistinct links → IsDistinct (map (λ s. s.to) (sent_by of outs links))
  sent-apart [] one apart = tt
  sent-apart (l ∷ links) one apart = go (outs l) refl (one l (inl refl)) (sent-apart links (λ v h. one v (inr h)) apart.1)
    where
      gone : Has l (map (λ s. s.to) (sent_by of outs links)) → ⊥
      gone h = let m = has-map (λ (s : SendingParts). s.to) (sent_by of outs links) l h in apart.0 (subst (λ z. Has z links) (sym m.2) (sent-to links m.0 m.1))

      go : (xs : List (Message real)) → outs l ≡ xs → length xs ≤ 1 → IsDistinct (map (λ s. s.to) (sent_by of outs links)) → IsDistinct (map (λ s. s.to) (sent_by of outs (l ∷ links)))
      go [] e few ih = rw e ih
      go (x ∷ []) e few ih = rw e (gone, ih)
      go (x ∷ y ∷ xs) e few ih = absurd (omega (arith, few))
