-- Messages to the master, and to links that a test picks.
use Rattle.std.proofs.Common.{◌≡◌, ℕ, ◌==◌, ◌&&◌, ◌||◌, not, Bool, true, false, cond, List, [], ◌∷◌, ◌++◌, map, filter, inl, inr, refl, ap, ap₂, ◌∙◌, arith}
use Rattle.std.proofs.lemmas.Bool.Decides.{nat_tests}
use Rattle.std.specs.List.{flat_map}
use Rattle.law_routing.specs.Server.{Message}
use Rattle.net_model.specs.Real.{real}
use Rattle.net_model.specs.Parts.{NetParts}
use Rattle.server_message.specs.Parts.{SendingParts, onto, sent_by}
use Rattle.server_core.specs.Acting.{sent_on}
use Rattle.hierarchy_network.specs.Acting.{sent_up}
use Rattle.std.proofs.lemmas.List.Elements.{filter-append}

module _ (run : NetParts) (master : ℕ) where
  kept-all : (link : ℕ) (messages : List (Message real)) → (link == master) ≡ true → filter (λ (s : SendingParts). s.to == master) (map (onto run link) messages) ≡ map (onto run link) messages
  kept-all link [] e = refl
  kept-all link (m ∷ messages) e = ap (λ b. cond b (onto run link m ∷ filter (λ (s : SendingParts). s.to == master) (map (onto run link) messages)) (filter (λ (s : SendingParts). s.to == master) (map (onto run link) messages))) e
      ∙ ap (λ z. onto run link m ∷ z) (kept-all link messages e)

  kept-none : (link : ℕ) (messages : List (Message real)) → (link == master) ≡ false → filter (λ (s : SendingParts). s.to == master) (map (onto run link) messages) ≡ []
  kept-none link [] e = refl
  kept-none link (m ∷ messages) e = ap (λ b. cond b (onto run link m ∷ filter (λ (s : SendingParts). s.to == master) (map (onto run link) messages)) (filter (λ (s : SendingParts). s.to == master) (map (onto run link) messages))) e
      ∙ kept-none link messages e

  kept-of : (link : ℕ) (messages : List (Message real)) → filter (λ (s : SendingParts). s.to == master) (map (onto run link) messages) ≡ map (onto run link) (cond (link == master) messages [])
  kept-of link messages = go (link == master) refl
    where
      go : (b : Bool) → (link == master) ≡ b → filter (λ (s : SendingParts). s.to == master) (map (onto run link) messages) ≡ map (onto run link) (cond b messages [])
      go true e = kept-all link messages e
      go false e = kept-none link messages e

  -- of messages to links, those to the master
  pub up-of : (messages : ℕ → List (Message real)) (links : List ℕ) → sent_up master (sent_by run messages links) ≡ sent_by run (λ link. cond (link == master) (messages link) []) links
  up-of messages [] = refl
  up-of messages (link ∷ links) =
      filter-append (λ (s : SendingParts). s.to == master) (map (onto run link) (messages link)) (flat_map (λ l. map (onto run l) (messages l)) links)
      ∙ ap₂ (λ ys zs. ys ++ zs) (kept-of link (messages link)) (up-of messages links)

-- one message to each link that a test picks
pub picked-links : (run : NetParts) (test : ℕ → Bool) (m : Message real) (links : List ℕ) → sent_on run m (filter test links) ≡ sent_by run (λ link. cond (test link) (m ∷ []) []) links
picked-links run test m [] = refl
picked-links run test m (link ∷ links) = go (test link) (picked-links run test m links)
  where
    go : (b : Bool) → sent_on run m (filter test links) ≡ sent_by run (λ l. cond (test l) (m ∷ []) []) links
        → sent_on run m (cond b (link ∷ filter test links) (filter test links)) ≡ map (onto run link) (cond b (m ∷ []) []) ++ sent_by run (λ l. cond (test l) (m ∷ []) []) links
    go true e = ap (λ z. onto run link m ∷ z) e
    go false e = e

-- a link that is neither where it came from nor the master
pub goes-other : (master from link : ℕ) (r b : Bool) → (link ≡ from → ⊥) → (link ≡ master → ⊥) → r ≡ b → r ≡ (not (link == from) && ((link == master) || b))
goes-other master from link r b n o e = grind (arith, nat_tests)

-- nothing is sent
pub none-anyway : (b : Bool) → cond {A = List (Message real)} b [] [] ≡ []
none-anyway true = refl
none-anyway false = refl
