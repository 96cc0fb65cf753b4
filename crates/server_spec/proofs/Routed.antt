-- What a control sends is what the server sends that it represents.
use Rattle.std.proofs.Common.{◌≡◌, ◌≢◌, ◌⊎◌, inl, inr, ℕ, ◌+◌, ◌==◌, cond, not, ◌||◌, Bool, true, false, List, [], ◌∷◌, ◌++◌, map, filter, refl, sym, ap, subst, ◌∙◌, arith}
use Rattle.std.proofs.lemmas.Bool.Decides.{nat_tests}
use Rattle.base.specs.Laws.{CoverLaws}
use Rattle.base.specs.Sets.{Has, IsRising, union, minus, roots}
use Rattle.base.proofs.Sets.{ext, has-union, rising-union, rising-minus, same_list-self, has-append-left}
use Rattle.filter_constraints.specs.Constraint.{ConstraintParts}
use Rattle.filter_covering.specs.Laws.{sub_laws, ad_laws}
use Rattle.filter_types.specs.Before.{list_before}
use Rattle.law_routing.specs.Net.{Net}
use Rattle.law_routing.specs.Server as routing
use Rattle.law_routing.specs.Server.{ServerState, union_except, is_among, interfaces, messages_to}
use Rattle.law_routing.specs.Clients.{some_pass}
use Rattle.net_model.specs.Real.{real}
use Rattle.server_spec.specs.Holdings.{Holding, held_from, held_elsewhere}
use Rattle.server_spec.specs.Control.{Controlled, by_adverts, advs, is_wanted, sent, sent_adverts, filter_change, advert_change, changes_to}
use Rattle.server_spec.specs.Routing.{RepresentsControl}
use Rattle.server_spec.proofs.Holdings.{has-where, rising-where}
use Rattle.std.proofs.lemmas.Bool.{both_ways}
use Rattle.law_routing.proofs.Laws.{one-has}
use Rattle.law_routing.proofs.Listing.{has-one}

pub either-way : (held out add : List (List ConstraintParts)) → IsRising list_before held → IsRising list_before add → union list_before add (minus list_before held out) ≡ union list_before (minus list_before held out) add
either-way held out add r s = ext sub_laws (union list_before add rest) (union list_before rest add) (rising-union sub_laws add rest (rising-minus sub_laws held out r)) (rising-union sub_laws rest add s)
    (λ x m. (has-union sub_laws x rest add).1 (turn ((has-union sub_laws x add rest).0 m)))
    (λ x m. (has-union sub_laws x add rest).1 (turn ((has-union sub_laws x rest add).0 m)))
  where
    rest : List (List ConstraintParts)
    rest = minus list_before held out

    turn : {A B : Type 0} → A ⊎ B → B ⊎ A
    turn (inl a) = inr a
    turn (inr b) = inl b

module _ {T : Type 0} {covers before : T → T → Bool} (laws : CoverLaws covers before) (sets : ℕ → List T) (link : ℕ) where
  rising-except : (is : List ℕ) → IsRising before (union_except before sets link is)
  rising-except [] = tt
  rising-except (i ∷ is) = go (i == link) refl (rising-except is)
    where
      go : (b : Bool) → (i == link) ≡ b → IsRising before (union_except before sets link is) → IsRising before (union_except before sets link (i ∷ is))
      go true e r = rw e r
      go false e r = rw e (rising-union laws (sets i) (union_except before sets link is) r)

  except-has : (is : List ℕ) (x : T) → Has x (union_except before sets link is) → (i : ℕ) × Has i is × (i ≢ link) × Has x (sets i)
  except-has [] x m = absurd m
  except-has (i ∷ is) x m = go (i == link) refl (λ k. except-has is x k)
    where
      go : (b : Bool) → (i == link) ≡ b → (Has x (union_except before sets link is) → (i : ℕ) × Has i is × (i ≢ link) × Has x (sets i)) → (j : ℕ) × Has j (i ∷ is) × (j ≢ link) × Has x (sets j)
      go true e ih =
          let k : Has x (union_except before sets link is) = subst (λ b. Has x (cond b (union_except before sets link is) (union before (sets i) (union_except before sets link is)))) e m in
          let r = ih k in
          (r.0, inr r.1, r.2, r.3)
      go false e ih =
          let k : Has x (union before (sets i) (union_except before sets link is)) = subst (λ b. Has x (cond b (union_except before sets link is) (union before (sets i) (union_except before sets link is)))) e m in
          let n : i ≢ link = grind (arith, nat_tests, e) in
          elim ((has-union laws x (sets i) (union_except before sets link is)).0 k) [
            | inl h ↦ (i, inl refl, n, h)
            | inr h ↦ let r = ih h in (r.0, inr r.1, r.2, r.3)
          ]

  has-except : (is : List ℕ) (x : T) (j : ℕ) → Has j is → j ≢ link → Has x (sets j) → Has x (union_except before sets link is)
  has-except [] x j m n h = absurd m
  has-except (i ∷ is) x j m n h = go (i == link) refl (λ k. has-except is x j k n h)
    where
      go : (b : Bool) → (i == link) ≡ b → (Has j is → Has x (union_except before sets link is)) → Has x (union_except before sets link (i ∷ is))
      go true e ih = elim m [
        | inl q ↦
            let l : i ≡ link = grind (arith, nat_tests, e) in
            absurd (n (q ∙ l))
        | inr k ↦ rw e (ih k)
      ]
      go false e ih = rw e ((has-union laws x (sets i) (union_except before sets link is)).1 (elim m [ inl q ↦ inl (subst (λ z. Has x (sets z)) q h) | inr k ↦ inr (ih k) ]))

  -- the union of what interfaces hold is what is held from elsewhere
  except-is : (holdings : List (Holding T)) (is : List ℕ) → ((i : ℕ) → Has i is → sets i ≡ held_from before i holdings) → ((i : ℕ) → (Has i is → ⊥) → held_from before i holdings ≡ []) → union_except before sets link is ≡ held_elsewhere before link holdings
  except-is holdings is within apart = ext laws (union_except before sets link is) (held_elsewhere before link holdings) (rising-except is) (rising-where laws (λ h. not (h.interface == link)) holdings) to from
    where
      to : (x : T) → Has x (union_except before sets link is) → Has x (held_elsewhere before link holdings)
      to x m =
          let r = except-has is x m in
          let h = (has-where laws (λ h. h.interface == r.0) holdings x).0 (subst (Has x) (within r.0 r.1) r.3) in
          let e : (not (h.0.interface == link)) ≡ true = grind (arith, nat_tests, h.2, r.2) in
          (has-where laws (λ h. not (h.interface == link)) holdings x).1 (h.0, h.1, e, h.3)

      from : (x : T) → Has x (held_elsewhere before link holdings) → Has x (union_except before sets link is)
      from x m =
          let r = (has-where laws (λ h. not (h.interface == link)) holdings x).0 m in
          let n : r.0.interface ≢ link = grind (arith, nat_tests, r.2) in
          let e : (r.0.interface == r.0.interface) ≡ true = grind (arith, nat_tests) in
          let own = (has-where laws (λ h. h.interface == r.0.interface) holdings x).1 (r.0, r.1, e, r.3) in
          go r.0.interface n own (is_among r.0.interface is) refl
        where
          go : (j : ℕ) → j ≢ link → Has x (held_from before j holdings) → (b : Bool) → is_among j is ≡ b → Has x (union_except before sets link is)
          go j n own true a =
              let there = one-has j is a in
              has-except is x j there n (subst (Has x) (sym (within j there)) own)
          go j n own false a = absurd (subst (Has x) (apart j (λ k. both_ways (is_among j is) a (has-one j is k))) own)

module _ (net : Net real) (server : ℕ) (control : Controlled) (state : ServerState real) (stands : RepresentsControl net server control state) (link : ℕ) (is-link : Has link control.links) where
  at-link : Has link (interfaces real net server)
  at-link = has-append-left link (net.links server) (map (λ c. 64 + c) (net.clients server)) (subst (Has link) (sym stands.links) is-link)

  sent-is : sent control link ≡ routing.sent real net state server link
  sent-is =
      let wanted : (λ (f : List ConstraintParts). is_wanted control.semantics (advs control link) f) ≡ (λ f. not net.adverts || some_pass (real.overlaps f) (state.advs link)) = ap (λ z. λ f. not z || some_pass (real.overlaps f) (advs control link)) (sym stands.adverts) ∙ ap (λ z. λ f. not net.adverts || some_pass (real.overlaps f) z) (sym (stands.advs_held link at-link)) in
      ap (λ z. roots real.covers real.before (filter z (held_elsewhere real.before link control.filters))) wanted
      ∙ ap (λ z. roots real.covers real.before (filter (λ f. not net.adverts || some_pass (real.overlaps f) (state.advs link)) z)) (sym (except-is sub_laws state.subs link control.filters (interfaces real net server) stands.subs_held stands.subs_apart))

  adverts-are : sent_adverts control link ≡ roots real.covers_advert real.before_advert (routing.needed_adverts real net state server link)
  adverts-are = ap (roots real.covers_advert real.before_advert) (sym (except-is ad_laws state.advs link control.adverts (interfaces real net server) stands.advs_held stands.advs_apart))

still : (xs : List (List ConstraintParts)) → advert_change xs xs ≡ []
still xs = rw (same_list-self ad_laws xs)

pub messages-are : (net : Net real) (server : ℕ) (old new : Controlled) (before after : ServerState real) → RepresentsControl net server old before → RepresentsControl net server new after → (by_adverts old.semantics ≡ true) ⊎ (old.adverts ≡ new.adverts) → (link : ℕ) → Has link old.links → changes_to old new link ≡ messages_to real net before after server link
messages-are net server old new before after p q same link is-link =
    ap (λ z. filter_change z (sent new link) ++ advert_change (sent_adverts old link) (sent_adverts new link)) (sent-is net server old before p link is-link)
    ∙ ap (λ z. filter_change (routing.sent real net before server link) z ++ advert_change (sent_adverts old link) (sent_adverts new link)) (sent-is net server new after q link there)
    ∙ ap (λ z. filter_change (routing.sent real net before server link) (routing.sent real net after server link) ++ z) (adverts same)
  where
    there : Has link new.links
    there = subst (Has link) (sym p.links ∙ q.links) is-link

    adverts : (by_adverts old.semantics ≡ true) ⊎ (old.adverts ≡ new.adverts) → advert_change (sent_adverts old link) (sent_adverts new link) ≡ advert_change (routing.sent_adverts real net before server link) (routing.sent_adverts real net after server link)
    adverts (inl e) =
        let on : net.adverts ≡ true = p.adverts ∙ e in
        ap (λ z. advert_change z (sent_adverts new link)) (adverts-are net server old before p link is-link) ∙ ap (λ z. advert_change (roots real.covers_advert real.before_advert (routing.needed_adverts real net before server link)) z) (adverts-are net server new after q link there) ∙ sym (ap (λ b. advert_change (cond b (roots real.covers_advert real.before_advert (routing.needed_adverts real net before server link)) []) (cond b (roots real.covers_advert real.before_advert (routing.needed_adverts real net after server link)) [])) on)
    adverts (inr e) = go net.adverts refl
      where
        now : advert_change (sent_adverts old link) (sent_adverts new link) ≡ []
        now = subst (λ z. advert_change (sent_adverts old link) (roots real.covers_advert real.before_advert (held_elsewhere real.before_advert link z)) ≡ []) e (still (sent_adverts old link))

        go : (b : Bool) → net.adverts ≡ b → advert_change (sent_adverts old link) (sent_adverts new link) ≡ advert_change (routing.sent_adverts real net before server link) (routing.sent_adverts real net after server link)
        go true f = ap (λ z. advert_change z (sent_adverts new link)) (adverts-are net server old before p link is-link) ∙ ap (λ z. advert_change (roots real.covers_advert real.before_advert (routing.needed_adverts real net before server link)) z) (adverts-are net server new after q link there) ∙ sym (ap (λ b. advert_change (cond b (roots real.covers_advert real.before_advert (routing.needed_adverts real net before server link)) []) (cond b (roots real.covers_advert real.before_advert (routing.needed_adverts real net after server link)) [])) f)
        go false f = now ∙ sym (ap (λ b. advert_change (cond b (roots real.covers_advert real.before_advert (routing.needed_adverts real net before server link)) []) (cond b (roots real.covers_advert real.before_advert (routing.needed_adverts real net after server link)) [])) f)
