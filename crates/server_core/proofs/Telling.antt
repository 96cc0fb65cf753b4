-- What was announced on a link by numbers is the message of the change.
use Rattle.std.proofs.Common.{◌≡◌, ◌⊎◌, inl, inr, ℕ, ◌<◌, nat_lt, Bool, true, false, cond, Some, List, [], ◌∷◌, length, refl, sym, ap, ap₂, subst, ◌∙◌}
use Rattle.filter_covering.specs.Laws.{sub_laws, ad_laws}
use Rattle.base.specs.Laws.{CoverLaws}
use Rattle.base.specs.Sets.{Has, IsRising, minus, same_list}
use Rattle.base.proofs.Sets.{ext, minus-iff, same_list-equal, same_list-self, member-iff, has-member}
use Rattle.base_order.specs.Order.{picked}
use Rattle.server_stock.specs.Sides.{Announced}
use Rattle.server_stock.specs.Stock.{IsAnnounced}
use Rattle.server_stock.proofs.Turns.{get-some}
use Rattle.server_stock.proofs.Shown.{has-picked}
use Rattle.filter_text.specs.Messages.{Lists}
use Rattle.law_routing.specs.Server.{Message, Subs, Advs}
use Rattle.net_model.specs.Real.{real}
use Rattle.net_model.specs.Parts.{NetParts}
use Rattle.server_message.specs.Parts.{ChangeParts, IsChange}
use Rattle.server_message.specs.declared.load.Load.TheVariants as loads
use Rattle.server_core.specs.Due.{IsChangeBy, IsCarried}
use Rattle.server_core.specs.Showing.{AnnouncesFilters, AnnouncesAdverts, FiltersAnnounced, AdvertsAnnounced}

module _ {T : Type 0} {covers before : T → T → Bool} (laws : CoverLaws covers before) where
  -- two sets of which neither has more are one
  pub none-apart : (a b : List T) → IsRising before a → IsRising before b → minus before a b ≡ [] → minus before b a ≡ [] → a ≡ b
  none-apart a b r s e f = ext laws a b r s (λ x h. inside x a b e h) (λ x h. inside x b a f h)
    where
      decide : (x : T) (ys : List T) → Has x ys ⊎ (Has x ys → ⊥)
      decide x ys = go (Rattle.base.specs.Sets.member before x ys) refl
        where
          go : (t : Bool) → Rattle.base.specs.Sets.member before x ys ≡ t → Has x ys ⊎ (Has x ys → ⊥)
          go true q = inl ((member-iff laws x ys).0 q)
          go false q = inr (λ h. bad (sym q ∙ has-member laws x ys h))
            where
              bad : false ≡ true → ⊥
              bad w = cc

      inside : (x : T) (xs ys : List T) → minus before xs ys ≡ [] → Has x xs → Has x ys
      inside x xs ys e h = elim (decide x ys) [ inl m ↦ m | inr n ↦ absurd (subst (Has x) e ((minus-iff laws x xs ys).1 (h, n))) ]

  minus-self : (a : List T) → minus before a a ≡ []
  minus-self a = go (minus before a a) (λ x h. (minus-iff laws x a a).0 h)
    where
      go : (zs : List T) → ((x : T) → Has x zs → Has x a × (Has x a → ⊥)) → zs ≡ []
      go [] n = refl
      go (z ∷ zs) n = let w = n z (inl refl) in absurd (w.1 w.0)

  pub minus-same : (a b : List T) → a ≡ b → minus before a b ≡ []
  minus-same a b e = ap (minus before a) (sym e) ∙ minus-self a

-- numbers of items pick some where there are some
pub picks-none : {T : Type 0} (items : List T) (ns : List ℕ) → ((i : ℕ) → Has i ns → i < length items) → picked items ns ≡ [] → ns ≡ []
picks-none items [] l e = refl
picks-none items (n ∷ ns) l e =
    let x = get-some items n (l n (inl refl)) in
    absurd (subst (Has x.0) e (has-picked items (n ∷ ns) n x.0 (inl refl) x.1))

apart-announced : {T : Type 0} {covers before : T → T → Bool} (laws : CoverLaws covers before) (items a b : List T) (t : Announced) → IsAnnounced before items a b t
    → ((i : ℕ) → Has i t.withdrawn → i < length items) → (i : ℕ) → Has i t.withdrawn → Has i t.added → ⊥
apart-announced {T} {covers} {before} laws items a b t announced l i m n =
    let x = get-some items i (l i m) in
    let p = (minus-iff laws x.0 a b).0 (subst (Has x.0) announced.withdrawn (has-picked items t.withdrawn i x.0 m x.1)) in
    let q = (minus-iff laws x.0 b a).0 (subst (Has x.0) announced.added (has-picked items t.added i x.0 n x.1)) in
    p.1 q.0

-- the numbers of a change of items are a change
pub is-change : {T : Type 0} {covers before : T → T → Bool} (laws : CoverLaws covers before) (items a b : List T) (t : Announced) (c : ChangeParts) → IsAnnounced before items a b t
    → IsChangeBy (length items) t c → IsChange (length items) c
is-change laws items a b t c announced by = record {
  withdrawn_rising = subst (IsRising nat_lt) (sym by.withdrawn) by.withdrawn_rising;
  added_rising = subst (IsRising nat_lt) (sym by.added) by.added_rising;
  withdrawn_known = λ i h. by.withdrawn_known i (subst (Has i) by.withdrawn h);
  added_known = λ i h. by.added_known i (subst (Has i) by.added h);
  apart = λ i h k. apart-announced laws items a b t announced by.withdrawn_known i (subst (Has i) by.withdrawn h) (subst (Has i) by.added k);
}

-- whether two sets are one, by what was announced
module _ {T : Type 0} {covers before : T → T → Bool} (laws : CoverLaws covers before) (items a b : List T) (t : Announced) (announced : IsAnnounced before items a b t) where
  pub still : IsRising before a → IsRising before b → t.withdrawn ≡ [] → t.added ≡ [] → same_list before a b ≡ true
  still r s w d =
      let same = none-apart laws a b r s (sym announced.withdrawn ∙ ap (picked items) w) (sym announced.added ∙ ap (picked items) d) in
      ap (same_list before a) (sym same) ∙ same_list-self laws a

  pub moved : (c : ChangeParts) → IsChangeBy (length items) t c → same_list before a b ≡ false
  moved c by = go (same_list before a b) refl
    where
      go : (v : Bool) → same_list before a b ≡ v → v ≡ false
      go false e = refl
      go true e =
          let same = same_list-equal laws a b e in
          absurd (by.some (picks-none items t.withdrawn by.withdrawn_known (announced.withdrawn ∙ minus-same laws a b same), picks-none items t.added by.added_known (announced.added ∙ minus-same laws b a (sym same))))

-- the messages
module _ (items : Lists) (t : Announced) (ms : List (Message real)) where
  pub no-filters : AnnouncesFilters items t ms → t.withdrawn ≡ [] → t.added ≡ [] → ms ≡ []
  no-filters w e f =
      sym w.change ∙ ap (λ (v : Bool). cond v [] (Subs (minus real.before w.old w.new) (minus real.before w.new w.old) ∷ [])) (still sub_laws items w.old w.new t w.is_announced w.old_rising w.new_rising e f)

  pub some-filters : AnnouncesFilters items t ms → (c : ChangeParts) → IsChangeBy (length items) t c → ms ≡ Subs (picked items c.withdrawn) (picked items c.added) ∷ []
  some-filters w c by =
      sym w.change
      ∙ (ap (λ (v : Bool). cond v [] (Subs (minus real.before w.old w.new) (minus real.before w.new w.old) ∷ [])) (moved sub_laws items w.old w.new t w.is_announced c by)
      ∙ ap₂ (λ x y. Subs x y ∷ []) (sym w.is_announced.withdrawn ∙ ap (picked items) (sym by.withdrawn)) (sym w.is_announced.added ∙ ap (picked items) (sym by.added)))

  pub no-adverts : AnnouncesAdverts items t ms → t.withdrawn ≡ [] → t.added ≡ [] → ms ≡ []
  no-adverts w e f =
      sym w.change
      ∙ ap (λ (v : Bool). cond v [] (Advs (minus real.before_advert w.old w.new) (minus real.before_advert w.new w.old) ∷ [])) (still ad_laws items w.old w.new t w.is_announced w.old_rising w.new_rising e f)

  pub some-adverts : AnnouncesAdverts items t ms → (c : ChangeParts) → IsChangeBy (length items) t c → ms ≡ Advs (picked items c.withdrawn) (picked items c.added) ∷ []
  some-adverts w c by =
      sym w.change
      ∙ (ap (λ (v : Bool). cond v [] (Advs (minus real.before_advert w.old w.new) (minus real.before_advert w.new w.old) ∷ [])) (moved ad_laws items w.old w.new t w.is_announced c by)
      ∙ ap₂ (λ x y. Advs x y ∷ []) (sym w.is_announced.withdrawn ∙ ap (picked items) (sym by.withdrawn)) (sym w.is_announced.added ∙ ap (picked items) (sym by.added)))

-- what is carried of a change
pub filters-carried : (net : NetParts) (items : Lists) (t : Announced) (ms : List (Message real)) → FiltersAnnounced net items t ms → (c : ChangeParts) → IsChangeBy (length items) t c
    → IsCarried net ms (Some (loads.Filters c))
filters-carried net items t ms announced c by = (
  subst (λ (z : Lists). IsChange (length z) c) announced.items_are (is-change sub_laws items announced.announces.old announced.announces.new t c announced.announces.is_announced by),
  some-filters items t ms announced.announces c by ∙ ap (λ (z : Lists). Subs (picked z c.withdrawn) (picked z c.added) ∷ []) announced.items_are,
)

pub adverts-carried : (net : NetParts) (items : Lists) (t : Announced) (ms : List (Message real)) → AdvertsAnnounced net items t ms → (c : ChangeParts) → IsChangeBy (length items) t c
    → IsCarried net ms (Some (loads.Adverts c))
adverts-carried net items t ms announced c by = (
  (announced.steered, subst (λ (z : Lists). IsChange (length z) c) announced.items_are (is-change ad_laws items announced.announces.old announced.announces.new t c announced.announces.is_announced by)),
  some-adverts items t ms announced.announces c by ∙ ap (λ (z : Lists). Advs (picked z c.withdrawn) (picked z c.added) ∷ []) announced.items_are,
)
