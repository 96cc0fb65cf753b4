-- What flooding owes does not depend on the trees: two nets of one document owe the same.
use Rattle.std.proofs.Common.{◌≡◌, ℕ, suc, cond, List, [], ◌∷◌, length, take, refl, ap, ◌∙◌, subst}
use Rattle.base_tree.specs.Tree.{Topology}
use Rattle.filter_types.specs.Notice.{Attribute}
use Rattle.law_routing.specs.Net.{Command, Subscribe, Unsubscribe, Advertise, Unadvertise, Publish, PhasedCommand}
use Rattle.law_routing.specs.Clients.{adverts_step, accepts, refused_from}
use Rattle.law_routing.specs.Owed.{IsMomentOfPhase, IsPublication, IsAdvertisedThroughout, IsOwed, IsAllowed}
use Rattle.net_model.specs.Real.{real}
use Rattle.filter_text.specs.declared.semantics.Semantics.{Semantics}
use Rattle.net_model.specs.declared.turn.Turn.{Turn}
use Rattle.net_model.specs.Parts.{ClientParts, NetParts, net_parts}
use Rattle.net_model.specs.Nets.{script_of}
use Rattle.output_flood.specs.declared.owed.OwedRow.{OwedRow}
use Rattle.output_flood.specs.Flooding.{net_in, all_refused, IsOwedRow, AreRows, IsFlooding}

-- one net beside another of the same semantics and clients
module _ (semantics : Semantics) (clients : List ClientParts) (v w : ℕ) (t u : List (ℕ × Topology)) (x y : List (ℕ × Turn)) where
  abbrev here : NetParts
  here = net_parts v semantics t clients x

  abbrev there : NetParts
  there = net_parts w semantics u clients y

  published : (q o k : ℕ) (n : List Attribute) → IsPublication real (net_in here k) q o k n → IsPublication real (net_in there k) q o k n
  published q o k n p = record { index = p.index; command = p.command; at = p.at; publishes = p.publishes; ordinal = p.ordinal; allowed = p.allowed; phase = p.phase }

  moment : (k c j : ℕ) → IsMomentOfPhase real (net_in here k) k c j → IsMomentOfPhase real (net_in there k) k c j
  moment k c j m = record { from = m.from; upto = m.upto }

  moment-back : (k c j : ℕ) → IsMomentOfPhase real (net_in there k) k c j → IsMomentOfPhase real (net_in here k) k c j
  moment-back k c j m = record { from = m.from; upto = m.upto }

  advertised : (q k : ℕ) (n : List Attribute) → IsAdvertisedThroughout real (net_in here k) q k n → IsAdvertisedThroughout real (net_in there k) q k n
  advertised q k n a = record { advert = a.advert; always = λ j m. a.always j (moment-back k q j m); allows = a.allows }

  owed : (q k : ℕ) (n : List Attribute) (c : ℕ) → IsOwed real (net_in here k) q k n c → IsOwed real (net_in there k) q k n c
  owed q k n c o = record { filter = o.filter; always = λ j m. o.always j (moment-back k c j m); matches = o.matches; allowed = λ e. advertised q k n (o.allowed e) }

  allowed : (k : ℕ) (n : List Attribute) (c : ℕ) → IsAllowed real (net_in here k) k n c → IsAllowed real (net_in there k) k n c
  allowed k n c a = record { index = a.index; moment = moment k c a.index a.moment; filter = a.filter; listed = a.listed; matches = a.matches }

  refused-added : (adverts : List real.Advert) (before : ℕ) (commands : List (PhasedCommand real))
      → refused_from real (net_in here 0) adverts before commands ≡ refused_from real (net_in there 0) adverts before commands
  refused-added adverts before [] = refl
  refused-added adverts before (c ∷ cs) = go c.command (λ more count. refused-added more count cs)
    where
      go : (z : Command real)
          → ((more : List real.Advert) (count : ℕ) → refused_from real (net_in here 0) more count cs ≡ refused_from real (net_in there 0) more count cs)
          → refused_from real (net_in here 0) adverts before (record { phase = c.phase; command = z } ∷ cs)
          ≡ refused_from real (net_in there 0) adverts before (record { phase = c.phase; command = z } ∷ cs)
      go (Subscribe f) rest = rest adverts before
      go (Unsubscribe f) rest = rest adverts before
      go (Advertise a) rest = rest (adverts_step real adverts (Advertise a)) before
      go (Unadvertise a) rest = rest (adverts_step real adverts (Unadvertise a)) before
      go (Publish n) rest = ap (λ l. cond (accepts real (net_in here 0) adverts n) l (suc before ∷ l)) (rest adverts (suc before))

  refused-same : (c : ℕ) → all_refused here c ≡ all_refused there c
  refused-same c = refused-added [] 0 (take (length (script_of here c)) (script_of here c))

-- forth and back
module _ (semantics : Semantics) (clients : List ClientParts) (v w : ℕ) (t u : List (ℕ × Topology)) (x y : List (ℕ × Turn)) where
  row : (c : ℕ) (r : OwedRow) → IsOwedRow (here semantics clients v w t u x y) c r → IsOwedRow (there semantics clients v w t u x y) c r
  row c r h = record {
    phase = h.phase;
    notice = h.notice;
    published = published semantics clients v w t u x y r.id.publisher r.id.ordinal h.phase h.notice h.published;
    allowed = allowed semantics clients v w t u x y h.phase h.notice c h.allowed;
    must = (
      (λ e. owed semantics clients v w t u x y r.id.publisher h.phase h.notice c (h.must.0 e)),
      (λ o. h.must.1 (owed semantics clients w v u t y x r.id.publisher h.phase h.notice c o)),
    );
  }

  rows : (c : ℕ) (rs : List OwedRow) → AreRows (here semantics clients v w t u x y) c rs → AreRows (there semantics clients v w t u x y) c rs
  rows c rs h = record {
    each = λ r m. row c r (h.each r m);
    whole = λ q o k n p a. h.whole q o k n (published semantics clients w v u t y x q o k n p) (allowed semantics clients w v u t y x k n c a);
    rising = h.rising;
  }

  flooding : (rs : List (List OwedRow)) (refused : List (List ℕ)) → IsFlooding (here semantics clients v w t u x y) rs refused
      → IsFlooding (there semantics clients v w t u x y) rs refused
  flooding rs refused h = record {
    all_rows = h.all_rows;
    all_ordinals = h.all_ordinals;
    of_client = λ place l e. rows (suc place) l (h.of_client place l e);
    ordinals = λ place l e. h.ordinals place l e ∙ refused-same semantics clients v w t u x y (suc place);
  }

-- what flooding owes by one net it owes by another of the same semantics and clients
pub same-flooding : (one other : NetParts) (rs : List (List OwedRow)) (refused : List (List ℕ)) → one.semantics ≡ other.semantics → one.clients ≡ other.clients
    → IsFlooding one rs refused → IsFlooding other rs refused
same-flooding one other rs refused s c h =
    subst (λ z. IsFlooding (net_parts other.version z other.trees other.clients other.schedule) rs refused) s
    (subst (λ z. IsFlooding (net_parts other.version one.semantics other.trees z other.schedule) rs refused) c
    (flooding one.semantics one.clients one.version other.version one.trees other.trees one.schedule other.schedule rs refused h))
