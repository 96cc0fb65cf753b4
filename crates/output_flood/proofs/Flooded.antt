-- Proves that what the code lists is what flooding owes.
use Rattle.std.proofs.Common.{◌≡◌, ℕ, zero, suc, ◌+◌, ◌≤◌, true, ◌&&◌, List, [], take, length, slice_get, Option, Some, None, refl, sym, ap, subst, ◌∙◌, arith}
use Rattle.std.proofs.Math.Seq.{take-length}
use Rattle.base.specs.Sets.{Has}
use Rattle.filter_types.specs.Notice.{Attribute}
use Rattle.law_routing.specs.Net.{PhasedCommand, Command, Publish}
use Rattle.law_routing.specs.Clients.{ordinal, adverts_after, filters_after, commands_below, refused_from, some_pass}
use Rattle.law_routing.specs.Owed.{IsMomentOfPhase, IsPublication, IsAdvertisedThroughout, IsOwed, IsAllowed}
use Rattle.law_routing.proofs.Listing.{pass-by, by-pass}
use Rattle.net_model.specs.Real.{real}
use Rattle.net_model.specs.Parts.{ClientParts, NetParts}
use Rattle.net_model.specs.Nets.{with_adverts, script_in, script_of}
use Rattle.output_flood.specs.declared.owed.OwedRow.{OwedRow}
use Rattle.output_flood.specs.declared.publication.Publication.{Publication}
use Rattle.output_flood.specs.Flooding.{net_in, IsOwedRow, HasRow, AreRows, all_refused, IsFlooding}
use Rattle.output_flood.specs.Held.{Script, below, some_filters, every_filters, every_adverts}
use Rattle.output_flood.specs.Publications.{is_free, is_met, publication_of, accepted_from, accepted_of, refusals_from, rows_of, all_rows_of, all_refusals_of}
use Rattle.output_flood.proofs.Moments.{ps, below_same}
use Rattle.output_flood.proofs.PhaseOfFilters.{throughout_to, throughout_from, sometime_to, sometime_from}
use Rattle.output_flood.proofs.PhaseOfAdverts.{throughout_to as adverts_to, throughout_from as adverts_from}
use Rattle.output_flood.proofs.Passing.{must_pass, may_pass}
use Rattle.output_flood.proofs.Publishing.{publish_at, Accepted, accepted_to, accepted_has, refusals_same}
use Rattle.output_flood.proofs.RowsOf.{whose, of_client, of_rising, row_at, rows_to, rows_from, rows_rising}
use Rattle.std.proofs.lemmas.Bool.{and_parts, and_from}
use Rattle.base.proofs.Lists.{map-get-from}
use Rattle.base.proofs.Numbers.{zero-add, suc-one-add}
use Rattle.std.proofs.lemmas.List.{length-map}

script_at : (net : NetParts) (place : ℕ) (client : ClientParts) → slice_get net.clients place ≡ Some client → script_of net (suc place) ≡ ps client.script
script_at net place client e = ap script_in e

-- how many commands are of lower phases, of a client
low : (k : ℕ) (S : List (PhasedCommand real)) (script : Script) → S ≡ ps script → commands_below real k S ≡ below k script
low k S script e = ap (commands_below real k) e ∙ below_same k script

high : (k : ℕ) (S : List (PhasedCommand real)) (script : Script) → S ≡ ps script → commands_below real (suc k) S ≡ below (k + 1) script
high k S script e = low (suc k) S script e ∙ ap (λ z. below z script) (next k)
  where
    next : (k : ℕ) → suc k ≡ k + 1
    next k = omega arith

-- the moments of a phase
moment_to : (net : NetParts) (k place count : ℕ) (client : ClientParts) → slice_get net.clients place ≡ Some client
    → below k client.script ≤ count → count ≤ below (k + 1) client.script → IsMomentOfPhase real (net_in net k) k (suc place) count
moment_to net k place count client e from upto =
    let s = script_at net place client e in record {
      from = omega (arith, low k (script_of net (suc place)) client.script s, from);
      upto = omega (arith, high k (script_of net (suc place)) client.script s, upto);
    }

moment_low : (net : NetParts) (k place count : ℕ) (client : ClientParts) → slice_get net.clients place ≡ Some client
    → IsMomentOfPhase real (net_in net k) k (suc place) count → below k client.script ≤ count
moment_low net k place count client e m = omega (arith, low k (script_of net (suc place)) client.script (script_at net place client e), m.from)

moment_high : (net : NetParts) (k place count : ℕ) (client : ClientParts) → slice_get net.clients place ≡ Some client
    → IsMomentOfPhase real (net_in net k) k (suc place) count → count ≤ below (k + 1) client.script
moment_high net k place count client e m = omega (arith, high k (script_of net (suc place)) client.script (script_at net place client e), m.upto)

-- filters at some moment of a phase, and at each
allowed_to : (net : NetParts) (k place : ℕ) (client : ClientParts) (n : List Attribute) → slice_get net.clients place ≡ Some client
    → is_met (some_filters k client.script) n ≡ true → IsAllowed real (net_in net k) k n (suc place)
allowed_to net k place client n e met =
    let r = by-pass (λ f. real.matches n f) (some_filters k client.script) met in
    let m = sometime_to k client.script r.0 r.1 in record {
      index = m.count;
      moment = moment_to net k place m.count client e m.from m.upto;
      filter = r.0;
      listed = subst (λ z. Has r.0 (filters_after real [] (take m.count z))) (sym (script_at net place client e)) m.listed;
      matches = r.2;
    }

allowed_from : (net : NetParts) (k place : ℕ) (client : ClientParts) (n : List Attribute) → slice_get net.clients place ≡ Some client
    → IsAllowed real (net_in net k) k n (suc place) → is_met (some_filters k client.script) n ≡ true
allowed_from net k place client n e a =
    pass-by (λ f. real.matches n f) a.filter (some_filters k client.script)
    (sometime_from k client.script a.filter (record {
      count = a.index;
      from = moment_low net k place a.index client e a.moment;
      upto = moment_high net k place a.index client e a.moment;
      listed = subst (λ z. Has a.filter (filters_after real [] (take a.index z))) (script_at net place client e) a.listed;
    }))
    a.matches

advertised_to : (net : NetParts) (k place : ℕ) (client : ClientParts) (n : List Attribute) → slice_get net.clients place ≡ Some client
    → is_free net.semantics (every_adverts k client.script) n ≡ true → with_adverts net.semantics ≡ true
    → IsAdvertisedThroughout real (net_in net k) (suc place) k n
advertised_to net k place client n e free on =
    let r = by-pass (λ a. real.allows a n) (every_adverts k client.script) (must_pass (with_adverts net.semantics) (some_pass (λ a. real.allows a n) (every_adverts k client.script)) on free) in record {
      advert = r.0;
      always = λ count m.
          subst (λ z. Has r.0 (adverts_after real [] (take count z))) (sym (script_at net place client e))
          (adverts_to k client.script r.0 r.1 count (moment_low net k place count client e m) (moment_high net k place count client e m));
      allows = r.2;
    }

advertised_from : (net : NetParts) (k place : ℕ) (client : ClientParts) (n : List Attribute) → slice_get net.clients place ≡ Some client
    → (with_adverts net.semantics ≡ true → IsAdvertisedThroughout real (net_in net k) (suc place) k n)
    → is_free net.semantics (every_adverts k client.script) n ≡ true
advertised_from net k place client n e f =
    may_pass (with_adverts net.semantics) (some_pass (λ a. real.allows a n) (every_adverts k client.script)) (λ on.
    (let x = f on in
    pass-by (λ a. real.allows a n) x.advert (every_adverts k client.script)
    (adverts_from k client.script x.advert (λ count from upto.
    subst (λ z. Has x.advert (adverts_after real [] (take count z))) (script_at net place client e) (x.always count (moment_to net k place count client e from upto))))
    x.allows))

owed_to : (net : NetParts) (k place whose : ℕ) (client publisher : ClientParts) (n : List Attribute)
    → slice_get net.clients place ≡ Some client → slice_get net.clients whose ≡ Some publisher
    → is_free net.semantics (every_adverts k publisher.script) n && is_met (every_filters k client.script) n ≡ true
    → IsOwed real (net_in net k) (suc whose) k n (suc place)
owed_to net k place whose client publisher n e f both =
    let two = and_parts (is_free net.semantics (every_adverts k publisher.script) n) (is_met (every_filters k client.script) n) both in
    let r = by-pass (λ g. real.matches n g) (every_filters k client.script) two.1 in record {
      filter = r.0;
      always = λ count m.
          subst (λ z. Has r.0 (filters_after real [] (take count z))) (sym (script_at net place client e))
          (throughout_to k client.script r.0 r.1 count (moment_low net k place count client e m) (moment_high net k place count client e m));
      matches = r.2;
      allowed = advertised_to net k whose publisher n f two.0;
    }

owed_from : (net : NetParts) (k place whose : ℕ) (client publisher : ClientParts) (n : List Attribute)
    → slice_get net.clients place ≡ Some client → slice_get net.clients whose ≡ Some publisher
    → IsOwed real (net_in net k) (suc whose) k n (suc place)
    → is_free net.semantics (every_adverts k publisher.script) n && is_met (every_filters k client.script) n ≡ true
owed_from net k place whose client publisher n e f o =
    and_from (is_free net.semantics (every_adverts k publisher.script) n) (is_met (every_filters k client.script) n)
    (advertised_from net k whose publisher n f o.allowed)
    (pass-by (λ g. real.matches n g) o.filter (every_filters k client.script)
    (throughout_from k client.script o.filter (λ count from upto.
    subst (λ z. Has o.filter (filters_after real [] (take count z))) (script_at net place client e) (o.always count (moment_to net k place count client e from upto))))
    o.matches)

-- an accepted publish of a script is a publication
published_to : (net : NetParts) (whose : ℕ) (publisher : ClientParts) (p : Publication) → slice_get net.clients whose ≡ Some publisher
    → (a : Accepted net.semantics (suc whose) publisher.script [] 0 publisher.script p)
    → IsPublication real (net_in net a.phase) (suc whose) p.id.ordinal a.phase a.notice
published_to net whose publisher p e a =
    let s = script_at net whose publisher e in record {
      index = a.index;
      command = publish_at a.phase a.notice;
      at = ap (λ z. slice_get z a.index) s ∙ a.at;
      publishes = refl;
      ordinal = ap (λ z. ordinal real (take (suc a.index) z)) s ∙ sym (zero-add (ordinal real (take (suc a.index) (ps publisher.script)))) ∙ a.counted;
      allowed = ap (λ z. is_free net.semantics (adverts_after real [] (take a.index z)) a.notice) s ∙ a.free;
      phase = refl;
    }

each_row : (net : NetParts) (place whose : ℕ) (client publisher : ClientParts) (p : Publication)
    → slice_get net.clients place ≡ Some client → slice_get net.clients whose ≡ Some publisher
    → Has p (accepted_from net.semantics (suc whose) publisher.script [] 0 publisher.script)
    → is_met (some_filters p.phase client.script) p.notice ≡ true
    → IsOwedRow net (suc place) (row_at client.script p)
each_row net place whose client publisher p e f h met =
    subst (λ z. IsOwedRow net (suc place) (row_at client.script z)) (sym a.is) (record {
      phase = a.phase;
      notice = a.notice;
      published = published_to net whose publisher p f a;
      allowed = allowed_to net a.phase place client a.notice e (ap (λ (z : Publication). is_met (some_filters z.phase client.script) z.notice) (sym a.is) ∙ met);
      must = (owed_to net a.phase place whose client publisher a.notice e f, owed_from net a.phase place whose client publisher a.notice e f);
    })
  where
    a : Accepted net.semantics (suc whose) publisher.script [] 0 publisher.script p
    a = accepted_to net.semantics (suc whose) publisher.script publisher.script [] [] (λ x. ((λ h. h), (λ h. h))) 0 p h

-- a publisher is a client of the net
pub record Publisher (net : NetParts) (q : ℕ) : Type 0 where
  pub whose : ℕ
  pub client : ClientParts
  pub number : q ≡ suc whose
  pub at : slice_get net.clients whose ≡ Some client

pub publisher_is : (net : NetParts) (q index : ℕ) (c : PhasedCommand real) → slice_get (script_of net q) index ≡ Some c → Publisher net q
publisher_is net zero index c e = absurd cc
publisher_is net (suc place) index c e = go (slice_get net.clients place) refl e
  where
    go : (found : Option ClientParts) → slice_get net.clients place ≡ found → slice_get (script_in found) index ≡ Some c → Publisher net (suc place)
    go None f e = absurd cc
    go (Some client) f e = record { whose = place; client = client; number = refl; at = f }

is_publish_at : (c : PhasedCommand real) (k : ℕ) (n : List Attribute) → c.phase ≡ k → c.command ≡ Publish n → c ≡ publish_at k n
is_publish_at c k n p q = ap (λ z. phased z c.command) p ∙ ap (phased k) q
  where
    phased : ℕ → Command real → PhasedCommand real
    phased k c = record { phase = k; command = c }

whole_row : (net : NetParts) (place whose o k : ℕ) (client publisher : ClientParts) (n : List Attribute)
    → slice_get net.clients place ≡ Some client → slice_get net.clients whose ≡ Some publisher
    → IsPublication real (net_in net k) (suc whose) o k n → IsAllowed real (net_in net k) k n (suc place)
    → HasRow (suc whose) o (rows_of client.script (accepted_of net.semantics 1 net.clients))
whole_row net place whose o k client publisher n e f p a = (
  is_free net.semantics (every_adverts k publisher.script) n && is_met (every_filters k client.script) n,
  rows_from client.script (accepted_of net.semantics 1 net.clients) (publication_of net.semantics (suc whose) publisher.script o k n)
      (of_client net.semantics net.clients 1 whose publisher (publication_of net.semantics (suc whose) publisher.script o k n) f
      (subst (λ z. Has (publication_of net.semantics (suc whose) publisher.script o k n) (accepted_from net.semantics z publisher.script [] 0 publisher.script)) (suc-one-add whose)
      (accepted_has net.semantics (suc whose) publisher.script publisher.script [] [] (λ x. ((λ h. h), (λ h. h))) 0 p.index k n o
      (ap (λ z. slice_get z p.index) (sym s) ∙ p.at ∙ ap Some (is_publish_at p.command k n p.phase p.publishes))
      (zero-add (ordinal real (take (suc p.index) (ps publisher.script))) ∙ ap (λ z. ordinal real (take (suc p.index) z)) (sym s) ∙ p.ordinal)
      (ap (λ z. is_free net.semantics (adverts_after real [] (take p.index z)) n) (sym s) ∙ p.allowed))))
      (allowed_from net k place client n e a),
)
  where
    s : script_of net (suc whose) ≡ ps publisher.script
    s = script_at net whose publisher f

client_rows : (net : NetParts) (place : ℕ) (client : ClientParts) → slice_get net.clients place ≡ Some client
    → AreRows net (suc place) (rows_of client.script (accepted_of net.semantics 1 net.clients))
client_rows net place client e = record {
  each = λ row h.
      (let w = rows_to client.script (accepted_of net.semantics 1 net.clients) row h in
      let v = whose net.semantics net.clients 1 w.publication w.listed in
      subst (IsOwedRow net (suc place)) (sym w.is)
      (each_row net place v.place client v.client w.publication e v.at
      (subst (λ z. Has w.publication (accepted_from net.semantics z v.client.script [] 0 v.client.script)) (sym (suc-one-add v.place)) v.accepted) w.met));
  whole = λ q o k n p a.
      (let w = publisher_is net q p.index p.command p.at in
      subst (λ z. HasRow z o (rows_of client.script (accepted_of net.semantics 1 net.clients))) (sym w.number)
      (whole_row net place w.whose o k client w.client n e w.at (subst (λ z. IsPublication real (net_in net k) z o k n) w.number p) a));
  rising = rows_rising client.script (accepted_of net.semantics 1 net.clients) (of_rising net.semantics net.clients 1);
}

client_refused : (net : NetParts) (place : ℕ) (client : ClientParts) → slice_get net.clients place ≡ Some client
    → refusals_from net.semantics [] 0 client.script ≡ all_refused net (suc place)
client_refused net place client e =
    refusals_same net.semantics (net_in net 0) refl client.script [] [] (λ x. ((λ h. h), (λ h. h))) 0
    ∙ ap (refused_from real (net_in net 0) [] 0) (sym (take-length (ps client.script)))
    ∙ ap (λ z. refused_from real (net_in net 0) [] 0 (take (length z) z)) (sym (script_at net place client e))

pub flooding : (net : NetParts)
    → IsFlooding net (all_rows_of net.clients (accepted_of net.semantics 1 net.clients)) (all_refusals_of net.semantics net.clients)
flooding net = record {
  all_rows = length-map net.clients (λ client. rows_of client.script (accepted_of net.semantics 1 net.clients));
  all_ordinals = length-map net.clients (λ client. refusals_from net.semantics [] 0 client.script);
  of_client = λ place list e.
      (let w = map-get-from (λ client. rows_of client.script (accepted_of net.semantics 1 net.clients)) net.clients place list e in
      subst (AreRows net (suc place)) (sym w.2) (client_rows net place w.0 w.1));
  ordinals = λ place list e.
      (let w = map-get-from (λ client. refusals_from net.semantics [] 0 client.script) net.clients place list e in
      w.2 ∙ client_refused net place w.0 w.1);
}

pub flooding_by : (net : NetParts) (rows : List (List OwedRow)) (refused : List (List ℕ))
    → rows ≡ all_rows_of net.clients (accepted_of net.semantics 1 net.clients) → refused ≡ all_refusals_of net.semantics net.clients → IsFlooding net rows refused
flooding_by net rows refused e f =
    subst (λ z. IsFlooding net z refused) (sym e)
    (subst (λ z. IsFlooding net (all_rows_of net.clients (accepted_of net.semantics 1 net.clients)) z) (sym f) (flooding net))
