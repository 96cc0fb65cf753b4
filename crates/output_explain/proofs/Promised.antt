-- A verdict is that of the promise: owed and allowed by the scripts.
use Rattle.std.proofs.Common.{◌≡◌, ◌↔◌, ℕ, zero, suc, ◌<◌, ◌==◌, true, List, [], ◌∷◌, length, slice_get, Some, refl, sym, ap, subst, ◌∙◌, arith, eq-eqb}
use Rattle.std.specs.List.{range_with_len}
use Rattle.std.proofs.lemmas.Option.{same_Some}
use Rattle.base.specs.Sets.{Has}
use Rattle.base.proofs.Roots.{Has-filter}
use Rattle.base_tree.proofs.Servers.{in-server}
use Rattle.filter_types.specs.Notice.{Attribute}
use Rattle.filter_text.specs.declared.id.Id.{Id}
use Rattle.law_routing.specs.Net.{Command, Subscribe, Unsubscribe, Advertise, Unadvertise, Publish, PhasedCommand}
use Rattle.law_routing.specs.Clients.{is_publish}
use Rattle.law_routing.specs.Owed.{IsPublication, IsOwed, IsAllowed}
use Rattle.law_routing.proofs.Scripts.{one-index}
use Rattle.law_phases.specs.Owing.{IsOwedByScripts, IsAllowedByScripts}
use Rattle.net_model.specs.Real.{real}
use Rattle.net_model.specs.Parts.{ClientParts, NetParts}
use Rattle.net_model.specs.Nets.{client_at, clients_of, home_of, phased_net, script_of}
use Rattle.output_flood.specs.Flooding.{net_in}
use Rattle.output_explain.specs.declared.answer.Explanation.{Explanation}
use Rattle.output_explain.specs.declared.verdict.Verdict.TheVariants as verdicts
use Rattle.output_explain.specs.Asked.{IsPublish}
use Rattle.output_explain.specs.Explained.{IsExplanation, IsAnswer, publication_of}
use Rattle.output_explain.specs.Verdicts.{IsAccepted, is_given}

abbrev pub notice_in : Command real → List Attribute
notice_in (Subscribe f) = []
notice_in (Unsubscribe f) = []
notice_in (Advertise a) = []
notice_in (Unadvertise a) = []
notice_in (Publish n) = n

-- an accepted publish of this number is this one
pub same_publish : (net : NetParts) (id : Id) (index k other : ℕ) (n m : List Attribute) → IsPublish net id index k n
    → IsPublication real (net_in net other) id.publisher id.ordinal other m → (other ≡ k) × (m ≡ n)
same_publish net id index k other n m p a = (
  sym a.phase ∙ ap (λ (z : PhasedCommand real). z.phase) command,
  ap notice_in (sym a.publishes ∙ ap (λ (z : PhasedCommand real). z.command) command),
)
  where
    here : PhasedCommand real
    here = record { phase = k; command = Publish n }

    place : a.index ≡ index
    place = one-index real (script_of net id.publisher) a.index index a.command here a.at p.at (ap (is_publish real) a.publishes) refl (a.ordinal ∙ sym p.ordinal)

    command : a.command ≡ here
    command = same_Some _ _ (sym a.at ∙ ap (slice_get (script_of net id.publisher)) place ∙ p.at)

-- a client lives at its server
pub lives : (net : NetParts) (number : ℕ) (client : ClientParts) → client_at net.clients number ≡ Some client → Has number (clients_of net (home_of net number))
lives net zero client e = absurd cc
lives net (suc place) client e =
    Has-filter (λ c. home_of net c == home_of net (suc place)) (suc place) (range_with_len 1 (length net.clients))
    (in-server (length net.clients) (suc place) (omega arith, omega (arith, low net.clients place client e)))
    (eq-eqb (home_of net (suc place)) (home_of net (suc place)) refl)
  where
    low : (clients : List ClientParts) (place : ℕ) (client : ClientParts) → slice_get clients place ≡ Some client → place < length clients
    low [] place client e = absurd cc
    low (c ∷ clients) zero client e = omega arith
    low (c ∷ clients) (suc place) client e = omega (arith, low clients place client e)

pub owed_as_promised : (net : NetParts) (client publisher : List ℕ) (ordinal : ℕ) (e : Explanation) → IsAnswer net client publisher ordinal e
    → (e.verdict ≡ verdicts.Owed) ↔ IsOwedByScripts real (phased_net net) (publication_of e) e.client
owed_as_promised net client publisher ordinal e is = (to, from)
  where
    x : IsExplanation net e
    x = is.explained

    to : e.verdict ≡ verdicts.Owed → IsOwedByScripts real (phased_net net) (publication_of e) e.client
    to q =
        let both = x.owed.0 q in record {
          phase = e.phase;
          published = both.0;
          owed = both.1;
          here = lives net e.id.publisher is.of_publisher.client is.of_publisher.at;
          lives = lives net e.client is.of_client.client is.of_client.at;
        }

    from : IsOwedByScripts real (phased_net net) (publication_of e) e.client → e.verdict ≡ verdicts.Owed
    from o =
        let same = same_publish net e.id x.index e.phase o.phase e.notice e.notice x.publish o.published in
        x.owed.1
        (subst (λ k. IsAccepted net e.id k e.notice × IsOwed real (net_in net k) e.id.publisher k e.notice e.client) same.0 (o.published, o.owed))

pub allowed_as_promised : (net : NetParts) (e : Explanation) → IsExplanation net e
    → (is_given e.verdict ≡ true) ↔ IsAllowedByScripts real (phased_net net) (publication_of e) e.client
allowed_as_promised net e x = (to, from)
  where
    to : is_given e.verdict ≡ true → IsAllowedByScripts real (phased_net net) (publication_of e) e.client
    to q = let both = x.allowed.0 q in (e.phase, both.0, both.1)

    from : IsAllowedByScripts real (phased_net net) (publication_of e) e.client → is_given e.verdict ≡ true
    from a =
        let same = same_publish net e.id x.index e.phase a.0 e.notice e.notice x.publish a.1 in
        x.allowed.1 (subst (λ k. IsAccepted net e.id k e.notice × IsAllowed real (net_in net k) k e.notice e.client) same.0 (a.1, a.2))
