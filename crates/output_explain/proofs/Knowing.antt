-- All filters and advertisements of a client are among those that its net names.
use Rattle.std.proofs.Common.{◌≡◌, ℕ, zero, suc, ◌≤◌, List, [], take, length, slice_get, Option, Some, None, refl, subst}
use Rattle.std.specs.List.{flat_map}
use Rattle.base.specs.Sets.{Has, set_of}
use Rattle.base.proofs.Sets.{get-has, has-set_of, rising-set_of, flat_map-has}
use Rattle.filter_constraints.specs.Constraint.{ConstraintParts}
use Rattle.filter_covering.specs.Laws.{sub_laws, ad_laws}
use Rattle.filter_types.specs.Before.{list_before}
use Rattle.filter_types.specs.Notice.{Attribute}
use Rattle.filter_text.specs.Messages.{Lists}
use Rattle.net_model.specs.Parts.{ClientParts, NetParts}
use Rattle.net_model.specs.Nets.{client_at}
use Rattle.net_tables.specs.Known.{script_filters, script_adverts, known_filters, known_adverts}
use Rattle.output_flood.specs.Held.{Script, before, within}
use Rattle.output_explain.specs.Asked.{commands_in, commands_of}
use Rattle.output_explain.specs.Facts.{filter_facts, advert_facts}
use Rattle.output_explain.specs.Telling.{AreFilterFacts, AreAdvertFacts}
use Rattle.output_explain.proofs.Telling.{filters_tell, adverts_tell}

of_client : (clients : List ClientParts) (c : ℕ) (g : Script → Lists) (f : List ConstraintParts) → Has f (g (commands_in (client_at clients c)))
    → (g [] ≡ []) → Has f (flat_map (λ (client : ClientParts). g client.script) clients)
of_client clients zero g f h none = absurd (subst (Has f) none h)
of_client clients (suc place) g f h none = go (slice_get clients place) refl h
  where
    go : (o : Option ClientParts) → slice_get clients place ≡ o → Has f (g (commands_in o)) → Has f (flat_map (λ (client : ClientParts). g client.script) clients)
    go None e h = absurd (subst (Has f) none h)
    go (Some client) e h = flat_map-has (λ (client : ClientParts). g client.script) clients client f (get-has clients place client e) h

pub filters_told : (net : NetParts) (c k : ℕ) (n : List Attribute)
    → AreFilterFacts net c k n (filter_facts n (before k (commands_of net c)) (within k (commands_of net c)) (known_filters net.clients))
unfolding known_filters
filters_told net c k n =
    filters_tell net c k n (set_of list_before named) (rising-set_of sub_laws named)
    (λ f h. (has-set_of sub_laws f named).1 (of_client net.clients c script_filters f h refl))
  where
    named : Lists
    named = flat_map (λ (client : ClientParts). script_filters client.script) net.clients

pub adverts_told : (net : NetParts) (c k index : ℕ) (n : List Attribute) → index ≤ length (commands_of net c)
    → AreAdvertFacts net c k index n
    (advert_facts n (take index (commands_of net c)) (before k (commands_of net c)) (within k (commands_of net c)) (known_adverts net.clients))
unfolding known_adverts
adverts_told net c k index n l =
    adverts_tell net c k index n (set_of list_before named) l (rising-set_of ad_laws named)
    (λ a h. (has-set_of ad_laws a named).1 (of_client net.clients c script_adverts a h refl))
  where
    named : Lists
    named = flat_map (λ (client : ClientParts). script_adverts client.script) net.clients
