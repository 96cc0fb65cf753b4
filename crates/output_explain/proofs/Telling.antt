-- The facts that the code gathers tell what stands in the lists of clients at the moments of a phase.
use Rattle.std.proofs.Common.{◌≡◌, ◌↔◌, ◌⊎◌, inl, inr, ℕ, zero, suc, ◌+◌, ◌≤◌, true, false, List, [], ◌∷◌, map, take, length, Option, Some, None, refl, sym, ap, subst, ◌∙◌, arith}
use Rattle.base.proofs.Numbers.{zero-add}
use Rattle.base.specs.Sets.{Has, IsRising}
use Rattle.base.proofs.Sets.{has-append-left, has-append-right}
use Rattle.filter_constraints.specs.Constraint.{ConstraintParts}
use Rattle.filter_types.specs.Before.{list_before}
use Rattle.filter_types.specs.Cover.{filter_covers, advert_covers}
use Rattle.filter_types.specs.Notice.{Attribute}
use Rattle.filter_text.specs.declared.command.Command.{Command}
use Rattle.filter_text.specs.declared.command.Command.TheVariants as commands
use Rattle.filter_text.specs.Messages.{Lists}
use Rattle.law_routing.specs.Clients.{filters_step, adverts_step, filters_after, adverts_after, commands_below}
use Rattle.law_routing.specs.Owed.{IsMomentOfPhase}
use Rattle.law_routing.proofs.Owning.{added, kept}
use Rattle.net_model.specs.Real.{real, real_laws}
use Rattle.net_model.specs.Parts.{ClientParts, NetParts}
use Rattle.net_model.specs.Meaning.{command_of, phased_command}
use Rattle.net_model.specs.Nets.{client_at, script_in, script_of}
use Rattle.net_tables.specs.Known.{filters_in, adverts_in, script_filters, script_adverts}
use Rattle.output_flood.specs.Flooding.{net_in}
use Rattle.output_flood.specs.Held.{Script, below, before, within}
use Rattle.output_flood.proofs.Moments.{below_same}
use Rattle.output_explain.specs.declared.stay.Stay.{Stay}
use Rattle.output_explain.specs.declared.facts.FilterFact.{FilterFact}
use Rattle.output_explain.specs.declared.facts.AdvertFact.{AdvertFact}
use Rattle.output_explain.specs.Asked.{commands_in, commands_of}
use Rattle.output_explain.specs.Facts.{filter_fact, filter_facts, advert_fact, advert_facts}
use Rattle.output_explain.specs.Stays.{filter_effect, advert_effect, is_there, stay_of}
use Rattle.output_explain.specs.Telling.{filters_then, adverts_then, IsFilterFact, IsAdvertFact, AreFilterFacts, AreAdvertFacts, fact_filters, fact_adverts}
use Rattle.output_explain.proofs.Staying.{Follows, follows_take, there_is, IsStayAnswer}
use Rattle.output_explain.proofs.Listing.{none_taken, filter_follows, advert_follows}
use Rattle.output_explain.proofs.Cutting.{length_taken, stay_in_phase}
use Rattle.output_explain.proofs.Gathering.{Whose, whose, has_item, items_rise}

-- a client's commands are those of the runs
pub script_is : (net : NetParts) (c : ℕ) → script_of net c ≡ map phased_command (commands_of net c)
script_is net c = go (client_at net.clients c)
  where
    go : (o : Option ClientParts) → script_in o ≡ map phased_command (commands_in o)
    go None = refl
    go (Some client) = refl

low : (net : NetParts) (c k : ℕ) → commands_below real k (script_of net c) ≡ below k (commands_of net c)
low net c k = ap (commands_below real k) (script_is net c) ∙ below_same k (commands_of net c)

high : (net : NetParts) (c k : ℕ) → commands_below real (suc k) (script_of net c) ≡ below (k + 1) (commands_of net c)
high net c k = low net c (suc k) ∙ ap (λ z. below z (commands_of net c)) (next k)
  where
    next : (k : ℕ) → suc k ≡ k + 1
    next k = omega arith

-- what an answer says of the moments of a phase
abbrev StayOf : NetParts → ℕ → ℕ → (ℕ → Type 0) → Option Stay → Type 0
StayOf net c k Holds answer = IsStayAnswer Holds (commands_below real k (script_of net c)) (commands_below real (suc k) (script_of net c)) answer

in_phase : (net : NetParts) (c k : ℕ) (Holds : ℕ → Type 0) (answer : Option Stay)
    → IsStayAnswer Holds (below k (commands_of net c)) (below (k + 1) (commands_of net c)) answer → StayOf net c k Holds answer
in_phase net c k Holds answer is =
    subst (λ z. IsStayAnswer Holds z (commands_below real (suc k) (script_of net c)) answer) (sym (low net c k))
    (subst (λ z. IsStayAnswer Holds (below k (commands_of net c)) z answer) (sym (high net c k)) is)

-- filters

abbrev HasFilter : NetParts → ℕ → List ConstraintParts → ℕ → Type 0
HasFilter net c f count = Has f (filters_then net c count)

filter_none : (net : NetParts) (c : ℕ) (f : List ConstraintParts) → HasFilter net c f 0 → ⊥
filter_none net c f h = subst (λ s. Has f (filters_after real [] s)) (none_taken (script_of net c)) h

filter_going : (net : NetParts) (c : ℕ) (f : List ConstraintParts) → Follows (filter_effect f) (HasFilter net c f) 0 (commands_of net c)
filter_going net c f = filter_follows f (commands_of net c) [] 0 (HasFilter net c f) (λ n. (subst (Has f) (same n), subst (Has f) (sym (same n))))
  where
    same : (n : ℕ) → filters_then net c (0 + n) ≡ filters_after real [] (take n (map phased_command (commands_of net c)))
    same n = ap (λ z. filters_after real [] (take z (script_of net c))) (zero-add n) ∙ ap (λ s. filters_after real [] (take n s)) (script_is net c)

filter_stay : (net : NetParts) (c k : ℕ) (f : List ConstraintParts)
    → StayOf net c k (HasFilter net c f) (stay_of (filter_effect f) (before k (commands_of net c)) (within k (commands_of net c)))
filter_stay net c k f =
    in_phase net c k (HasFilter net c f) (stay_of (filter_effect f) (before k (commands_of net c)) (within k (commands_of net c)))
    (stay_in_phase (filter_effect f) (HasFilter net c f) k (commands_of net c) (filter_none net c f) (filter_going net c f))

filter_step_named : (c : Command) (ys : Lists) (f : List ConstraintParts) → Has f (filters_step real ys (command_of c)) → Has f ys ⊎ Has f (filters_in c)
filter_step_named (commands.Subscribe g) ys f h = elim ((added real_laws.filters ys g f).0 h) [ inl e ↦ inr (inl e) | inr r ↦ inl r ]
filter_step_named (commands.Unsubscribe g) ys f h = inl ((kept filter_covers ys g f).0 h).0
filter_step_named (commands.Advertise a) ys f h = inl h
filter_step_named (commands.Unadvertise a) ys f h = inl h
filter_step_named (commands.Publish n) ys f h = inl h

filter_named : (script : Script) (ys : Lists) (n : ℕ) (f : List ConstraintParts) → Has f (filters_after real ys (take n (map phased_command script)))
    → Has f ys ⊎ Has f (script_filters script)
filter_named [] ys zero f h = inl h
filter_named [] ys (suc n) f h = inl h
filter_named (s ∷ script) ys zero f h = inl h
filter_named (s ∷ script) ys (suc n) f h = elim (filter_named script (filters_step real ys (command_of s.1)) n f h) [
  | inl a ↦ elim (filter_step_named s.1 ys f a) [ inl b ↦ inl b | inr b ↦ inr (has-append-left f (filters_in s.1) (script_filters script) b) ]
  | inr a ↦ inr (has-append-right f (filters_in s.1) (script_filters script) a)
]

pub filters_tell : (net : NetParts) (c k : ℕ) (n : List Attribute) (known : Lists) → IsRising list_before known
    → ((f : List ConstraintParts) → Has f (script_filters (commands_of net c)) → Has f known)
    → AreFilterFacts net c k n (filter_facts n (before k (commands_of net c)) (within k (commands_of net c)) known)
filters_tell net c k n known rising named = record {
  each = λ fact h. tells fact (whose (filter_fact n) item of stay known fact h);
  whole = λ f count moment h. whole f count moment h (stay f) refl (filter_stay net c k f);
  rising = items_rise (filter_fact n) item of stay list_before known rising;
}
  where
    stay : List ConstraintParts → Option Stay
    stay f = stay_of (filter_effect f) (before k (commands_of net c)) (within k (commands_of net c))

    item : FilterFact → List ConstraintParts
    item fact = fact.filter

    of : (x : List ConstraintParts) (s : Stay) → item (filter_fact n x s) ≡ x
    of x s = refl

    tells : (fact : FilterFact) → Whose (filter_fact n) item of stay known fact → IsFilterFact net c k n fact
    tells fact w =
        subst (IsFilterFact net c k n) (sym w.is)
        (record { miss = refl; stay = subst (StayOf net c k (HasFilter net c w.of_item)) w.found (filter_stay net c k w.of_item) })

    there : (f : List ConstraintParts) (count : ℕ) → HasFilter net c f count → Has f known
    there f count h =
        elim (filter_named (commands_of net c) [] count f (subst (λ s. Has f (filters_after real [] (take count s))) (script_is net c) h))
        [ inl z ↦ absurd z | inr a ↦ named f a ]

    whole : (f : List ConstraintParts) (count : ℕ) → IsMomentOfPhase real (net_in net k) k c count → HasFilter net c f count
        → (answer : Option Stay) → stay f ≡ answer → StayOf net c k (HasFilter net c f) (stay f)
        → Has f (fact_filters (filter_facts n (before k (commands_of net c)) (within k (commands_of net c)) known))
    whole f count moment h None e is = absurd ((subst (StayOf net c k (HasFilter net c f)) e is) count moment.from moment.upto h)
    whole f count moment h (Some s) e is = has_item (filter_fact n) item of stay known f s (there f count h) e

-- advertisements

abbrev HasAdvert : NetParts → ℕ → List ConstraintParts → ℕ → Type 0
HasAdvert net c a count = Has a (adverts_then net c count)

advert_none : (net : NetParts) (c : ℕ) (a : List ConstraintParts) → HasAdvert net c a 0 → ⊥
advert_none net c a h = subst (λ s. Has a (adverts_after real [] s)) (none_taken (script_of net c)) h

advert_going : (net : NetParts) (c : ℕ) (a : List ConstraintParts) → Follows (advert_effect a) (HasAdvert net c a) 0 (commands_of net c)
advert_going net c a = advert_follows a (commands_of net c) [] 0 (HasAdvert net c a) (λ n. (subst (Has a) (same n), subst (Has a) (sym (same n))))
  where
    same : (n : ℕ) → adverts_then net c (0 + n) ≡ adverts_after real [] (take n (map phased_command (commands_of net c)))
    same n = ap (λ z. adverts_after real [] (take z (script_of net c))) (zero-add n) ∙ ap (λ s. adverts_after real [] (take n s)) (script_is net c)

advert_stay : (net : NetParts) (c k : ℕ) (a : List ConstraintParts)
    → StayOf net c k (HasAdvert net c a) (stay_of (advert_effect a) (before k (commands_of net c)) (within k (commands_of net c)))
advert_stay net c k a =
    in_phase net c k (HasAdvert net c a) (stay_of (advert_effect a) (before k (commands_of net c)) (within k (commands_of net c)))
    (stay_in_phase (advert_effect a) (HasAdvert net c a) k (commands_of net c) (advert_none net c a) (advert_going net c a))

advert_here : (net : NetParts) (c index : ℕ) (a : List ConstraintParts) → index ≤ length (commands_of net c)
    → (is_there (advert_effect a) false (take index (commands_of net c)) ≡ true) ↔ HasAdvert net c a index
advert_here net c index a l =
    subst (λ z. (is_there (advert_effect a) false (take index (commands_of net c)) ≡ true) ↔ HasAdvert net c a z)
    (zero-add (length (take index (commands_of net c))) ∙ length_taken index (commands_of net c) l)
    (there_is (advert_effect a) (HasAdvert net c a) 0 (take index (commands_of net c))
    (follows_take (advert_effect a) (HasAdvert net c a) 0 index (commands_of net c) (advert_going net c a)) false
    ((λ t. absurd cc), (λ h. absurd (advert_none net c a h))))

advert_step_named : (c : Command) (ys : Lists) (a : List ConstraintParts) → Has a (adverts_step real ys (command_of c)) → Has a ys ⊎ Has a (adverts_in c)
advert_step_named (commands.Subscribe f) ys a h = inl h
advert_step_named (commands.Unsubscribe f) ys a h = inl h
advert_step_named (commands.Advertise b) ys a h = elim ((added real_laws.adverts ys b a).0 h) [ inl e ↦ inr (inl e) | inr r ↦ inl r ]
advert_step_named (commands.Unadvertise b) ys a h = inl ((kept advert_covers ys b a).0 h).0
advert_step_named (commands.Publish n) ys a h = inl h

advert_named : (script : Script) (ys : Lists) (n : ℕ) (a : List ConstraintParts) → Has a (adverts_after real ys (take n (map phased_command script)))
    → Has a ys ⊎ Has a (script_adverts script)
advert_named [] ys zero a h = inl h
advert_named [] ys (suc n) a h = inl h
advert_named (s ∷ script) ys zero a h = inl h
advert_named (s ∷ script) ys (suc n) a h = elim (advert_named script (adverts_step real ys (command_of s.1)) n a h) [
  | inl b ↦ elim (advert_step_named s.1 ys a b) [ inl d ↦ inl d | inr d ↦ inr (has-append-left a (adverts_in s.1) (script_adverts script) d) ]
  | inr b ↦ inr (has-append-right a (adverts_in s.1) (script_adverts script) b)
]

pub adverts_tell : (net : NetParts) (c k index : ℕ) (n : List Attribute) (known : Lists) → index ≤ length (commands_of net c) → IsRising list_before known
    → ((a : List ConstraintParts) → Has a (script_adverts (commands_of net c)) → Has a known)
    → AreAdvertFacts net c k index n
    (advert_facts n (take index (commands_of net c)) (before k (commands_of net c)) (within k (commands_of net c)) known)
adverts_tell net c k index n known l rising named = record {
  each = λ fact h. tells fact (whose make item of stay known fact h);
  whole = λ a count moment h. whole a count moment h (stay a) refl (advert_stay net c k a);
  rising = items_rise make item of stay list_before known rising;
}
  where
    stay : List ConstraintParts → Option Stay
    stay a = stay_of (advert_effect a) (before k (commands_of net c)) (within k (commands_of net c))

    make : List ConstraintParts → Stay → AdvertFact
    make a s = advert_fact n (take index (commands_of net c)) a s

    item : AdvertFact → List ConstraintParts
    item fact = fact.advert

    of : (x : List ConstraintParts) (s : Stay) → item (make x s) ≡ x
    of x s = refl

    tells : (fact : AdvertFact) → Whose make item of stay known fact → IsAdvertFact net c k index n fact
    tells fact w =
        subst (IsAdvertFact net c k index n) (sym w.is)
        (record {
          denied = refl;
          stay = subst (StayOf net c k (HasAdvert net c w.of_item)) w.found (advert_stay net c k w.of_item);
          here = advert_here net c index w.of_item l;
        })

    there : (a : List ConstraintParts) (count : ℕ) → HasAdvert net c a count → Has a known
    there a count h =
        elim (advert_named (commands_of net c) [] count a (subst (λ s. Has a (adverts_after real [] (take count s))) (script_is net c) h))
        [ inl z ↦ absurd z | inr b ↦ named a b ]

    whole : (a : List ConstraintParts) (count : ℕ) → IsMomentOfPhase real (net_in net k) k c count → HasAdvert net c a count
        → (answer : Option Stay) → stay a ≡ answer → StayOf net c k (HasAdvert net c a) (stay a)
        → Has a (fact_adverts (advert_facts n (take index (commands_of net c)) (before k (commands_of net c)) (within k (commands_of net c)) known))
    whole a count moment h None e is = absurd ((subst (StayOf net c k (HasAdvert net c a)) e is) count moment.from moment.upto h)
    whole a count moment h (Some s) e is = has_item make item of stay known a s (there a count h) e
