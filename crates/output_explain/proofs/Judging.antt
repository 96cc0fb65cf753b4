-- The verdict by the facts says what the promise's definitions say.
use Rattle.std.proofs.Common.{◌≡◌, ◌↔◌, ℕ, suc, ◌≤◌, Bool, true, false, cond, not, ◌&&◌, ◌||◌, List, [], ◌∷◌, Option, Some, None, refl, sym, ap, subst, ◌∙◌, arith}
use Rattle.output_flood.proofs.Passing.{may_pass}
use Rattle.filter_types.proofs.Lists.{has-any}
use Rattle.std.specs.List.{list_any, list_all}
use Rattle.std.proofs.lemmas.Bool.{and_parts, and_from}
use Rattle.std.proofs.lemmas.Option.{same_Some}
use Rattle.base.specs.Sets.{Has}
use Rattle.base.proofs.Sets.{has-map, any-some}
use Rattle.filter_constraints.specs.Constraint.{ConstraintParts, satisfies}
use Rattle.filter_types.specs.Cover.{attribute_satisfies, some_allows, matches, allows}
use Rattle.filter_types.specs.Notice.{Attribute, AreValues, attribute_at}
use Rattle.filter_text.specs.declared.id.Id.{Id}
use Rattle.law_routing.specs.Net.{PhasedCommand, NeverFalls, Publish}
use Rattle.law_routing.specs.Clients.{is_publish, some_pass, commands_below}
use Rattle.law_routing.specs.Owed.{IsMomentOfPhase, IsAdvertisedThroughout, IsOwed, IsAllowed}
use Rattle.law_routing.proofs.Listing.{pass-by, by-pass}
use Rattle.law_routing.proofs.Scripts.{through-count, upto-count, below-rises, one-index}
use Rattle.net_model.specs.Real.{real}
use Rattle.net_model.specs.Parts.{NetParts}
use Rattle.net_model.specs.Nets.{script_of, with_adverts}
use Rattle.net_model.proofs.Meaning.{matches_plain, allows_plain}
use Rattle.output_flood.specs.Flooding.{net_in}
use Rattle.output_explain.specs.declared.stay.Stay.{Stay}
use Rattle.output_explain.specs.declared.facts.FilterFact.{FilterFact}
use Rattle.output_explain.specs.declared.facts.AdvertFact.{AdvertFact}
use Rattle.output_explain.specs.declared.verdict.Verdict.{Verdict}
use Rattle.output_explain.specs.declared.verdict.Verdict.TheVariants as verdicts
use Rattle.output_explain.specs.declared.verdict.Missing.TheVariants as missings
use Rattle.output_explain.specs.declared.verdict.Reason.TheVariants as reasons
use Rattle.output_explain.specs.Asked.{IsPublish}
use Rattle.output_explain.specs.Facts.{value_in, is_satisfied, first_miss, first_denied}
use Rattle.output_explain.specs.Stays.{moment_or, HoldsSince, HoldsUntil, IsFirstStay, is_none, is_throughout}
use Rattle.output_explain.specs.Telling.{filters_then, adverts_then, AreFilterFacts, AreAdvertFacts}
use Rattle.output_explain.specs.Verdicts.{IsAccepted, IsMatchedThroughout, IsAdvertised, Says, is_nothing, is_match, is_match_throughout, is_leave, is_leave_throughout, verdict_of, verdict_by, is_given}

-- a filter without a constraint that isn't satisfied is one that matches
no_miss : (n : List Attribute) (f : List ConstraintParts) → is_nothing (first_miss n f) ≡ matches n f
unfolding matches
no_miss n [] = refl
no_miss n (c ∷ f) = go (attribute_at n c.name) (no_miss n f)
  where
    step : (b : Bool) (o : Option Attribute) → is_nothing (first_miss n f) ≡ list_all (λ c. attribute_satisfies (attribute_at n c.name) c) f
        → is_nothing (cond b (first_miss n f) (Some (record { constraint = c; value = value_in o })))
        ≡ b && list_all (λ c. attribute_satisfies (attribute_at n c.name) c) f
    step true o ih = ih
    step false o ih = refl

    go : (o : Option Attribute) → is_nothing (first_miss n f) ≡ list_all (λ c. attribute_satisfies (attribute_at n c.name) c) f
        → is_nothing (cond (is_satisfied c (value_in o)) (first_miss n f) (Some (record { constraint = c; value = value_in o })))
        ≡ attribute_satisfies o c && list_all (λ c. attribute_satisfies (attribute_at n c.name) c) f
    go None ih = refl
    go (Some a) ih = step (satisfies c a.1) (Some a) ih

no_denied : (a : List ConstraintParts) (n : List Attribute) → is_nothing (first_denied a n) ≡ allows a n
unfolding allows
no_denied a [] = refl
no_denied a (x ∷ n) = go (some_allows a x.0 x.1) (no_denied a n)
  where
    go : (b : Bool) → is_nothing (first_denied a n) ≡ list_all (λ x. some_allows a x.0 x.1) n
        → is_nothing (cond b (first_denied a n) (Some x)) ≡ b && list_all (λ x. some_allows a x.0 x.1) n
    go true ih = ih
    go false ih = refl

real_match : (n : List Attribute) (f : List ConstraintParts) → AreValues n → is_nothing (first_miss n f) ≡ real.matches n f
real_match n f v = no_miss n f ∙ sym (ap (λ (test : List ConstraintParts → Bool). test f) (matches_plain n v))

real_leave : (n : List Attribute) (a : List ConstraintParts) → AreValues n → is_nothing (first_denied a n) ≡ real.allows a n
real_leave n a v = no_denied a n ∙ sym (allows_plain n a v)

-- a first stay begins at a moment
begins : (Holds : ℕ → Type 0) (from upto : ℕ) (since : Option ℕ) → from ≤ upto → HoldsSince Holds from upto since
    → (from ≤ moment_or since from) × (moment_or since from ≤ upto) × Holds (moment_or since from)
begins Holds from upto None l h = (omega arith, l, h)
begins Holds from upto (Some m) l h = (omega (arith, h.0), h.1, h.2)

-- and is all the time exactly where it holds at each
lasts : (Holds : ℕ → Type 0) (from upto : ℕ) (stay : Stay) → is_throughout stay ≡ true → IsFirstStay Holds from upto stay
    → (count : ℕ) → from ≤ count → count ≤ upto → Holds count
lasts Holds from upto stay e is = go stay.since stay.until e is.until
  where
    go : (s u : Option ℕ) → is_none s && is_none u ≡ true → HoldsUntil Holds (moment_or s from) upto u → (count : ℕ) → from ≤ count → count ≤ upto → Holds count
    go None None e until = until
    go None (Some m) e until = absurd cc
    go (Some m) u e until = absurd cc

lasting : (Holds : ℕ → Type 0) (from upto : ℕ) (stay : Stay) → from ≤ upto → ((count : ℕ) → from ≤ count → count ≤ upto → Holds count)
    → IsFirstStay Holds from upto stay → is_throughout stay ≡ true
lasting Holds from upto stay l all is = go stay.since stay.until is.since is.until
  where
    go : (s u : Option ℕ) → HoldsSince Holds from upto s → HoldsUntil Holds (moment_or s from) upto u → is_none s && is_none u ≡ true
    go None None since until = refl
    go None (Some m) since until = absurd (until.2 (all m (omega (arith, until.0)) until.1))
    go (Some m) u since until = absurd (since.3 from (omega arith) since.0 (all from (omega arith) l))

module _ (net : NetParts) (c k : ℕ) (n : List Attribute) (values : AreValues n) where
  abbrev from : ℕ
  from = commands_below real k (script_of net c)

  abbrev upto : ℕ
  upto = commands_below real (suc k) (script_of net c)

  some_moment : from ≤ upto
  some_moment = below-rises real k (suc k) (script_of net c) (omega arith)

  abbrev Moment : ℕ → Type 0
  Moment count = IsMomentOfPhase real (net_in net k) k c count

  first_moment : Moment from
  first_moment = record { from = omega arith; upto = some_moment }

  module _ (facts : List FilterFact) (tell : AreFilterFacts net c k n facts) where
    matching : (fact : FilterFact) → Has fact facts → is_match fact ≡ true → real.matches n fact.filter ≡ true
    matching fact h e = sym (real_match n fact.filter values) ∙ ap is_nothing (sym (tell.each fact h).miss) ∙ e

    matching_back : (fact : FilterFact) → Has fact facts → real.matches n fact.filter ≡ true → is_match fact ≡ true
    matching_back fact h e = ap is_nothing (tell.each fact h).miss ∙ real_match n fact.filter values ∙ e

    pub allowed_to : list_any is_match facts ≡ true → IsAllowed real (net_in net k) k n c
    allowed_to e =
        let r = any-some is_match facts e in
        let stay = (tell.each r.0 r.1).stay in
        let b = begins (λ count. Has r.0.filter (filters_then net c count)) from upto r.0.stay.since some_moment stay.since in record {
          index = moment_or r.0.stay.since from;
          moment = record { from = b.0; upto = b.1 };
          filter = r.0.filter;
          listed = b.2;
          matches = matching r.0 r.1 r.2;
        }

    pub allowed_from : IsAllowed real (net_in net k) k n c → list_any is_match facts ≡ true
    allowed_from a =
        let r = has-map (λ (fact : FilterFact). fact.filter) facts a.filter (tell.whole a.filter a.index a.moment a.listed) in
        has-any is_match r.0 facts r.1 (matching_back r.0 r.1 (ap (real.matches n) (sym r.2) ∙ a.matches))

    pub steady_to : list_any is_match_throughout facts ≡ true → IsMatchedThroughout net c k n
    steady_to e =
        let r = any-some is_match_throughout facts e in
        let both = and_parts (is_nothing r.0.miss) (is_throughout r.0.stay) r.2 in record {
          filter = r.0.filter;
          always = λ count moment.
              lasts (λ count. Has r.0.filter (filters_then net c count)) from upto r.0.stay both.1 (tell.each r.0 r.1).stay count moment.from moment.upto;
          matches = matching r.0 r.1 both.0;
        }

    pub steady_from : IsMatchedThroughout net c k n → list_any is_match_throughout facts ≡ true
    steady_from s = go (has-map (λ (fact : FilterFact). fact.filter) facts s.filter (tell.whole s.filter from first_moment (s.always from first_moment)))
      where
        go : ((fact : FilterFact) × Has fact facts × (s.filter ≡ fact.filter)) → list_any is_match_throughout facts ≡ true
        go r = has-any is_match_throughout r.0 facts r.1
            (and_from (is_nothing r.0.miss) (is_throughout r.0.stay) (matching_back r.0 r.1 (ap (real.matches n) (sym r.2) ∙ s.matches))
            (lasting (λ count. Has r.0.filter (filters_then net c count)) from upto r.0.stay some_moment
            (λ count l u. subst (λ f. Has f (filters_then net c count)) r.2 (s.always count (record { from = l; upto = u })))
            (tell.each r.0 r.1).stay))

  module _ (index : ℕ) (facts : List AdvertFact) (tell : AreAdvertFacts net c k index n facts) where
    leaving : (fact : AdvertFact) → Has fact facts → is_nothing fact.denied ≡ true → real.allows fact.advert n ≡ true
    leaving fact h e = sym (real_leave n fact.advert values) ∙ ap is_nothing (sym (tell.each fact h).denied) ∙ e

    leaving_back : (fact : AdvertFact) → Has fact facts → real.allows fact.advert n ≡ true → is_nothing fact.denied ≡ true
    leaving_back fact h e = ap is_nothing (tell.each fact h).denied ∙ real_leave n fact.advert values ∙ e

    pub advertised_to : list_any is_leave_throughout facts ≡ true → IsAdvertisedThroughout real (net_in net k) c k n
    advertised_to e =
        let r = any-some is_leave_throughout facts e in
        let both = and_parts (is_nothing r.0.denied) (is_throughout r.0.stay) r.2 in record {
          advert = r.0.advert;
          always = λ count moment.
              lasts (λ count. Has r.0.advert (adverts_then net c count)) from upto r.0.stay both.1 (tell.each r.0 r.1).stay count moment.from moment.upto;
          allows = leaving r.0 r.1 both.0;
        }

    pub advertised_from : IsAdvertisedThroughout real (net_in net k) c k n → list_any is_leave_throughout facts ≡ true
    advertised_from s = go (has-map (λ (fact : AdvertFact). fact.advert) facts s.advert (tell.whole s.advert from first_moment (s.always from first_moment)))
      where
        go : ((fact : AdvertFact) × Has fact facts × (s.advert ≡ fact.advert)) → list_any is_leave_throughout facts ≡ true
        go r = has-any is_leave_throughout r.0 facts r.1
            (and_from (is_nothing r.0.denied) (is_throughout r.0.stay) (leaving_back r.0 r.1 (ap (λ a. real.allows a n) (sym r.2) ∙ s.allows))
            (lasting (λ count. Has r.0.advert (adverts_then net c count)) from upto r.0.stay some_moment
            (λ count l u. subst (λ a. Has a (adverts_then net c count)) r.2 (s.always count (record { from = l; upto = u })))
            (tell.each r.0 r.1).stay))

    pub accepted_to : list_any is_leave facts ≡ true → some_pass (λ a. real.allows a n) (adverts_then net c index) ≡ true
    accepted_to e =
        let r = any-some is_leave facts e in
        let both = and_parts (is_nothing r.0.denied) r.0.here r.2 in
        pass-by (λ a. real.allows a n) r.0.advert (adverts_then net c index) ((tell.each r.0 r.1).here.0 both.1) (leaving r.0 r.1 both.0)

    pub accepted_from : Moment index → some_pass (λ a. real.allows a n) (adverts_then net c index) ≡ true → list_any is_leave facts ≡ true
    accepted_from moment e = go (by-pass (λ a. real.allows a n) (adverts_then net c index) e)
      where
        there : (a : List ConstraintParts) → Has a (adverts_then net c index) → real.allows a n ≡ true
            → ((fact : AdvertFact) × Has fact facts × (a ≡ fact.advert)) → list_any is_leave facts ≡ true
        there a h e r = has-any is_leave r.0 facts r.1
            (and_from (is_nothing r.0.denied) r.0.here (leaving_back r.0 r.1 (ap (λ a. real.allows a n) (sym r.2) ∙ e))
            ((tell.each r.0 r.1).here.1 (subst (λ a. Has a (adverts_then net c index)) r.2 h)))

        go : ((a : List ConstraintParts) × Has a (adverts_then net c index) × (real.allows a n ≡ true)) → list_any is_leave facts ≡ true
        go w = there w.0 w.1 w.2 (has-map (λ (fact : AdvertFact). fact.advert) facts w.0 (tell.whole w.0 index moment w.1))

-- whether it is, under advertisement semantics
asked_to : (on b : Bool) → not on || b ≡ true → on ≡ true → b ≡ true
asked_to true b e p = e
asked_to false b e p = absurd cc

-- a publish stands at a moment of its phase
pub publish_moment : (net : NetParts) (id : Id) (index k : ℕ) (n : List Attribute) → NeverFalls real (script_of net id.publisher) → IsPublish net id index k n
    → IsMomentOfPhase real (net_in net k) k id.publisher index
publish_moment net id index k n falls p = record {
  from = through-count real k (script_of net id.publisher) index falls (λ x e. omega (arith, ap (λ (z : PhasedCommand real). z.phase) (same_Some _ _ (sym p.at ∙ e))));
  upto = omega (arith, upto-count real k (script_of net id.publisher) index (record { phase = k; command = Publish n }) falls p.at (omega arith));
}

module _ (net : NetParts) (id : Id) (index k : ℕ) (n : List Attribute) (values : AreValues n) (p : IsPublish net id index k n)
    (facts : List AdvertFact) where
  accepts_to : (with_adverts net.semantics ≡ true → AreAdvertFacts net id.publisher k index n facts)
      → not (with_adverts net.semantics) || list_any is_leave facts ≡ true → IsAccepted net id k n
  accepts_to tell e = record {
    index = index;
    command = record { phase = k; command = Publish n };
    at = p.at;
    publishes = refl;
    ordinal = p.ordinal;
    allowed = may_pass (with_adverts net.semantics) (some_pass (λ a. real.allows a n) (adverts_then net id.publisher index)) (λ on.
        accepted_to net id.publisher k n values index facts (tell on) (asked_to (with_adverts net.semantics) (list_any is_leave facts) e on));
    phase = refl;
  }

  accepts_from : NeverFalls real (script_of net id.publisher) → (with_adverts net.semantics ≡ true → AreAdvertFacts net id.publisher k index n facts)
      → IsAccepted net id k n → not (with_adverts net.semantics) || list_any is_leave facts ≡ true
  accepts_from falls tell a = may_pass (with_adverts net.semantics) (list_any is_leave facts) (λ on.
      accepted_from net id.publisher k n values index facts (tell on) (publish_moment net id index k n falls p)
      (subst (λ i. some_pass (λ a. real.allows a n) (adverts_then net id.publisher i) ≡ true) same
      (asked_to (with_adverts net.semantics) (some_pass (λ b. real.allows b n) (adverts_then net id.publisher a.index)) a.allowed on)))
    where
      publishes : (command : PhasedCommand real) → command.command ≡ Publish n → is_publish real command.command ≡ true
      publishes command e = ap (is_publish real) e

      same : a.index ≡ index
      same = one-index real (script_of net id.publisher) a.index index a.command (record { phase = k; command = Publish n }) a.at p.at
          (publishes a.command a.publishes) refl (a.ordinal ∙ sym p.ordinal)

  advertises_to : (with_adverts net.semantics ≡ true → AreAdvertFacts net id.publisher k index n facts)
      → not (with_adverts net.semantics) || list_any is_leave_throughout facts ≡ true → IsAdvertised net id.publisher k n
  advertises_to tell e on =
      advertised_to net id.publisher k n values index facts (tell on) (asked_to (with_adverts net.semantics) (list_any is_leave_throughout facts) e on)

  advertises_from : (with_adverts net.semantics ≡ true → AreAdvertFacts net id.publisher k index n facts)
      → IsAdvertised net id.publisher k n → not (with_adverts net.semantics) || list_any is_leave_throughout facts ≡ true
  advertises_from tell a = may_pass (with_adverts net.semantics) (list_any is_leave_throughout facts) (λ on.
      advertised_from net id.publisher k n values index facts (tell on) (a on))

-- the verdict by four tests
judged : (net : NetParts) (c : ℕ) (id : Id) (k : ℕ) (n : List Attribute) (accepted allowed steady advertised : Bool)
    → (accepted ≡ true) ↔ IsAccepted net id k n → (allowed ≡ true) ↔ IsAllowed real (net_in net k) k n c
    → (steady ≡ true) ↔ IsMatchedThroughout net c k n → (advertised ≡ true) ↔ IsAdvertised net id.publisher k n
    → Says net c id k n (verdict_of accepted allowed steady advertised)
judged net c id k n false b s a p q r t = λ x. no (p.1 x)
  where
    no : false ≡ true → ⊥
    no e = absurd cc
judged net c id k n true false s a p q r t = (p.0 refl, (λ x. no (q.1 x)))
  where
    no : false ≡ true → ⊥
    no e = absurd cc
judged net c id k n true true true true p q r t =
    let w = r.0 refl in (p.0 refl, record { filter = w.filter; always = w.always; matches = w.matches; allowed = t.0 refl })
judged net c id k n true true false true p q r t = (p.0 refl, q.0 refl, (λ x. no (r.1 x)), t.0 refl)
  where
    no : false ≡ true → ⊥
    no e = absurd cc
judged net c id k n true true true false p q r t = (p.0 refl, q.0 refl, r.0 refl, (λ x. no (t.1 x)))
  where
    no : false ≡ true → ⊥
    no e = absurd cc
judged net c id k n true true false false p q r t = (p.0 refl, q.0 refl, (λ x. no (r.1 x)), (λ x. no (t.1 x)))
  where
    no : false ≡ true → ⊥
    no e = absurd cc

module _ (net : NetParts) (c : ℕ) (id : Id) (k : ℕ) (n : List Attribute) where
  abbrev pub Owed : Type 0
  Owed = IsAccepted net id k n × IsOwed real (net_in net k) id.publisher k n c

  abbrev pub Allowed : Type 0
  Allowed = IsAccepted net id k n × IsAllowed real (net_in net k) k n c

  -- what is owed is allowed
  pub owed_allowed : Owed → Allowed
  owed_allowed o = (
    o.0,
    record {
      index = commands_below real k (script_of net c);
      moment = first;
      filter = o.1.filter;
      listed = o.1.always (commands_below real k (script_of net c)) first;
      matches = o.1.matches;
    },
  )
    where
      first : IsMomentOfPhase real (net_in net k) k c (commands_below real k (script_of net c))
      first = record { from = omega arith; upto = below-rises real k (suc k) (script_of net c) (omega arith) }

  steady_of : Owed → IsMatchedThroughout net c k n
  steady_of o = record { filter = o.1.filter; always = o.1.always; matches = o.1.matches }

  pub owed_to : (v : Verdict) → Says net c id k n v → v ≡ verdicts.Owed → Owed
  owed_to v says e = subst (Says net c id k n) e says

  pub owed_from : (v : Verdict) → Says net c id k n v → Owed → v ≡ verdicts.Owed
  owed_from verdicts.Owed says o = refl
  owed_from (verdicts.May missings.Filter) says o = absurd (says.2 (steady_of o))
  owed_from (verdicts.May missings.Advert) says o = absurd (says.3 o.1.allowed)
  owed_from (verdicts.May missings.Both) says o = absurd (says.2 (steady_of o))
  owed_from (verdicts.Never reasons.Refused) says o = absurd (says o.0)
  owed_from (verdicts.Never reasons.Unmatched) says o = absurd (says.1 (owed_allowed o).1)

  pub given_to : (v : Verdict) → Says net c id k n v → is_given v ≡ true → Allowed
  given_to verdicts.Owed says e = owed_allowed says
  given_to (verdicts.May missings.Filter) says e = (says.0, says.1)
  given_to (verdicts.May missings.Advert) says e = (says.0, says.1)
  given_to (verdicts.May missings.Both) says e = (says.0, says.1)
  given_to (verdicts.Never reason) says e = absurd cc

  pub given_from : (v : Verdict) → Says net c id k n v → Allowed → is_given v ≡ true
  given_from verdicts.Owed says a = refl
  given_from (verdicts.May missing) says a = refl
  given_from (verdicts.Never reasons.Refused) says a = absurd (says a.0)
  given_from (verdicts.Never reasons.Unmatched) says a = absurd (says.1 a.1)

pub judges : (net : NetParts) (c : ℕ) (id : Id) (index k : ℕ) (n : List Attribute) → AreValues n → NeverFalls real (script_of net id.publisher)
    → IsPublish net id index k n → (filters : List FilterFact) → AreFilterFacts net c k n filters
    → (adverts : List AdvertFact) → (with_adverts net.semantics ≡ true → AreAdvertFacts net id.publisher k index n adverts)
    → Says net c id k n (verdict_by net.semantics filters adverts)
judges net c id index k n values falls p filters tell adverts told =
    judged net c id k n (not (with_adverts net.semantics) || list_any is_leave adverts) (list_any is_match filters)
    (list_any is_match_throughout filters) (not (with_adverts net.semantics) || list_any is_leave_throughout adverts)
    (accepts_to net id index k n values p adverts told, accepts_from net id index k n values p adverts falls told)
    (allowed_to net c k n values filters tell, allowed_from net c k n values filters tell)
    (steady_to net c k n values filters tell, steady_from net c k n values filters tell)
    (advertises_to net id index k n values p adverts told, advertises_from net id index k n values p adverts told)
