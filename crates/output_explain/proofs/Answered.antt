-- What the code answers to a question is its answer, or its fault.
use Rattle.std.proofs.Common.{◌≡◌, ℕ, suc, List, map, slice_get, take, Option, Some, None, Result, Ok, Err, refl, sym, ap, subst, ◌∙◌}
use Rattle.base.proofs.Numbers.{zero-add}
use Rattle.output_flood.proofs.Publishing.{publish_back}
use Rattle.std.specs.Prelude.{MatchResult, IfOk}
use Rattle.std.proofs.lemmas.Option.{same_Some}
use Rattle.base.proofs.Lists.{map-get}
use Rattle.filter_types.specs.Notice.{Attribute}
use Rattle.filter_text.specs.declared.command.Command.{Command as WireCommand}
use Rattle.filter_text.specs.declared.id.Id.{Id}
use Rattle.law_routing.specs.Clients.{ordinal}
use Rattle.law_routing.specs.Net.{PhasedCommand, Publish}
use Rattle.net_model.specs.Real.{real}
use Rattle.net_model.specs.Meaning.{phased_command}
use Rattle.net_model.specs.Parts.{NetParts}
use Rattle.net_model.specs.Sound.{IsSound}
use Rattle.output_explain.specs.declared.answer.Explanation.{Explanation}
use Rattle.output_explain.specs.declared.fault.ExplainFault.{ExplainFault}
use Rattle.output_explain.specs.declared.fault.ExplainFault.TheVariants as faults
use Rattle.output_explain.specs.declared.find.Found.{Found}
use Rattle.output_explain.specs.Asked.{IsNamed, IsNobody, IsSomebody, IsPublish, HasNoPublish, IsFaultOf, commands_of, fault_found, fault_by, fault_of, found_from, number_of}
use Rattle.output_explain.specs.Explained.{IsAnswer, IsExplained}
use Rattle.output_explain.proofs.Finding.{unfound}
use Rattle.output_explain.proofs.Explained.{publish_found}
use Rattle.output_explain.proofs.Naming.{named_is, nobody_is, same_number}
use Rattle.output_explain.proofs.Telling.{script_is}

abbrev id_of : ℕ → ℕ → Id
id_of publisher number = record { publisher = publisher; ordinal = number }

-- where none is found the client has no such publish
none_published : (net : NetParts) (publisher number : ℕ) → found_from number 0 0 (commands_of net publisher) ≡ None
    → (index phase : ℕ) (n : List Attribute) → IsPublish net (id_of publisher number) index phase n → ⊥
none_published net publisher number e index phase n p = go (map-get phased_command (commands_of net publisher) index (record { phase = phase; command = Publish n })
    (ap (λ s. slice_get s index) (sym (script_is net publisher)) ∙ p.at))
  where
    step : ℕ → WireCommand → ℕ × WireCommand
    step k c = (k, c)

    go : ((x : ℕ × WireCommand) × (slice_get (commands_of net publisher) index ≡ Some x) × (phased_command x ≡ record { phase = phase; command = Publish n })) → ⊥
    go (x, at, same) =
        unfound number 0 0 (commands_of net publisher) e index phase n
        (at ∙ ap (λ k. Some (step k x.1)) (ap (λ (z : PhasedCommand real). z.phase) same)
        ∙ ap (λ c. Some (step phase c)) (publish_back x.1 n (ap (λ (z : PhasedCommand real). z.command) same)))
        (zero-add (ordinal real (take (suc index) (map phased_command (commands_of net publisher))))
        ∙ ap (λ s. ordinal real (take (suc index) s)) (sym (script_is net publisher)) ∙ p.ordinal)

module _ (net : NetParts) (sound : IsSound net) (client publisher : List ℕ) (number : ℕ) where
  abbrev fault : Option ExplainFault
  fault = fault_of net client publisher number

  abbrev publish : ℕ → Option Found
  publish k = found_from number 0 0 (commands_of net k)

  abbrev to_client : Option ℕ
  to_client = number_of client net.clients

  abbrev by : Option ℕ
  by = number_of publisher net.clients

  -- both names are of clients
  record Asks : Type 0 where
    pub c : ℕ
    pub p : ℕ
    pub of_client : to_client ≡ Some c
    pub of_publisher : by ≡ Some p

  record NoPublisher : Type 0 where
    pub c : ℕ
    pub of_client : to_client ≡ Some c
    pub none : by ≡ None

  record NoPublication : Type 0 where
    pub asks : Asks
    pub none : publish asks.p ≡ None

  record Fine : Type 0 where
    pub asks : Asks
    pub found : Found
    pub is : publish asks.p ≡ Some found

  -- what a fault says
  Meant : Option ExplainFault → Type 0
  Meant None = Fine
  Meant (Some faults.NoClient) = to_client ≡ None
  Meant (Some faults.NoPublisher) = NoPublisher
  Meant (Some faults.NoPublication) = NoPublication
  Meant (Some faults.NoMemory) = ⊥

  meant_found : (a : Asks) (o : Option Found) → publish a.p ≡ o → Meant (fault_found o)
  unfolding Meant
  meant_found a None e = record { asks = a; none = e }
  meant_found a (Some f) e = record { asks = a; found = f; is = e }

  meant : Meant fault
  unfolding Meant
  meant = go to_client by refl refl
    where
      go : (a b : Option ℕ) → to_client ≡ a → by ≡ b → Meant (fault_by a b publish)
      go None b p q = p
      go (Some c) None p q = record { c = c; of_client = p; none = q }
      go (Some c) (Some k) p q = meant_found (record { c = c; p = k; of_client = p; of_publisher = q }) (publish k) refl

  fine : fault ≡ None → Fine
  unfolding Meant
  fine e = subst Meant e meant

  -- and from what it says it follows
  client_none : to_client ≡ None → fault ≡ Some faults.NoClient
  client_none e = ap (λ a. fault_by a by publish) e

  publisher_none : (x : NoPublisher) → fault ≡ Some faults.NoPublisher
  publisher_none x = ap (λ a. fault_by a by publish) x.of_client ∙ ap (λ b. fault_by (Some x.c) b publish) x.none

  publication_none : (x : NoPublication) → fault ≡ Some faults.NoPublication
  publication_none x =
      ap (λ a. fault_by a by publish) x.asks.of_client ∙ ap (λ b. fault_by (Some x.asks.c) b publish) x.asks.of_publisher ∙ ap fault_found x.none

  somebody : (name : List ℕ) (k : ℕ) → number_of name net.clients ≡ Some k → IsSomebody net name
  somebody name k e = (k, (named_is net name k e).0)

  -- who is somebody has a number
  numbered : (name : List ℕ) → IsSomebody net name → (k : ℕ) × (number_of name net.clients ≡ Some k)
  numbered name s = go (number_of name net.clients) refl
    where
      go : (o : Option ℕ) → number_of name net.clients ≡ o → (k : ℕ) × (number_of name net.clients ≡ Some k)
      go None e = absurd (nobody_is net name e s.0 s.1)
      go (Some k) e = (k, e)

  unnumbered : (name : List ℕ) → IsNobody net name → number_of name net.clients ≡ None
  unnumbered name n = go (number_of name net.clients) refl
    where
      go : (o : Option ℕ) → number_of name net.clients ≡ o → number_of name net.clients ≡ None
      go None e = e
      go (Some k) e = absurd (n k (named_is net name k e).0)

  unpublished : (a : Asks) → publish a.p ≡ None → HasNoPublish net publisher number
  unpublished a e other index phase n named p =
      none_published net a.p number e index phase n
      (subst (λ k. IsPublish net (id_of k number) index phase n) (same_number net sound publisher other a.p named (named_is net publisher a.p a.of_publisher).0) p)

  none_found : (a : Asks) → HasNoPublish net publisher number → publish a.p ≡ None
  none_found a n = go (publish a.p) refl
    where
      go : (o : Option Found) → publish a.p ≡ o → publish a.p ≡ None
      go None e = e
      go (Some f) e = absurd (n a.p f.index f.phase f.notice (named_is net publisher a.p a.of_publisher).0 (publish_found net (id_of a.p number) f e))

  module _ (r : Result Explanation ExplainFault) (is : MatchResult r (λ e. fault ≡ None) (λ f. IsFaultOf f fault)) where
    -- the code answers the fault that there is
    fault_is : (f : ExplainFault) → r ≡ Err f → IsFaultOf f fault
    fault_is f e = subst (λ z. MatchResult z (λ e. fault ≡ None) (λ f. IsFaultOf f fault)) e is

    result_is : (f : ExplainFault) → fault ≡ Some f → r ≡ Err f
    result_is f e = go r is
      where
        clash : None ≡ Some f → ⊥
        clash q = absurd cc

        failed : ExplainFault → Result Explanation ExplainFault
        failed g = Err g

        by_fault : (g : ExplainFault) → IsFaultOf g fault → failed g ≡ failed f
        by_fault faults.NoClient q = ap failed (same_Some _ _ (sym q ∙ e))
        by_fault faults.NoPublisher q = ap failed (same_Some _ _ (sym q ∙ e))
        by_fault faults.NoPublication q = ap failed (same_Some _ _ (sym q ∙ e))
        by_fault faults.NoMemory q = absurd (clash (sym q ∙ e))

        go : (s : Result Explanation ExplainFault) → MatchResult s (λ e. fault ≡ None) (λ f. IsFaultOf f fault) → s ≡ Err f
        go (Ok x) m = absurd (clash (sym m ∙ e))
        go (Err g) m = by_fault g m

    pub no_client_to : r ≡ Err faults.NoClient → IsNobody net client
    unfolding Meant
    no_client_to e = nobody_is net client (subst Meant (fault_is faults.NoClient e) meant)

    pub no_client_from : IsNobody net client → r ≡ Err faults.NoClient
    no_client_from n = result_is faults.NoClient (client_none (unnumbered client n))

    pub no_publisher_to : r ≡ Err faults.NoPublisher → IsSomebody net client × IsNobody net publisher
    unfolding Meant
    no_publisher_to e =
        let x : NoPublisher = subst Meant (fault_is faults.NoPublisher e) meant in (somebody client x.c x.of_client, nobody_is net publisher x.none)

    pub no_publisher_from : IsSomebody net client × IsNobody net publisher → r ≡ Err faults.NoPublisher
    no_publisher_from b =
        let k = numbered client b.0 in
        result_is faults.NoPublisher (publisher_none (record { c = k.0; of_client = k.1; none = unnumbered publisher b.1 }))

    pub no_publication_to : r ≡ Err faults.NoPublication → IsSomebody net client × IsSomebody net publisher × HasNoPublish net publisher number
    unfolding Meant
    no_publication_to e =
        let x : NoPublication = subst Meant (fault_is faults.NoPublication e) meant in
        (somebody client x.asks.c x.asks.of_client, somebody publisher x.asks.p x.asks.of_publisher, unpublished x.asks x.none)

    pub no_publication_from : IsSomebody net client × IsSomebody net publisher × HasNoPublish net publisher number → r ≡ Err faults.NoPublication
    no_publication_from b =
        let k = numbered client b.0 in
        let p = numbered publisher b.1 in
        let a : Asks = record { c = k.0; p = p.0; of_client = k.1; of_publisher = p.1 } in
        result_is faults.NoPublication (publication_none (record { asks = a; none = none_found a b.2 }))

    pub memory_to : r ≡ Err faults.NoMemory → IsSomebody net client × IsSomebody net publisher × (HasNoPublish net publisher number → ⊥)
    unfolding Meant
    memory_to e =
        let x : Fine = subst Meant (fault_is faults.NoMemory e) meant in (
          somebody client x.asks.c x.asks.of_client,
          somebody publisher x.asks.p x.asks.of_publisher,
          (λ n. n x.asks.p x.found.index x.found.phase x.found.notice (named_is net publisher x.asks.p x.asks.of_publisher).0
              (publish_found net (id_of x.asks.p number) x.found x.is)),
        )

    pub answer_is : ((c p : ℕ) → to_client ≡ Some c → by ≡ Some p → IfOk r (IsExplained net c (id_of p number))) → IfOk r (IsAnswer net client publisher number)
    answer_is explained = go r is explained
      where
        of : (e : Explanation) → (a : Asks) → IsExplained net a.c (id_of a.p number) e → IsAnswer net client publisher number e
        of e a x = record {
          of_client = subst (IsNamed net client) (sym x.of_client) (named_is net client a.c a.of_client).0;
          of_publisher = subst (IsNamed net publisher) (sym (ap (λ (i : Id). i.publisher) x.of_id)) (named_is net publisher a.p a.of_publisher).0;
          of_ordinal = ap (λ (i : Id). i.ordinal) x.of_id;
          explained = x.explained;
        }

        go : (s : Result Explanation ExplainFault) → MatchResult s (λ e. fault ≡ None) (λ f. IsFaultOf f fault)
            → ((c p : ℕ) → to_client ≡ Some c → by ≡ Some p → IfOk s (IsExplained net c (id_of p number))) → IfOk s (IsAnswer net client publisher number)
        go (Ok e) m x = let f : Fine = fine m in of e f.asks (x f.asks.c f.asks.p f.asks.of_client f.asks.of_publisher)
        go (Err g) m x = tt
