-- WHAT AN EXPLANATION TELLS: each fact by the definitions of the promise.
use Rattle.std.specs.Prelude.{◌≡◌, ◌↔◌, ℕ, true, false, List, [], take}
use Rattle.base_tree.specs.Tree.{IsPath, links_of}
use Rattle.filter_types.specs.Notice.{AreValues}
use Rattle.filter_text.specs.declared.id.Id.{Id}
use Rattle.law_routing.specs.Owed.{IsMomentOfPhase, IsOwed, IsAllowed}
use Rattle.law_routing.specs.Server.{Publication}
use Rattle.net_model.specs.Real.{real}
use Rattle.net_model.specs.Parts.{NetParts}
use Rattle.net_model.specs.Nets.{home_of, topology_at, with_adverts}
use Rattle.net_tables.specs.Known.{known_filters, known_adverts}
use Rattle.output_flood.specs.Held.{before, within}
use Rattle.output_flood.specs.Flooding.{net_in}
use Rattle.output_explain.specs.declared.answer.Explanation.{Explanation}
use Rattle.output_explain.specs.declared.find.Found.{Found}
use Rattle.output_explain.specs.declared.verdict.Verdict.TheVariants as verdicts
use Rattle.output_explain.specs.Asked.{IsNamed, IsPublish, commands_of}
use Rattle.output_explain.specs.Facts.{filter_facts, advert_facts}
use Rattle.output_explain.specs.Telling.{AreFilterFacts, AreAdvertFacts}
use Rattle.output_explain.specs.Verdicts.{IsAccepted, Says, is_given, verdict_by}

-- the publish that is explained: what stands where in the publisher's script, and what it says of the client
pub record IsExplanation (net : NetParts) (e : Explanation) : Type 0 where
  pub index : ℕ
  pub publish : IsPublish net e.id index e.phase e.notice
  -- it is published at a moment of the phase
  pub moment : IsMomentOfPhase real (net_in net e.phase) e.phase e.id.publisher index
  -- the way of the servers from the publisher's to the client's, in the tree in force in the phase
  pub path : IsPath (links_of (topology_at net e.phase)) (home_of net e.id.publisher) (home_of net e.client) e.path.items
  -- each filter of the client that is in force at some moment of the phase
  pub filters : AreFilterFacts net e.client e.phase e.notice e.filters.items
  -- under advertisement semantics each advertisement of the publisher that is; none else
  pub adverts : with_adverts net.semantics ≡ true → AreAdvertFacts net e.id.publisher e.phase index e.notice e.adverts.items
  pub none : with_adverts net.semantics ≡ false → e.adverts.items ≡ []
  -- what the verdict says is so, and it is `Owed` exactly where the publication is owed, and one of those that give it exactly where it is allowed
  pub says : Says net e.client e.id e.phase e.notice e.verdict
  pub owed : (e.verdict ≡ verdicts.Owed)
      ↔ (IsAccepted net e.id e.phase e.notice × IsOwed real (net_in net e.phase) e.id.publisher e.phase e.notice e.client)
  pub allowed : (is_given e.verdict ≡ true)
      ↔ (IsAccepted net e.id e.phase e.notice × IsAllowed real (net_in net e.phase) e.phase e.notice e.client)

-- the explanation of this publication to this client
pub record IsExplained (net : NetParts) (client : ℕ) (id : Id) (e : Explanation) : Type 0 where
  pub of_client : e.client ≡ client
  pub of_id : e.id ≡ id
  pub explained : IsExplanation net e

-- THE ANSWER to a question: the client and the publisher of these names, the publish of this number, and its explanation
pub record IsAnswer (net : NetParts) (client publisher : List ℕ) (ordinal : ℕ) (e : Explanation) : Type 0 where
  pub of_client : IsNamed net client e.client
  pub of_publisher : IsNamed net publisher e.id.publisher
  pub of_ordinal : e.id.ordinal ≡ ordinal
  pub explained : IsExplanation net e

-- the publication that is explained, as in the runs
abbrev pub publication_of : Explanation → Publication real
publication_of e = record { publisher = e.id.publisher; ordinal = e.id.ordinal; notice = e.notice }

-- how the code gathers the parts of an explanation
pub record IsGathered (net : NetParts) (client : ℕ) (id : Id) (found : Found) (e : Explanation) : Type 0 where
  pub of_client : e.client ≡ client
  pub of_id : e.id ≡ id
  pub phase : e.phase ≡ found.phase
  pub notice : e.notice ≡ found.notice
  pub path : IsPath (links_of (topology_at net found.phase)) (home_of net id.publisher) (home_of net client) e.path.items
  pub filters : e.filters.items
      ≡ filter_facts found.notice (before found.phase (commands_of net client)) (within found.phase (commands_of net client)) (known_filters net.clients)
  pub adverts : with_adverts net.semantics ≡ true → e.adverts.items
      ≡ advert_facts found.notice (take found.index (commands_of net id.publisher)) (before found.phase (commands_of net id.publisher))
      (within found.phase (commands_of net id.publisher)) (known_adverts net.clients)
  pub none : with_adverts net.semantics ≡ false → e.adverts.items ≡ []
  pub verdict : e.verdict ≡ verdict_by net.semantics e.filters.items e.adverts.items
  pub values : AreValues found.notice
