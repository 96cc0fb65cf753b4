-- What the code gathers of a publish that it found is its explanation.
use Rattle.std.proofs.Common.{◌≡◌, ℕ, zero, suc, ◌≤◌, ◌<◌, true, List, [], ◌∷◌, map, take, length, slice_get, Some, Result, Ok, Err, sym, ap, subst, ◌∙◌, arith}
use Rattle.base.proofs.Numbers.{zero-add}
use Rattle.output_flood.specs.Held.{Script}
use Rattle.std.specs.Prelude.{IfOk}
use Rattle.base.proofs.Lists.{get-map}
use Rattle.filter_types.specs.Notice.{Attribute}
use Rattle.filter_text.specs.declared.id.Id.{Id}
use Rattle.filter_text.specs.declared.command.Command.TheVariants as commands
use Rattle.law_routing.specs.Clients.{ordinal}
use Rattle.net_model.specs.Real.{real}
use Rattle.net_model.specs.Meaning.{phased_command}
use Rattle.net_model.specs.Parts.{NetParts}
use Rattle.net_model.specs.Nets.{with_adverts}
use Rattle.net_model.specs.Sound.{IsSound}
use Rattle.net_model.proofs.SoundNets.{net-laws}
use Rattle.output_explain.specs.declared.answer.Explanation.{Explanation}
use Rattle.output_explain.specs.declared.find.Found.{Found}
use Rattle.output_explain.specs.declared.verdict.Verdict.{Verdict}
use Rattle.output_explain.specs.Asked.{IsPublish, commands_of, found_from}
use Rattle.output_explain.specs.Explained.{IsExplanation, IsExplained, IsGathered}
use Rattle.output_explain.specs.Telling.{AreFilterFacts, AreAdvertFacts}
use Rattle.output_explain.specs.Verdicts.{Says, verdict_by}
use Rattle.output_explain.proofs.Finding.{IsFound, found_is}
use Rattle.output_explain.proofs.Judging.{publish_moment, judges, owed_to, owed_from, given_to, given_from}
use Rattle.output_explain.proofs.Knowing.{filters_told, adverts_told}
use Rattle.output_explain.proofs.Telling.{script_is}

get_low : {A : Type 0} (xs : List A) (i : ℕ) (x : A) → slice_get xs i ≡ Some x → i < length xs
get_low [] i x e = absurd cc
get_low (y ∷ xs) zero x e = omega arith
get_low (y ∷ xs) (suc i) x e = omega (arith, get_low xs i x e)

-- the publish that was found
pub publish_found : (net : NetParts) (id : Id) (found : Found) → found_from id.ordinal 0 0 (commands_of net id.publisher) ≡ Some found
    → IsPublish net id found.index found.phase found.notice
publish_found net id found e = record {
  at =
      ap (λ s. slice_get s found.index) (script_is net id.publisher)
      ∙ get-map phased_command (commands_of net id.publisher) found.index (found.phase, commands.Publish found.notice)
      (ap (slice_get (commands_of net id.publisher)) place ∙ is.at);
  ordinal =
      ap (λ s. ordinal real (take (suc found.index) s)) (script_is net id.publisher)
      ∙ ap (λ i. ordinal real (take (suc i) (map phased_command (commands_of net id.publisher)))) place
      ∙ sym (zero-add (ordinal real (take (suc is.place) (map phased_command (commands_of net id.publisher))))) ∙ is.ordinal;
}
  where
    is : IsFound id.ordinal 0 0 (commands_of net id.publisher) found
    is = found_is id.ordinal 0 0 (commands_of net id.publisher) found e

    place : found.index ≡ is.place
    place = is.at_index ∙ zero-add is.place

pub found_low : (number : ℕ) (script : Script) (found : Found) → found_from number 0 0 script ≡ Some found → found.index ≤ length script
found_low number script found e =
    let is = found_is number 0 0 script found e in
    omega (arith, is.at_index, get_low script is.place (found.phase, commands.Publish found.notice) is.at)

pub explained : (net : NetParts) (client : ℕ) (id : Id) (found : Found) (e : Explanation) → IsSound net
    → found_from id.ordinal 0 0 (commands_of net id.publisher) ≡ Some found → IsGathered net client id found e → IsExplained net client id e
explained net client id found e sound here is = record { of_client = is.of_client; of_id = is.of_id; explained = subst (IsExplanation net) (sym rebuilt) whole }
  where
    v : Verdict
    v = verdict_by net.semantics e.filters.items e.adverts.items

    made : ℕ → Id → ℕ → List Attribute → Verdict → Explanation
    made c i k n w = record { client = c; id = i; phase = k; notice = n; path = e.path; filters = e.filters; adverts = e.adverts; verdict = w }

    rebuilt : e ≡ made client id found.phase found.notice v
    rebuilt =
        ap (λ c. made c e.id e.phase e.notice e.verdict) is.of_client
        ∙ ap (λ i. made client i e.phase e.notice e.verdict) is.of_id
        ∙ ap (λ k. made client id k e.notice e.verdict) is.phase
        ∙ ap (λ n. made client id found.phase n e.verdict) is.notice
        ∙ ap (λ w. made client id found.phase found.notice w) is.verdict

    publish : IsPublish net id found.index found.phase found.notice
    publish = publish_found net id found here

    filters : AreFilterFacts net client found.phase found.notice e.filters.items
    filters = subst (AreFilterFacts net client found.phase found.notice) (sym is.filters) (filters_told net client found.phase found.notice)

    adverts : with_adverts net.semantics ≡ true → AreAdvertFacts net id.publisher found.phase found.index found.notice e.adverts.items
    adverts on =
        subst (AreAdvertFacts net id.publisher found.phase found.index found.notice) (sym (is.adverts on))
        (adverts_told net id.publisher found.phase found.index found.notice (found_low id.ordinal (commands_of net id.publisher) found here))

    says : Says net client id found.phase found.notice v
    says = judges net client id found.index found.phase found.notice is.values ((net-laws net sound).phased id.publisher) publish e.filters.items filters e.adverts.items adverts

    whole : IsExplanation net (made client id found.phase found.notice v)
    whole = record {
      index = found.index;
      publish = publish;
      moment = publish_moment net id found.index found.phase found.notice ((net-laws net sound).phased id.publisher) publish;
      path = is.path;
      filters = filters;
      adverts = adverts;
      none = is.none;
      says = says;
      owed = (owed_to net client id found.phase found.notice v says, owed_from net client id found.phase found.notice v says);
      allowed = (given_to net client id found.phase found.notice v says, given_from net client id found.phase found.notice v says);
    }

pub explained_ok : {E : Type 0} (net : NetParts) (client : ℕ) (id : Id) (found : Found) → IsSound net
    → found_from id.ordinal 0 0 (commands_of net id.publisher) ≡ Some found → (r : Result Explanation E) → IfOk r (IsGathered net client id found)
    → IfOk r (IsExplained net client id)
explained_ok net client id found sound here (Ok e) is = explained net client id found e sound here is
explained_ok net client id found sound here (Err f) is = tt
