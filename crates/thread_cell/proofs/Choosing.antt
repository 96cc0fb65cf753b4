-- Steps that are made by what comes of a match ahead.
use Rattle.std.proofs.Common.{◌≡◌, ℕ, Bor, List, Option, None, Some, IfSome, sym, subst, ◌∙◌}
use Rattle.law_machine.specs.Machine.{Does}
use Rattle.law_routing.specs.Step.{NextCommand}
use Rattle.net_model.specs.Parts.{EntryParts}
use Rattle.match_routes.specs.declared.route.Route.{Route}
use Rattle.server_message.specs.declared.load.Load.{Load}
use Rattle.thread_cell.specs.Heard.{heard}
use Rattle.server_core.specs.Core.{CoreParts}
use Rattle.server_core.specs.Routed.{RoutesMessage}
use Rattle.thread_versions.specs.declared.publisher.Publisher.{Publisher}
use Rattle.thread_versions.specs.declared.ahead.Ahead.{Ahead}
use Rattle.thread_versions.specs.Ends.{matched_in}
use Rattle.thread_cell.specs.declared.choice.Choice.{Choice}
use Rattle.thread_cell.specs.declared.choice.Matched.{Matched}
use Rattle.thread_cell.specs.declared.choice.Choice.TheVariants.{Other, Outdated, Agreed}
use Rattle.net_model.specs.declared.turn.Act.{Act}
use Rattle.net_model.specs.declared.turn.Act.TheVariants.{Command}
use Rattle.thread_cell.specs.declared.turned.Turned.TheVariants.{Idle}
use Rattle.thread_cell.specs.declared.held.ServerInHand.{ServerInHand}
use Rattle.thread_cell.specs.Acted.{Represented}
use Rattle.thread_cell.specs.LaneReceiving.{HasMissed}
use Rattle.thread_cell.specs.Turns.{IsStill, IsReception, IsReceptionFrom}
use Rattle.thread_cell.specs.Asked.{Answers, IsIdleStep, IsMadeStep}
use Rattle.thread_cell.specs.Ahead.{CarriesMatched, RoutesMatched, AnswersAhead, AnswersBy, IsReceptionAhead, IsReceptionBy, IsChoiceNext, IsChoiceNextBy, IsChoiceOf, IsChoiceOfBy, turned_by}

-- where nothing was matched ahead no route is known
not-known : (choice : Choice) (route : Bor Route) → choice ≡ Other → choice ≡ Agreed route → ⊥
not-known choice route is same = let e : Other ≡ Agreed route = sym is ∙ same in cc

module _ (publisher : Publisher) (core : CoreParts) where
  -- the route that is known by it is that of the step
  pub known-of : (matched : Option Matched) (load : Load) (choice : Choice) (known : Option (Bor Route)) → IsChoiceOfBy core publisher matched load choice
      → IfSome known (λ route. choice ≡ Agreed route) → IfSome known (λ route. RoutesMessage core (heard core.net load) route.now)
  known-of matched load choice None is same = tt
  known-of None load choice (Some route) is same = absurd (not-known choice route is same)
  known-of (Some h) load choice (Some route) is same = (subst (IsChoiceOf core publisher h.ahead.now load) same is).1

module _ (phase : ℕ) (old new : ServerInHand) (before after : List EntryParts) where
  chosen-command : (ahead : Ahead) (client : ℕ) (choice : Choice) → IsChoiceNext old.core old.publisher ahead client choice
      → (made : IsMadeStep phase (Command client) old new before after) → made.input ≡ Does (NextCommand client)
      → AnswersAhead phase (Command client) ahead old new before after (turned_by choice)
  chosen-command ahead client Other is made same = (made, λ routes. absurd (is (subst (λ i. RoutesMatched old.core i (matched_in ahead)) same routes)))
  chosen-command ahead client Outdated is made same = (made, subst (λ i. RoutesMatched old.core i (matched_in ahead)) (sym same) is.0, is.1)
  chosen-command ahead client (Agreed route) is made same = (made, λ routes. is.0)

  pub command-by : (matched : Option Matched) (client : ℕ) (choice : Choice) → IsChoiceNextBy old.core old.publisher matched client choice
      → (made : IsMadeStep phase (Command client) old new before after) → made.input ≡ Does (NextCommand client)
      → AnswersBy phase (Command client) matched old new before after (turned_by choice)
  command-by None client choice is made same = subst (λ c. Answers phase (Command client) old new before after (turned_by c)) (sym is) made
  command-by (Some h) client choice is made same = chosen-command h.ahead.now client choice is made same

  chosen-reception : (ahead : Ahead) (place : ℕ) (load : Load) (choice : Choice) → IsChoiceOf old.core old.publisher ahead load choice
      → (m : Represented) → heard old.core.net load ≡ m.message → IsReceptionFrom phase place m old new before after
      → IsReceptionAhead phase place ahead old new before after (turned_by choice)
  chosen-reception ahead place load Other is m says reception =
      (m, reception, λ carries. absurd (is (subst (λ z. CarriesMatched old.core.net z (matched_in ahead)) (sym says) carries)))
  chosen-reception ahead place load Outdated is m says reception = (m, reception, subst (λ z. CarriesMatched old.core.net z (matched_in ahead)) says is.0, is.1)
  chosen-reception ahead place load (Agreed route) is m says reception = (m, reception, λ carries. is.0)

  pub reception-by : (matched : Option Matched) (place : ℕ) (load : Load) (choice : Choice) → IsChoiceOfBy old.core old.publisher matched load choice
      → (m : Represented) → heard old.core.net load ≡ m.message → IsReceptionFrom phase place m old new before after
      → IsReceptionBy phase place matched old new before after (turned_by choice)
  reception-by None place load choice is m says reception = subst (λ c. IsReception phase place old new before after (turned_by c)) (sym is) (m, reception)
  reception-by (Some h) place load choice is m says reception = chosen-reception h.ahead.now place load choice is m says reception

  -- where nothing was done it doesn't matter whether something was matched ahead
  pub idle-by : (matched : Option Matched) (what : Act) → IsStill old new before after × IsIdleStep phase what old new → AnswersBy phase what matched old new before after Idle
  idle-by None what a = a
  idle-by (Some h) what a = a

  pub missed-by : (matched : Option Matched) (place : ℕ) → IsStill old new before after × HasMissed place old.links.items new.links.items → IsReceptionBy phase place matched old new before after Idle
  missed-by None place a = a
  missed-by (Some h) place a = a
