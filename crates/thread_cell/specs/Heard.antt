-- What a server hears in a load that lay on a lane, whose numbers don't show of which run it is.
use Rattle.std.specs.Prelude.{ℕ, ◌==◌, ◌&&◌, not, cond, nat_lt, Bool, true, List, [], ◌∷◌, length}
use Rattle.base.specs.Sets.{all_pass}
use Rattle.law_machine.specs.Machine.{Stamped}
use Rattle.law_routing.specs.Server.{Message, Subs}
use Rattle.net_model.specs.Real.{real}
use Rattle.net_model.specs.Nets.{with_adverts}
use Rattle.net_model.specs.Parts.{NetParts}
use Rattle.net_tables.specs.Known.{known_filters, known_adverts, known_publications}
use Rattle.server_message.specs.Parts.{ChangeParts}
use Rattle.server_message.specs.Message.{represented}
use Rattle.server_message.specs.declared.load.Load.{Load}
use Rattle.server_message.specs.declared.load.Load.TheVariants as loads
use Rattle.server_message.specs.declared.stamped.StampedLoad.{StampedLoad}

-- whether each number is below all later ones
abbrev pub rises : List ℕ → Bool
rises [] = true
rises (x ∷ xs) = all_pass (nat_lt x) xs && rises xs

-- whether all numbers are below a bound
abbrev pub are_below : ℕ → List ℕ → Bool
are_below bound xs = all_pass (λ i. nat_lt i bound) xs

-- whether no number is in both lists
abbrev pub are_apart : List ℕ → List ℕ → Bool
are_apart xs ys = all_pass (λ i. all_pass (λ j. not (i == j)) ys) xs

-- whether it is a change of numbers below a bound
abbrev pub is_change : ℕ → ChangeParts → Bool
is_change bound change = (rises change.withdrawn && rises change.added)
    && ((are_below bound change.withdrawn && are_below bound change.added) && are_apart change.withdrawn change.added)

-- whether a load is of the run of a net
abbrev pub is_of : NetParts → Load → Bool
is_of net (loads.Publication number) = nat_lt number (length (known_publications 1 net.clients))
is_of net (loads.Filters change) = is_change (length (known_filters net.clients)) change
is_of net (loads.Adverts change) = with_adverts net.semantics && is_change (length (known_adverts net.clients)) change

-- WHAT IS HEARD: the message that the numbers represent; a load of another run, which no cell puts, is a change of filters that withdraws and adds none
unfoldable pub heard : NetParts → Load → Message real
heard net load = cond (is_of net load) (represented net load) (Subs [] [])

-- what is heard under a stamp
abbrev pub heard_stamped : NetParts → StampedLoad → Stamped (Message real)
heard_stamped net stamped = record { stamp = stamped.stamp; message = heard net stamped.load }
