-- What is carried by numbers, and the message of the runs of the network that it represents.
use Rattle.std.specs.Prelude.{◌≡◌, ◌<◌, length}
use Rattle.base_order.specs.Order.{picked}
use Rattle.law_machine.specs.Machine.{Stamped}
use Rattle.filter_text.specs.declared.semantics.Semantics.TheVariants.{Advertisement}
use Rattle.law_routing.specs.Server.{Message, Subs, Advs, Noticed}
use Rattle.net_model.specs.Real.{real}
use Rattle.net_model.specs.Parts.{NetParts}
use Rattle.net_tables.specs.Known.{known_filters, known_adverts, known_publications}
use Rattle.net_tables.specs.Found.{publication_at}
use Rattle.server_message.specs.Parts.{IsChange}
use Rattle.server_message.specs.declared.load.Load.{Load}
use Rattle.server_message.specs.declared.load.Load.TheVariants as loads
use Rattle.server_message.specs.declared.stamped.StampedLoad.{StampedLoad}

-- what is carried by numbers represents this message
abbrev pub represented : NetParts → Load → Message real
represented net (loads.Publication number) =
    let p = publication_at net number in Noticed p.id.publisher p.id.ordinal p.notice
represented net (loads.Filters change) = Subs (picked (known_filters net.clients) change.withdrawn) (picked (known_filters net.clients) change.added)
represented net (loads.Adverts change) = Advs (picked (known_adverts net.clients) change.withdrawn) (picked (known_adverts net.clients) change.added)

-- the numbers of what is carried are those of the net; advertisements are sent under advertisement semantics alone
abbrev pub IsLoad : NetParts → Load → Type 0
IsLoad net (loads.Publication number) = number < length (known_publications 1 net.clients)
IsLoad net (loads.Filters change) = IsChange (length (known_filters net.clients)) change
IsLoad net (loads.Adverts change) = (net.semantics ≡ Advertisement) × IsChange (length (known_adverts net.clients)) change

-- what a load under a stamp says in a net
abbrev pub represented_stamped : NetParts → StampedLoad → Stamped (Message real)
represented_stamped net stamped = record { stamp = stamped.stamp; message = represented net stamped.load }
