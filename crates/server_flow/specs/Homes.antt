-- What contracts see of what the clients of a server have together by numbers.
use Rattle.std.specs.Prelude.{◌≡◌, ℕ, List, map}
use Rattle.base.specs.Sets.{Has}
use Rattle.base_order.specs.Order.{picked}
use Rattle.net_model.specs.Parts.{NetParts}
use Rattle.server_spec.specs.declared.home.Home.{Home}
use Rattle.net_tables.specs.Known.{known_filters, known_adverts}

-- the home of a server, in the net whose run it is in
pub record NetHome : Type 0 where
  pub net : NetParts
  pub home : Home

-- the filters and the advertisements with these numbers
abbrev pub net_home : NetParts → List ℕ → List ℕ → NetHome
net_home net filters adverts = record {
  net = net;
  home = record { filters = picked (known_filters net.clients) filters; adverts = picked (known_adverts net.clients) adverts };
}

-- the homes, server by server
abbrev pub homes_in : List NetHome → List Home
homes_in homes = map (λ h. h.home) homes

-- each is in a run of this net
abbrev pub AreHomesIn : NetParts → List NetHome → Type 0
AreHomesIn net homes = (h : NetHome) → Has h homes → h.net ≡ net
