-- What contracts see of what is held from an interface by numbers.
use Rattle.std.specs.Prelude.{◌≡◌, ℕ, List, length, map}
use Rattle.base.specs.Sets.{Has}
use Rattle.base_bits.specs.Rows.{Numbers}
use Rattle.base_order.specs.Order.{picked}
use Rattle.net_model.specs.Parts.{NetParts}
use Rattle.server_spec.specs.declared.control.HeldLink.{HeldLink}
use Rattle.net_tables.specs.Known.{known_filters, known_adverts}

-- an interface with what is held from it, in the net whose run it is in
pub record NetHeld : Type 0 where
  pub net : NetParts
  pub held : HeldLink

-- the filters and the advertisements with these numbers
abbrev pub net_held : NetParts → ℕ → List ℕ → List ℕ → NetHeld
net_held net link filters adverts = record {
  net = net;
  held = record { link = link; filters = picked (known_filters net.clients) filters; adverts = picked (known_adverts net.clients) adverts };
}

-- what is held, interface by interface
abbrev pub held_in : List NetHeld → List HeldLink
held_in held = map (λ h. h.held) held

-- each is in a run of this net
abbrev pub AreHeldIn : NetParts → List NetHeld → Type 0
AreHeldIn net held = (h : NetHeld) → Has h held → h.net ≡ net

-- the rows have numbers of the net's filters, and of its advertisements
pub record AreWide (net : NetParts) (filters adverts : Numbers) : Type 0 where
  pub filters_wide : filters.width ≡ length (known_filters net.clients)
  pub adverts_wide : adverts.width ≡ length (known_adverts net.clients)
