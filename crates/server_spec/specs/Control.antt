-- What contracts see of a control: its semantics, its links and what is held from whom; what follows from these for each link; and the texts of a change.
use Rattle.std.specs.Prelude.{◌≡◌, ◌≢◌, ◌<◌, ◌≤◌, ℕ, Bool, true, false, cond, not, ◌||◌, ◌++◌, List, [], ◌∷◌, map, filter}
use Rattle.std.specs.List.{flat_map}
use Rattle.base.specs.Sets.{Has, roots, minus, same_list}
use Rattle.filter_constraints.specs.Constraint.{ConstraintParts}
use Rattle.filter_text.specs.declared.semantics.Semantics.{Semantics}
use Rattle.filter_text.specs.declared.semantics.Semantics.TheVariants.{Subscription, Advertisement}
use Rattle.filter_text.specs.declared.sent.Sent.{Sent}
use Rattle.filter_text.specs.declared.message_text.MessageText as wire
use Rattle.filter_text.specs.declared.message_text.MessageText.TheVariants as wires
use Rattle.filter_text.specs.MessageText.{message_text}
use Rattle.law_routing.specs.Clients.{some_pass}
use Rattle.law_routing.specs.Server.{Message, Subs, Advs, Noticed}
use Rattle.net_model.specs.Real.{real}
use Rattle.server_spec.specs.declared.control.HeldLink.{HeldLink}
use Rattle.server_spec.specs.Holdings.{Holding, held_from, held_elsewhere}

-- whether advertisements steer the filters
abbrev pub by_adverts : Semantics → Bool
by_adverts Subscription = false
by_adverts Advertisement = true

-- semantics, links, and the filters and the advertisements held from interfaces, each as a rising list
pub record Controlled : Type 0 where
  pub semantics : Semantics
  pub links : List ℕ
  pub filters : List (Holding (List ConstraintParts))
  pub adverts : List (Holding (List ConstraintParts))

-- the filters held from an interface, and the advertisements
abbrev pub subs : Controlled → ℕ → List (List ConstraintParts)
subs control interface = held_from real.before interface control.filters

abbrev pub advs : Controlled → ℕ → List (List ConstraintParts)
advs control interface = held_from real.before_advert interface control.adverts

-- whether a filter is wanted on a link that offers these advertisements
abbrev pub is_wanted : Semantics → List (List ConstraintParts) → List ConstraintParts → Bool
is_wanted semantics offered filter = not (by_adverts semantics) || some_pass (real.overlaps filter) offered

-- the filters needed on a link: what is held from elsewhere; under advertisement semantics what of it overlaps an advertisement held from there
abbrev pub needed : Controlled → ℕ → List (List ConstraintParts)
needed control link = filter (is_wanted control.semantics (advs control link)) (held_elsewhere real.before link control.filters)

-- the filters sent on a link: the covering roots of those needed
abbrev pub sent : Controlled → ℕ → List (List ConstraintParts)
sent control link = roots real.covers real.before (needed control link)

-- the advertisements sent on a link: the covering roots of those held from elsewhere
abbrev pub sent_adverts : Controlled → ℕ → List (List ConstraintParts)
sent_adverts control link = roots real.covers_advert real.before_advert (held_elsewhere real.before_advert link control.adverts)

-- the message of a change from one set of filters to another, where they differ
abbrev pub filter_change : List (List ConstraintParts) → List (List ConstraintParts) → List (Message real)
filter_change old new = cond (same_list real.before old new) [] (Subs (minus real.before old new) (minus real.before new old) ∷ [])

-- the same of advertisements
abbrev pub advert_change : List (List ConstraintParts) → List (List ConstraintParts) → List (Message real)
advert_change old new = cond (same_list real.before_advert old new) [] (Advs (minus real.before_advert old new) (minus real.before_advert new old) ∷ [])

-- the messages to a link of a change: of filters, then of advertisements
abbrev pub changes_to : Controlled → Controlled → ℕ → List (Message real)
changes_to old new link = filter_change (sent old link) (sent new link) ++ advert_change (sent_adverts old link) (sent_adverts new link)

-- a message as it travels
abbrev pub wired : Message real → wire.MessageText
wired (Subs out add) = wires.Subs out add
wired (Advs out add) = wires.Advs out add
wired (Noticed publisher ordinal notice) = wires.Notice (record { publisher = publisher; ordinal = ordinal }) notice

-- the text of a message, with its receiver
abbrev pub sent_to : ℕ → Message real → Sent
sent_to link message = record { to = link; bytes = message_text (wired message) }

-- the texts of the messages to each of these links, in turn
abbrev pub texts : (ℕ → List (Message real)) → List ℕ → List Sent
texts messages links = flat_map (λ link. map (sent_to link) (messages link)) links

-- what is held once links are given: from a link what is given, from a client what was held, from no other interface anything
pub record IsRelinked (given : HeldLink → List (List ConstraintParts)) (held : List HeldLink) (old new : ℕ → List (List ConstraintParts)) : Type 0 where
  pub links : (h : HeldLink) → Has h held → new h.link ≡ given h
  pub clients : (i : ℕ) → 64 < i → new i ≡ old i
  pub others : (i : ℕ) → i ≤ 64 → ((h : HeldLink) → Has h held → h.link ≢ i) → new i ≡ []
