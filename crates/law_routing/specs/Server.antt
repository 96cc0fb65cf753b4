-- What one server keeps, and what it sends to each neighbour.
use Rattle.std.specs.Prelude.{ℕ, ◌+◌, ◌==◌, Bool, false, cond, not, nat_le, ◌||◌, List, [], ◌∷◌, ◌++◌, filter, map}
use Rattle.base.specs.Sets.{roots, union, minus, same_list}
use Rattle.law_routing.specs.Theory.{Theory}
use Rattle.law_routing.specs.Net.{Net}
use Rattle.law_routing.specs.Clients.{some_pass}

-- a message on a link: a change of filters or of advertisements, in which out are withdrawn and add are added, or a notice
pub data Message (theory : Theory) : Type 0 where
  Subs : (out add : List theory.Filter) → Message theory
  Advs : (out add : List theory.Advert) → Message theory
  Noticed : (publisher ordinal : ℕ) (notice : theory.Notice) → Message theory

-- a publication: a notice under its id
pub record Publication (theory : Theory) : Type 0 where
  pub publisher : ℕ
  pub ordinal : ℕ
  pub notice : theory.Notice

-- the interface of a client: those of neighbours are their numbers, at most 64
abbrev pub client_interface : ℕ → ℕ
client_interface client = 64 + client

-- whether an interface is a neighbour's, and not a client's
abbrev pub is_link : ℕ → Bool
is_link interface = nat_le interface 64

-- what one server keeps. Its interfaces are its neighbours and its clients'
pub record ServerState (theory : Theory) : Type 0 where
  -- the filters and the advertisements held from each interface
  pub subs : ℕ → List theory.Filter
  pub advs : ℕ → List theory.Advert
  -- the filters of each interface as they stood at the last table update
  pub installed : ℕ → List theory.Filter
  -- whether a filter set changed since the last table update
  pub pending : Bool
  -- of each client, how many commands were executed, and its inbox
  pub done : ℕ → ℕ
  pub inbox : ℕ → List (Publication theory)

-- whether a number stands in a list
abbrev pub is_among : ℕ → List ℕ → Bool
is_among x [] = false
is_among x (y ∷ ys) = (x == y) || is_among x ys

-- the union of the sets of all interfaces but one
abbrev pub union_except : {T : Type 0} → (T → T → Bool) → (ℕ → List T) → ℕ → List ℕ → List T
union_except before sets but [] = []
union_except before sets but (i ∷ is) = cond (i == but) (union_except before sets but is) (union before (sets i) (union_except before sets but is))

module _ (theory : Theory) (net : Net theory) where
  -- the interfaces of a server: its neighbours, then its clients
  abbrev pub interfaces : ℕ → List ℕ
  interfaces server = net.links server ++ map client_interface (net.clients server)

  -- the filters needed on a link: all that are held from elsewhere; under advertisement semantics those that overlap an advertisement held from there
  abbrev pub needed : ServerState theory → ℕ → ℕ → List theory.Filter
  needed state server link =
      filter (λ f. not net.adverts || some_pass (theory.overlaps f) (state.advs link)) (union_except theory.before state.subs link (interfaces server))

  -- the filters sent on a link: the covering roots of those needed
  abbrev pub sent : ServerState theory → ℕ → ℕ → List theory.Filter
  sent state server link = roots theory.covers theory.before (needed state server link)

  -- the advertisements needed on a link: all that are held from elsewhere
  abbrev pub needed_adverts : ServerState theory → ℕ → ℕ → List theory.Advert
  needed_adverts state server link = union_except theory.before_advert state.advs link (interfaces server)

  -- the advertisements sent on a link: under advertisement semantics the covering roots of those needed
  abbrev pub sent_adverts : ServerState theory → ℕ → ℕ → List theory.Advert
  sent_adverts state server link = cond net.adverts (roots theory.covers_advert theory.before_advert (needed_adverts state server link)) []

  -- the message of a change from one set of filters to another, where they differ
  abbrev pub filter_change : List theory.Filter → List theory.Filter → List (Message theory)
  filter_change old new = cond (same_list theory.before old new) [] (Subs (minus theory.before old new) (minus theory.before new old) ∷ [])

  -- the same of advertisements
  abbrev pub advert_change : List theory.Advert → List theory.Advert → List (Message theory)
  advert_change old new = cond (same_list theory.before_advert old new) [] (Advs (minus theory.before_advert old new) (minus theory.before_advert new old) ∷ [])

  -- the messages to a link of a step that turns one state into another: of filters, then of advertisements
  abbrev pub messages_to : ServerState theory → ServerState theory → ℕ → ℕ → List (Message theory)
  messages_to old new server link =
      filter_change (sent old server link) (sent new server link) ++ advert_change (sent_adverts old server link) (sent_adverts new server link)
