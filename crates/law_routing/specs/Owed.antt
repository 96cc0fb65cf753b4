-- What is owed and allowed to a client, by the scripts alone: no server occurs.
use Rattle.std.specs.Prelude.{◌≡◌, ℕ, suc, ◌≤◌, true, [], take, slice_get, Some}
use Rattle.base.specs.Sets.{Has}
use Rattle.law_routing.specs.Theory.{Theory}
use Rattle.law_routing.specs.Net.{Net, PhasedCommand, Publish}
use Rattle.law_routing.specs.Clients.{some_pass, ordinal, filters_after, adverts_after, accepts, commands_below}

module _ (theory : Theory) (net : Net theory) where
  -- so many commands of a client are executed at some moment of a phase, its beginning included
  pub record IsMomentOfPhase (phase client count : ℕ) : Type 0 where
    pub from : commands_below theory phase (net.script client) ≤ count
    pub upto : count ≤ commands_below theory (suc phase) (net.script client)

  -- an accepted publish of the notice by the publisher in the phase has this ordinal
  pub record IsPublication (publisher number in_phase : ℕ) (notice : theory.Notice) : Type 0 where
    pub index : ℕ
    pub command : PhasedCommand theory
    pub at : slice_get (net.script publisher) index ≡ Some command
    pub publishes : command.command ≡ Publish notice
    pub ordinal : ordinal theory (take (suc index) (net.script publisher)) ≡ number
    pub allowed : accepts theory net (adverts_after theory [] (take index (net.script publisher))) notice ≡ true
    pub phase : command.phase ≡ in_phase

  -- an advertisement that allows the notice is in the publisher's list at every moment of the phase
  pub record IsAdvertisedThroughout (publisher phase : ℕ) (notice : theory.Notice) : Type 0 where
    pub advert : theory.Advert
    pub always : (count : ℕ) → IsMomentOfPhase phase publisher count → Has advert (adverts_after theory [] (take count (net.script publisher)))
    pub allows : theory.allows advert notice ≡ true

  -- owed: a filter that matches is in the client's list at every moment of the phase, and under advertisement semantics such an
  -- advertisement in the publisher's
  pub record IsOwed (publisher phase : ℕ) (notice : theory.Notice) (client : ℕ) : Type 0 where
    pub filter : theory.Filter
    pub always : (count : ℕ) → IsMomentOfPhase phase client count → Has filter (filters_after theory [] (take count (net.script client)))
    pub matches : theory.matches notice filter ≡ true
    pub allowed : net.adverts ≡ true → IsAdvertisedThroughout publisher phase notice

  -- due, which asks less: at every moment of the phase some filter of the client's list matches, be it now one and now another; and at every moment of the
  -- phase up to the publish, which has so many commands before it, it would have been accepted
  pub record IsDue (publisher phase index : ℕ) (notice : theory.Notice) (client : ℕ) : Type 0 where
    pub wanted : (count : ℕ) → IsMomentOfPhase phase client count
        → some_pass (theory.matches notice) (filters_after theory [] (take count (net.script client))) ≡ true
    pub allowed : (count : ℕ) → commands_below theory phase (net.script publisher) ≤ count → count ≤ index
        → accepts theory net (adverts_after theory [] (take count (net.script publisher))) notice ≡ true

  -- allowed: a filter that matches is in the client's list at some moment of the phase
  pub record IsAllowed (phase : ℕ) (notice : theory.Notice) (client : ℕ) : Type 0 where
    pub index : ℕ
    pub moment : IsMomentOfPhase phase client index
    pub filter : theory.Filter
    pub listed : Has filter (filters_after theory [] (take index (net.script client)))
    pub matches : theory.matches notice filter ≡ true
