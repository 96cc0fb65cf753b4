-- What a client's commands make of its lists, by its script alone.
use Rattle.std.specs.Prelude.{◌≡◌, ℕ, suc, ◌+◌, nat_lt, Bool, true, false, cond, not, ◌||◌, List, [], ◌∷◌, filter, take, slice_get, Some}
use Rattle.base.specs.Sets.{union}
use Rattle.law_routing.specs.Theory.{Theory}
use Rattle.law_routing.specs.Net.{Command, Subscribe, Unsubscribe, Advertise, Unadvertise, Publish, PhasedCommand, Net}

-- whether some member of a list passes a test
abbrev pub some_pass : {T : Type 0} → (T → Bool) → List T → Bool
some_pass test [] = false
some_pass test (x ∷ xs) = test x || some_pass test xs

module _ (theory : Theory) where
  -- a client's filters after one command: a subscription adds its filter, a withdrawal takes away all that its filter covers
  abbrev pub filters_step : List theory.Filter → Command theory → List theory.Filter
  filters_step filters (Subscribe f) = union theory.before (f ∷ []) filters
  filters_step filters (Unsubscribe f) = filter (λ g. not (theory.covers f g)) filters
  filters_step filters (Advertise a) = filters
  filters_step filters (Unadvertise a) = filters
  filters_step filters (Publish n) = filters

  -- a client's filters after commands, as a rising list
  abbrev pub filters_after : List theory.Filter → List (PhasedCommand theory) → List theory.Filter
  filters_after filters [] = filters
  filters_after filters (command ∷ commands) = filters_after (filters_step filters command.command) commands

  -- a client's advertisements after one command
  abbrev pub adverts_step : List theory.Advert → Command theory → List theory.Advert
  adverts_step adverts (Subscribe f) = adverts
  adverts_step adverts (Unsubscribe f) = adverts
  adverts_step adverts (Advertise a) = union theory.before_advert (a ∷ []) adverts
  adverts_step adverts (Unadvertise a) = filter (λ b. not (theory.covers_advert a b)) adverts
  adverts_step adverts (Publish n) = adverts

  -- a client's advertisements after commands, as a rising list
  abbrev pub adverts_after : List theory.Advert → List (PhasedCommand theory) → List theory.Advert
  adverts_after adverts [] = adverts
  adverts_after adverts (command ∷ commands) = adverts_after (adverts_step adverts command.command) commands

  -- whether a command is a publish
  abbrev pub is_publish : Command theory → Bool
  is_publish (Subscribe f) = false
  is_publish (Unsubscribe f) = false
  is_publish (Advertise a) = false
  is_publish (Unadvertise a) = false
  is_publish (Publish n) = true

  -- the ordinal of the last publish of a list of commands: how many there are
  abbrev pub ordinal : List (PhasedCommand theory) → ℕ
  ordinal [] = 0
  ordinal (command ∷ commands) = cond (is_publish command.command) (suc (ordinal commands)) (ordinal commands)

  -- how many commands of phases below this one a script has
  abbrev pub commands_below : ℕ → List (PhasedCommand theory) → ℕ
  commands_below phase [] = 0
  commands_below phase (command ∷ commands) = cond (nat_lt command.phase phase) (suc (commands_below phase commands)) (commands_below phase commands)

  module _ (net : Net theory) where
    -- whether a publish of a notice is accepted, by the client's advertisements: under advertisement semantics some one must allow it
    abbrev pub accepts : List theory.Advert → theory.Notice → Bool
    accepts adverts notice = not net.adverts || some_pass (λ a. theory.allows a notice) adverts

    -- one command: a publish that is not accepted adds its ordinal
    abbrev pub add_refused : List theory.Advert → ℕ → Command theory → List ℕ → List ℕ
    add_refused adverts before (Subscribe f) refused = refused
    add_refused adverts before (Unsubscribe f) refused = refused
    add_refused adverts before (Advertise a) refused = refused
    add_refused adverts before (Unadvertise a) refused = refused
    add_refused adverts before (Publish n) refused = cond (accepts adverts n) refused (suc before ∷ refused)

    -- the ordinals of the refused publishes of a list of commands, with these advertisements and so many publishes before it
    abbrev pub refused_from : List theory.Advert → ℕ → List (PhasedCommand theory) → List ℕ
    refused_from adverts before [] = []
    refused_from adverts before (command ∷ commands) = add_refused adverts before command.command
        (refused_from (adverts_step adverts command.command) (cond (is_publish command.command) (suc before) before) commands)

    -- the refused ordinals of a client after its first count commands
    abbrev pub refused_after : ℕ → ℕ → List ℕ
    refused_after client count = refused_from [] 0 (take count (net.script client))

    -- with these advertisements and so many publishes before them, a refused publish among these commands has this ordinal
    pub record IsRefused (adverts : List theory.Advert) (before : ℕ) (commands : List (PhasedCommand theory)) (number : ℕ) : Type 0 where
      pub index : ℕ
      pub command : PhasedCommand theory
      pub notice : theory.Notice
      pub at : slice_get commands index ≡ Some command
      pub publishes : command.command ≡ Publish notice
      pub ordinal : before + ordinal (take (suc index) commands) ≡ number
      pub refused : accepts (adverts_after adverts (take index commands)) notice ≡ false
