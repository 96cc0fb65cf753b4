-- Turns tried within a phase over the journal of a network, however it is read: what was made and what is left.
use Rattle.std.proofs.Common.{◌≡◌, ℕ, zero, suc, List, [], ◌∷◌, ◌++◌, length, sym, ap, subst, ◌∙◌}
use Rattle.std.proofs.lemmas.List.{append-nil, append_assoc, map-append}
use Rattle.law_machine.specs.Walk.{repeated}
use Rattle.law_phases.specs.Trees.{machine_at}
use Rattle.law_phases.specs.Runs.{Turn}
use Rattle.net_model.specs.Real.{real}
use Rattle.net_model.specs.Parts.{NetParts, EntryParts}
use Rattle.net_model.specs.Nets.{phased_net}
use Rattle.net_turns.specs.Network.{NetworkParts, network_parts}
use Rattle.net_turns.specs.Reading.{Reading, journal_read, moment_read, entries_tried, CanTry, IsTried, IsOnWay, Tries, Going}
use Rattle.base.proofs.Lists.{append-self-nil}

module _ (r : Reading) where
  -- after the entries of turns it is the moment after the turns
  pub moment-made : (net : NetParts) (journal made : List EntryParts) (phase : ℕ) (turns : List Turn) → journal_read r net made ≡ entries_tried r (network_parts net journal) phase turns
      → moment_read r net (journal ++ made) ≡ r.turned net phase (moment_read r net journal) turns
  moment-made net journal made phase turns e =
      ap (λ z. r.moment_after net (r.opening net) z (length z)) (map-append (r.entry_in net) journal made)
      ∙ (r.after_append net (r.opening net) (journal_read r net journal) (journal_read r net made)
      ∙ (ap (λ z. r.moment_after net (moment_read r net journal) z (length z)) e
      ∙ r.after_turns net phase (moment_read r net journal) turns))

  -- the entries of a list of turns of which a part was made
  entries-parts : (net : NetParts) (journal made : List EntryParts) (phase : ℕ) (part more : List Turn) → journal_read r net made ≡ entries_tried r (network_parts net journal) phase part
      → entries_tried r (network_parts net journal) phase (part ++ more) ≡ journal_read r net made ++ entries_tried r (network_parts net (journal ++ made)) phase more
  entries-parts net journal made phase part more e =
      r.two_lists net phase (moment_read r net journal) part more
      ∙ (λ i. sym e i ++ r.entries_by net phase (sym (moment-made net journal made phase part e) i) more)

  -- a run of two lists of turns is one of the first, and then one of the second
  run-parts : (net : NetParts) (phase : ℕ) (moment end : r.Moment net) (part more : List Turn) → r.IsRunTo net moment (r.entries_by net phase moment (part ++ more)) end
      → r.IsRunTo net moment (r.entries_by net phase moment part) (r.turned net phase moment part) × r.IsRunTo net (r.turned net phase moment part) (r.entries_by net phase (r.turned net phase moment part) more) end
  run-parts net phase moment end part more run =
      r.run_first net phase moment end part (r.entries_by net phase (r.turned net phase moment part) more)
      (subst (λ z. r.IsRunTo net moment z end) (r.two_lists net phase moment part more) run)

  -- what can be tried can be tried in part, and then the rest of it
  pub can-part : (phase : ℕ) (part more : List Turn) (network : NetworkParts) → CanTry r phase (part ++ more) network → CanTry r phase part network
  can-part phase part more network can = record {
    end = r.turned network.net phase (moment_read r network.net network.journal) part;
    run = (run-parts network.net phase (moment_read r network.net network.journal) can.end part more can.run).0;
  }

  can-rest : (net : NetParts) (journal made : List EntryParts) (phase : ℕ) (part more : List Turn) → journal_read r net made ≡ entries_tried r (network_parts net journal) phase part
      → CanTry r phase (part ++ more) (network_parts net journal) → CanTry r phase more (network_parts net (journal ++ made))
  can-rest net journal made phase part more e can = record {
    end = can.end;
    run = subst (λ z. r.IsRunTo net z (r.entries_by net phase z more) can.end) (sym (moment-made net journal made phase part e))
        (run-parts net phase (moment_read r net journal) can.end part more can.run).1;
  }

  -- at first all is left
  starts : (phase : ℕ) (turns : List Turn) (network : NetworkParts) → CanTry r phase turns network → IsOnWay r phase turns turns network network
  starts phase turns network can = record {
    made = [];
    later = ap (network_parts network.net) (sym (append-nil network.journal));
    whole = ap (λ z. entries_tried r (network_parts network.net z) phase turns) (sym (append-nil network.journal));
    can = subst (λ z. CanTry r phase turns (network_parts network.net z)) (sym (append-nil network.journal)) can;
  }

  -- a part of what is left is tried, and the rest of it is left
  goes-on : (phase : ℕ) (turns part more : List Turn) (old middle new : NetworkParts) → IsOnWay r phase turns (part ++ more) old middle → Tries r phase part middle new → IsOnWay r phase turns more old new
  goes-on phase turns part more old middle new way tries = record {
    made = way.made ++ step.made;
    later = step.later ∙ ap (network_parts old.net) (append_assoc old.journal way.made step.made);
    whole = way.whole
        ∙ (ap (λ z. journal_read r old.net way.made ++ z) (entries-parts old.net (old.journal ++ way.made) step.made phase part more step.entries)
        ∙ (sym (append_assoc (journal_read r old.net way.made) (journal_read r old.net step.made) (entries_tried r (network_parts old.net ((old.journal ++ way.made) ++ step.made)) phase more))
        ∙ (λ i. sym (map-append (r.entry_in old.net) way.made step.made) i ++ entries_tried r (network_parts old.net (append_assoc old.journal way.made step.made i)) phase more)));
    can = subst (λ z. CanTry r phase more (network_parts old.net z)) (append_assoc old.journal way.made step.made) (can-rest old.net (old.journal ++ way.made) step.made phase part more step.entries way.can);
  }
    where
      here : NetworkParts
      here = network_parts old.net (old.journal ++ way.made)

      step : IsTried r phase part (network_parts old.net (old.journal ++ way.made)) new
      step = subst (λ z. Tries r phase part z new) way.later tries (can-part phase part more here way.can)

  -- where what is left makes nothing, all were tried
  ends : (phase : ℕ) (turns left : List Turn) (old new : NetworkParts) → IsOnWay r phase turns left old new → entries_tried r new phase left ≡ [] → IsTried r phase turns old new
  ends phase turns left old new way nothing = record {
    made = way.made;
    later = way.later;
    entries = sym (way.whole ∙ (ap (λ z. journal_read r old.net way.made ++ z) (subst (λ z. entries_tried r z phase left ≡ []) way.later nothing) ∙ append-nil (journal_read r old.net way.made)));
  }

  -- a turn of the phase was made
  pub made-tries : (phase : ℕ) (turn : Turn) (entry : EntryParts) (old new : NetworkParts) → new ≡ network_parts old.net (old.journal ++ entry ∷ [])
      → r.IsOfPhase old.net phase (moment_read r old.net old.journal) turn
      → r.IsPermitted old.net (moment_read r old.net old.journal) turn (r.entry_in old.net entry) (moment_read r old.net (old.journal ++ entry ∷ []))
      → Tries r phase (turn ∷ []) old new
  made-tries phase turn entry old new later own permitted can = record {
    made = entry ∷ [];
    later = later;
    entries = sym (r.permitted_makes old.net phase (moment_read r old.net old.journal) (moment_read r old.net (old.journal ++ entry ∷ [])) turn (r.entry_in old.net entry) own permitted);
  }

  -- one that is not permitted was not
  pub barred-tries : (phase : ℕ) (turn : Turn) (old new : NetworkParts) → new ≡ old
      → ((entry : r.Entry old.net) (next : r.Moment old.net) → r.IsPermitted old.net (moment_read r old.net old.journal) turn entry next → ⊥) → Tries r phase (turn ∷ []) old new
  barred-tries phase turn old new same barred can = record {
    made = [];
    later = same ∙ ap (network_parts old.net) (sym (append-nil old.journal));
    entries = sym (r.barred_none old.net phase (moment_read r old.net old.journal) can.end turn can.run barred);
  }

  -- what is tried and makes nothing has no entries
  pub nothing-made : (phase : ℕ) (turns : List Turn) (old new : NetworkParts) → IsTried r phase turns old new → new ≡ old → entries_tried r old phase turns ≡ []
  nothing-made phase turns old new tried same = sym tried.entries ∙ ap (journal_read r old.net) (append-self-nil old.journal tried.made (ap (λ (z : NetworkParts). z.journal) (sym tried.later ∙ same)))

  -- turns that make nothing make nothing however often
  repeat-nothing : (net other : NetParts) (p q : ℕ) (moment : r.Moment net) (turns : List Turn) (k : ℕ) → r.entries_by net p moment turns ≡ []
      → r.entries_by net p moment (repeated (machine_at real (phased_net other) q) k turns) ≡ []
  repeat-nothing net other p q moment turns zero e = r.no_turns net p moment
  repeat-nothing net other p q moment turns (suc k) e =
      r.two_lists net p moment turns (repeated (machine_at real (phased_net other) q) k turns)
      ∙ ((λ i. e i ++ r.entries_by net p (r.still net p moment turns e i) (repeated (machine_at real (phased_net other) q) k turns))
      ∙ repeat-nothing net other p q moment turns k e)

  -- where it was to be repeated, all were tried
  repeat-ends : (phase q k : ℕ) (all turns : List Turn) (old middle new : NetworkParts) → IsOnWay r phase all (repeated (machine_at real (phased_net old.net) q) (suc k) turns) old middle
      → Tries r phase turns middle new → new ≡ middle → IsTried r phase all old new
  repeat-ends phase q k all turns old middle new way tries same = ends phase all rest old new (goes-on phase all turns rest old middle new way tries) (subst (λ z. entries_tried r z phase rest ≡ []) (sym same) nothing)
    where
      rest : List Turn
      rest = repeated (machine_at real (phased_net old.net) q) k turns

      can : CanTry r phase turns middle
      can = subst (CanTry r phase turns) (sym way.later) (can-part phase turns rest (network_parts old.net (old.journal ++ way.made)) way.can)

      nothing : entries_tried r middle phase (repeated (machine_at real (phased_net old.net) q) k turns) ≡ []
      nothing = repeat-nothing middle.net old.net phase q (moment_read r middle.net middle.journal) turns k (nothing-made phase turns middle new (tries can) same)

  -- a turn that the walk skips is tried where nothing is done
  pub idle : (phase : ℕ) (turn : Turn) (network : NetworkParts) → entries_tried r network phase (turn ∷ []) ≡ [] → Tries r phase (turn ∷ []) network network
  idle phase turn network none can = record {
    made = [];
    later = ap (network_parts network.net) (sym (append-nil network.journal));
    entries = sym none;
  }

  -- where all can be tried, what is left can be
  pub going-starts : (phase : ℕ) (turns : List Turn) (network : NetworkParts) → Going r phase turns turns network network
  going-starts phase turns network = starts phase turns network

  pub going-on : (phase : ℕ) (turns left part more : List Turn) (old middle new : NetworkParts) → left ≡ part ++ more → Going r phase turns left old middle → Tries r phase part middle new → Going r phase turns more old new
  going-on phase turns left part more old middle new e way tries can = goes-on phase turns part more old middle new (subst (λ z. IsOnWay r phase turns z old middle) e (way can)) tries

  pub going-ends : (phase : ℕ) (turns left : List Turn) (old new : NetworkParts) → left ≡ [] → Going r phase turns left old new → Tries r phase turns old new
  going-ends phase turns left old new e way can = ends phase turns [] old new (subst (λ z. IsOnWay r phase turns z old new) e (way can)) (r.no_turns new.net phase (moment_read r new.net new.journal))

  -- one that makes nothing
  pub going-rests : (phase q left k : ℕ) (all turns : List Turn) (old middle new : NetworkParts) → left ≡ suc k → Going r phase all (repeated (machine_at real (phased_net old.net) q) left turns) old middle
      → Tries r phase turns middle new → new ≡ middle → Tries r phase all old new
  going-rests phase q left k all turns old middle new e way tries same can =
      repeat-ends phase q k all turns old middle new (subst (λ n. IsOnWay r phase all (repeated (machine_at real (phased_net old.net) q) n turns) old middle) e (way can)) tries same
