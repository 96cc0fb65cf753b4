-- The entries of a legal run of a hierarchy: what each needs, how low its stamp is, and that their turns, made again, make them.
use Rattle.std.proofs.Common.{◌≡◌, ℕ, ◌==◌, ◌<◌, inl, inr, List, [], ◌∷◌, ◌++◌, length, map, refl, sym, ap, subst, ◌∙◌, append_assoc, append-nil, arith, eqb-true}
use Rattle.std.proofs.lemmas.List.{length-map, map-append}
use Rattle.base.specs.Sets.{Has}
use Rattle.base.proofs.Roots.{filter-Has}
use Rattle.base.proofs.Sets.{map-has}
use Rattle.base_tree.specs.Graph.{servers_to}
use Rattle.law_machine.specs.Machine.{Did, act_phase}
use Rattle.law_machine.specs.Runs.{IsPermitted, IsRun}
use Rattle.law_machine.specs.History.{Moment, Happens}
use Rattle.law_machine.proofs.Growing.{run-more}
use Rattle.law_machine.proofs.History.{run-ends}
use Rattle.law_machine.proofs.Tried.{happens-permitted}
use Rattle.law_routing.specs.Step.{NextCommand}
use Rattle.law_phases.specs.Runs.{Turn}
use Rattle.law_hierarchy.specs.HierarchyRun.{IsBounded}
use Rattle.law_hierarchy.specs.Step.{Hierarchy}
use Rattle.law_hierarchy.proofs.Spread.{bounded-run}
use Rattle.net_model.specs.Real.{real, real_laws}
use Rattle.net_model.specs.declared.turn.Act.{Act}
use Rattle.net_model.specs.declared.turn.Act.TheVariants as acts
use Rattle.net_model.specs.declared.turn.Turn.{Turn as NetTurn}
use Rattle.net_model.specs.Parts.{NetParts, EntryParts}
use Rattle.net_model.specs.Meaning.{act_of}
use Rattle.net_model.specs.Nets.{home_of, turn_of}
use Rattle.net_model.specs.Sound.{IsSound}
use Rattle.net_turns.specs.Retold.{turn_by, turn_of_entry}
use Rattle.hierarchy_turns.specs.Limits.{StaysLow}
use Rattle.hierarchy_turns.specs.Network.{net_of, servers_of, entry_in, journal_in, opening_of, moment_by, IsLegal, run_of}
use Rattle.hierarchy_turns.proofs.Barred.{Needs, step-needs}
use Rattle.hierarchy_turns.proofs.Lawful.{laws-of, low-of}
use Rattle.audit_hierarchy.specs.Runs.{hierarchies}
use Rattle.audit_verdict.specs.Kinds.{AreMade}

-- what an entry's server and act need, of some state
abbrev pub IsNeeded : NetParts → EntryParts → Type 0
IsNeeded net e = (found : Hierarchy real (net_of net)) × Needs net found e.server (act_of e.act)

all-needed : (net : NetParts) (s : Hierarchy real (net_of net)) (p : ℕ) (es : List EntryParts) (v : Hierarchy real (net_of net)) (q : ℕ)
    → IsRun (servers_of net) s p (journal_in net es) v q → (e : EntryParts) → Has e es → IsNeeded net e
all-needed net s p [] v q run e h = absurd h
all-needed net s p (x ∷ es) v q (found, next, now, ready, step, rest) e (inl same) =
    subst (IsNeeded net) (sym same) (found, step-needs net found (entry_in net x) next step)
all-needed net s p (x ∷ es) v q (found, next, now, ready, step, rest) e (inr h) = all-needed net next now es v q rest e h

pub needed : (net : NetParts) (journal : List EntryParts) → IsLegal net journal → (e : EntryParts) → Has e journal → IsNeeded net e
needed net journal legal e h = all-needed net (opening_of net).network 0 journal (moment_by net journal).network (moment_by net journal).phase legal e h

-- how long it is, and how low its stamps are
module _ (net : NetParts) (sound : IsSound net) (journal : List EntryParts) (legal : IsLegal net journal) where
  bounds : IsBounded real (run_of net (laws-of net sound) journal legal)
  bounds = bounded-run real real_laws (run_of net (laws-of net sound) journal legal)

  pub few : length journal < 1000000000
  few = (low-of net journal sound legal bounds).entries

  pub low-stamp : (e : EntryParts) → Has e journal → e.stamp < 1000000000
  low-stamp e h = omega (arith, few, bounds.stamps (entry_in net e) (map-has (entry_in net) journal e h), length-map journal (entry_in net))

-- a command is a turn of its client's home
at-home : (net : NetParts) (found : Hierarchy real (net_of net)) (server : ℕ) (act : Act) → Needs net found server (act_of act)
    → turn_of net (turn_by server act) ≡ (server, act_of act)
at-home net found server (acts.Command client) (here, lives, next) =
    ap (λ z. (z, Did (NextCommand client))) (eqb-true (home_of net client) server (filter-Has (λ c. home_of net c == server) client (servers_to (length net.clients)) lives).1)
at-home net found server (acts.Receive from) needs = refl
at-home net found server acts.TableUpdate needs = refl

module _ (net : NetParts) (end : Moment (servers_of net)) where
  abbrev Leads : List EntryParts → Moment (servers_of net) → Type 0
  Leads done m = IsRun (servers_of net) (opening_of net).network 0 (journal_in net done) m.network m.phase

  -- a run so far leads to the moment after it
  led : (done : List EntryParts) (m : Moment (servers_of net)) → Leads done m → moment_by net done ≡ m
  led done m run = run-ends (servers_of net) (opening_of net).network 0 (journal_in net done) m.network m.phase run

  remade : (es done : List EntryParts) (m : Moment (servers_of net)) (list : List (ℕ × NetTurn)) → Leads done m
      → IsRun (servers_of net) m.network m.phase (journal_in net es) end.network end.phase
      → map (λ (t : ℕ × NetTurn). t.1) list ≡ map turn_of_entry es → AreMade hierarchies net done list (done ++ es)
  remade [] done m [] sofar run same = sym (append-nil done)
  remade [] done m (t ∷ list) sofar run same = absurd cc
  remade (e ∷ es) done m [] sofar run same = absurd cc
  remade (e ∷ es) done m (t ∷ list) sofar (found, next, now, ready, step, rest) same =
      let v : Moment (servers_of net) = record { network = next; phase = now } in
      let happens : Happens (servers_of net) m.network m.phase (entry_in net e) next now = record { found = found; ready = ready; step = step } in
      let turn : t.1 ≡ turn_of_entry e = cc in
      let others : map (λ (z : ℕ × NetTurn). z.1) list ≡ map turn_of_entry es = cc in
      let grown : Leads (done ++ e ∷ []) v =
      subst (λ z. IsRun (servers_of net) (opening_of net).network 0 z next now) (sym (map-append (entry_in net) done (e ∷ [])))
      (run-more (servers_of net) (opening_of net).network 0 (journal_in net done) m.network m.phase (entry_in net e) found next now sofar ready step) in
      let own : turn_of net t.1 ≡ (e.server, act_of e.act) = ap (turn_of net) turn ∙ at-home net found e.server e.act (step-needs net found (entry_in net e) next step) in
      let permitted : IsPermitted (servers_of net) m.network m.phase e.server (act_of e.act) (entry_in net e) next now =
      happens-permitted (servers_of net) m.network m.phase (entry_in net e) next now happens in
      let after = moment_by net (done ++ e ∷ []) in
      let here : IsPermitted (servers_of net) (moment_by net done).network (moment_by net done).phase (turn_of net t.1).0 (turn_of net t.1).1 (entry_in net e) after.network after.phase =
      subst (λ (z : Moment (servers_of net)). IsPermitted (servers_of net) (moment_by net done).network (moment_by net done).phase (turn_of net t.1).0 (turn_of net t.1).1 (entry_in net e) z.network z.phase) (sym (led (done ++ e ∷ []) v grown))
      (subst (λ (z : Moment (servers_of net)). IsPermitted (servers_of net) z.network z.phase (turn_of net t.1).0 (turn_of net t.1).1 (entry_in net e) next now) (sym (led done m sofar))
      (subst (λ (z : Turn). IsPermitted (servers_of net) m.network m.phase z.0 z.1 (entry_in net e) next now) (sym own) permitted)) in (
        e,
        here,
        subst (AreMade hierarchies net (done ++ e ∷ []) list) (append_assoc done (e ∷ []) es) (remade es (done ++ e ∷ []) v list grown rest others),
      )

-- the turns of a legal run, made again from the opening, make its entries
pub run-remade : (net : NetParts) (journal : List EntryParts) → IsLegal net journal → (list : List (ℕ × NetTurn))
    → map (λ (t : ℕ × NetTurn). t.1) list ≡ map turn_of_entry journal → AreMade hierarchies net [] list journal
run-remade net journal legal list same = remade net (moment_by net journal) journal [] (opening_of net) list (refl, refl) legal same
