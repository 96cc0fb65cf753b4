-- The turns of a legal run, made again from the opening, make its entries.
use Rattle.std.proofs.Common.{◌≡◌, ℕ, ◌==◌, inl, inr, List, [], ◌∷◌, ◌++◌, length, map, refl, sym, ap, subst, ◌∙◌, append_assoc, append-nil, eqb-true}
use Rattle.std.proofs.lemmas.List.{map-append}
use Rattle.base.specs.Sets.{Has}
use Rattle.base.proofs.Roots.{filter-Has}
use Rattle.base_tree.specs.Graph.{servers_to}
use Rattle.law_machine.specs.Machine.{Did}
use Rattle.law_routing.specs.Step.{NextCommand}
use Rattle.law_phases.specs.Moments.{Moment, opening_moment}
use Rattle.law_phases.specs.Runs.{IsPhasedStep, IsRunTo, Turn}
use Rattle.law_phases.specs.Turns.{IsPermittedTurn}
use Rattle.law_phases.proofs.Moments.{run-ends}
use Rattle.law_phases.proofs.Turned.{happens-permitted, run-grows}
use Rattle.net_model.specs.Real.{real}
use Rattle.net_model.specs.declared.turn.Act.{Act}
use Rattle.net_model.specs.declared.turn.Act.TheVariants as acts
use Rattle.net_model.specs.declared.turn.Turn.{Turn as NetTurn}
use Rattle.net_model.specs.Parts.{NetParts, EntryParts}
use Rattle.net_model.specs.Meaning.{act_of, entry_of, journal_of}
use Rattle.net_model.specs.Nets.{home_of, phased_net, turn_of}
use Rattle.net_turns.specs.Network.{IsLegal, moment_by}
use Rattle.net_turns.specs.Retold.{turn_by, turn_of_entry}
use Rattle.audit_verdict.specs.Kinds.{AreMade, peers}
use Rattle.audit_verdict.proofs.Acts.{IsActOf, IsThere}

-- a command is a turn of its client's home
at-home : (net : NetParts) (server : ℕ) (act : Act) → IsActOf real (phased_net net) server (act_of act) → turn_of net (turn_by server act) ≡ (server, act_of act)
at-home net server (acts.Command client) h =
    ap (λ z. (z, Did (NextCommand client))) (eqb-true (home_of net client) server (filter-Has (λ c. home_of net c == server) client (servers_to (length net.clients)) h).1)
at-home net server (acts.Receive from) h = refl
at-home net server acts.TableUpdate h = refl

module _ (net : NetParts) (end : Moment real (phased_net net)) where
  -- a run so far leads to the moment after it
  led : (done : List EntryParts) (m : Moment real (phased_net net)) → IsRunTo real (phased_net net) (opening_moment real (phased_net net)) (journal_of done) m → moment_by net done ≡ m
  led done m run = run-ends real (phased_net net) (opening_moment real (phased_net net)).state 0 (journal_of done) m.state m.phase run

  remade : (es done : List EntryParts) (m : Moment real (phased_net net)) (list : List (ℕ × NetTurn)) → IsRunTo real (phased_net net) (opening_moment real (phased_net net)) (journal_of done) m
      → IsRunTo real (phased_net net) m (journal_of es) end → ((e : EntryParts) → Has e es → IsThere real (phased_net net) (entry_of e))
      → map (λ (t : ℕ × NetTurn). t.1) list ≡ map turn_of_entry es → AreMade peers net done list (done ++ es)
  remade [] done m [] sofar run there same = sym (append-nil done)
  remade [] done m (t ∷ list) sofar run there same = absurd cc
  remade (e ∷ es) done m [] sofar run there same = absurd cc
  remade (e ∷ es) done m (t ∷ list) sofar (found, next, now, ready, step, rest) there same =
      let f : Moment real (phased_net net) = record { state = found; phase = now } in
      let v : Moment real (phased_net net) = record { state = next; phase = now } in
      let happens : IsPhasedStep real (phased_net net) m f v (entry_of e) = record { ready = ready; step = step; phase = refl } in
      let turn : t.1 ≡ turn_of_entry e = cc in
      let others : map (λ (z : ℕ × NetTurn). z.1) list ≡ map turn_of_entry es = cc in
      let grown : IsRunTo real (phased_net net) (opening_moment real (phased_net net)) (journal_of (done ++ e ∷ [])) v =
      subst (λ z. IsRunTo real (phased_net net) (opening_moment real (phased_net net)) z v) (sym (map-append entry_of done (e ∷ [])))
      (run-grows real (phased_net net) (opening_moment real (phased_net net)).state 0 (journal_of done) m f v (entry_of e) sofar happens) in
      let own : turn_of net t.1 ≡ (e.server, act_of e.act) = ap (turn_of net) turn ∙ at-home net e.server e.act (there e (inl refl)).act in
      let permitted : IsPermittedTurn real (phased_net net) m (e.server, act_of e.act) (entry_of e) v = happens-permitted real (phased_net net) m f v (entry_of e) happens in
      let here : IsPermittedTurn real (phased_net net) (moment_by net done) (turn_of net t.1) (entry_of e) (moment_by net (done ++ e ∷ [])) =
      subst (λ z. IsPermittedTurn real (phased_net net) (moment_by net done) (turn_of net t.1) (entry_of e) z) (sym (led (done ++ e ∷ []) v grown))
      (subst (λ z. IsPermittedTurn real (phased_net net) z (turn_of net t.1) (entry_of e) v) (sym (led done m sofar))
      (subst (λ (z : Turn). IsPermittedTurn real (phased_net net) m z (entry_of e) v) (sym own) permitted)) in (
        e,
        here,
        subst (AreMade peers net (done ++ e ∷ []) list) (append_assoc done (e ∷ []) es) (remade es (done ++ e ∷ []) v list grown rest (λ x h. there x (inr h)) others),
      )

pub run-remade : (net : NetParts) (journal : List EntryParts) → IsLegal net journal → ((e : EntryParts) → Has e journal → IsThere real (phased_net net) (entry_of e))
    → (list : List (ℕ × NetTurn)) → map (λ (t : ℕ × NetTurn). t.1) list ≡ map turn_of_entry journal → AreMade peers net [] list journal
run-remade net journal legal there list same = remade net (moment_by net journal) journal [] (opening_moment real (phased_net net)) list (refl, refl) legal there same
