-- A turn of a hierarchy has one entry or is barred; in a drained run all are barred; and the messages of a journal grow with it.
use Rattle.std.proofs.Common.{◌≡◌, inl, inr, ℕ, zero, suc, ◌+◌, ◌<◌, ◌≤◌, List, [], ◌∷◌, ◌++◌, length, take, get_or, slice_get, Option, Some, None, refl, sym, ap, subst, ◌∙◌, arith, length-append}
use Rattle.std.proofs.lemmas.List.{take_at, length-map, map-append}
use Rattle.std.proofs.lemmas.Option.{slice_get_past, same_Some}
use Rattle.std.proofs.lemmas.Bool.{both_ways}
use Rattle.law_machine.specs.Machine.{Did, Received, Act, act_phase}
use Rattle.law_machine.specs.Network.{entry_at}
use Rattle.law_machine.specs.Runs.{IsReady, IsPermitted}
use Rattle.law_machine.specs.History.{Moment, moment_after}
use Rattle.law_machine.proofs.Fixed.{ready-once}
use Rattle.law_machine.proofs.Growing.{standing-left}
use Rattle.law_machine.proofs.Phases.{get-end}
use Rattle.law_routing.specs.Routing.{phase_of}
use Rattle.law_routing.specs.Step.{Task, NextCommand, TableUpdate}
use Rattle.law_hierarchy.specs.Step.{Hierarchy, HierarchyEntry}
use Rattle.net_model.specs.Real.{real}
use Rattle.net_model.specs.declared.turn.Turn.{Turn}
use Rattle.net_model.specs.Parts.{NetParts, EntryParts}
use Rattle.net_model.specs.Meaning.{act_of}
use Rattle.net_model.specs.Nets.{turn_of}
use Rattle.net_turns.proofs.Drained.{none-and-some}
use Rattle.hierarchy_turns.specs.Network.{NetworkParts, net_of, servers_of, entry_in, journal_in, opening_of, moment_by, IsLegal, IsDrainedBy}
use Rattle.hierarchy_turns.specs.Told.{found_by, found_of, told_of, told_from, told_by}
use Rattle.hierarchy_turns.specs.Turns.{IsEntryOf, IsBarred}
use Rattle.hierarchy_turns.specs.Walked.{IsPhaseWalked}
use Rattle.hierarchy_turns.proofs.Again.{entry-same-in, permitted-there}
use Rattle.hierarchy_turns.proofs.Barred.{Needs, permits}

-- a turn has one entry
pub one-entry : (net : NetParts) (journal : List EntryParts) (turn : Turn) (a b : EntryParts) → IsEntryOf net journal turn a → IsEntryOf net journal turn b → a ≡ b
one-entry net journal turn a b x y =
    let m = moment_by net journal in
    let t = turn_of net turn in
    let o = ready-once (servers_of net) m.network m.phase (act_phase (servers_of net) t.0 (m.network.state t.0) t.1) x.found y.found
    (moment_by net (journal ++ a ∷ [])).phase (moment_by net (journal ++ b ∷ [])).phase x.ready y.ready in
    entry-same-in net a b (same_Some _ _ (sym x.possible ∙ (ap (λ z. entry_at (servers_of net) z t.0 t.1) o.0 ∙ y.possible)))

-- and then it is not barred
pub not-both : (net : NetParts) (journal : List EntryParts) (turn : Turn) (entry : EntryParts) → IsEntryOf net journal turn entry → IsBarred net journal turn → ⊥
not-both net journal turn entry x barred =
    barred (entry_in net entry) (moment_by net (journal ++ entry ∷ [])).network (moment_by net (journal ++ entry ∷ [])).phase x

module _ (net : NetParts) (journal : List EntryParts) (drained : IsDrainedBy net journal) where
  abbrev now : Moment (servers_of net)
  now = moment_by net journal

  -- what is no command finds the state as it is, and needs what is not there
  nothing-needed : (found : Hierarchy real (net_of net)) → now.network ≡ found → (server : ℕ) (act : Act Task) → Needs net found server act → ⊥
  nothing-needed found e server act needs = go act (subst (λ (s : Hierarchy real (net_of net)). Needs net s server act) (sym e) needs)
    where
      go : (act : Act Task) → Needs net now.network server act → ⊥
      go (Received from) (here, near, (m, next)) =
          get-end (now.network.put from server) m (subst (λ z. slice_get (now.network.put from server) z ≡ Some m) (drained.quiet.empty from server) next)
      go (Did TableUpdate) (here, pending) = both_ways (now.network.state server).pending (drained.quiet.calm server here) pending
      go (Did (NextCommand client)) (here, lives, (x, next)) =
          none-and-some (slice_get ((net_of net).script client) ((now.network.state server).done client)) x next
          (slice_get_past ((net_of net).script client) ((now.network.state server).done client) (omega (arith, drained.taken server client lives)))

  -- so does a command that is not there
  found-now : (found : Hierarchy real (net_of net)) (own server : ℕ) (act : Act Task)
      → IsReady (servers_of net) now.network now.phase (act_phase (servers_of net) server (now.network.state server) act) found own → Needs net found server act → now.network ≡ found
  found-now found own server (Received from) ready needs = ready.0
  found-now found own server (Did TableUpdate) ready needs = ready.0
  found-now found own server (Did (NextCommand client)) ready (here, lives, next) =
      go (subst (λ o. IsReady (servers_of net) now.network now.phase (phase_of real (net_of net) o) found own)
      (slice_get_past ((net_of net).script client) ((now.network.state server).done client) (omega (arith, drained.taken server client lives))) ready)
    where
      go : IsReady (servers_of net) now.network now.phase (Some 0) found own → now.network ≡ found
      go (p, inl (e, f)) = f
      go (p, inr (less, through, quiet, begins)) = absurd (omega (arith, less))

  pub drained-bars : (server : ℕ) (act : Act Task) (entry : HierarchyEntry real (net_of net)) (next : Hierarchy real (net_of net)) (last : ℕ)
      → IsPermitted (servers_of net) now.network now.phase server act entry next last → ⊥
  drained-bars server act entry next last x =
      let p = permits net now (server, act) entry next last x in
      nothing-needed p.found (found-now p.found p.own server act p.ready p.needs) server act p.needs

-- the moment after a beginning of a journal stays when it goes on
moment-left : (net : NetParts) (journal later : List EntryParts) (n : ℕ) → n ≤ length journal
    → moment_after (servers_of net) (opening_of net) (journal_in net (journal ++ later)) n ≡ moment_after (servers_of net) (opening_of net) (journal_in net journal) n
moment-left net journal later n l =
    ap (λ z. moment_after (servers_of net) (opening_of net) z n) (map-append (entry_in net) journal later)
    ∙ standing-left (servers_of net) (opening_of net) (journal_in net journal) (journal_in net later) n (omega (arith, l, length-map journal (entry_in net)))

-- where a phase was walked, something was left
pub walked-open : (old new : NetworkParts) → IsPhaseWalked old new → IsLegal new.net new.journal → IsDrainedBy old.net old.journal → ⊥
walked-open old new w legal drained = go w.made w.some (subst (λ (z : NetworkParts). IsLegal z.net z.journal) w.later legal)
  where
    go : (made : List EntryParts) → (made ≡ [] → ⊥) → IsLegal old.net (old.journal ++ made) → ⊥
    go [] some legal = some refl
    go (e ∷ rest) some legal =
        let net = old.net in
        let whole : List EntryParts = old.journal ++ e ∷ rest in
        let n = length old.journal in
        let less : length old.journal < length whole = omega (arith, length-append old.journal (e ∷ rest)) in
        let long : length (journal_in old.net old.journal) ≡ length old.journal = length-map old.journal (entry_in old.net) in
        let here : moment_after (servers_of old.net) (opening_of old.net) (journal_in old.net whole) (length old.journal) ≡ moment_by old.net old.journal =
        moment-left old.net old.journal (e ∷ rest) (length old.journal) (omega arith)
        ∙ ap (moment_after (servers_of old.net) (opening_of old.net) (journal_in old.net old.journal)) (sym long) in
        let next = moment_after (servers_of old.net) (opening_of old.net) (journal_in old.net whole) (suc (length old.journal)) in
        drained-bars old.net old.journal drained (get_or whole (length old.journal) e).server (act_of (get_or whole (length old.journal) e).act)
        (entry_in old.net (get_or whole (length old.journal) e)) next.network next.phase
        (subst (λ (z : Moment (servers_of old.net)). IsPermitted (servers_of old.net) z.network z.phase (get_or whole (length old.journal) e).server
        (act_of (get_or whole (length old.journal) e).act) (entry_in old.net (get_or whole (length old.journal) e)) next.network next.phase) here
        (permitted-there old.net whole legal (length old.journal) e less))

-- Messages.

pub told-length : (net : NetParts) (journal : List EntryParts) (n : ℕ) (es : List EntryParts) → length (told_from net journal n es) ≡ length es
told-length net journal n [] = refl
told-length net journal n (e ∷ es) = ap suc (told-length net journal (suc n) es)

-- what is told of a run stays when it goes on
told-left : (net : NetParts) (journal later : List EntryParts) (n : ℕ) (es : List EntryParts) → n + length es ≤ length journal → told_from net (journal ++ later) n es ≡ told_from net journal n es
told-left net journal later n [] l = refl
told-left net journal later n (e ∷ es) l = λ i.
    told_of net (found_by net (moment-left net journal later n (omega (arith, l)) i) (entry_in net e)) e ∷ told-left net journal later (suc n) es (omega (arith, l)) i

told-append : (net : NetParts) (whole : List EntryParts) (n : ℕ) (es : List EntryParts) (e : EntryParts)
    → told_from net whole n (es ++ e ∷ []) ≡ told_from net whole n es ++ told_of net (found_of net whole (n + length es) e) e ∷ []
told-append net whole n [] e = let z : n ≡ n + 0 = omega arith in ap (λ k. told_of net (found_of net whole k e) e ∷ []) z
told-append net whole n (x ∷ es) e =
    let z : suc n + length es ≡ n + suc (length es) = omega arith in
    ap (λ l. told_of net (found_of net whole n x) x ∷ l)
    (told-append net whole (suc n) es e ∙ ap (λ k. told_from net whole (suc n) es ++ told_of net (found_of net whole k e) e ∷ []) z)

-- one entry more
pub told-more : (net : NetParts) (journal : List EntryParts) (e : EntryParts)
    → told_by net (journal ++ e ∷ []) ≡ told_by net journal ++ told_of net (found_of net (journal ++ e ∷ []) (length journal) e) e ∷ []
told-more net journal e =
    let z : zero + length journal ≡ length journal = omega arith in
    told-append net (journal ++ e ∷ []) zero journal e
    ∙ (λ i. told-left net journal (e ∷ []) zero journal (omega arith) i ++ told_of net (found_of net (journal ++ e ∷ []) (z i) e) e ∷ [])
