-- The turns of a legal run, made again: they are permitted, and make its entries; and their messages are told.
use Rattle.std.proofs.Common.{◌≡◌, ℕ, zero, suc, ◌+◌, ◌<◌, ◌≤◌, ◌==◌, Bool, true, false, List, [], ◌∷◌, ◌++◌, length, map, get_or, take, drop, slice_get, Some, refl, sym, ap, subst, ◌∙◌, arith, eqb-true, length-append}
use Rattle.std.proofs.lemmas.List.{map-append, length-map, length-take-le, take_more, take-append-drop}
use Rattle.std.proofs.lemmas.Option.{slice_get-get_or, same_Some}
use Rattle.base.proofs.Roots.{filter-Has}
use Rattle.base_tree.specs.Graph.{servers_to}
use Rattle.law_machine.specs.Machine.{Did, act_phase}
use Rattle.law_machine.specs.Network.{turn as after_turn}
use Rattle.law_machine.specs.Runs.{IsPermitted}
use Rattle.law_machine.specs.History.{Moment, moment_after}
use Rattle.law_machine.proofs.Fixed.{ready-once}
use Rattle.law_machine.proofs.History.{run-happens}
use Rattle.law_machine.proofs.Growing.{standing-left}
use Rattle.law_machine.proofs.Tried.{entry-step, happens-permitted}
use Rattle.law_machine.specs.Network.{entry_at}
use Rattle.law_routing.specs.Step.{NextCommand}
use Rattle.law_phases.specs.Runs.{Turn}
use Rattle.net_model.specs.Real.{real}
use Rattle.law_hierarchy.specs.Step.{Hierarchy, HierarchyEntry}
use Rattle.filter_text.specs.declared.sent.Sent.{Sent}
use Rattle.net_model.specs.declared.turn.Act.{Act as EntryAct}
use Rattle.net_model.specs.declared.turn.Act.TheVariants as acts
use Rattle.net_model.specs.Parts.{NetParts, EntryParts}
use Rattle.net_model.specs.Meaning.{act_of}
use Rattle.net_model.specs.Nets.{home_of, turn_of}
use Rattle.net_turns.specs.Retold.{turn_by, turn_of_entry}
use Rattle.net_turns.proofs.Again.{entry-same}
use Rattle.hierarchy_turns.specs.Network.{NetworkParts, network_parts, net_of, servers_of, entry_in, journal_in, opening_of, moment_by, IsLegal}
use Rattle.hierarchy_turns.specs.Turns.{IsTurn}
use Rattle.hierarchy_turns.specs.Told.{found_of, told_of, told_from}
use Rattle.hierarchy_turns.proofs.Barred.{Needs, step-needs}
use Rattle.net_turns.proofs.ToldAgain.{MessageTexts, IsToldTo, told-next}
use Rattle.base.proofs.Lists.{get-map}

-- an entry is known by what it represents
pub entry-same-in : (net : NetParts) (a b : EntryParts) → entry_in net a ≡ entry_in net b → a ≡ b
entry-same-in net a b e = entry-same a b (λ i. record {
  stamp = ap (λ (z : HierarchyEntry real (net_of net)). z.stamp) e i;
  server = ap (λ (z : HierarchyEntry real (net_of net)). z.server) e i;
  act = ap (λ (z : HierarchyEntry real (net_of net)). z.act) e i;
  outs = ap (λ (z : HierarchyEntry real (net_of net)). z.outs) e i;
})

-- a command is made at the client's home
turn-home : (net : NetParts) (state after : Hierarchy real (net_of net)) (server : ℕ) (act : EntryAct) → Needs net state server (act_of act)
    → turn_of net (turn_by server act) ≡ (server, act_of act)
turn-home net state after server (acts.Command client) (here, lives, next) =
    ap (λ z. (z, Did (NextCommand client))) (eqb-true (home_of net client) server (filter-Has (λ client. home_of net client == server) client (servers_to (length net.clients)) lives).1)
turn-home net state after server (acts.Receive from) needs = refl
turn-home net state after server acts.TableUpdate needs = refl

-- a turn makes one entry
permitted-once : (net : NetParts) (m : Moment (servers_of net)) (turn : Turn) (one other : HierarchyEntry real (net_of net)) (next after : Hierarchy real (net_of net)) (q r : ℕ)
    → IsPermitted (servers_of net) m.network m.phase turn.0 turn.1 one next q → IsPermitted (servers_of net) m.network m.phase turn.0 turn.1 other after r → one ≡ other
permitted-once net m turn one other next after q r x y =
    let o = ready-once (servers_of net) m.network m.phase (act_phase (servers_of net) turn.0 (m.network.state turn.0) turn.1) x.found y.found q r x.ready y.ready in
    same_Some _ _ (sym x.possible ∙ (ap (λ z. entry_at (servers_of net) z turn.0 turn.1) o.0 ∙ y.possible))

-- the moment after a beginning of a journal
pub begin-is : (net : NetParts) (journal : List EntryParts) (n : ℕ) → n ≤ length journal → moment_by net (take n journal) ≡ moment_after (servers_of net) (opening_of net) (journal_in net journal) n
begin-is net journal n less =
    let most : length (journal_in net (take n journal)) ≡ n = length-map (take n journal) (entry_in net) ∙ length-take-le n journal less in
    ap (moment_after (servers_of net) (opening_of net) (journal_in net (take n journal))) most
    ∙ (sym (standing-left (servers_of net) (opening_of net) (journal_in net (take n journal)) (journal_in net (drop n journal)) n (omega (arith, most)))
    ∙ ap (λ z. moment_after (servers_of net) (opening_of net) z n) (sym (map-append (entry_in net) (take n journal) (drop n journal)) ∙ ap (journal_in net) (take-append-drop n journal)))

-- an entry of a legal run, made again after those before it
module _ (net : NetParts) (journal : List EntryParts) (legal : IsLegal net journal) (i : ℕ) (d : EntryParts) (less : i < length journal) where
  abbrev here : Moment (servers_of net)
  here = moment_after (servers_of net) (opening_of net) (journal_in net journal) i

  abbrev next : Moment (servers_of net)
  next = moment_after (servers_of net) (opening_of net) (journal_in net journal) (suc i)

  pub permitted-there : IsPermitted (servers_of net) here.network here.phase (get_or journal i d).server (act_of (get_or journal i d).act) (entry_in net (get_or journal i d)) next.network next.phase
  permitted-there =
      happens-permitted (servers_of net) here.network here.phase (entry_in net (get_or journal i d)) next.network next.phase
      (run-happens (servers_of net) (opening_of net).network 0 (journal_in net journal) (moment_by net journal).network (moment_by net journal).phase legal i (entry_in net (get_or journal i d))
      (get-map (entry_in net) journal i (get_or journal i d) (slice_get-get_or journal i d less)))

  turn-is : turn_of net (turn_of_entry (get_or journal i d)) ≡ ((get_or journal i d).server, act_of (get_or journal i d).act)
  turn-is =
      let x = permitted-there in
      let y = entry-step (servers_of net) x.found (get_or journal i d).server (act_of (get_or journal i d).act) (entry_in net (get_or journal i d)) x.possible in
      turn-home net x.found next.network (get_or journal i d).server (get_or journal i d).act
      (step-needs net x.found (entry_in net (get_or journal i d)) (after_turn (servers_of net) x.found (get_or journal i d).server (act_of (get_or journal i d).act)) y.step)

  abbrev again : Turn
  again = turn_of net (turn_of_entry (get_or journal i d))

  permitted-here : IsPermitted (servers_of net) (moment_by net (take i journal)).network (moment_by net (take i journal)).phase again.0 again.1 (entry_in net (get_or journal i d)) next.network next.phase
  permitted-here =
      subst (λ (z : Moment (servers_of net)). IsPermitted (servers_of net) z.network z.phase again.0 again.1 (entry_in net (get_or journal i d)) next.network next.phase) (sym (begin-is net journal i (omega (arith, less))))
      (subst (λ (z : Turn). IsPermitted (servers_of net) here.network here.phase z.0 z.1 (entry_in net (get_or journal i d)) next.network next.phase) (sym turn-is) permitted-there)

  made-again : (made : Bool) (new : NetworkParts) → IsTurn made (turn_of_entry (get_or journal i d)) (network_parts net (take i journal)) new → new ≡ network_parts net (take i journal ++ get_or journal i d ∷ [])
  made-again true new x =
      x.later ∙ ap (λ z. network_parts net (take i journal ++ z ∷ []))
      (entry-same-in net x.entry (get_or journal i d) (permitted-once net (moment_by net (take i journal)) again (entry_in net x.entry) (entry_in net (get_or journal i d))
      (moment_by net (take i journal ++ x.entry ∷ [])).network next.network (moment_by net (take i journal ++ x.entry ∷ [])).phase next.phase x.permitted permitted-here))
  made-again false new x = absurd (x.1 (entry_in net (get_or journal i d)) next.network next.phase permitted-here)

  found-again : (entry : EntryParts) → found_of net (take i journal ++ get_or journal i d ∷ []) (length (take i journal)) entry ≡ found_of net journal i entry
  found-again entry =
      let begin : List EntryParts = take i journal ++ get_or journal i d ∷ [] in
      let at : length (take i journal) ≡ i = length-take-le i journal (omega (arith, less)) in
      let long : i ≤ length (journal_in net (take i journal ++ get_or journal i d ∷ [])) = omega (arith, at, length-map (take i journal ++ get_or journal i d ∷ []) (entry_in net), length-append (take i journal) (get_or journal i d ∷ [])) in
      ap (λ k. found_of net begin k entry) at
      ∙ ap (λ z. Rattle.hierarchy_turns.specs.Told.found_by net z (entry_in net entry))
      (sym (standing-left (servers_of net) (opening_of net) (journal_in net begin) (journal_in net (drop (i + 1) journal)) i long)
      ∙ ap (λ z. moment_after (servers_of net) (opening_of net) z i) (sym (map-append (entry_in net) begin (drop (i + 1) journal)) ∙ ap (journal_in net) (ap (λ z. z ++ drop (i + 1) journal) (sym (take_more journal i d less)) ∙ take-append-drop (i + 1) journal)))

-- the texts of its messages
abbrev pub hierarchy_texts : MessageTexts
hierarchy_texts = record {
  of_entry = λ net journal n entry. told_of net (found_of net journal n entry) entry;
  of_entries = told_from;
  none = λ net whole n. refl;
  more = λ net whole n entry entries. refl;
}

-- so far it was made again and its messages told, and so one entry further
pub retold-more : (net : NetParts) (journal : List EntryParts) (legal : IsLegal net journal) (i : ℕ) (d : EntryParts) (less : i < length journal) (made : Bool) (old new : NetworkParts) (told : List (List Sent)) (last : List Sent) (after : List (List Sent))
    → IsToldTo hierarchy_texts i net journal old told → IsTurn made (turn_of_entry (get_or journal i d)) old new
    → ((before : List EntryParts) (entry : EntryParts) → new.journal ≡ before ++ entry ∷ [] → last ≡ told_of new.net (found_of new.net new.journal (length before) entry) entry)
    → after ≡ told ++ last ∷ [] → IsToldTo hierarchy_texts (i + 1) net journal new after
retold-more net journal legal i d less made old new told last after so turn tells e =
    told-next hierarchy_texts net journal i d less old new told last after so
    (made-again net journal legal i d less made new (subst (λ z. IsTurn made (turn_of_entry (get_or journal i d)) z new) so.network turn))
    (ap (λ z. told_of net z (get_or journal i d)) (found-again net journal legal i d less (get_or journal i d))) tells e
