-- The turns of a legal run, made again: they are permitted, and make its entries.
use Rattle.std.proofs.Common.{◌≡◌, ℕ, zero, suc, ◌+◌, ◌<◌, ◌≤◌, ◌==◌, Bool, true, false, cond, ◌&&◌, List, [], ◌∷◌, ◌++◌, length, map, get_or, take, drop, slice_get, Option, Some, None, refl, sym, ap, subst, ◌∙◌, arith, eqb-true, length-append}
use Rattle.std.proofs.lemmas.List.{map-append, length-map, length-take-le, take_more, take-append-drop}
use Rattle.std.proofs.lemmas.Option.{slice_get-get_or, same_Some}
use Rattle.base.proofs.Roots.{filter-Has}
use Rattle.base_tree.specs.Graph.{servers_to}
use Rattle.law_machine.specs.Machine.{Did, Does}
use Rattle.law_machine.specs.Network.{entry_given}
use Rattle.law_routing.specs.Server.{is_among}
use Rattle.law_routing.specs.Step.{NextCommand, command_outcome}
use Rattle.law_routing.proofs.Laws.{one-has}
use Rattle.law_phases.specs.Trees.{JournalEntry, net_at, machine_at, at_phase}
use Rattle.law_phases.specs.Moments.{Moment, opening_moment, moment_of, found_of}
use Rattle.law_phases.specs.Runs.{Turn}
use Rattle.law_phases.specs.Turns.{off_maybe, entry_made, turn_phase, IsPermittedTurn}
use Rattle.law_phases.proofs.Moments.{moment-left, found-left}
use Rattle.law_phases.proofs.Entries.{happens}
use Rattle.law_phases.proofs.Turned.{happens-permitted, found-is}
use Rattle.net_model.specs.Real.{real}
use Rattle.filter_text.specs.declared.sent.Sent.{Sent}
use Rattle.net_model.specs.declared.turn.Act.{Act as EntryAct}
use Rattle.net_model.specs.declared.turn.Act.TheVariants as acts
use Rattle.net_model.specs.Parts.{NetParts, EntryParts}
use Rattle.net_model.specs.Meaning.{act_of, entry_of, journal_of}
use Rattle.net_model.specs.Nets.{phased_net, home_of, clients_of, turn_of}
use Rattle.net_turns.specs.Network.{NetworkParts, network_parts, moment_by, IsLegal}
use Rattle.net_turns.specs.Turns.{IsTurn}
use Rattle.net_turns.specs.Told.{told_of, told_from, told_by}
use Rattle.net_turns.specs.Retold.{turn_by, turn_of_entry}
use Rattle.net_turns.proofs.ToldAgain.{MessageTexts, IsToldTo, told-none, told-next, told-all}
use Rattle.std.proofs.lemmas.Bool.{and_parts}
use Rattle.base.proofs.Lists.{get-map}

-- an entry is known by what it represents
act-same : (a b : EntryAct) → act_of a ≡ act_of b → a ≡ b
act-same (acts.Command x) (acts.Command y) e = cc
act-same (acts.Command x) (acts.Receive y) e = absurd cc
act-same (acts.Command x) acts.TableUpdate e = absurd cc
act-same (acts.Receive x) (acts.Command y) e = absurd cc
act-same (acts.Receive x) (acts.Receive y) e = cc
act-same (acts.Receive x) acts.TableUpdate e = absurd cc
act-same acts.TableUpdate (acts.Command y) e = absurd cc
act-same acts.TableUpdate (acts.Receive y) e = absurd cc
act-same acts.TableUpdate acts.TableUpdate e = refl

pub entry-same : (a b : EntryParts) → entry_of a ≡ entry_of b → a ≡ b
entry-same a b e = λ i. record {
  stamp = ap (λ (z : JournalEntry). z.stamp) e i;
  server = ap (λ (z : JournalEntry). z.server) e i;
  act = act-same a.act b.act (ap (λ (z : JournalEntry). z.act) e) i;
  outs = ap (λ (z : JournalEntry). z.outs) e i;
}

-- the entry of a next command, by whether the client lives at the server
abbrev entry_by : (net : NetParts) → Moment real (phased_net net) → ℕ → ℕ → Bool → Option JournalEntry
entry_by net x server client lives =
    off_maybe real (net_at real (phased_net net) x.phase)
    (entry_given (machine_at real (phased_net net) x.phase) (at_phase real (phased_net net) x.phase x.state) server (Does (NextCommand client))
    (cond lives (command_outcome real (net_at real (phased_net net) x.phase) server (x.state.state server) client (slice_get ((phased_net net).script client) ((x.state.state server).done client))) None))

-- a command is made at the client's home
command-home : (net : NetParts) (x : Moment real (phased_net net)) (server client : ℕ) (entry : JournalEntry) → entry_made real (phased_net net) x (server, Did (NextCommand client)) ≡ Some entry → home_of net client ≡ server
command-home net x server client entry e = go (is_among server (phased_net net).servers && is_among client ((phased_net net).clients server)) refl e
  where
    go : (b : Bool) → (is_among server (phased_net net).servers && is_among client ((phased_net net).clients server)) ≡ b → entry_by net x server client b ≡ Some entry → home_of net client ≡ server
    go true f e =
        let has = one-has client (clients_of net server) (and_parts (is_among server (phased_net net).servers) (is_among client ((phased_net net).clients server)) f).1 in
        eqb-true (home_of net client) server (filter-Has (λ client. home_of net client == server) client (servers_to (length net.clients)) has).1
    go false f e = absurd cc

turn-home : (net : NetParts) (x : Moment real (phased_net net)) (server : ℕ) (act : EntryAct) (entry : JournalEntry) → entry_made real (phased_net net) x (server, act_of act) ≡ Some entry → turn_of net (turn_by server act) ≡ (server, act_of act)
turn-home net x server (acts.Command client) entry e = ap (λ z. (z, Did (NextCommand client))) (command-home net x server client entry e)
turn-home net x server (acts.Receive from) entry e = refl
turn-home net x server acts.TableUpdate entry e = refl

-- a turn makes one entry
pub permitted-once : (net : NetParts) (m : Moment real (phased_net net)) (turn : Turn) (one other : JournalEntry) (next after : Moment real (phased_net net)) → IsPermittedTurn real (phased_net net) m turn one next
    → IsPermittedTurn real (phased_net net) m turn other after → one ≡ other
permitted-once net m turn one other next after x y =
    same_Some _ _ (sym x.possible ∙ (ap (λ z. entry_made real (phased_net net) z turn) (sym (found-is real (phased_net net) m (turn_phase real (phased_net net) m turn) x.found x.ready) ∙ found-is real (phased_net net) m (turn_phase real (phased_net net) m turn) y.found y.ready) ∙ y.possible))

-- the moment after a beginning of a journal
pub begin-is : (net : NetParts) (journal : List EntryParts) (n : ℕ) → n ≤ length journal → moment_by net (take n journal) ≡ moment_of real (phased_net net) (journal_of journal) n
begin-is net journal n less =
    let most : length (journal_of (take n journal)) ≡ n = length-map (take n journal) entry_of ∙ length-take-le n journal less in
    ap (moment_of real (phased_net net) (journal_of (take n journal))) most
    ∙ (sym (moment-left real (phased_net net) (opening_moment real (phased_net net)) (journal_of (take n journal)) (journal_of (drop n journal)) n (omega (arith, most)))
    ∙ ap (λ z. moment_of real (phased_net net) z n) (sym (map-append entry_of (take n journal) (drop n journal)) ∙ ap journal_of (take-append-drop n journal)))

-- an entry of a legal run, made again after those before it
module _ (net : NetParts) (journal : List EntryParts) (legal : IsLegal net journal) (i : ℕ) (d : EntryParts) (less : i < length journal) where
  pub permitted-there : IsPermittedTurn real (phased_net net) (moment_of real (phased_net net) (journal_of journal) i) ((get_or journal i d).server, act_of (get_or journal i d).act) (entry_of (get_or journal i d))
      (moment_of real (phased_net net) (journal_of journal) (suc i))
  permitted-there =
      happens-permitted real (phased_net net) (moment_of real (phased_net net) (journal_of journal) i) (found_of real (phased_net net) (journal_of journal) i) (moment_of real (phased_net net) (journal_of journal) (suc i)) (entry_of (get_or journal i d))
      (happens real (phased_net net) (opening_moment real (phased_net net)).state 0 (journal_of journal) (moment_by net journal).state (moment_by net journal).phase legal i (entry_of (get_or journal i d))
      (get-map entry_of journal i (get_or journal i d) (slice_get-get_or journal i d less)))

  permitted-here : IsPermittedTurn real (phased_net net) (moment_by net (take i journal)) (turn_of net (turn_of_entry (get_or journal i d))) (entry_of (get_or journal i d)) (moment_of real (phased_net net) (journal_of journal) (suc i))
  permitted-here =
      let x = permitted-there in
      let turn-is : turn_of net (turn_of_entry (get_or journal i d)) ≡ ((get_or journal i d).server, act_of (get_or journal i d).act) = turn-home net x.found (get_or journal i d).server (get_or journal i d).act (entry_of (get_or journal i d)) x.possible in
      subst (λ z. IsPermittedTurn real (phased_net net) z (turn_of net (turn_of_entry (get_or journal i d))) (entry_of (get_or journal i d)) (moment_of real (phased_net net) (journal_of journal) (suc i))) (sym (begin-is net journal i (omega (arith, less))))
      (subst (λ (z : Turn). IsPermittedTurn real (phased_net net) (moment_of real (phased_net net) (journal_of journal) i) z (entry_of (get_or journal i d)) (moment_of real (phased_net net) (journal_of journal) (suc i))) (sym turn-is) x)

  made-again : (made : Bool) (new : NetworkParts) → IsTurn made (turn_of_entry (get_or journal i d)) (network_parts net (take i journal)) new → new ≡ network_parts net (take i journal ++ get_or journal i d ∷ [])
  made-again true new x =
      x.later ∙ ap (λ z. network_parts net (take i journal ++ z ∷ []))
      (entry-same x.entry (get_or journal i d) (permitted-once net (moment_by net (take i journal)) (turn_of net (turn_of_entry (get_or journal i d))) (entry_of x.entry) (entry_of (get_or journal i d))
      (moment_by net (take i journal ++ x.entry ∷ [])) (moment_of real (phased_net net) (journal_of journal) (suc i)) x.permitted permitted-here))
  made-again false new x = absurd (x.1 (entry_of (get_or journal i d)) (moment_of real (phased_net net) (journal_of journal) (suc i)) permitted-here)

  found-again : found_of real (phased_net net) (journal_of (take i journal ++ get_or journal i d ∷ [])) (length (take i journal)) ≡ found_of real (phased_net net) (journal_of journal) i
  found-again =
      let begin : List EntryParts = take i journal ++ get_or journal i d ∷ [] in
      let here : length (take i journal) ≡ i = length-take-le i journal (omega (arith, less)) in
      let long : i < length (journal_of (take i journal ++ get_or journal i d ∷ [])) = omega (arith, here, length-map (take i journal ++ get_or journal i d ∷ []) entry_of, length-append (take i journal) (get_or journal i d ∷ [])) in
      ap (found_of real (phased_net net) (journal_of begin)) here
      ∙ (sym (found-left real (phased_net net) (opening_moment real (phased_net net)) (journal_of begin) (journal_of (drop (i + 1) journal)) i long)
      ∙ ap (λ z. found_of real (phased_net net) z i) (sym (map-append entry_of begin (drop (i + 1) journal)) ∙ ap journal_of (ap (λ z. z ++ drop (i + 1) journal) (sym (take_more journal i d less)) ∙ take-append-drop (i + 1) journal)))

-- the texts of its messages
abbrev pub peers_texts : MessageTexts
peers_texts = record {
  of_entry = λ net journal n entry. told_of net (found_of real (phased_net net) (journal_of journal) n) entry;
  of_entries = told_from;
  none = λ net whole n. refl;
  more = λ net whole n entry entries. refl;
}

-- so far a journal was made again, and its messages told
abbrev pub IsRetoldTo : ℕ → NetParts → List EntryParts → NetworkParts → List (List Sent) → Type 0
IsRetoldTo count net journal made texts = IsToldTo peers_texts count net journal made texts

pub retold-none : (net : NetParts) (journal : List EntryParts) (network : NetworkParts) (told : List (List Sent)) → network ≡ network_parts net [] → told ≡ [] → IsRetoldTo 0 net journal network told
retold-none net journal network told e f = told-none peers_texts net journal network told e f

pub retold-more : (net : NetParts) (journal : List EntryParts) (legal : IsLegal net journal) (i : ℕ) (d : EntryParts) (less : i < length journal) (made : Bool) (old new : NetworkParts) (told : List (List Sent)) (last : List Sent) (after : List (List Sent))
    → IsRetoldTo i net journal old told → IsTurn made (turn_of_entry (get_or journal i d)) old new
    → ((before : List EntryParts) (entry : EntryParts) → new.journal ≡ before ++ entry ∷ [] → last ≡ told_of new.net (found_of real (phased_net new.net) (journal_of new.journal) (length before)) entry)
    → after ≡ told ++ last ∷ [] → IsRetoldTo (i + 1) net journal new after
retold-more net journal legal i d less made old new told last after so turn tells e =
    told-next peers_texts net journal i d less old new told last after so
    (made-again net journal legal i d less made new (subst (λ z. IsTurn made (turn_of_entry (get_or journal i d)) z new) so.network turn))
    (ap (λ z. told_of net z (get_or journal i d)) (found-again net journal legal i d less)) tells e

pub retold-all : (net : NetParts) (journal : List EntryParts) (count : ℕ) (network : NetworkParts) (told : List (List Sent)) → count ≡ length journal → IsRetoldTo count net journal network told → told ≡ told_by net journal
retold-all net journal count network told e so = told-all peers_texts net journal count network told e so
