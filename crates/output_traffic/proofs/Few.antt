-- Fewer messages are put on each link than are counted, and flooding puts fewer notifications there.
use Rattle.std.proofs.Common.{◌≡◌, ℕ, suc, ◌+◌, ◌*◌, ◌^◌, ◌≤◌, ◌<◌, ◌==◌, ◌&&◌, Bool, true, false, cond, List, [], ◌∷◌, ◌++◌, length, map, slice_get, Some, refl, sym, ap, subst, ◌∙◌, arith}
use Rattle.std.proofs.lemmas.List.{length-map}
use Rattle.base.specs.Sets.{Has, same_list, minus}
use Rattle.base.specs.Numbers.{IsDistinct, sum_over, count}
use Rattle.base.proofs.Numbers.{Same, Is, Not, compare}
use Rattle.law_routing.specs.Theory.{Theory}
use Rattle.law_routing.specs.Net.{Net, Command, Subscribe, Unsubscribe, Advertise, Unadvertise, Publish}
use Rattle.law_routing.specs.Clients.{accepts, adverts_step, is_publish}
use Rattle.law_routing.specs.Server.{Message, Subs, Advs, Noticed, ServerState, is_among, sent, sent_adverts, filter_change, advert_change, messages_to}
use Rattle.law_routing.specs.Step.{Work, SetsFilters, SetsAdverts, Routes, InstallsTable, Nothing, effect, with_filters, with_adverts}
use Rattle.law_phases.specs.Trees.{JournalEntry, entry_on, on, net_at}
use Rattle.law_phases.specs.Runs.{PhasedRun}
use Rattle.law_phases.specs.AtMoments.{messages_at, net_seen, phase_seen, states, states_on}
use Rattle.law_phases.proofs.Entries.{happens-run}
use Rattle.law_phases.proofs.Nets.{net-laws}
use Rattle.law_phases.proofs.Speaking.{Working, working}
use Rattle.net_model.specs.Real.{real, real_laws}
use Rattle.net_model.specs.Parts.{ClientParts, EntryParts, NetParts}
use Rattle.net_model.specs.Meaning.{command_of, entry_of, journal_of, phased_command}
use Rattle.net_model.specs.Nets.{phased_net, topology_at}
use Rattle.net_model.specs.Sound.{IsSound, publishes}
use Rattle.net_model.proofs.Counted.{stays-low}
use Rattle.filter_text.specs.declared.command.Command.{Command as WireCommand}
use Rattle.filter_text.specs.declared.sent.Sent.{Sent}
use Rattle.server_spec.specs.Control.{sent_to as text_to, texts}
use Rattle.output_traffic.specs.Carried.{carried, is_change, is_notice, put_on, sent_to}
use Rattle.output_traffic.specs.Flood.{accepted_phases, flood_on, is_accepted, is_flooded}
use Rattle.output_traffic.specs.Going.{client_flood}
use Rattle.output_traffic.specs.Tallied.{AreFew}
use Rattle.output_traffic.specs.Told.{IsTold, told_from}
use Rattle.output_traffic.proofs.Clients.{flood-is}
use Rattle.output_traffic.proofs.Telling.{none-to, sum-append, to-other}

count-le : (b : Bool) → count b ≤ 1
count-le true = omega arith
count-le false = omega arith

-- of some tests no more hold than there are
counts-le : {X : Type 0} (f : X → Bool) (xs : List X) → sum_over (λ x. count (f x)) xs ≤ length xs
counts-le f [] = omega arith
counts-le f (x ∷ xs) = omega (arith, count-le (f x), counts-le f xs)

module _ (th : Theory) (net : Net th) where
  -- a change of two lists makes two messages at most
  changes-few : (old new : List th.Filter) (was is : List th.Advert) → length (filter_change th net old new ++ advert_change th net was is) ≤ 2
  changes-few old new was is = go (same_list th.before old new) (same_list th.before_advert was is)
    where
      go : (a b : Bool) → length {A = Message th} (cond a [] (Subs (minus th.before old new) (minus th.before new old) ∷ []) ++ cond b [] (Advs (minus th.before_advert was is) (minus th.before_advert is was) ∷ [])) ≤ 2
      go true true = omega arith
      go true false = omega arith
      go false true = omega arith
      go false false = omega arith

  where-near : (b : Bool) (ms : List (Message th)) → length ms ≤ 2 → length (cond b ms []) ≤ 2
  where-near true ms l = l
  where-near false ms l = omega arith

  notice-few : (b : Bool) (m : Message th) → length {A = Message th} (cond b (m ∷ []) []) ≤ 2
  notice-few true m = omega arith
  notice-few false m = omega arith

  -- so does a work, for each link
  outs-few : (t : ℕ) (from : ServerState th) (k : Work th) (to : ℕ) → length ((effect th net t from k).outs to) ≤ 2
  outs-few t from (SetsFilters i set) to =
      where-near (is_among to (net.links t)) (messages_to th net from (with_filters th net from i set) t to)
      (changes-few (sent th net from t to) (sent th net (with_filters th net from i set) t to) (sent_adverts th net from t to) (sent_adverts th net (with_filters th net from i set) t to))
  outs-few t from (SetsAdverts i set) to =
      where-near (is_among to (net.links t)) (messages_to th net from (with_adverts th net from i set) t to)
      (changes-few (sent th net from t to) (sent th net (with_adverts th net from i set) t to) (sent_adverts th net from t to) (sent_adverts th net (with_adverts th net from i set) t to))
  outs-few t from (Routes i p o n) to = where-near (is_among to (net.links t)) _ (notice-few _ (Noticed p o n))
  outs-few t from InstallsTable to = where-near (is_among to (net.links t)) [] (omega arith)
  outs-few t from Nothing to = where-near (is_among to (net.links t)) [] (omega arith)

-- the texts to one link that pass a test
to-few : (test : List ℕ → Bool) (to link : ℕ) (ms : List (Message real)) → sent_to test to (map (text_to link) ms) ≤ length ms
to-few test to link [] = omega arith
to-few test to link (m ∷ ms) = omega (arith, count-le (((text_to link m).to == to) && test (text_to link m).bytes), to-few test to link ms)

all-few : (test : List ℕ → Bool) (messages : ℕ → List (Message real)) (to : ℕ) → ((link : ℕ) → length (messages link) ≤ 2) → (links : List ℕ) → IsDistinct links
    → sent_to test to (texts messages links) ≤ 2
all-few test messages to few [] d = omega arith
all-few test messages to few (link ∷ links) d = go (compare link to) (all-few test messages to few links d.1)
  where
    whole : sent_to test to (texts messages (link ∷ links)) ≡ sent_to test to (map (text_to link) (messages link)) + sent_to test to (texts messages links)
    whole = sum-append (λ (m : Sent). count ((m.to == to) && test m.bytes)) (map (text_to link) (messages link)) (texts messages links)

    go : Same link to → sent_to test to (texts messages links) ≤ 2 → sent_to test to (texts messages (link ∷ links)) ≤ 2
    go (Is p v) ih = omega (arith, whole, to-few test to link (messages link), few link, none-to messages to test links (λ i. d.0 (subst (λ z. Has z links) (sym p) i)))
    go (Not n v) ih = omega (arith, whole, to-other test to link (messages link) n, ih)

module _ (run : PhasedRun real) where
  -- an entry puts two messages at most on a link
  messages-few : (n : ℕ) (e : JournalEntry) → slice_get run.journal n ≡ Some e → (to : ℕ) → length (messages_at real run n e to) ≤ 2
  messages-few n e is to =
      let w : Working real (net_seen real run n) (states_on real run (net_seen real run n) n) (entry_on real (net_seen real run n) e) (on real (net_seen real run n) (states real run (suc n))) =
      working real (net_seen real run n) (states_on real run (net_seen real run n) n) (entry_on real (net_seen real run n) e) (on real (net_seen real run n) (states real run (suc n))) (happens-run real real_laws run n e is).step in
      subst (λ (ms : List (Message real)). length ms ≤ 2) (sym (w.messages to)) (outs-few real (net_seen real run n) e.server w.from w.work to)

  put-few : (test : List ℕ → Bool) (n : ℕ) (entry : EntryParts) (from to : ℕ) → slice_get run.journal n ≡ Some (entry_of entry)
      → put_on test entry.server (texts (messages_at real run n (entry_of entry)) ((net_seen real run n).links entry.server)) from to ≤ 2
  put-few test n entry from to is = go (entry.server == from)
    where
      there : sent_to test to (texts (messages_at real run n (entry_of entry)) ((net_seen real run n).links entry.server)) ≤ 2
      there = all-few test (messages_at real run n (entry_of entry)) to (messages-few n (entry_of entry) is) ((net_seen real run n).links entry.server) ((net-laws real run.net run.laws (phase_seen real run n)).tree.single entry.server)

      go : (b : Bool) → cond b (sent_to test to (texts (messages_at real run n (entry_of entry)) ((net_seen real run n).links entry.server))) 0 ≤ 2
      go true = there
      go false = omega arith

  entries-few : (test : List ℕ → Bool) (entries : List EntryParts) (n from to : ℕ) → ((i : ℕ) (e : JournalEntry) → slice_get (journal_of entries) i ≡ Some e → slice_get run.journal (n + i) ≡ Some e)
      → carried test entries (told_from run n entries) from to ≤ 2 * length entries
  entries-few test [] n from to at = omega arith
  entries-few test (entry ∷ entries) n from to at =
      let none : n ≡ n + 0 = omega arith in
      let slot = ap (slice_get run.journal) none ∙ at 0 (entry_of entry) refl in
      omega (arith, put-few test n entry from to slot, entries-few test entries (suc n) from to (λ i e f. ap (slice_get run.journal) (shift i) ∙ at (suc i) e f))
    where
      shift : (i : ℕ) → suc n + i ≡ n + suc i
      shift i = omega arith

  told-few : (test : List ℕ → Bool) (journal : List EntryParts) → run.journal ≡ journal_of journal → (from to : ℕ)
      → carried test journal (told_from run 0 journal) from to ≤ 2 * length journal
  told-few test journal e from to = entries-few test journal 0 from to (λ i x f. ap (slice_get run.journal) (plain i) ∙ (ap (λ z. slice_get z i) e ∙ f))
    where
      plain : (i : ℕ) → 0 + i ≡ i
      plain i = omega arith

  few-of : (net : NetParts) → IsSound net → run.net ≡ phased_net net → (test : List ℕ → Bool) (journal : List EntryParts) (outs : List (List Sent)) → IsTold run journal outs → (from to : ℕ)
      → carried test journal outs from to < 2 ^ 32
  few-of net sound same test journal outs told from to =
      let long : length run.journal ≡ length journal = ap length told.entries ∙ length-map journal entry_of in
      let there = told-few test journal told.entries from to in
      let is = ap (λ o. carried test journal o from to) told.told in
      omega (arith, (stays-low net sound run same).entries, long, there, is)

  -- a legal run of a sound net puts fewer messages on each link than are counted
  pub are-few : (net : NetParts) → IsSound net → run.net ≡ phased_net net → (journal : List EntryParts) (outs : List (List Sent)) → IsTold run journal outs → AreFew journal outs
  are-few net sound same journal outs told = record {
    notices = few-of net sound same is_notice journal outs told;
    changes = few-of net sound same is_change journal outs told;
  }

-- no more publications are accepted than are published
accepted-few : (net : Net real) (adverts : List real.Advert) (script : List (ℕ × WireCommand))
    → length (accepted_phases real net adverts (map phased_command script)) ≤ sum_over (λ step. count (is_publish real (command_of step.1))) script
accepted-few net adverts [] = omega arith
accepted-few net adverts (step ∷ script) =
    go (is_accepted real net adverts (command_of step.1)) step.0 (accepted_phases real net (adverts_step real adverts (command_of step.1)) (map phased_command script))
    (count (is_publish real (command_of step.1))) (sum_over (λ step. count (is_publish real (command_of step.1))) script)
    (one (command_of step.1)) (accepted-few net (adverts_step real adverts (command_of step.1)) script)
  where
    one : (command : Command real) → count (is_accepted real net adverts command) ≤ count (is_publish real command)
    one (Subscribe f) = omega arith
    one (Unsubscribe f) = omega arith
    one (Advertise a) = omega arith
    one (Unadvertise a) = omega arith
    one (Publish n) = count-le (accepts real net adverts n)

    go : (b : Bool) (phase : ℕ) (later : List ℕ) (first rest : ℕ) → count b ≤ first → length later ≤ rest → length (cond b (phase ∷ later) later) ≤ first + rest
    go true phase later first rest l ih = omega (arith, l, ih)
    go false phase later first rest l ih = omega (arith, l, ih)

sums-le : {X : Type 0} (f g : X → ℕ) (xs : List X) → ((x : X) → f x ≤ g x) → sum_over f xs ≤ sum_over g xs
sums-le f g [] l = omega arith
sums-le f g (x ∷ xs) l = omega (arith, l x, sums-le f g xs l)

module _ (net : NetParts) (from to : ℕ) where
  client-few : (client : ClientParts) → client_flood net client from to ≤ publishes client
  client-few client =
      let phases = accepted_phases real (net_at real (phased_net net) 0) [] (map phased_command client.script) in
      let flooded = counts-le (λ phase. is_flooded (topology_at net phase) client.home from to) phases in
      omega (arith, flooded, accepted-few (net_at real (phased_net net) 0) [] client.script)

-- flooding puts fewer notifications on each link of a sound net than are counted
pub few-flooded : (net : NetParts) → IsSound net → (from to : ℕ) → flood_on net from to < 2 ^ 32
few-flooded net sound from to =
    let each = sums-le (λ client. client_flood net client from to) publishes net.clients (client-few net from to) in
    omega (arith, flood-is net from to, each, sound.publishes)
