-- Two nets of one document have the same runs with the same texts.
use Rattle.std.proofs.Common.{◌≡◌, ℕ, zero, suc, ◌-◌, false, cond, List, [], ◌∷◌, ◌++◌, length, map, take, refl, sym, ap, subst, ◌∙◌, Result, Ok}
use Rattle.std.specs.List.{range_with_len}
use Rattle.base_tree.specs.Tree.{Topology}
use Rattle.law_routing.specs.Net.{Command, Subscribe, Unsubscribe, Advertise, Unadvertise, Publish, PhasedCommand}
use Rattle.law_routing.specs.Clients.{adverts_step, accepts, refused_from}
use Rattle.law_phases.specs.Trees.{net_at}
use Rattle.net_model.specs.Real.{real}
use Rattle.filter_text.specs.declared.semantics.Semantics.{Semantics}
use Rattle.server_spec.specs.Control.{texts}
use Rattle.net_model.specs.declared.turn.Turn.{Turn}
use Rattle.net_model.specs.Parts.{ClientParts, NetParts, EntryParts, net_parts}
use Rattle.net_model.specs.Meaning.{deliveries_of, entry_of, journal_of}
use Rattle.net_model.specs.Nets.{home_of, phased_net, phases_of, script_of}
use Rattle.net_model.specs.Lists.{refused_ordinals}
use Rattle.net_turns.specs.Network.{received_by, refused_by, executed_by}
use Rattle.net_turns.specs.Told.{told_from}
use Rattle.net_turns.specs.Walked.{walk_after}
use Rattle.document_reader.specs.Drawn.{Block}
use Rattle.document_reader.specs.Net.{AreTreesOf, IsNetOf}
use Rattle.document_reader.specs.declared.fault.Fault.{Fault}
use Rattle.document_reader.specs.declared.state.State.{State}
use Rattle.output_report.specs.Deliveries.{deliveries_text}
use Rattle.output_report.specs.Trace.{trace_text}
use Rattle.audit_verdict.specs.Kinds.{peers}
use Rattle.audit_verdict.specs.Verdict.{IsOutputOf, traced_text}
use Rattle.audit_verdict.proofs.SameRuns.{AreAlike, drained-here, neighbours-here, run-here, state-here, told-here, walk-here}

-- trees of the same edges are alike
alike : (n : ℕ) (blocks : List Block) (ts us : List (ℕ × Topology)) → AreTreesOf n blocks ts → AreTreesOf n blocks us → AreAlike ts us
alike n [] [] [] a b = tt
alike n [] [] (u ∷ us) a b = absurd b
alike n [] (t ∷ ts) us a b = absurd a
alike n (x ∷ blocks) [] us a b = absurd a
alike n (x ∷ blocks) (t ∷ ts) [] a b = absurd b
alike n (x ∷ blocks) (t ∷ ts) (u ∷ us) a b =
    (a.0.phase ∙ sym b.0.phase, a.0.count ∙ sym b.0.count, (λ s. a.0.neighbours s ∙ sym (b.0.neighbours s)), alike n blocks ts us a.1 b.1)

-- one net beside another of the same semantics and clients, whose trees are alike
module _ (semantics : Semantics) (clients : List ClientParts) (v w : ℕ) (t u : List (ℕ × Topology)) (x y : List (ℕ × Turn)) (same : AreAlike t u) (journal : List EntryParts) where
  abbrev here : NetParts
  here = net_parts v semantics t clients x

  abbrev there : NetParts
  there = net_parts w semantics u clients y

  taken-same : (c : ℕ) → executed_by here journal c ≡ executed_by there journal c
  taken-same c = ap (λ s. (s.state (home_of here c)).done c) (state-here semantics clients v w t u x y same (journal_of journal) (length (journal_of journal)))

  received-same : (c : ℕ) → received_by here journal c ≡ received_by there journal c
  received-same c = ap (λ s. deliveries_of ((s.state (home_of here c)).inbox c)) (state-here semantics clients v w t u x y same (journal_of journal) (length (journal_of journal)))

  refused-added : (adverts : List real.Advert) (before : ℕ) (commands : List (PhasedCommand real))
      → refused_from real (net_at real (phased_net here) 0) adverts before commands ≡ refused_from real (net_at real (phased_net there) 0) adverts before commands
  refused-added adverts before [] = refl
  refused-added adverts before (c ∷ cs) = go c.command (λ more count. refused-added more count cs)
    where
      go : (z : Command real)
          → ((more : List real.Advert) (count : ℕ) → refused_from real (net_at real (phased_net here) 0) more count cs ≡ refused_from real (net_at real (phased_net there) 0) more count cs)
          → refused_from real (net_at real (phased_net here) 0) adverts before (record { phase = c.phase; command = z } ∷ cs)
          ≡ refused_from real (net_at real (phased_net there) 0) adverts before (record { phase = c.phase; command = z } ∷ cs)
      go (Subscribe f) rest = rest adverts before
      go (Unsubscribe f) rest = rest adverts before
      go (Advertise a) rest = rest (adverts_step real adverts (Advertise a)) before
      go (Unadvertise a) rest = rest (adverts_step real adverts (Unadvertise a)) before
      go (Publish n) rest = ap (λ l. cond (accepts real (net_at real (phased_net here) 0) adverts n) l (suc before ∷ l)) (rest adverts (suc before))

  refused-same : (c : ℕ) → refused_by here journal c ≡ refused_by there journal c
  refused-same c = refused-added [] 0 (take (executed_by here journal c) (script_of here c)) ∙ ap (refused_ordinals there c) (taken-same c)

  told-same : (n : ℕ) (es : List EntryParts) → told_from here journal n es ≡ told_from there journal n es
  told-same n [] = refl
  told-same n (e ∷ es) = λ i.
      texts (λ link. told-here semantics clients v w t u x y same (journal_of journal) n (entry_of e) link i) (neighbours-here semantics clients v w t u x y same (journal_of journal) n e.server i)
      ∷ told-same (suc n) es i

  text-same : traced_text peers here journal ≡ traced_text peers there journal
  text-same = λ i.
      deliveries_text here (map (λ c. refused-same c i) (range_with_len 1 (length clients))) (map (λ c. received-same c i) (range_with_len 1 (length clients))) false
      ++ trace_text here journal (told-same zero journal i)

  output-same : (output : List ℕ) → IsOutputOf peers here journal output → IsOutputOf peers there journal output
  output-same output h = record {
    legal = run-here semantics clients v w t u x y same (journal_of journal) h.legal;
    drained = drained-here semantics clients v w t u x y same (journal_of journal) h.drained;
    text = h.text ∙ text-same;
  }

  walk-same : walk_after here [] ≡ walk_after there []
  walk-same = walk-here semantics clients v w t u x y same (phases_of here - 0) 0

pub the-state : (r : Result State (ℕ × Fault)) (s z : State) → r ≡ Ok s → r ≡ Ok z → s ≡ z
the-state r s z p q = cc

-- what is the output of a run by one net of a document, is so by another
pub same-output : (document : List ℕ) (one two : NetParts) (journal : List EntryParts) (output : List ℕ) → IsNetOf document one → IsNetOf document two → IsOutputOf peers one journal output → IsOutputOf peers two journal output
same-output document one two journal output a b h =
    let state : a.state ≡ b.state = the-state _ a.state b.state a.read b.read in
    let semantics : one.semantics ≡ two.semantics = a.holds.semantics ∙ ap (λ (s : State). s.semantics) state ∙ sym b.holds.semantics in
    let clients : one.clients ≡ two.clients = a.holds.clients ∙ ap (λ (s : State). map Rattle.document_reader.specs.Net.client_of s.clients) state ∙ sym b.holds.clients in
    let trees : AreAlike one.trees two.trees = alike a.state.trees.servers (Rattle.document_reader.specs.Drawn.blocks a.state.trees) one.trees two.trees a.holds.trees
    (subst (λ (s : State). AreTreesOf s.trees.servers (Rattle.document_reader.specs.Drawn.blocks s.trees) two.trees) (sym state) b.holds.trees) in
    subst (λ z. IsOutputOf peers (net_parts two.version z two.trees two.clients two.schedule) journal output) semantics
    (subst (λ z. IsOutputOf peers (net_parts two.version one.semantics two.trees z two.schedule) journal output) clients
    (output-same one.semantics one.clients one.version two.version one.trees two.trees one.schedule two.schedule trees journal output h))

-- two nets of one document have the same walk
pub same-walk : (document : List ℕ) (one two : NetParts) → IsNetOf document one → IsNetOf document two → walk_after one [] ≡ walk_after two []
same-walk document one two a b =
    let state : a.state ≡ b.state = the-state _ a.state b.state a.read b.read in
    let semantics : one.semantics ≡ two.semantics = a.holds.semantics ∙ ap (λ (s : State). s.semantics) state ∙ sym b.holds.semantics in
    let clients : one.clients ≡ two.clients = a.holds.clients ∙ ap (λ (s : State). map Rattle.document_reader.specs.Net.client_of s.clients) state ∙ sym b.holds.clients in
    let trees : AreAlike one.trees two.trees = alike a.state.trees.servers (Rattle.document_reader.specs.Drawn.blocks a.state.trees) one.trees two.trees a.holds.trees
    (subst (λ (s : State). AreTreesOf s.trees.servers (Rattle.document_reader.specs.Drawn.blocks s.trees) two.trees) (sym state) b.holds.trees) in
    subst (λ z. walk_after one [] ≡ walk_after (net_parts two.version z two.trees two.clients two.schedule) []) semantics
    (subst (λ z. walk_after one [] ≡ walk_after (net_parts two.version one.semantics two.trees z two.schedule) []) clients
    (walk-same one.semantics one.clients one.version two.version one.trees two.trees one.schedule two.schedule trees []))
