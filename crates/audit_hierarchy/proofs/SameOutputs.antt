-- Two nets of one document have the same runs as hierarchies, with the same texts.
use Rattle.std.proofs.Common.{◌≡◌, ℕ, zero, false, List, ◌++◌, length, map, sym, ap, subst, ◌∙◌}
use Rattle.std.specs.List.{range_with_len}
use Rattle.base_tree.specs.Tree.{Topology}
use Rattle.filter_text.specs.declared.semantics.Semantics.{Semantics}
use Rattle.net_model.specs.declared.turn.Turn.{Turn}
use Rattle.net_model.specs.Nets.{first_tree}
use Rattle.net_model.specs.Parts.{ClientParts, NetParts, EntryParts, net_parts}
use Rattle.document_reader.specs.Drawn.{blocks}
use Rattle.document_reader.specs.Net.{AreTreesOf, IsNetOf, client_of}
use Rattle.document_reader.specs.declared.state.State.{State}
use Rattle.output_report.specs.Deliveries.{deliveries_text}
use Rattle.output_report.specs.Trace.{trace_text}
use Rattle.audit_verdict.specs.Verdict.{IsOutputOf, traced_text}
use Rattle.audit_verdict.proofs.SameOutputs.{the-state}
use Rattle.audit_hierarchy.specs.Runs.{hierarchies}
use Rattle.audit_hierarchy.proofs.SameRuns.{drained-same, legal-same, received-same, refused-same, told-same}
use Rattle.audit_hierarchy.proofs.SameTrees.{AreOneTree, start-alike, tree_at_start}

module _ (semantics : Semantics) (clients : List ClientParts) (v w : ℕ) (t u : List (ℕ × Topology)) (x y : List (ℕ × Turn)) (counts : (first_tree t).count ≡ (first_tree u).count)
    (one : AreOneTree (first_tree t).count (tree_at_start t) (tree_at_start u)) (journal : List EntryParts) where
  abbrev here : NetParts
  here = net_parts v semantics t clients x

  abbrev there : NetParts
  there = net_parts w semantics u clients y

  text-same : traced_text hierarchies here journal ≡ traced_text hierarchies there journal
  text-same = λ i.
      deliveries_text here (map (λ c. refused-same semantics clients v w t u x y counts one journal c i) (range_with_len 1 (length clients)))
      (map (λ c. received-same semantics clients v w t u x y counts one journal c i) (range_with_len 1 (length clients))) false
      ++ trace_text here journal (told-same semantics clients v w t u x y counts one journal zero journal i)

  output-same : (output : List ℕ) → IsOutputOf hierarchies here journal output → IsOutputOf hierarchies there journal output
  output-same output h = record {
    legal = legal-same semantics clients v w t u x y counts one journal h.legal;
    drained = drained-same semantics clients v w t u x y counts one journal h.drained;
    text = h.text ∙ text-same;
  }

pub same-output : (document : List ℕ) (one other : NetParts) (journal : List EntryParts) (output : List ℕ) → IsNetOf document one → IsNetOf document other
    → IsOutputOf hierarchies one journal output → IsOutputOf hierarchies other journal output
same-output document one other journal output a b h =
    let state : a.state ≡ b.state = the-state _ a.state b.state a.read b.read in
    let semantics : one.semantics ≡ other.semantics = a.holds.semantics ∙ ap (λ (s : State). s.semantics) state ∙ sym b.holds.semantics in
    let clients : one.clients ≡ other.clients = a.holds.clients ∙ ap (λ (s : State). map client_of s.clients) state ∙ sym b.holds.clients in
    let trees = start-alike a.state.trees.servers (blocks a.state.trees) one.trees other.trees a.holds.trees
    (subst (λ (s : State). AreTreesOf s.trees.servers (blocks s.trees) other.trees) (sym state) b.holds.trees) in
    subst (λ z. IsOutputOf hierarchies (net_parts other.version z other.trees other.clients other.schedule) journal output) semantics
    (subst (λ z. IsOutputOf hierarchies (net_parts other.version one.semantics other.trees z other.schedule) journal output) clients
    (output-same one.semantics one.clients one.version other.version one.trees other.trees one.schedule other.schedule trees.0 trees.1 journal output h))
