-- The lines of the edges: each joins a new server to an earlier one, and in the end they are a tree of 16 servers.
use Rattle.std.proofs.Common.{◌≡◌, ℕ, zero, suc, ◌+◌, ◌*◌, ◌<◌, ◌≤◌, true, List, [], ◌∷◌, ◌++◌, length, refl, subst, arith, append_assoc}
use Rattle.std.specs.Prelude.{codes}
use Rattle.std.specs.Fmt.{decimal}
use Rattle.std.proofs.Math.Nat.{mod-lt}
use Rattle.filter_text.specs.declared.semantics.Semantics.TheVariants.{Subscription}
use Rattle.document_reader.specs.Drawn.{drawn}
use Rattle.document_reader.specs.Tally.{no_counts}
use Rattle.document_reader.specs.declared.state.State.{State}
use Rattle.document_reader.specs.declared.state.Place.TheVariants as at
use Rattle.document_reader.specs.declared.version.Version.TheVariants.{One}
use Rattle.document_format.specs.DocumentText.{edge_line as edge_text}
use Rattle.document_format.proofs.LineLaws.{are_shown, ended}
use Rattle.document_format.proofs.Shown.{shown-then}
use Rattle.document_format.proofs.ReadLaws.{number_shown}
use Rattle.document_format.proofs.Stands.{state, IsNewEdge, edge_stands}
use Rattle.document_format.proofs.TreeStands.{server_test}
use Rattle.document_generate.specs.Draws.{draw, after}
use Rattle.document_generate.specs.Lines.{texts_drawn, edge_line}
use Rattle.document_generated.proofs.Growing.{Grown, grown, no-edge, no-way}
use Rattle.document_generated.proofs.Leading.{Leads, leads-none, leads-line, leads-on, leads-same, number-short, append-short}
use Rattle.base.proofs.Lists.{list_all-append}

-- what stands while the tree is drawn
abbrev pub drawing : List (ℕ × ℕ) → State
drawing edges = state at.Edges One Subscription (drawn 16 [] 0 edges) [] 0 no_counts []

pub draw-below : (s b : ℕ) → 0 < b → draw s b < b
unfolding draw
draw-below s b l = mod-lt _ l

-- the earlier server that the edge at a place joins, and the new one
abbrev earlier : ℕ → ℕ → ℕ
earlier place s = draw s (place + 1) + 1

edge-same : (place s : ℕ) → ended (edge_text (earlier place s, place + 2)) ≡ edge_line place s
unfolding edge_line
edge-same place s = simp append_assoc

edge-shown : (a b : ℕ) → a < 100 → b < 100 → are_shown (edge_text (a, b)) ≡ true
edge-shown a b l m = shown-then (codes "edge " ++ decimal a) (decimal b) (list_all-append _ (codes "edge ") (decimal a) refl (number_shown a (omega (arith, l)))) (number_shown b (omega (arith, m)))

edge-short : (a b : ℕ) → a < 100 → b < 100 → length (edge_text (a, b)) < 11
edge-short a b l m =
    let h = append-short (decimal a) (32 ∷ decimal b) 2 3 (number-short a l) (omega (arith, number-short b m)) in
    omega (arith, h)

module _ (place s : ℕ) (edges : List (ℕ × ℕ)) (few : place < 15) (tree : Grown (suc place) edges) where
  from : (1 ≤ earlier place s) × (earlier place s ≤ suc place)
  from = (omega arith, omega (arith, draw-below s (place + 1) (omega arith)))

  new : IsNewEdge 16 edges (earlier place s, place + 2)
  new = record {
    within = rw (server_test 16 (earlier place s) (from.0, omega (arith, from.1, few)), server_test 16 (place + 2) (omega arith, omega (arith, few))) refl;
    small = (omega (arith, from.1, few), omega (arith, few));
    new = no-edge (suc place) (earlier place s) (place + 2) edges (omega arith) (omega (arith, few)) from (omega arith) tree;
    apart = no-way (suc place) (earlier place s) (place + 2) edges (omega arith) (omega (arith, few)) from (omega arith) tree;
  }

  one-edge : Leads (drawing edges) (edge_line place s) 11 (drawing (edges ++ (earlier place s, place + 2) ∷ []))
  one-edge =
      let a : earlier place s < 100 = omega (arith, from.1, few) in
      let b : place + 2 < 100 = omega (arith, few) in
      leads-same _ _ _ _ 11 (edge-same place s)
      (leads-line _ _ (edge_text (earlier place s, place + 2)) 11 (edge-shown (earlier place s) (place + 2) a b) (edge-short (earlier place s) (place + 2) a b)
      (λ n. edge_stands n One Subscription 16 0 [] edges (earlier place s, place + 2) new))

  one-grown : Grown (suc (place + 1)) (edges ++ (earlier place s, place + 2) ∷ [])
  one-grown = subst (λ z. Grown z (edges ++ (earlier place s, place + 2) ∷ [])) (let e : suc (suc place) ≡ suc (place + 1) = omega arith in e)
      (grown (suc place) (earlier place s) (place + 2) edges (omega arith) (omega (arith, few)) from (omega arith) tree)

pub edges-lead : (n place s : ℕ) (edges : List (ℕ × ℕ)) → place + n ≡ 15 → Grown (suc place) edges
    → (all : List (ℕ × ℕ)) × Grown 16 all × Leads (drawing edges) (texts_drawn edge_line (λ z. 1) n place s) (11 * n) (drawing all)
unfolding texts_drawn
edges-lead zero place s edges is tree = (edges, subst (λ z. Grown z edges) (let e : suc place ≡ 16 = omega (arith, is) in e) tree, leads-none (drawing edges))
edges-lead (suc n) place s edges is tree =
    let more = edges-lead n (place + 1) (after 1 s) (edges ++ (earlier place s, place + 2) ∷ []) (omega (arith, is)) (one-grown place s edges (omega (arith, is)) tree) in
    let e : 11 + 11 * n ≡ 11 * suc n = omega arith in (
      more.0,
      more.1,
      subst (λ z. Leads (drawing edges) (texts_drawn edge_line (λ z. 1) (suc n) place s) z (drawing more.0)) e
          (leads-on _ _ _ _ _ 11 (11 * n) (one-edge place s edges (omega (arith, is)) tree) more.2),
    )
