-- All cells have entered a later phase: they are together in it, and represent the state in which it is entered.
use Rattle.std.proofs.Common.{◌≡◌, ℕ, suc, ◌+◌, ◌<◌, ◌==◌, true, false, cond, List, [], length, map, Some, slice_get, Vec, Global, refl, sym, ap, subst, ◌∙◌, arith, ne_eqb, eqb-true}
use Rattle.std.proofs.lemmas.List.{length-map}
use Rattle.std.proofs.lemmas.Option.{same_Some}
use Rattle.law_machine.specs.Journals.{Cell, network_of}
use Rattle.law_machine.specs.Runs.{greatest}
use Rattle.law_routing.specs.Net.{Net}
use Rattle.law_phases.specs.Trees.{State, net_at, at_phase, is_one_tree, trees_by}
use Rattle.law_phases.specs.Moments.{begun, with_clocks_raised, with_tree_changed}
use Rattle.law_phases.specs.Cells.{entered}
use Rattle.law_phases.proofs.Nets.{net-one}
use Rattle.net_model.specs.Real.{real}
use Rattle.net_model.specs.Parts.{NetParts}
use Rattle.net_model.specs.Nets.{phased_net, first_tree, servers_in}
use Rattle.net_model.specs.Sound.{IsSound}
use Rattle.server_control.specs.Held.{NetHeld, held_in}
use Rattle.server_flow.specs.Homes.{NetHome}
use Rattle.server_core.specs.Core.{CoreParts, RepresentsServer}
use Rattle.thread_cell.specs.declared.held.Root.{Root}
use Rattle.thread_cell.specs.declared.link.Link.{Link}
use Rattle.thread_cell.specs.Links.{IsSameLink}
use Rattle.thread_cell.specs.LaneMessages.{put_for, taken_from}
use Rattle.thread_cell.specs.Lanes.{AreEnds}
use Rattle.thread_cell.specs.Cell.{CellParts, RepresentsCell, HasEntered, machine_in}
use Rattle.thread_cell.specs.Together.{AreTogether, root_links as lanes_of, cell_roots}
use Rattle.thread_cell.specs.Relinking.{CanRaise, HasMoved, HasRaised}
use Rattle.thread_cell.specs.Entered.{AreThrough, RepresentCells, AreEntered, greatest_cell_clock, state_of}
use Rattle.thread_cell.proofs.Places.{below-found, both-before, lane-later}
use Rattle.thread_cell.proofs.Gathered.{IsKeptCell, map-found, found-map, root-at, count-cells}
use Rattle.thread_cell.proofs.Fresh.{new-put, new-taken}
use Rattle.server_core.proofs.AnyClock.{any-clock}
use Rattle.thread_cell.proofs.Onward.{IsPlan, below-greatest, greatest-is, stands-moved}
use Rattle.base.proofs.Lists.{get-below}

-- each cell can enter a phase with the same tree
pub can-raise : (net : NetParts) (last phase clock : ℕ) (old : List CellParts) → AreTogether net last (cell_roots old) → clock ≡ greatest_cell_clock old → last < phase → is_one_tree real (phased_net net) last phase ≡ true → AreThrough phase old
    → (k : ℕ) (cell : CellParts) → slice_get old k ≡ Some cell → CanRaise phase clock cell
can-raise net last phase clock old together high later one through k cell e = record {
  not_above = (let le = below-greatest old k cell e in omega (arith, le, high));
  not_later = (let p = together.phases k cell.root (root-at net last old together k cell e) in omega (arith, p, later));
  through = through k cell e;
  tree = subst (λ n. is_one_tree real (phased_net n) cell.root.phase phase ≡ true) (sym (together.nets k cell.root (root-at net last old together k cell e)))
      (subst (λ p. is_one_tree real (phased_net net) p phase ≡ true) (sym (together.phases k cell.root (root-at net last old together k cell e))) one);
}

module _ (net : NetParts) (sound : IsSound net) (last phase : ℕ) (old new : List CellParts) (together : AreTogether net last (cell_roots old)) (later : last < phase) (kept : (k : ℕ) (cell : CellParts) → slice_get old k ≡ Some cell → IsKeptCell cell)
    (long : length new ≡ length old) where
  -- what was at the place of a cell
  was : (k : ℕ) (b : CellParts) → slice_get new k ≡ Some b → (a : CellParts) × (slice_get old k ≡ Some a)
  was k b e = let lt = below-found k new b e in get-below old k (omega (arith, lt, long))

  together-next : ((k : ℕ) (a b : CellParts) → slice_get old k ≡ Some a → slice_get new k ≡ Some b → HasEntered a.root phase b) → AreEnds (map lanes_of (cell_roots new)) → AreTogether net phase (cell_roots new)
  together-next each ends = record {
    all = length-map new (λ (c : CellParts). c.root) ∙ long ∙ count-cells net last old together;
    nets = λ k root f.
        let b = found-map (λ (c : CellParts). c.root) k new root f in
        let a = was k b.0 b.1 in
        ap (λ (r : Root). r.net.value) (sym b.2) ∙ ap (λ z. z.value) (each k a.0 b.0 a.1 b.1).net ∙ together.nets k a.0.root (root-at net last old together k a.0 a.1);
    numbers = λ k root f.
        let b = found-map (λ (c : CellParts). c.root) k new root f in
        let a = was k b.0 b.1 in
        ap (λ (r : Root). r.server) (sym b.2) ∙ (each k a.0 b.0 a.1 b.1).server ∙ together.numbers k a.0.root (root-at net last old together k a.0 a.1);
    phases = λ k root f.
        let b = found-map (λ (c : CellParts). c.root) k new root f in
        let a = was k b.0 b.1 in
        ap (λ (r : Root). r.phase) (sym b.2) ∙ (each k a.0 b.0 a.1 b.1).phase_is;
    lanes = ends;
  }

  -- the cell of a row of lanes
  row-cell : (k : ℕ) (row : List Link) → slice_get (map lanes_of (cell_roots new)) k ≡ Some row → (b : CellParts) × (slice_get new k ≡ Some b) × (lanes_of b.root ≡ row)
  row-cell k row f =
      let r = found-map lanes_of k (cell_roots new) row f in
      let b = found-map (λ (c : CellParts). c.root) k new r.0 r.1 in
      (b.0, b.1, ap lanes_of b.2 ∙ r.2)

  unequal : (last == phase) ≡ false
  unequal = ne_eqb last phase (λ e. omega (arith, e, later))

  is-begun : (state : State real) → entered real (phased_net net) last phase state ≡ begun real (phased_net net) last phase state
  is-begun state = ap (λ b. cond b state (begun real (phased_net net) last phase state)) unequal

  module _ (ends : ℕ → Cell (machine_in net last)) (stand : RepresentCells net last old ends) where
    clock-is : greatest_cell_clock old ≡ greatest (machine_in net last) (λ server. (ends server).clock) (servers_in net)
    clock-is = greatest-is (machine_in net last) (λ server. (ends server).clock) 1 (first_tree net.trees).count old (count-cells net last old together) (λ place cell at. (stand.stand place cell at).clock ∙ ap (λ server. (ends server).clock) (one-more place))
      where
        one-more : (place : ℕ) → suc place ≡ 1 + place
        one-more place = omega arith

    -- of who is no server nothing was put or taken
    outside : (server : ℕ) → ((k : ℕ) → server ≡ suc k → k < length new → ⊥) → (link : ℕ) → ((ends server).put link ≡ []) × ((ends server).took link ≡ [])
    outside server beyond = stand.others server (λ k e lt. beyond k e (omega (arith, lt, long)))

  -- WITH THE SAME TREE
  module _ (one : is_one_tree real (phased_net net) last phase ≡ true) (clock : ℕ) (high : clock ≡ greatest_cell_clock old) (raised : (k : ℕ) (a b : CellParts) → slice_get old k ≡ Some a → slice_get new k ≡ Some b → HasRaised phase clock a b) where
    lanes-now : (k : ℕ) (row : List Link) → slice_get (map lanes_of (cell_roots new)) k ≡ Some row → (a : CellParts) × (slice_get old k ≡ Some a) × (row ≡ a.held.links.items)
    lanes-now k row f =
        let b = row-cell k row f in
        let a = was k b.0 b.1 in
        let r = raised k a.0 b.0 a.1 b.1 in
        (a.0, a.1, sym b.2 ∙ ap (λ l. l.items) r.entered.links ∙ ap (λ l. l.items) r.lanes)

    ends-now : AreEnds (map lanes_of (cell_roots new))
    ends-now i k q p a b x y ea eb ex ey nx ny =
        let u = lanes-now i a ea in
        let w = lanes-now k b eb in
        let x0 = both-before IsSameLink q (lanes_of u.0.root) u.0.held.links.items x (kept i u.0 u.1).links (ap (λ l. slice_get l q) (sym u.2) ∙ ex) in
        let y0 = both-before IsSameLink p (lanes_of w.0.root) w.0.held.links.items y (kept k w.0 w.1).links (ap (λ l. slice_get l p) (sym w.2) ∙ ey) in
        lane-later x0.0.enter x.enter y0.0.leave y.leave x0.2.enter y0.2.leave
        (together.lanes i k q p (lanes_of u.0.root) (lanes_of w.0.root) x0.0 y0.0 (map-found lanes_of i (cell_roots old) u.0.root (root-at net last old together i u.0 u.1)) (map-found lanes_of k (cell_roots old) w.0.root (root-at net last old together k w.0 w.1)) x0.1 y0.1
        (sym x0.2.neighbour ∙ nx) (sym y0.2.neighbour ∙ ny))

    one-net : net_at real (phased_net net) last ≡ net_at real (phased_net net) phase
    one-net = net-one real (phased_net net) last phase (eqb-true (trees_by (phased_net net).later last) (trees_by (phased_net net).later phase) one)

    abbrev raised-cells : (ℕ → Cell (machine_in net last)) → ℕ → Cell (machine_in net phase)
    raised-cells ends server = record { state = (ends server).state; clock = clock; put = (ends server).put; took = (ends server).took }

    raised-stand : (ends : ℕ → Cell (machine_in net last)) → RepresentCells net last old ends → (k : ℕ) (b : CellParts) → slice_get new k ≡ Some b → RepresentsCell net phase b.root.core.value (lanes_of b.root) (raised-cells ends (suc k))
    raised-stand ends stand k b e =
        let a = was k b e in
        let r = raised k a.0 b a.1 e in
        let s = stand.stand k a.0 a.1 in
        let links : lanes_of b.root ≡ a.0.held.links.items = ap (λ l. l.items) r.entered.links ∙ ap (λ l. l.items) r.lanes in
        let core : b.root.core.value ≡ record a.0.held.core { clock = clock } = r.entered.core ∙ r.core in
        record {
          state = subst (λ (n : Net real). RepresentsServer n b.root.core.value (ends (suc k)).state) one-net
              (subst (λ (z : CoreParts). RepresentsServer (net_at real (phased_net net) last) z (ends (suc k)).state) (sym core) (any-clock (net_at real (phased_net net) last) a.0.held.core clock (ends (suc k)).state s.state));
          clock = ap (λ (z : CoreParts). z.clock) core;
          put = λ link. ap (λ l. put_for net l link) links ∙ s.put link;
          took = λ link. ap (λ l. taken_from net l link) links ∙ s.took link;
        }

    raised-enters : (ends : ℕ → Cell (machine_in net last)) (stand : RepresentCells net last old ends) → at_phase real (phased_net net) phase (entered real (phased_net net) last phase (state_of net last ends)) ≡ network_of (machine_in net phase) (raised-cells ends)
    raised-enters ends stand =
        ap (at_phase real (phased_net net) phase) (is-begun (state_of net last ends) ∙ ap (λ b. cond b (with_clocks_raised real (phased_net net) last (state_of net last ends)) (with_tree_changed real (phased_net net) last phase (state_of net last ends))) one)
        ∙ (λ i. record { state = λ t. (ends t).state; clock = λ t. same i; put = λ u t. (ends u).put t; taken = λ u t. length ((ends t).took u) })
      where
        same : greatest (machine_in net last) (λ server. (ends server).clock) (servers_in net) ≡ clock
        same = sym (clock-is ends stand) ∙ sym high

    pub next-raised : AreEntered net last phase old new
    next-raised = record {
      together = together-next (λ k a b e f. (raised k a b e f).entered) ends-now;
      each = λ k a b e f. (raised k a b e f).entered;
      stand = λ ends stand. record {
        begun = raised-cells ends;
        stand = record { stand = raised-stand ends stand; others = outside-raised ends stand };
        enters = raised-enters ends stand;
      };
    }
      where
        outside-raised : (ends : ℕ → Cell (machine_in net last)) → RepresentCells net last old ends → (server : ℕ) → ((k : ℕ) → server ≡ suc k → k < length new → ⊥) → (link : ℕ) → ((raised-cells ends server).put link ≡ []) × ((raised-cells ends server).took link ≡ [])
        outside-raised ends stand server beyond link = outside ends stand server beyond link

  -- WITH ANOTHER TREE
  module _ (two : is_one_tree real (phased_net net) last phase ≡ false) (clock : ℕ) (high : clock ≡ greatest_cell_clock old) (homes : List NetHome) (given : List (Vec NetHeld Global)) (rows : List (List Link)) (plan : IsPlan net phase old homes given rows)
      (moved : (k : ℕ) (a b : CellParts) (links : Vec NetHeld Global) (row : List Link) → slice_get old k ≡ Some a → slice_get new k ≡ Some b → slice_get given k ≡ Some links → slice_get rows k ≡ Some row → HasMoved phase clock (held_in links.items) row a b) where
    -- what is known of a cell that moved
    record IsMover (k : ℕ) (b : CellParts) : Type 0 where
      pub old_cell : CellParts
      pub links : Vec NetHeld Global
      pub row : List Link
      pub at_old : slice_get old k ≡ Some old_cell
      pub at_given : slice_get given k ≡ Some links
      pub at_rows : slice_get rows k ≡ Some row
      pub has : HasMoved phase clock (held_in links.items) row old_cell b

    mover : (k : ℕ) (b : CellParts) → slice_get new k ≡ Some b → IsMover k b
    mover k b e =
        let lt = below-found k new b e in
        let a = was k b e in
        let many = plan.given_long in
        let l = get-below given k (omega (arith, lt, long, many)) in
        let most = plan.rows_long in
        let r = get-below rows k (omega (arith, lt, long, most)) in
        record { old_cell = a.0; links = l.0; row = r.0; at_old = a.1; at_given = l.1; at_rows = r.1; has = moved k a.0 b l.0 r.0 a.1 e l.1 r.1 }

    has-entered : (k : ℕ) (a b : CellParts) → slice_get old k ≡ Some a → slice_get new k ≡ Some b → HasEntered a.root phase b
    has-entered k a b e f = let m = mover k b f in subst (λ (c : CellParts). HasEntered c.root phase b) (same_Some m.old_cell a (sym m.at_old ∙ e)) m.has.entered

    row-now : (k : ℕ) (row : List Link) → slice_get (map lanes_of (cell_roots new)) k ≡ Some row → slice_get rows k ≡ Some row
    row-now k row f =
        let b = row-cell k row f in
        let m = mover k b.0 b.1 in
        m.at_rows ∙ ap (λ l. Some l) (sym m.has.lanes ∙ sym (ap (λ l. l.items) m.has.entered.links) ∙ b.2)

    abbrev moved-cells : (ℕ → Cell (machine_in net last)) → ℕ → Cell (machine_in net phase)
    moved-cells ends server = record { state = (with_tree_changed real (phased_net net) last phase (state_of net last ends)).state server; clock = clock; put = λ link. []; took = λ link. [] }

    moved-stand : (ends : ℕ → Cell (machine_in net last)) → RepresentCells net last old ends → (k : ℕ) (b : CellParts) → slice_get new k ≡ Some b → RepresentsCell net phase b.root.core.value (lanes_of b.root) (moved-cells ends (suc k))
    moved-stand ends stand k b e =
        let m = mover k b e in
        let state = (with_tree_changed real (phased_net net) last phase (state_of net last ends)).state (suc k) in
        let links : lanes_of b.root ≡ m.row = ap (λ l. l.items) m.has.entered.links ∙ m.has.lanes in
        let new-row = plan.lanes.new k m.row m.at_rows in
        let on-links : RepresentsServer (net_at real (phased_net net) phase) (record b.held.core { clock = m.old_cell.held.core.clock }) state = stands-moved net sound last phase old together kept homes given rows plan (state_of net last ends) (λ j cell f. (stand.stand j cell f).state) k m.old_cell m.links m.at_old m.at_given m.has.ledger (record b.held.core { clock = m.old_cell.held.core.clock }) m.has.linked m.has.suits m.has.core in
        record {
          state = subst (λ (z : CoreParts). RepresentsServer (net_at real (phased_net net) phase) z state) (sym m.has.entered.core) (any-clock (net_at real (phased_net net) phase) (record b.held.core { clock = m.old_cell.held.core.clock }) b.held.core.clock state on-links);
          clock = ap (λ (z : CoreParts). z.clock) m.has.entered.core ∙ m.has.clock_is;
          put = λ link. ap (λ l. put_for net l link) links ∙ new-put net m.row new-row link;
          took = λ link. ap (λ l. taken_from net l link) links ∙ new-taken net m.row new-row link;
        }

    moved-enters : (ends : ℕ → Cell (machine_in net last)) → RepresentCells net last old ends → at_phase real (phased_net net) phase (entered real (phased_net net) last phase (state_of net last ends)) ≡ network_of (machine_in net phase) (moved-cells ends)
    moved-enters ends stand =
        ap (at_phase real (phased_net net) phase) (is-begun (state_of net last ends) ∙ ap (λ b. cond b (with_clocks_raised real (phased_net net) last (state_of net last ends)) (with_tree_changed real (phased_net net) last phase (state_of net last ends))) two)
        ∙ (λ i. record { state = λ t. (with_tree_changed real (phased_net net) last phase (state_of net last ends)).state t; clock = λ t. same i; put = λ u t. []; taken = λ u t. 0 })
      where
        same : greatest (machine_in net last) (λ server. (ends server).clock) (servers_in net) ≡ clock
        same = sym (clock-is ends stand) ∙ sym high

    pub next-moved : AreEntered net last phase old new
    next-moved = record {
      together = together-next has-entered (λ i k q p a b x y ea eb. plan.lanes.ends i k q p a b x y (row-now i a ea) (row-now k b eb));
      each = has-entered;
      stand = λ ends stand. record {
        begun = moved-cells ends;
        stand = record { stand = moved-stand ends stand; others = nothing ends };
        enters = moved-enters ends stand;
      };
    }
      where
        nothing : (ends : ℕ → Cell (machine_in net last)) → (server : ℕ) → ((k : ℕ) → server ≡ suc k → k < length new → ⊥) → (link : ℕ) → ((moved-cells ends server).put link ≡ []) × ((moved-cells ends server).took link ≡ [])
        nothing ends server beyond link = (refl, refl)
