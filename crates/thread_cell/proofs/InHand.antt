-- With all cells in hand their journals have a merge, and where nothing is left to do the phase is ended.
use Rattle.std.proofs.Common.{◌≡◌, ℕ, zero, suc, ◌-◌, ◌<◌, ◌≤◌, nat_le, true, ◌&&◌, List, [], ◌∷◌, ◌++◌, ◌⊎◌, inl, inr, length, map, Option, Some, None, slice_get, refl, sym, ap, subst, ◌∙◌, arith}
use Rattle.std.proofs.lemmas.Bool.Decides.{nat_tests}
use Rattle.std.proofs.lemmas.Option.{same_Some}
use Rattle.base.specs.Sets.{Has}
use Rattle.base.specs.Numbers.{IsDistinct}
use Rattle.law_machine.specs.Machine.{Machine, Entry, Input, Does, Receives, Stamped, next_stamp}
use Rattle.law_machine.specs.Journals.{Cell, IsReplay, IsJournal, IsMerge, IsPhaseInHand, IsPrefix, cell_after}
use Rattle.law_machine.proofs.Exists.{merge-some}
use Rattle.law_machine.proofs.Lists.{Same, Is, Not, compare, prefix-self}
use Rattle.law_routing.specs.Net.{Net, PhasedCommand}
use Rattle.law_routing.specs.Server.{ServerState}
use Rattle.law_routing.specs.Routing.{all_through, not_below}
use Rattle.base_tree.proofs.Servers.{server-in}
use Rattle.law_phases.specs.Trees.{net_at}
use Rattle.net_model.specs.Real.{real}
use Rattle.thread_cell.specs.Acted.{Represented}
use Rattle.net_model.specs.Parts.{NetParts}
use Rattle.net_model.specs.Meaning.{phased_command}
use Rattle.net_model.specs.Nets.{phased_net, first_tree}
use Rattle.server_core.specs.Core.{CoreParts, RepresentsServer}
use Rattle.server_core.specs.Pending.{is_some_there}
use Rattle.thread_cell.specs.declared.link.Link.{Link}
use Rattle.thread_cell.specs.Links.{IsNeighbour}
use Rattle.thread_cell.specs.LaneMessages.{put_for, taken_from}
use Rattle.thread_cell.specs.Cell.{CellParts, RepresentsCell, IsDue, machine_in}
use Rattle.thread_cell.specs.Together.{AreTogether, AreBegun, AreDone, IsFinished, HasNoCommand, phase_entries, journals, root_links, of_server, cell_roots, sight, sights}
use Rattle.thread_cell.specs.InHand.{AreAllInHand, AreReceivedInOrder}
use Rattle.thread_cell.proofs.Places.{below-found}
use Rattle.thread_cell.proofs.Due.{DueAt, due-state, session-of, script-of, done-of}
use Rattle.thread_cell.proofs.Gathered.{IsKeptCell, map-found, one-suc, there-or-not, neighbour-then, root-at, number-at, count-cells, among, numbered, back}
use Rattle.base.proofs.Lists.{map-get, get-below}

-- the servers up to n
abbrev pub upto : ℕ → List ℕ
upto zero = []
upto (suc n) = suc n ∷ upto n

upto-low : (n x : ℕ) → Has x (upto n) → x ≤ n
upto-low zero x h = absurd h
upto-low (suc n) x (inl e) = omega (arith, e)
upto-low (suc n) x (inr h) = let le = upto-low n x h in omega (arith, le)

upto-distinct : (n : ℕ) → IsDistinct (upto n)
upto-distinct zero = tt
upto-distinct (suc n) = ((λ h. let le = upto-low n (suc n) h in omega (arith, le)), upto-distinct n)

equal-or-below : (k n : ℕ) → k < suc n → (k ≡ n) ⊎ (k < n)
equal-or-below k n lt = grind arith

upto-has : (n k : ℕ) → k < n → Has (suc k) (upto n)
upto-has zero k lt = absurd (omega (arith, lt))
upto-has (suc n) k lt = elim (equal-or-below k n lt) [ inl e ↦ inl (ap suc e) | inr l ↦ inr (upto-has n k l) ]

module _ {X Y : Type 0} where
  -- the value of a server that is there, and of one that is not
  of-found : (f : X → Y) (none : Y) (xs : List X) (k : ℕ) (x : X) → slice_get xs k ≡ Some x → of_server none (map f xs) (suc k) ≡ f x
  of-found f none [] k x e = absurd cc
  of-found f none (y ∷ xs) zero x e = ap f (same_Some y x e)
  of-found f none (y ∷ xs) (suc k) x e = of-found f none xs k x e

  of-none : (f : X → Y) (none : Y) (xs : List X) (k : ℕ) → slice_get xs k ≡ None → of_server none (map f xs) (suc k) ≡ none
  of-none f none [] k e = refl
  of-none f none (y ∷ xs) zero e = absurd cc
  of-none f none (y ∷ xs) (suc k) e = of-none f none xs k e

none-within : {X : Type 0} (xs : List X) (k : ℕ) → slice_get xs k ≡ None → k < length xs → ⊥
none-within xs k e lt = let f = get-below xs k lt in let q : Some f.0 ≡ None = sym f.1 ∙ e in cc

-- a number is the neighbour at some place, or nothing was put for it and taken from it
place-or-none : (net : NetParts) (u : ℕ) (xs : List Link) → ((p : ℕ) × IsNeighbour p u xs) ⊎ (((p : ℕ) → IsNeighbour p u xs → ⊥) × (put_for net xs u ≡ []) × (taken_from net xs u ≡ []))
place-or-none net u [] = inr ((λ p n. let e = n.1 in cc), refl, refl)
place-or-none net u (x ∷ xs) = go (compare x.neighbour u) (place-or-none net u xs)
  where
    go : Same x.neighbour u → ((p : ℕ) × IsNeighbour p u xs) ⊎ (((p : ℕ) → IsNeighbour p u xs → ⊥) × (put_for net xs u ≡ []) × (taken_from net xs u ≡ []))
        → ((p : ℕ) × IsNeighbour p u (x ∷ xs)) ⊎ (((p : ℕ) → IsNeighbour p u (x ∷ xs) → ⊥) × (put_for net (x ∷ xs) u ≡ []) × (taken_from net (x ∷ xs) u ≡ []))
    go (Is e v) next = inl (0, (x, refl, e))
    go (Not e v) (inl n) = inl (suc n.0, n.1)
    go (Not e v) (inr n) = inr (other, rw v n.1, rw v n.2)
      where
        other : (p : ℕ) → IsNeighbour p u (x ∷ xs) → ⊥
        other zero h = e (ap (λ (w : Link). w.neighbour) (same_Some x h.0 h.1) ∙ h.2)
        other (suc p) h = n.0 p h

module _ (m : Machine) where
  later-stamp : (c : ℕ) (input : Input m.Task (Stamped m.Message)) → c < next_stamp m c input
  later-stamp c (Does task) = omega arith
  later-stamp c (Receives from s) = omega arith

  -- a journal that replays has rising stamps
  pub replay-journal : (k t : ℕ) (c : Cell m) (es : List (Entry m)) (c' : Cell m) → IsReplay m k t c es c' → ((f : Entry m) → Has f es → c.clock < f.stamp) × IsJournal m t es
  replay-journal k t c [] c' r = ((λ f h. absurd h), tt)
  replay-journal k t c (e ∷ es) c' (due, input, outcome, step, q, rest) =
      let ih = replay-journal k t (cell_after m c input outcome) es c' rest in
      let stamp : e.stamp ≡ next_stamp m c.clock input = ap (λ (w : Entry m). w.stamp) q in
      let low = later-stamp c.clock input in (
        (λ f h. elim h [ inl a ↦ (let s : f.stamp ≡ e.stamp = ap (λ (w : Entry m). w.stamp) a in omega (arith, s, stamp, low)) | inr b ↦ (let g = ih.0 f b in omega (arith, g, low)) ]),
        (ap (λ (w : Entry m). w.server) q, (λ f h. let g = ih.0 f h in omega (arith, g, stamp)), ih.1),
      )

  pub journals-merge : (n : ℕ) (js : ℕ → List (Entry m)) → ((t : ℕ) → IsJournal m t (js t)) → ((t : ℕ) → (Has t (upto n) → ⊥) → js t ≡ []) → (merged : List (Entry m)) × IsMerge m js merged
  journals-merge n js j none =
      let ys = merge-some m (upto n) (upto-distinct n) js j in
      (ys.0, record { order = ys.1; parts = λ t. elim (in-or-out t (upto n)) [ inl h ↦ ys.3 t h | inr o ↦ ys.4 t o ∙ sym (none t o) ] })
    where
      in-or-out : (t : ℕ) (xs : List ℕ) → Has t xs ⊎ (Has t xs → ⊥)
      in-or-out t [] = inr (λ h. h)
      in-or-out t (x ∷ xs) = go (compare t x) (in-or-out t xs)
        where
          go : Same t x → Has t xs ⊎ (Has t xs → ⊥) → Has t (x ∷ xs) ⊎ (Has t (x ∷ xs) → ⊥)
          go (Is p v) y = inl (inl p)
          go (Not n v) (inl h) = inl (inr h)
          go (Not n v) (inr h) = inr (λ z. elim z [ inl a ↦ n a | inr b ↦ h b ])

-- the end of a cell's journal of its phase, replayed
pub record EndsAt (net : NetParts) (phase server : ℕ) (cell : CellParts) (begun : Cell (machine_in net phase)) : Type 0 where
  pub end : Cell (machine_in net phase)
  pub replay : IsReplay (machine_in net phase) phase server begun (phase_entries net phase cell) end
  pub stands : RepresentsCell net phase cell.held.core cell.held.links.items end

abbrev Replays : CellParts → NetParts → ℕ → ℕ → Type 0
Replays cell net phase server = (begun : Cell (machine_in net phase)) → RepresentsCell net phase cell.root.core.value (root_links cell.root) begun → EndsAt net phase server cell begun

ends-kept : (cell : CellParts) → IsKeptCell cell → Replays cell cell.root.net.value cell.root.phase cell.root.server
ends-kept cell kept begun is = let r = kept.replays begun is in record { end = r.end; replay = r.replay; stands = r.stands }

-- no client of a state has a command of the phase left
through-all : (net : Net real) (state : ServerState real) (phase : ℕ) (clients : List ℕ) → ((client : ℕ) → Has client clients → (c : PhasedCommand real) → slice_get (net.script client) (state.done client) ≡ Some c → phase < c.phase) → all_through real net state (suc phase) clients ≡ true
through-all net state phase [] f = refl
through-all net state phase (client ∷ clients) f = both (slice_get (net.script client) (state.done client)) refl (through-all net state phase clients (λ c h. f c (inr h)))
  where
    both : (o : Option (PhasedCommand real)) → slice_get (net.script client) (state.done client) ≡ o → all_through real net state (suc phase) clients ≡ true → (not_below real net (suc phase) (slice_get (net.script client) (state.done client)) && all_through real net state (suc phase) clients) ≡ true
    both None e q = rw (e, q) refl
    both (Some c) e q = let lt = f client (inl refl) c e in let t : nat_le (suc phase) c.phase ≡ true = grind (arith, nat_tests, lt) in rw (e, q, t) refl

not-equal : (a b : ℕ) → a ≤ b → (b ≡ a → ⊥) → a < b
not-equal a b le n = grind arith

module _ (net : Net real) (core : CoreParts) (state : ServerState real) (stands : RepresentsServer net core state) (phase : ℕ) (due : DueAt net core.server state phase) (none : HasNoCommand core phase) where
  left-above : (client : ℕ) → Has client (net.clients core.server) → (c : PhasedCommand real) → slice_get (net.script client) (state.done client) ≡ Some c → phase < c.phase
  left-above client h c e = not-equal phase c.phase (due.left client c h e) own
    where
      own : c.phase ≡ phase → ⊥
      own q =
          let s = session-of net core state stands phase client h in
          let x = map-get phased_command s.0.script s.0.taken c (subst (λ n. slice_get (map phased_command s.0.script) n ≡ Some c) (done-of net core state stands phase s.0 s.1 client s.2) (subst (λ l. slice_get l (state.done client) ≡ Some c) (script-of net core state stands phase s.0 s.1 client s.2) e)) in
          none client (s.0, s.1, sym s.2, (x.0, x.1, ap (λ (z : PhasedCommand real). z.phase) x.2 ∙ q))

  pub is-through : all_through real net state (suc phase) (net.clients core.server) ≡ true
  is-through = through-all net state phase (net.clients core.server) left-above

module _ (net : NetParts) (phase : ℕ) (cells : List CellParts) (together : AreTogether net phase (cell_roots cells)) (kept : (k : ℕ) (cell : CellParts) → slice_get cells k ≡ Some cell → IsKeptCell cell)
    (begun : ℕ → Cell (machine_in net phase)) (is : AreBegun net phase cells begun) where
  abbrev here : Net real
  here = net_at real (phased_net net) phase

  abbrev lines-of : ℕ → List (Entry (machine_in net phase))
  lines-of = journals net phase cells

  abbrev put-in : ℕ → ℕ → List Represented
  put-in s = of_server (λ (link : ℕ). []) (map (λ (c : CellParts). λ link. put_for c.root.net.value c.held.links.items link) cells) s

  abbrev taken-in : ℕ → ℕ → List Represented
  taken-in s = of_server (λ (link : ℕ). []) (map (λ (c : CellParts). λ link. taken_from c.root.net.value c.held.links.items link) cells) s

  -- what is known of the end of each server, also of a number that is none
  record Piece (s : ℕ) : Type 0 where
    end : Cell (machine_in net phase)
    replay : IsReplay (machine_in net phase) phase s (begun s) (lines-of s) end
    put : (link : ℕ) → put-in s link ≡ end.put link
    took : (link : ℕ) → taken-in s link ≡ end.took link
    stands : (k : ℕ) (cell : CellParts) → s ≡ suc k → slice_get cells k ≡ Some cell → RepresentsCell net phase cell.held.core cell.held.links.items end
    other : ((k : ℕ) → s ≡ suc k → k < length cells → ⊥) → end ≡ begun s

  -- of a number that is no server
  outside : (s : ℕ) → ((k : ℕ) → s ≡ suc k → k < length cells → ⊥) → lines-of s ≡ [] → ((link : ℕ) → put-in s link ≡ []) → ((link : ℕ) → taken-in s link ≡ []) → Piece s
  outside s beyond lines put took = record {
    end = begun s;
    replay = subst (λ l. IsReplay (machine_in net phase) phase s (begun s) l (begun s)) (sym lines) refl;
    put = λ link. put link ∙ sym (is.others s beyond link).0;
    took = λ link. took link ∙ sym (is.others s beyond link).1;
    stands = λ k cell e f. absurd (beyond k e (below-found k cells cell f));
    other = λ beyond. refl;
  }

  piece : (s : ℕ) → Piece s
  piece zero = outside 0 (λ k e lt. omega (arith, e)) refl (λ link. refl) (λ link. refl)
  piece (suc k) = go (there-or-not cells k)
    where
      go : ((cell : CellParts) × (slice_get cells k ≡ Some cell)) ⊎ (slice_get cells k ≡ None) → Piece (suc k)
      go (inr e) = outside (suc k) (λ j q lt. none-within cells k e (subst (λ n. n < length cells) (sym (one-suc k j q)) lt)) (of-none (phase_entries net phase) [] cells k e)
          (λ link. ap (λ (f : ℕ → List Represented). f link) (of-none (λ (c : CellParts). λ link. put_for c.root.net.value c.held.links.items link) (λ (link : ℕ). []) cells k e))
          (λ link. ap (λ (f : ℕ → List Represented). f link) (of-none (λ (c : CellParts). λ link. taken_from c.root.net.value c.held.links.items link) (λ (link : ℕ). []) cells k e))
      go (inl (cell, e)) = record {
        end = ended.end;
        replay = subst (λ l. IsReplay (machine_in net phase) phase (suc k) (begun (suc k)) l ended.end) (sym (of-found (phase_entries net phase) [] cells k cell e)) ended.replay;
        put = λ link. ap (λ (f : ℕ → List Represented). f link) (of-found (λ (c : CellParts). λ link. put_for c.root.net.value c.held.links.items link) (λ (link : ℕ). []) cells k cell e) ∙ ap (λ n. put_for n cell.held.links.items link) (together.nets k cell.root root) ∙ ended.stands.put link;
        took = λ link. ap (λ (f : ℕ → List Represented). f link) (of-found (λ (c : CellParts). λ link. taken_from c.root.net.value c.held.links.items link) (λ (link : ℕ). []) cells k cell e) ∙ ap (λ n. taken_from n cell.held.links.items link) (together.nets k cell.root root) ∙ ended.stands.took link;
        stands = λ j other q f. subst (λ (c : CellParts). RepresentsCell net phase c.held.core c.held.links.items ended.end) (same_Some cell other (sym e ∙ ap (λ n. slice_get cells n) (one-suc k j q) ∙ f)) ended.stands;
        other = λ beyond. absurd (beyond k refl (below-found k cells cell e));
      }
        where
          root : slice_get (cell_roots cells) k ≡ Some cell.root
          root = root-at net phase cells together k cell e

          ended : EndsAt net phase (suc k) cell (begun (suc k))
          ended =
              subst (λ s. Replays cell net phase s) (together.numbers k cell.root root)
              (subst (λ p. Replays cell net p cell.root.server) (together.phases k cell.root root) (subst (λ n. Replays cell n cell.root.phase cell.root.server) (together.nets k cell.root root) (ends-kept cell (kept k cell e))))
              (begun (suc k)) (is.stand k cell e)

  pub ends : ℕ → Cell (machine_in net phase)
  ends s = (piece s).end

  -- a server is one of these, or nothing was put there and taken
  look : (s : ℕ) → ((k : ℕ) × (cell : CellParts) × (s ≡ suc k) × (slice_get cells k ≡ Some cell)) ⊎ (((k : ℕ) → s ≡ suc k → k < length cells → ⊥) × ((link : ℕ) → put-in s link ≡ []) × ((link : ℕ) → taken-in s link ≡ []))
  look zero = inr ((λ k e lt. omega (arith, e)), (λ link. refl), (λ link. refl))
  look (suc k) = go (there-or-not cells k)
    where
      go : ((cell : CellParts) × (slice_get cells k ≡ Some cell)) ⊎ (slice_get cells k ≡ None)
          → ((j : ℕ) × (cell : CellParts) × (suc k ≡ suc j) × (slice_get cells j ≡ Some cell)) ⊎ (((j : ℕ) → suc k ≡ suc j → j < length cells → ⊥) × ((link : ℕ) → put-in (suc k) link ≡ []) × ((link : ℕ) → taken-in (suc k) link ≡ []))
      go (inl (cell, e)) = inl (k, cell, refl, e)
      go (inr e) = inr (
        (λ j q lt. none-within cells k e (subst (λ n. n < length cells) (sym (one-suc k j q)) lt)),
        (λ link. ap (λ (f : ℕ → List Represented). f link) (of-none (λ (c : CellParts). λ link. put_for c.root.net.value c.held.links.items link) (λ (link : ℕ). []) cells k e)),
        (λ link. ap (λ (f : ℕ → List Represented). f link) (of-none (λ (c : CellParts). λ link. taken_from c.root.net.value c.held.links.items link) (λ (link : ℕ). []) cells k e)),
      )

  put-here : (k : ℕ) (cell : CellParts) → slice_get cells k ≡ Some cell → (link : ℕ) → put-in (suc k) link ≡ put_for cell.root.net.value cell.held.links.items link
  put-here k cell e link = ap (λ (f : ℕ → List Represented). f link) (of-found (λ (c : CellParts). λ link. put_for c.root.net.value c.held.links.items link) (λ (link : ℕ). []) cells k cell e)

  taken-here : (k : ℕ) (cell : CellParts) → slice_get cells k ≡ Some cell → (link : ℕ) → taken-in (suc k) link ≡ taken_from cell.root.net.value cell.held.links.items link
  taken-here k cell e link = ap (λ (f : ℕ → List Represented). f link) (of-found (λ (c : CellParts). λ link. taken_from c.root.net.value c.held.links.items link) (λ (link : ℕ). []) cells k cell e)

  -- a neighbour of a cell is one of these, and has it as a neighbour
  neighbour : (k : ℕ) (cell : CellParts) (p u : ℕ) → slice_get cells k ≡ Some cell → IsNeighbour p u cell.held.links.items
      → (i : ℕ) × (o : CellParts) × (u ≡ suc i) × (slice_get cells i ≡ Some o) × ((q : ℕ) × IsNeighbour q (suc k) o.held.links.items)
  neighbour k cell p u e n =
      let lt = among net phase cells together k p u cell e (kept k cell e) n in
      let one = numbered net phase cells together k p u cell e (kept k cell e) n in
      let f = get-below cells (u - 1) lt in
      let b = back net phase cells together k p u cell e (kept k cell e) n f.0 f.1 (kept (u - 1) f.0 f.1) in
      (u - 1, f.0, omega (arith, one), f.1, (b.0, subst (λ s. IsNeighbour b.0 s f.0.held.links.items) (number-at net phase cells together k cell e) b.1))

  lines-none : (t : ℕ) → (Has t (upto (length cells)) → ⊥) → lines-of t ≡ []
  lines-none zero n = refl
  lines-none (suc k) n = go (there-or-not cells k)
    where
      go : ((cell : CellParts) × (slice_get cells k ≡ Some cell)) ⊎ (slice_get cells k ≡ None) → lines-of (suc k) ≡ []
      go (inl (cell, e)) = absurd (n (upto-has (length cells) k (below-found k cells cell e)))
      go (inr e) = of-none (phase_entries net phase) [] cells k e

  server-of : (s : ℕ) → Has s here.servers → (k : ℕ) × (cell : CellParts) × (s ≡ suc k) × (slice_get cells k ≡ Some cell)
  server-of s h =
      let r = server-in (first_tree net.trees).count s h in
      let c = count-cells net phase cells together in
      let f = get-below cells (s - 1) (omega (arith, r.0, r.1, c)) in
      (s - 1, f.0, omega (arith, r.0), f.1)

  merge : (merged : List (Entry (machine_in net phase))) × IsMerge (machine_in net phase) lines-of merged
  unfolding ends
  merge = journals-merge (machine_in net phase) (length cells) lines-of (λ t. (replay-journal (machine_in net phase) phase t (begun t) (lines-of t) (ends t) (piece t).replay).1) lines-none

  core-number : (k : ℕ) (cell : CellParts) → slice_get cells k ≡ Some cell → cell.held.core.server ≡ suc k
  core-number k cell e = (kept k cell e).number ∙ number-at net phase cells together k cell e

  -- the phase is in hand, where what each took is the beginning of what was put
  phase-in-hand : ((a b : ℕ) → IsPrefix ((ends b).took a) ((ends a).put b)) → IsPhaseInHand (machine_in net phase) phase begun lines-of merge.0 ends
  unfolding ends
  phase-in-hand took = record { merge = merge.1; replay = λ s. (piece s).replay; took = took }

  module _ (order : AreReceivedInOrder (sights cells)) where
    none-taken : (xs ys : List Represented) → xs ≡ [] → IsPrefix xs ys
    none-taken xs ys e = (ys, ap (λ l. l ++ ys) e)

    -- what is taken is the beginning of what was put
    begin-items : (a b : ℕ) → IsPrefix (taken-in b a) (put-in a b)
    begin-items a b = go (look b)
      where
        go : ((k : ℕ) × (hb : CellParts) × (b ≡ suc k) × (slice_get cells k ≡ Some hb)) ⊎ (((k : ℕ) → b ≡ suc k → k < length cells → ⊥) × ((link : ℕ) → put-in b link ≡ []) × ((link : ℕ) → taken-in b link ≡ [])) → IsPrefix (taken-in b a) (put-in a b)
        go (inr nb) = none-taken (taken-in b a) (put-in a b) (nb.2 a)
        go (inl (k, hb, eb, fb)) = subst (λ l. IsPrefix l (put-in a b)) (sym (ap (λ s. taken-in s a) eb ∙ taken-here k hb fb a)) (at (place-or-none hb.root.net.value a hb.held.links.items))
          where
            at : ((p : ℕ) × IsNeighbour p a hb.held.links.items) ⊎ (((p : ℕ) → IsNeighbour p a hb.held.links.items → ⊥) × (put_for hb.root.net.value hb.held.links.items a ≡ []) × (taken_from hb.root.net.value hb.held.links.items a ≡ [])) → IsPrefix (taken_from hb.root.net.value hb.held.links.items a) (put-in a b)
            at (inr n) = none-taken (taken_from hb.root.net.value hb.held.links.items a) (put-in a b) n.2
            at (inl n) =
                let o = neighbour k hb n.0 a fb n.1 in
                let y = neighbour-then hb n.0 a (kept k hb fb) n.1 in
                let lt : k < length (sights cells) = below-found k (sights cells) (sight hb) (map-found sight k cells hb fb) in
                let up = order k n.0 lt (sight hb) (sight o.1) y.0 o.0 (map-found sight k cells hb fb) y.1 (map-found sight o.0 cells o.1 o.3) (y.2 ∙ o.2) in
                let put : put_for o.1.root.net.value o.1.held.links.items hb.root.server ≡ put-in a b = ap (λ s. put_for o.1.root.net.value o.1.held.links.items s) (number-at net phase cells together k hb fb ∙ sym eb) ∙ sym (ap (λ s. put-in s b) o.2 ∙ put-here o.0 o.1 o.3 b) in
                subst (λ u. IsPrefix (taken_from hb.root.net.value hb.held.links.items u) (put-in a b)) y.2 (subst (λ l. IsPrefix (taken_from hb.root.net.value hb.held.links.items y.0.neighbour) l) put up)

    begins : (a b : ℕ) → IsPrefix ((ends b).took a) ((ends a).put b)
    unfolding ends
    begins a b = subst (λ l. IsPrefix l ((ends a).put b)) ((piece b).took a) (subst (λ l. IsPrefix (taken-in b a) l) ((piece a).put b) (begin-items a b))

    pub all-in-hand : AreAllInHand net phase cells begun
    unfolding ends
    all-in-hand = record {
      ends = ends;
      merged = merge.0;
      in_hand = phase-in-hand begins;
      stand = λ k cell e. (piece (suc k)).stands k cell refl e;
      others = λ s beyond. (piece s).other beyond;
    }

  module _ (done : AreDone (sights cells)) where
    -- all that was put is taken
    same-items : (a b : ℕ) → taken-in b a ≡ put-in a b
    same-items a b = go (look a) (look b)
      where
        put-none : (i : ℕ) (ha : CellParts) → a ≡ suc i → slice_get cells i ≡ Some ha → ((p : ℕ) → IsNeighbour p b ha.held.links.items → ⊥) → put-in a b ≡ []
        put-none i ha ea fa without = ap (λ s. put-in s b) ea ∙ put-here i ha fa b ∙ at (place-or-none ha.root.net.value b ha.held.links.items)
          where
            at : ((p : ℕ) × IsNeighbour p b ha.held.links.items) ⊎ (((p : ℕ) → IsNeighbour p b ha.held.links.items → ⊥) × (put_for ha.root.net.value ha.held.links.items b ≡ []) × (taken_from ha.root.net.value ha.held.links.items b ≡ [])) → put_for ha.root.net.value ha.held.links.items b ≡ []
            at (inl n) = absurd (without n.0 n.1)
            at (inr n) = n.1

        go : ((i : ℕ) × (ha : CellParts) × (a ≡ suc i) × (slice_get cells i ≡ Some ha)) ⊎ (((k : ℕ) → a ≡ suc k → k < length cells → ⊥) × ((link : ℕ) → put-in a link ≡ []) × ((link : ℕ) → taken-in a link ≡ []))
            → ((k : ℕ) × (hb : CellParts) × (b ≡ suc k) × (slice_get cells k ≡ Some hb)) ⊎ (((k : ℕ) → b ≡ suc k → k < length cells → ⊥) × ((link : ℕ) → put-in b link ≡ []) × ((link : ℕ) → taken-in b link ≡ [])) → taken-in b a ≡ put-in a b
        go (inr na) (inr nb) = nb.2 a ∙ sym (na.1 b)
        go (inl (i, ha, ea, fa)) (inr nb) = nb.2 a ∙ sym (put-none i ha ea fa (λ p n. let o = neighbour i ha p b fa n in nb.0 o.0 o.2 (below-found o.0 cells o.1 o.3)))
        go na (inl (k, hb, eb, fb)) = ap (λ s. taken-in s a) eb ∙ taken-here k hb fb a ∙ at na (place-or-none hb.root.net.value a hb.held.links.items)
          where
            at : ((i : ℕ) × (ha : CellParts) × (a ≡ suc i) × (slice_get cells i ≡ Some ha)) ⊎ (((k : ℕ) → a ≡ suc k → k < length cells → ⊥) × ((link : ℕ) → put-in a link ≡ []) × ((link : ℕ) → taken-in a link ≡ []))
                → ((p : ℕ) × IsNeighbour p a hb.held.links.items) ⊎ (((p : ℕ) → IsNeighbour p a hb.held.links.items → ⊥) × (put_for hb.root.net.value hb.held.links.items a ≡ []) × (taken_from hb.root.net.value hb.held.links.items a ≡ [])) → taken_from hb.root.net.value hb.held.links.items a ≡ put-in a b
            at (inr na) (inr n) = n.2 ∙ sym (na.1 b)
            at (inl (i, ha, ea, fa)) (inr n) = n.2 ∙ sym (put-none i ha ea fa (λ p m.
                let o = neighbour i ha p b fa m in
                let j : o.0 ≡ k = one-suc o.0 k (sym o.2 ∙ eb) in
                let same : o.1 ≡ hb = same_Some o.1 hb (sym o.3 ∙ ap (λ n. slice_get cells n) j ∙ fb) in
                n.0 o.4.0 (subst (λ s. IsNeighbour o.4.0 s hb.held.links.items) (sym ea) (subst (λ (c : CellParts). IsNeighbour o.4.0 (suc i) c.held.links.items) same o.4.1))))
            at na (inl n) =
                let o = neighbour k hb n.0 a fb n.1 in
                let y = neighbour-then hb n.0 a (kept k hb fb) n.1 in
                let lt : k < length (sights cells) = below-found k (sights cells) (sight hb) (map-found sight k cells hb fb) in
                let up = (done k lt).taken n.0 (sight hb) (sight o.1) y.0 o.0 (map-found sight k cells hb fb) y.1 (map-found sight o.0 cells o.1 o.3) (y.2 ∙ o.2) in
                ap (λ u. taken_from hb.root.net.value hb.held.links.items u) (sym y.2) ∙ up ∙ ap (λ s. put_for o.1.root.net.value o.1.held.links.items s) (number-at net phase cells together k hb fb ∙ sym eb) ∙ sym (ap (λ s. put-in s b) o.2 ∙ put-here o.0 o.1 o.3 b)

    equal : (a b : ℕ) → (ends b).took a ≡ (ends a).put b
    unfolding ends
    equal a b = sym ((piece b).took a) ∙ same-items a b ∙ (piece a).put b

    -- what is seen of a cell that is done
    calm-at : (k : ℕ) (cell : CellParts) → slice_get cells k ≡ Some cell → cell.held.core.pending ≡ []
    calm-at k cell e =
        let f = map-found sight k cells cell e in
        (done k (below-found k (sights cells) (sight cell) f)).calm (sight cell) f

    through-at : (k : ℕ) (cell : CellParts) → slice_get cells k ≡ Some cell → HasNoCommand cell.held.core phase
    through-at k cell e =
        let f = map-found sight k cells cell e in
        subst (λ p. HasNoCommand cell.held.core p) (together.phases k cell.root (root-at net phase cells together k cell e)) ((done k (below-found k (sights cells) (sight cell) f)).through (sight cell) f)

    pub finished : IsFinished net phase cells begun
    unfolding ends
    finished = record {
      ends = ends;
      merged = merge.0;
      in_hand = phase-in-hand (λ a b. subst (λ l. IsPrefix l ((ends a).put b)) (sym (equal a b)) (prefix-self ((ends a).put b)));
      ended = record {
        quiet = record {
          empty = λ a b. ap (λ (l : List Represented). length l) (equal a b);
          calm = λ s h.
              let o = server-of s h in
              (stands-at s o.0 o.1 o.2 o.3).state.pending ∙ ap (λ l. is_some_there l) (calm-at o.0 o.1 o.3);
        };
        through = λ s h.
            let o = server-of s h in
            let st = (stands-at s o.0 o.1 o.2 o.3).state in
            subst (λ n. all_through real here (ends s).state (suc phase) (here.clients n) ≡ true) (core-number o.0 o.1 o.3 ∙ sym o.2)
            (is-through here o.1.held.core (ends s).state st phase
            (due-state here o.1.held.core (ends s).state st phase (subst (λ p. IsDue p o.1.held.core.clients) (together.phases o.0 o.1.root (root-at net phase cells together o.0 o.1 o.3)) (kept o.0 o.1 o.3).due)) (through-at o.0 o.1 o.3));
      };
      stand = λ k cell e. (piece (suc k)).stands k cell refl e;
      others = λ s beyond. (piece s).other beyond;
    }
      where
        stands-at : (s k : ℕ) (cell : CellParts) → s ≡ suc k → slice_get cells k ≡ Some cell → RepresentsCell net phase cell.held.core cell.held.links.items (ends s)
        stands-at s k cell q e = (piece s).stands k cell q e
