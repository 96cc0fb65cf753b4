-- The parts of a net are sound: clients with their scripts, counted commands, trees.
use Rattle.std.proofs.Common.{◌≡◌, ℕ, ◌+◌, ◌<◌, ◌≤◌, Bool, not, List, [], ◌∷◌, ◌++◌, inl, inr, map, refl, sym, ap, subst, ◌∙◌, arith}
use Rattle.base.specs.Sets.{Has}
use Rattle.base.specs.Numbers.{count}
use Rattle.base_tree.specs.Tree.{Topology, TreeLaws}
use Rattle.law_routing.specs.Net.{NeverFalls, PhasedCommand}
use Rattle.law_routing.specs.Clients.{is_publish}
use Rattle.law_phases.specs.Trees.{RiseFrom}
use Rattle.net_model.specs.Real.{real}
use Rattle.filter_text.specs.declared.command.Command.{Command}
use Rattle.net_model.specs.Meaning.{command_of, phased_command}
use Rattle.net_model.specs.Nets.{first_tree}
use Rattle.net_model.specs.Sound.{HasTrees, IsAmong, IsSoundClient, controls, publishes}
use Rattle.document_reader.specs.declared.draft.Draft.{Draft}
use Rattle.document_reader.specs.Drafts.{scriptless, with_barrier, with_command}
use Rattle.document_reader.specs.Drawn.{Block}
use Rattle.document_reader.specs.Net.{AreTreesOf, client_of}
use Rattle.document_reader.proofs.Members.{has-more, sum_more}

-- A client.

pub sound_scriptless : (servers : ℕ) (name : List ℕ) (home : ℕ) → IsAmong servers home → IsSoundClient servers (client_of (scriptless name home))
sound_scriptless servers name home h = record { home = h; barriers = omega arith; never_falls = tt; within = λ step m. absurd m }

pub sound_barrier : (servers : ℕ) (d : Draft) → d.client.barriers < 4095 → IsSoundClient servers (client_of d) → IsSoundClient servers (client_of (with_barrier d))
sound_barrier servers d l h = record { home = h.home; barriers = omega arith; never_falls = h.never_falls; within = λ step m. omega (arith, h.within step m) }

pub has-mapped : (steps : List (ℕ × Command)) (s : ℕ × Command) → Has s steps → Has (phased_command s) (map phased_command steps)
has-mapped [] s m = absurd m
has-mapped (step ∷ steps) s (inl e) = inl (ap phased_command e)
has-mapped (step ∷ steps) s (inr m) = inr (has-mapped steps s m)

has-map : (steps : List (ℕ × Command)) (p : PhasedCommand real) → Has p (map phased_command steps) → (step : ℕ × Command) × Has step steps × (p ≡ phased_command step)
has-map [] p m = absurd m
has-map (step ∷ steps) p (inl e) = (step, inl refl, e)
has-map (step ∷ steps) p (inr m) = let r = has-map steps p m in (r.0, inr r.1, r.2)

never-falls-more : (steps : List (ℕ × Command)) (phase : ℕ) (c : Command) → NeverFalls real (map phased_command steps) → ((step : ℕ × Command) → Has step steps → step.0 ≤ phase) → NeverFalls real (map phased_command (steps ++ (phase, c) ∷ []))
never-falls-more [] phase c h l = ((λ later m. absurd m), tt)
never-falls-more (step ∷ steps) phase c h l = ((λ later m. go later (has-map (steps ++ (phase, c) ∷ []) later m)), never-falls-more steps phase c h.1 (λ s m. l s (inr m)))
  where
    go : (later : PhasedCommand real) → ((s : ℕ × Command) × Has s (steps ++ (phase, c) ∷ []) × (later ≡ phased_command s)) → step.0 ≤ later.phase
    go later r = elim (has-more steps (phase, c) r.0 r.1) as (λ z. step.0 ≤ later.phase) [
      | inl m ↦ subst (λ (p : PhasedCommand real). step.0 ≤ p.phase) (sym r.2) (h.0 (phased_command r.0) (has-mapped steps r.0 m))
      | inr e ↦ subst (λ (p : PhasedCommand real). step.0 ≤ p.phase) (sym r.2) (subst (λ (s : ℕ × Command). step.0 ≤ s.0) (sym e) (l step (inl refl)))
    ]

pub sound_command : (servers : ℕ) (c : Command) (d : Draft) → IsSoundClient servers (client_of d) → IsSoundClient servers (client_of (with_command c d))
sound_command servers c d h = record {
  home = h.home;
  barriers = h.barriers;
  never_falls = never-falls-more d.client.script d.client.barriers c h.never_falls h.within;
  within = λ step m. elim (has-more d.client.script (d.client.barriers, c) step m) as (λ z. step.0 ≤ d.client.barriers) [
    | inl k ↦ h.within step k
    | inr e ↦ subst (λ (s : ℕ × Command). s.0 ≤ d.client.barriers) (sym e) (omega arith)
  ];
}

-- the steps of one more command, where it is counted and where not
abbrev pub is_control : Command → Bool
is_control c = not (is_publish real (command_of c))

pub controls_more : (c : Command) (d : Draft) → controls (client_of (with_command c d)) ≡ controls (client_of d) + count (is_control c)
controls_more c d = sum_more (λ (step : ℕ × Command). count (is_control step.1)) d.client.script (d.client.barriers, c)

pub publishes_more : (c : Command) (d : Draft) → publishes (client_of (with_command c d)) ≡ publishes (client_of d) + count (is_publish real (command_of c))
publishes_more c d = sum_more (λ (step : ℕ × Command). count (is_publish real (command_of step.1))) d.client.script (d.client.barriers, c)

-- Trees.

-- the first tree is that of phase 0, and the first phases rise
abbrev pub Rises : List Block → Type 0
Rises [] = ⊥
Rises (b ∷ bs) = (b.0 ≡ 0) × RiseFrom 0 bs

rise_edges : (p q : ℕ) (xs : List Block) (a b : List (ℕ × ℕ)) → RiseFrom p (xs ++ (q, a) ∷ []) → RiseFrom p (xs ++ (q, b) ∷ [])
rise_edges p q [] a b h = h
rise_edges p q (x ∷ xs) a b h = (h.0, rise_edges x.0 q xs a b h.1)

pub rises_edges : (q : ℕ) (xs : List Block) (a b : List (ℕ × ℕ)) → Rises (xs ++ (q, a) ∷ []) → Rises (xs ++ (q, b) ∷ [])
rises_edges q [] a b h = h
rises_edges q (x ∷ xs) a b h = (h.0, rise_edges 0 q xs a b h.1)

rise_phase : (p q k : ℕ) (xs : List Block) (a b : List (ℕ × ℕ)) → q < k → RiseFrom p (xs ++ (q, a) ∷ []) → RiseFrom p ((xs ++ (q, a) ∷ []) ++ (k, b) ∷ [])
rise_phase p q k [] a b l h = (h.0, (l, tt))
rise_phase p q k (x ∷ xs) a b l h = (h.0, rise_phase x.0 q k xs a b l h.1)

pub rises_phase : (q k : ℕ) (xs : List Block) (a b : List (ℕ × ℕ)) → q < k → Rises (xs ++ (q, a) ∷ []) → Rises ((xs ++ (q, a) ∷ []) ++ (k, b) ∷ [])
rises_phase q k [] a b l h = (h.0, (omega (arith, h.0), tt))
rises_phase q k (x ∷ xs) a b l h = (h.0, rise_phase 0 q k xs a b l h.1)

rise_trees : (servers p : ℕ) (bs : List Block) (ts : List (ℕ × Topology)) → AreTreesOf servers bs ts → RiseFrom p bs → RiseFrom p ts
rise_trees servers p [] [] a h = tt
rise_trees servers p [] (t ∷ ts) a h = absurd a
rise_trees servers p (b ∷ bs) [] a h = absurd a
rise_trees servers p (b ∷ bs) (t ∷ ts) a h = (omega (arith, a.0.phase, h.0), subst (λ (q : ℕ). RiseFrom q ts) (sym a.0.phase) (rise_trees servers b.0 bs ts a.1 h.1))

trees_laws : (servers : ℕ) (bs : List Block) (ts : List (ℕ × Topology)) → AreTreesOf servers bs ts → (t : ℕ × Topology) → Has t ts → TreeLaws t.1 × (t.1.count ≡ servers)
trees_laws servers [] [] a t m = absurd m
trees_laws servers [] (x ∷ ts) a t m = absurd a
trees_laws servers (b ∷ bs) [] a t m = absurd a
trees_laws servers (b ∷ bs) (x ∷ ts) a t (inl e) = subst (λ (y : ℕ × Topology). TreeLaws y.1 × (y.1.count ≡ servers)) (sym e) (a.0.laws, a.0.count)
trees_laws servers (b ∷ bs) (x ∷ ts) a t (inr m) = trees_laws servers bs ts a.1 t m

pub has_trees : (servers : ℕ) (bs : List Block) (ts : List (ℕ × Topology)) → AreTreesOf servers bs ts → Rises bs → HasTrees ts × ((first_tree ts).count ≡ servers)
has_trees servers [] ts a h = absurd h
has_trees servers (b ∷ bs) [] a h = absurd a
has_trees servers (b ∷ bs) (t ∷ ts) a h = (
  record {
    begins = a.0.phase ∙ h.0;
    rising = rise_trees servers 0 bs ts a.1 h.1;
    tree = a.0.laws;
    trees = λ next m. (trees_laws servers bs ts a.1 next m).0;
    same = λ next m. (trees_laws servers bs ts a.1 next m).1 ∙ sym a.0.count;
  },
  a.0.count,
)
