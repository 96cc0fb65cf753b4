-- The net on the tree of each phase is a net, and phases of one tree have one net.
use Rattle.std.proofs.Common.{◌≡◌, ℕ, suc, ◌≤◌, Bool, true, false, cond, nat_le, List, [], ◌∷◌, inl, inr, refl, ap, ◌∙◌, arith, slice_get, Option, Some, None}
use Rattle.base.specs.Sets.{Has}
use Rattle.law_machine.specs.Machine.{Act, Did, Received, act_phase}
use Rattle.law_routing.specs.Theory.{Theory}
use Rattle.law_routing.specs.Net.{Net, NetLaws, PhasedCommand}
use Rattle.law_routing.specs.Server.{ServerState}
use Rattle.law_routing.specs.Step.{Task, NextCommand, TableUpdate}
use Rattle.law_routing.specs.Routing.{phase_of}
use Rattle.law_phases.specs.Trees.{Tree, tree_after, trees_by, JoinsServers, PhasedNet, PhasedNetLaws, net_at, machine_at}

-- as many trees have come, so it is one tree
pub tree-one : (t : Tree) (ts : List (ℕ × Tree)) (a b : ℕ) → trees_by ts a ≡ trees_by ts b → tree_after t ts a ≡ tree_after t ts b
tree-one t [] a b e = refl
tree-one t (x ∷ ts) a b e = go (nat_le x.0 a) (nat_le x.0 b) (tree-one x.1 ts a b) e
  where
    go : (p q : Bool) → (trees_by ts a ≡ trees_by ts b → tree_after x.1 ts a ≡ tree_after x.1 ts b) → cond p (suc (trees_by ts a)) 0 ≡ cond q (suc (trees_by ts b)) 0 → cond p (tree_after x.1 ts a) t ≡ cond q (tree_after x.1 ts b) t
    go true true ih e = ih (omega (arith, e))
    go false false ih e = refl
    go true false ih e = absurd (omega (arith, e))
    go false true ih e = absurd (omega (arith, e))

-- trees never go back
pub trees-rise : (ts : List (ℕ × Tree)) (a b : ℕ) → a ≤ b → trees_by ts a ≤ trees_by ts b
trees-rise [] a b l = omega arith
trees-rise (x ∷ ts) a b l = go (nat_le x.0 a) (nat_le x.0 b) refl refl (trees-rise ts a b l)
  where
    go : (p q : Bool) → nat_le x.0 a ≡ p → nat_le x.0 b ≡ q → trees_by ts a ≤ trees_by ts b → cond p (suc (trees_by ts a)) 0 ≤ cond q (suc (trees_by ts b)) 0
    go true true e f ih = omega (arith, ih)
    go true false e f ih = absurd (grind (arith, e, f, l))
    go false q e f ih = omega arith

pub between : (ts : List (ℕ × Tree)) (a b c : ℕ) → a ≤ b → b ≤ c → trees_by ts a ≡ trees_by ts c → trees_by ts a ≡ trees_by ts b
between ts a b c l g e = omega (arith, trees-rise ts a b l, trees-rise ts b c g, e)

joins-each : (servers : List ℕ) (t : Tree) (ts : List (ℕ × Tree)) (k : ℕ) → JoinsServers servers t → ((x : ℕ × Tree) → Has x ts → JoinsServers servers x.1) → JoinsServers servers (tree_after t ts k)
joins-each servers t [] k one all = one
joins-each servers t (x ∷ ts) k one all = go (nat_le x.0 k) (joins-each servers x.1 ts k (all x (inl refl)) (λ y h. all y (inr h)))
  where
    go : (b : Bool) → JoinsServers servers (tree_after x.1 ts k) → JoinsServers servers (cond b (tree_after x.1 ts k) t)
    go true ih = ih
    go false ih = one

module _ (th : Theory) (net : PhasedNet th) where
  -- the net on a tree
  abbrev pub net-on : Tree → Net th
  net-on tree = record { adverts = net.adverts; servers = net.servers; links = tree.links; hop = tree.hop; home = net.home; clients = net.clients; script = net.script }

  pub net-one : (a b : ℕ) → trees_by net.later a ≡ trees_by net.later b → net_at th net a ≡ net_at th net b
  net-one a b e = ap net-on (tree-one net.tree net.later a b e)

  pub net-laws : PhasedNetLaws th net → (k : ℕ) → NetLaws th (net_at th net k)
  net-laws good k =
      let joins = joins-each net.servers net.tree net.later k good.first good.later in
      record { tree = joins.hops; small = joins.small; counted = good.counted; housed = good.housed; lives = good.lives; single = good.single; phased = good.phased }

  -- the phase of a command is the same on all trees
  pub phase-one : (a b t : ℕ) (s s' : ServerState th) (x : Act Task) → s.done ≡ s'.done → act_phase (machine_at th net a) t s x ≡ act_phase (machine_at th net b) t s' x
  phase-one a b t s s' (Received u) e = refl
  phase-one a b t s s' (Did TableUpdate) e = refl
  phase-one a b t s s' (Did (NextCommand c)) e = go (slice_get (net.script c) (s.done c)) ∙ ap (λ z. phase_of th (net_at th net b) (slice_get (net.script c) (z c))) e
    where
      go : (o : Option (PhasedCommand th)) → phase_of th (net_at th net a) o ≡ phase_of th (net_at th net b) o
      go None = refl
      go (Some y) = refl
