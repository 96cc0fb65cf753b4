-- What a work does at a server of a hierarchy, beside what it does among peers that no advertisement steers.
use Rattle.std.proofs.Common.{◌≡◌, ℕ, ◌==◌, Bool, true, false, cond, not, ◌&&◌, List, [], ◌∷◌, filter, refl, sym, ap, ap₂, ◌∙◌, append-nil, arith}
use Rattle.std.proofs.lemmas.Bool.Decides.{nat_tests}
use Rattle.base.specs.Sets.{roots}
use Rattle.law_routing.specs.Net.{Net}
use Rattle.law_routing.specs.Server.{Message, ServerState, is_among, union_except, interfaces, sent, messages_to, filter_change}
use Rattle.law_routing.specs.Step.{SetsFilters, with_filters}
use Rattle.law_routing.specs.Step.{effect as peer_effect}
use Rattle.net_model.specs.Real.{real}
use Rattle.filter_constraints.specs.Constraint.{ConstraintParts}
use Rattle.law_hierarchy.specs.Masters.{top, master, is_master, up}
use Rattle.law_hierarchy.specs.Step.{effect}
use Rattle.hierarchy_network.specs.Core.{unsteered}
use Rattle.base.proofs.Lists.{filter-true}
use Rattle.std.proofs.lemmas.Bool.{and_parts}

module _ (net : Net real) (server : ℕ) where
  its-master : (link : ℕ) → is_master real net server link ≡ true → link ≡ master real net server
  its-master link e = let q = (and_parts (not (server == top)) (link == master real net server) e).1 in grind (arith, nat_tests, q)

  -- what goes up is what peers send to the master
  up-sent : (state : ServerState real) (link : ℕ) → link ≡ master real net server → sent real (unsteered net) state server link ≡ up real net state server
  up-sent state link e =
      ap (roots real.covers real.before) (filter-true (union_except real.before state.subs link (interfaces real net server)))
      ∙ ap (λ z. roots real.covers real.before (union_except real.before state.subs z (interfaces real net server))) e

  up-change : (old new : ServerState real) (link : ℕ) → link ≡ master real net server → messages_to real (unsteered net) old new server link ≡ filter_change real net (up real net old server) (up real net new server)
  up-change old new link e =
      append-nil (filter_change real net (sent real (unsteered net) old server link) (sent real (unsteered net) new server link))
      ∙ ap₂ (λ xs ys. filter_change real net xs ys) (up-sent old link e) (up-sent new link e)

  -- of a change of filters the messages to the master are sent
  pub filters-up : (state : ServerState real) (i : ℕ) (fs : List (List ConstraintParts)) (master link : ℕ) → is_master real net server link ≡ (link == master)
      → cond (link == master) ((peer_effect real (unsteered net) server state (SetsFilters i fs)).outs link) [] ≡ (effect real net server state (SetsFilters i fs)).outs link
  filters-up state i fs m link same =
      ap (λ b. cond b ((peer_effect real (unsteered net) server state (SetsFilters i fs)).outs link) []) (sym same) ∙ go (is_master real net server link) refl (is_among link (net.links server))
    where
      change : List (Message real)
      change = filter_change real net (up real net state server) (up real net (with_filters real net state i fs) server)

      go : (b : Bool) → is_master real net server link ≡ b → (a : Bool)
          → cond b (cond a (messages_to real (unsteered net) state (with_filters real (unsteered net) state i fs) server link) []) [] ≡ cond a (cond b change []) []
      go true e a = ap (λ z. cond a z []) (up-change state (with_filters real net state i fs) link (its-master link e))
      go false e true = refl
      go false e false = refl
