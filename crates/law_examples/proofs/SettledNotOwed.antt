-- A publication that is settled wherever it passes and is not owed.
use Rattle.std.proofs.Common.{◌≡◌, ℕ, zero, suc, ◌<◌, List, [], ◌∷◌, slice_get, Option, Some, None, inl, inr, refl, sym, ap, subst, ◌∙◌, arith}
use Rattle.std.proofs.lemmas.Option.{same_Some}
use Rattle.base.specs.Sets.{Has}
use Rattle.law_machine.specs.Machine.{Act, Did, Received, Stamped}
use Rattle.law_routing.specs.Net.{Net, PhasedCommand, Subscribe, Unsubscribe, Publish}
use Rattle.law_routing.specs.Server.{Publication, Message, Noticed}
use Rattle.law_routing.specs.Owed.{IsOwed}
use Rattle.law_routing.specs.Step.{Task, NextCommand, TableUpdate, Work, SetsFilters, Routes, InstallsTable}
use Rattle.law_routing.specs.Works.{work_at}
use Rattle.law_routing.specs.Routing.{NetEntry}
use Rattle.law_phases.specs.Trees.{JournalEntry, PhasedNet, net_at, entries_on}
use Rattle.law_phases.specs.Moments.{opening_moment, moment_of}
use Rattle.law_phases.specs.Runs.{IsRunTo, PhasedRun}
use Rattle.law_phases.specs.AtMoments.{DrainsBy, AllBelow, states, states_on}
use Rattle.law_phases.specs.Routes.{IsRoutedOn}
use Rattle.law_phases.specs.Settled.{IsSettledHere, IsSettledTo, IsSettledOn, IsAllReceivedBy}
use Rattle.law_phases.specs.Owing.{IsOwedByScripts}
use Rattle.law_phases.proofs.Moments.{run-ends}
use Rattle.law_phases.proofs.Walks.{walk-drains}
use Rattle.law_examples.specs.Ranges.{Range, Any, ranges}
use Rattle.law_examples.specs.SmallNets.{in_phase, ranges_publication, withdrawn_pair}
use Rattle.law_examples.specs.Phased.{on_one_tree, phased_walk}
use Rattle.law_examples.proofs.Lawful.{ranges-laws}
use Rattle.law_examples.proofs.LawfulNets.{withdrawn_pair-lawful}
use Rattle.law_examples.proofs.Phased.{single-laws}
use Rattle.base.proofs.Numbers.{each-of-three}

abbrev pub net : PhasedNet ranges
net = on_one_tree ranges withdrawn_pair

abbrev pub journal : List JournalEntry
journal = phased_walk ranges net 2

low : AllBelow ranges net 2
low = each-of-three (λ c. (x : PhasedCommand ranges) → Has x (net.script c) → x.phase < 2) two (one (in_phase 1 (Publish 9)) (omega arith)) (λ x h. absurd h) (λ c y z w x h. absurd (rw (y, z) at h))
  where
    one : (y : PhasedCommand ranges) → y.phase < 2 → (x : PhasedCommand ranges) → Has x (y ∷ []) → x.phase < 2
    one y l x (inl e) = subst (λ (z : PhasedCommand ranges). z.phase < 2) (sym e) l
    one y l x (inr h) = absurd h

    two : (x : PhasedCommand ranges) → Has x (in_phase 0 (Subscribe Any) ∷ in_phase 1 (Unsubscribe Any) ∷ []) → x.phase < 2
    two x (inl e) = subst (λ (z : PhasedCommand ranges). z.phase < 2) (sym e) (omega arith)
    two x (inr h) = one (in_phase 1 (Unsubscribe Any)) (omega arith) x h

abbrev none : PhasedRun ranges
none = record { net = net; laws = single-laws ranges withdrawn_pair withdrawn_pair-lawful; journal = []; end = (opening_moment ranges net).state; last = 0; legal = (refl, refl) }

pub pair-drains : DrainsBy ranges net journal
pair-drains = let x = walk-drains ranges ranges-laws none 2 low (omega arith) in record { end = record { state = x.0; phase = x.1 }; run = x.2; drained = x.3 }

-- the walk as a run, with its end computed
pub legal-pair : IsRunTo ranges net (opening_moment ranges net) journal (moment_of ranges net journal 10)
legal-pair = subst (λ z. IsRunTo ranges net (opening_moment ranges net) journal z) (sym (run-ends ranges net (opening_moment ranges net).state 0 journal pair-drains.end.state pair-drains.end.phase pair-drains.run)) pair-drains.run

abbrev pub run : PhasedRun ranges
run = record {
  net = net;
  laws = single-laws ranges withdrawn_pair withdrawn_pair-lawful;
  journal = journal;
  end = (moment_of ranges net journal 10).state;
  last = (moment_of ranges net journal 10).phase;
  legal = legal-pair;
}

abbrev pub published : Publication ranges
published = ranges_publication 2 1 9

abbrev tree : Net ranges
tree = net_at ranges net 1

-- an entry at another server routes nothing here
elsewhere : (m place interface : ℕ) (entry : NetEntry ranges tree) → slice_get (entries_on ranges tree journal) m ≡ Some entry → (entry.server ≡ place → ⊥) → IsRoutedOn ranges run tree m place interface published → ⊥
elsewhere m place interface entry at other r = other (ap (λ (z : NetEntry ranges tree). z.server) (same_Some entry r.entry (sym at ∙ r.at)) ∙ r.server)

-- an entry with other work neither
otherwise : (m place interface : ℕ) (entry : NetEntry ranges tree) (work : Option (Work ranges)) → slice_get (entries_on ranges tree journal) m ≡ Some entry → work_at ranges tree (states_on ranges run tree m) place entry.act ≡ work
    → (work ≡ Some (Routes interface 2 1 9) → ⊥) → IsRoutedOn ranges run tree m place interface published → ⊥
otherwise m place interface entry work at is other r =
    other (sym is ∙ ap (λ (z : NetEntry ranges tree). work_at ranges tree (states_on ranges run tree m) place z.act) (same_Some entry r.entry (sym at ∙ r.at)) ∙ r.routes)

abbrev entry : ℕ → ℕ → Act Task → List ℕ → NetEntry ranges tree
entry stamp server act outs = record { stamp = stamp; server = server; act = act; outs = outs }

two-one : ◌≡◌ {A = ℕ} 2 1 → ⊥
two-one e = absurd (omega (arith, e))

one-two : ◌≡◌ {A = ℕ} 1 2 → ⊥
one-two e = absurd (omega (arith, e))

sets-none : (i j : ℕ) (fs : List Range) → ◌≡◌ {A = Option (Work ranges)} (Some (SetsFilters i fs)) (Some (Routes j 2 1 9)) → ⊥
sets-none i j fs e = cc

shows-none : (j : ℕ) → ◌≡◌ {A = Option (Work ranges)} (Some InstallsTable) (Some (Routes j 2 1 9)) → ⊥
shows-none j e = cc

past-none : (x : NetEntry ranges tree) → ◌≡◌ {A = Option (NetEntry ranges tree)} None (Some x) → ⊥
past-none x e = cc

-- at the publisher's server it is settled when it sets out
sets-out : IsSettledHere ranges run tree 1 published 1 [] 2 (1 ∷ [])
sets-out zero i t r = absurd (elsewhere 0 2 i (entry 1 1 (Did (NextCommand 1)) (2 ∷ [])) refl one-two r)
sets-out (suc zero) i t r = absurd (elsewhere 1 2 i (entry 2 1 (Did TableUpdate) []) refl one-two r)
sets-out (suc (suc zero)) i t r = absurd (otherwise 2 2 i (entry 2 2 (Received 1) []) (Some (SetsFilters 1 (Any ∷ []))) refl refl (sets-none 1 i (Any ∷ [])) r)
sets-out (suc (suc (suc zero))) i t r = absurd (otherwise 3 2 i (entry 3 2 (Did TableUpdate) []) (Some InstallsTable) refl refl (shows-none i) r)
sets-out (suc (suc (suc (suc zero)))) i t r = absurd (elsewhere 4 2 i (entry 4 1 (Did (NextCommand 1)) (2 ∷ [])) refl one-two r)
sets-out (suc (suc (suc (suc (suc zero))))) i t r = record { filter = Any; wanted = inl refl; matches = refl; allowed = ((λ e. absurd (cc e)), tt) }
sets-out (suc (suc (suc (suc (suc (suc zero)))))) i t r = absurd (elsewhere 6 2 i (entry 5 1 (Received 2) []) refl one-two r)
sets-out (suc (suc (suc (suc (suc (suc (suc zero))))))) i t r = absurd (elsewhere 7 2 i (entry 6 1 (Did TableUpdate) []) refl one-two r)
sets-out (suc (suc (suc (suc (suc (suc (suc (suc zero)))))))) i t r = absurd (otherwise 8 2 i (entry 5 2 (Received 1) []) (Some (SetsFilters 1 [])) refl refl (sets-none 1 i []) r)
sets-out (suc (suc (suc (suc (suc (suc (suc (suc (suc zero))))))))) i t r = absurd (otherwise 9 2 i (entry 6 2 (Did TableUpdate) []) (Some InstallsTable) refl refl (shows-none i) r)
sets-out (suc (suc (suc (suc (suc (suc (suc (suc (suc (suc m)))))))))) i t r = absurd (past-none r.entry r.at)

-- and at the subscriber's when it arrives
arrives : IsSettledHere ranges run tree 1 published 1 (2 ∷ []) 1 []
arrives zero i t r = absurd (otherwise 0 1 i (entry 1 1 (Did (NextCommand 1)) (2 ∷ [])) (Some (SetsFilters 65 (Any ∷ []))) refl refl (sets-none 65 i (Any ∷ [])) r)
arrives (suc zero) i t r = absurd (otherwise 1 1 i (entry 2 1 (Did TableUpdate) []) (Some InstallsTable) refl refl (shows-none i) r)
arrives (suc (suc zero)) i t r = absurd (elsewhere 2 1 i (entry 2 2 (Received 1) []) refl two-one r)
arrives (suc (suc (suc zero))) i t r = absurd (elsewhere 3 1 i (entry 3 2 (Did TableUpdate) []) refl two-one r)
arrives (suc (suc (suc (suc zero)))) i t r = absurd (otherwise 4 1 i (entry 4 1 (Did (NextCommand 1)) (2 ∷ [])) (Some (SetsFilters 65 [])) refl refl (sets-none 65 i []) r)
arrives (suc (suc (suc (suc (suc zero))))) i t r = absurd (elsewhere 5 1 i (entry 4 2 (Did (NextCommand 2)) (1 ∷ [])) refl two-one r)
arrives (suc (suc (suc (suc (suc (suc zero)))))) i t r = record { filter = Any; wanted = inl refl; matches = refl; allowed = tt }
arrives (suc (suc (suc (suc (suc (suc (suc zero))))))) i t r = absurd (otherwise 7 1 i (entry 6 1 (Did TableUpdate) []) (Some InstallsTable) refl refl (shows-none i) r)
arrives (suc (suc (suc (suc (suc (suc (suc (suc zero)))))))) i t r = absurd (elsewhere 8 1 i (entry 5 2 (Received 1) []) refl two-one r)
arrives (suc (suc (suc (suc (suc (suc (suc (suc (suc zero))))))))) i t r = absurd (elsewhere 9 1 i (entry 6 2 (Did TableUpdate) []) refl two-one r)
arrives (suc (suc (suc (suc (suc (suc (suc (suc (suc (suc m)))))))))) i t r = absurd (past-none r.entry r.at)

pub settled-pair : IsSettledTo ranges run published 1
settled-pair = record {
  here = inl refl;
  moment = 5;
  published = record { entry = entry 4 2 (Did (NextCommand 2)) (1 ∷ []); at = refl; server = refl; routes = refl };
  path = 1 ∷ [];
  way = (inl refl, one-two, tt);
  lives = inl refl;
  settled = (sets-out, arrives);
  taken = λ t. (taken, tt);
}
  where
    taken : (k : ℕ) (x : Stamped (Message ranges)) → slice_get (run.end.put 2 1) k ≡ Some x → x.message ≡ Noticed 2 1 9 → k < run.end.taken 2 1
    taken zero x at is = omega arith
    taken (suc k) x at is = absurd cc

-- it is received after seven of the ten entries, while the withdrawal is on its way
pub on-way-pair : IsSettledOn ranges run published 1
on-way-pair = record {
  here = inl refl;
  moment = 5;
  published = record { entry = entry 4 2 (Did (NextCommand 2)) (1 ∷ []); at = refl; server = refl; routes = refl };
  path = 1 ∷ [];
  way = (inl refl, one-two, tt);
  lives = inl refl;
  settled = (sets-out, arrives);
}

pub received-pair : IsAllReceivedBy ranges run 7 published 1 on-way-pair
unfolding on-way-pair
received-pair = record { within = omega arith; published = omega arith; taken = λ t. (received, tt) }
  where
    received : (k : ℕ) (x : Stamped (Message ranges)) → slice_get ((states ranges run 7).put 2 1) k ≡ Some x → x.message ≡ Noticed 2 1 9 → k < (states ranges run 7).taken 2 1
    received zero x at is = omega arith
    received (suc k) x at is = absurd cc

pub pair-not-owed : IsOwedByScripts ranges net published 1 → ⊥
pair-not-owed o = let owed = subst (λ p. IsOwed ranges (net_at ranges net p) 2 p 9 1) (sym (of-phase o.published.index o.published.command o.published.at ∙ o.published.phase)) o.owed in
    owed.always 2 (record { from = omega arith; upto = omega arith })
  where
    of-phase : (index : ℕ) (command : PhasedCommand ranges) → slice_get (net.script 2) index ≡ Some command → 1 ≡ command.phase
    of-phase zero command at = ap (λ (z : PhasedCommand ranges). z.phase) (same_Some (in_phase 1 (Publish 9)) command at)
    of-phase (suc k) command at = absurd cc
