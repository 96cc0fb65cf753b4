-- After each step of a core its pairs are those of what it installed.
use Rattle.std.proofs.Common.{◌≡◌, ◌↔◌, ◌<◌, max, ℕ, List, [], ◌∷◌, length, inl, inr, Result, Ok, Err, IfOk, OnOk, OnErr, IsErrOf, sym, subst, ◌∙◌, arith}
use Rattle.base.specs.Sets.{Has}
use Rattle.filter_constraints.specs.Constraint.{ConstraintParts}
use Rattle.law_machine.specs.Machine.{Does, Receives}
use Rattle.law_routing.specs.Server.{Message}
use Rattle.law_routing.specs.Step.{NextCommand, TableUpdate}
use Rattle.net_model.specs.Real.{real}
use Rattle.filter_text.specs.Messages.{Lists}
use Rattle.server_spec.specs.Control.{subs}
use Rattle.net_model.specs.Parts.{NetParts}
use Rattle.net_tables.specs.Known.{known_filters}
use Rattle.match_routes.specs.declared.table_change.TableChange.{TableChange}
use Rattle.match_routes.specs.Installed.{Installed, IsKnown, IsOfSame, AreKnown, pair_in, all_changed}
use Rattle.server_message.specs.Parts.{SendingParts}
use Rattle.server_core.specs.declared.stepped.StepFault.{StepFault}
use Rattle.server_core.specs.declared.stepped.StepFault.TheVariants.{StampsExhausted}
use Rattle.server_core.specs.Core.{CoreParts, installed_from}
use Rattle.server_core.specs.Pending.{IsPending, RepresentPairs}
use Rattle.server_core.specs.Step.{MakesStep, last_stamp}
use Rattle.sequential_network.specs.Kept.{RepresentsForwarding, IsPlace}
use Rattle.sequential_network.specs.Stepping.{IsSome, peers}
use Rattle.server_core.proofs.KeepsInstalled.{kept_by_command, kept_by_reception, held_by_update}

-- the same pairs represent what is the same
pub forwarding-same : (net : NetParts) (interfaces : List ℕ) (one other : ℕ → Lists) (f : Installed) → ((i : ℕ) → other i ≡ one i) → RepresentsForwarding net interfaces one f → RepresentsForwarding net interfaces other f
forwarding-same net interfaces one other f same is = record {
  width = is.width;
  interfaces_are = is.interfaces_are;
  pairs = λ i k x e. (λ m. subst (Has x) (sym (same i)) ((is.pairs i k x e).0 m), λ m. (is.pairs i k x e).1 (subst (Has x) (same i) m));
  known = λ i x m. is.known i x (subst (Has x) (same i) m);
}

pub forwarding-at : (net other : NetParts) (interfaces others : List ℕ) (installed : ℕ → Lists) (f : Installed) → other ≡ net → others ≡ interfaces → RepresentsForwarding net interfaces installed f → RepresentsForwarding other others installed f
forwarding-at net other interfaces others installed f e d is = subst (λ z. RepresentsForwarding z others installed f) (sym e) (subst (λ z. RepresentsForwarding net z installed f) (sym d) is)

-- nothing represents nothing
pub forwarding-none : (net : NetParts) (interfaces : List ℕ) (installed : ℕ → Lists) (f : Installed) → f.width ≡ length (known_filters net.clients) → f.interfaces ≡ interfaces → f.pairs ≡ []
    → ((i : ℕ) → installed i ≡ []) → RepresentsForwarding net interfaces installed f
forwarding-none net interfaces installed f width same none empty = record {
  width = width;
  interfaces_are = same;
  pairs = λ i k x e. (λ m. absurd (subst (Has (i, k)) none m), λ m. absurd (subst (Has x) (empty i) m));
  known = λ i x m. absurd (subst (Has x) (empty i) m);
}

-- changes of a forwarding that are known to it
all-known : (f : Installed) (changes : List TableChange) → ((c : TableChange) → Has c changes → IsKnown f (pair_in c)) → AreKnown f changes
all-known f [] each = tt
all-known f (c ∷ cs) each = (each c (inl refl), all-known f cs (λ x m. each x (inr m)))
  where
    refl : c ≡ c
    refl i = c

module _ (net : NetParts) (interfaces : List ℕ) (installed held : ℕ → Lists) (pending : List TableChange) (f : Installed)
    (is : RepresentsForwarding net interfaces installed f) (changes : IsPending (known_filters net.clients) interfaces installed held pending) where
  pub pending_known : AreKnown f pending
  pending_known = all-known f pending (λ c m. record {
    interface = subst (Has (pair_in c).0) (sym is.interfaces_are) (changes.interfaces_known c m);
    number = let n = changes.numbers c m in let w = is.width in omega (arith, n, w);
  })

  -- they make it that of what is held
  pub forwarding_turned : (g : Installed) → IsOfSame g f → g.pairs ≡ all_changed pending f.pairs → ((i : ℕ) (x : List ConstraintParts) → Has x (held i) → Has x (known_filters net.clients))
      → RepresentsForwarding net interfaces held g
  forwarding_turned g same pairs known = record {
    width = same.width ∙ is.width;
    interfaces_are = same.interfaces ∙ is.interfaces_are;
    pairs = subst (RepresentPairs (known_filters net.clients) held) (sym pairs) (changes.turned f.pairs is.pairs);
    known = known;
  }

-- a step whose stamps are below the greatest is made
pub not_exhausted : {T : Type 0} (answer : Result T StepFault) (clock : ℕ) → clock < last_stamp → ((s : ℕ) → IsErrOf answer (StampsExhausted s) ↔ ((clock ≡ last_stamp) × (s ≡ last_stamp)))
    → (s : ℕ) → answer ≡ Err (StampsExhausted s) → ⊥
not_exhausted answer clock low exhausted s e = let w = ((exhausted s).0 e).0 in omega (arith, low, w)

pub not_exhausted_reception : {T : Type 0} (answer : Result T StepFault) (clock stamp : ℕ) → (clock < last_stamp) × (stamp < last_stamp)
    → ((s : ℕ) → IsErrOf answer (StampsExhausted s) ↔ ((max clock stamp ≡ last_stamp) × (s ≡ last_stamp))) → (s : ℕ) → answer ≡ Err (StampsExhausted s) → ⊥
not_exhausted_reception answer clock stamp low exhausted s f = let w = ((exhausted s).0 f).0 in omega (arith, low.0, low.1, w)

module _ (core next : CoreParts) (f : Installed) where
  stays : next.net ≡ core.net → next.interfaces ≡ core.interfaces → ((i : ℕ) → installed_from next i ≡ installed_from core i) → IsPlace core f → IsPlace next f
  stays net interfaces same is =
      forwarding-at core.net next.net core.interfaces next.interfaces (installed_from next) f net interfaces
      (forwarding-same core.net core.interfaces (installed_from core) (installed_from next) f same is)

  pub placed_after_command : (client : ℕ) → IsSome peers core → {T : Type 0} (answer : Result T StepFault) (stamp : T → ℕ) (sent : T → List SendingParts)
      → IfOk answer (λ s. MakesStep (Does (NextCommand client)) 0 core next (stamp s) (sent s)) → OnOk answer (next.interfaces ≡ core.interfaces) → OnErr answer (next ≡ core)
      → IsPlace core f → IsPlace next f
  placed_after_command client (net, laws, state, stands) (Ok s) stamp sent step interfaces same is =
      stays step.same_net interfaces (kept_by_command net state core next (sent s) stands client (step.step net state stands) step.same_server) is
  placed_after_command client some (Err e) stamp sent step interfaces same is = subst (λ z. IsPlace z f) (sym same) is

  pub placed_after_reception : (from : ℕ) (m : Message real) (taken : ℕ) → IsSome peers core → {T : Type 0} (answer : Result T StepFault) (stamp : T → ℕ) (sent : T → List SendingParts)
      → IfOk answer (λ s. MakesStep (Receives from m) taken core next (stamp s) (sent s)) → OnOk answer (next.interfaces ≡ core.interfaces) → OnErr answer (next ≡ core)
      → IsPlace core f → IsPlace next f
  placed_after_reception from m taken (net, laws, state, stands) (Ok s) stamp sent step interfaces same is =
      stays step.same_net interfaces (kept_by_reception net state core next (sent s) stands from m (step.step net state stands) step.same_server) is
  placed_after_reception from m taken some (Err e) stamp sent step interfaces same is = subst (λ z. IsPlace z f) (sym same) is

  pub placed_after_update : (g : Installed) (stamp : ℕ) → IsSome peers core → MakesStep (Does TableUpdate) 0 core next stamp [] → next.interfaces ≡ core.interfaces
      → IsPending (known_filters core.net.clients) core.interfaces (installed_from core) (subs core.control) core.pending
      → ((i : ℕ) (x : List ConstraintParts) → Has x (subs core.control i) → Has x (known_filters core.net.clients))
      → IsOfSame g f → g.pairs ≡ all_changed core.pending f.pairs → IsPlace core f → IsPlace next g
  placed_after_update g stamp (net, laws, state, stands) step interfaces pending known same pairs is =
      forwarding-at core.net next.net core.interfaces next.interfaces (installed_from next) g step.same_net interfaces
      (forwarding-same core.net core.interfaces (subs core.control) (installed_from next) g
      (held_by_update net state core next [] stands (step.step net state stands) step.same_server)
      (forwarding_turned core.net core.interfaces (installed_from core) (subs core.control) core.pending f is pending g same pairs known))
