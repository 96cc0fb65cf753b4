-- After each step of a core what is installed by numbers is what it installed.
use Rattle.std.proofs.Common.{◌≡◌, ◌↔◌, ◌<◌, ◌^◌, ℕ, max, List, length, slice_get, Some, refl, sym, ap, subst, ◌∙◌, arith}
use Rattle.std.specs.Prelude.{Result, Ok, Err, IfOk, OnOk, OnErr, IsErrOf}
use Rattle.base.specs.Sets.{Has}
use Rattle.law_machine.specs.Machine.{Input, Does, Receives}
use Rattle.law_routing.specs.Server.{Message}
use Rattle.law_routing.specs.Step.{Task, NextCommand}
use Rattle.net_model.specs.Real.{real}
use Rattle.server_message.specs.Parts.{SendingParts}
use Rattle.net_model.specs.Parts.{NetParts}
use Rattle.net_tables.specs.Known.{known_filters}
use Rattle.match_routes.specs.Installed.{Pair, Installed}
use Rattle.server_core.specs.declared.stepped.StepFault.{StepFault}
use Rattle.server_core.specs.declared.stepped.StepFault.TheVariants.{StampsExhausted}
use Rattle.server_core.specs.Core.{CoreParts, installed_from}
use Rattle.server_core.specs.Step.{MakesStep, last_stamp}
use Rattle.thread_versions.specs.declared.publisher.Publisher.{Publisher}
use Rattle.thread_versions.specs.declared.viewer.Viewer.{Viewer}
use Rattle.thread_versions.specs.Pairs.{pairs_after}
use Rattle.thread_versions.specs.Ends.{installed, forwarding_of, IsSamePublisher, IsViewerOf}
use Rattle.thread_cell.specs.Kept.{AreOf, IsWideFor, IsSomeServer}
use Rattle.thread_cell.specs.Cell.{IsInstalledBy}
use Rattle.server_core.proofs.KeepsInstalled.{kept_by_command, kept_by_reception}

module _ (core next : CoreParts) (net : next.net ≡ core.net) where
  pub pairs-stay : (pairs : List Pair) → ((i : ℕ) → installed_from next i ≡ installed_from core i) → AreOf core pairs → AreOf next pairs
  pairs-stay pairs same is = record {
    pairs_are = λ i k x e.
        let at : slice_get (known_filters core.net.clients) k ≡ Some x = subst (λ (n : NetParts). slice_get (known_filters n.clients) k ≡ Some x) net e in
        subst (λ z. Has (i, k) pairs ↔ Has x z) (sym (same i)) (is.pairs_are i k x at);
    known = λ i f m. subst (λ (n : NetParts). Has f (known_filters n.clients)) (sym net) (is.known i f (subst (Has f) (same i) m));
  }

  pub wide-stays : (f : Installed) → ((i : ℕ) → Has i next.interfaces → Has i f.interfaces) → IsWideFor core f → IsWideFor next f
  wide-stays f reaches is = record {
    width = is.width ∙ ap (λ (n : NetParts). length (known_filters n.clients)) (sym net);
    links = is.links;
    reaches = reaches;
  }

  pub installed-stays : (publisher : Publisher) → next.interfaces ≡ core.interfaces → ((i : ℕ) → installed_from next i ≡ installed_from core i) → IsInstalledBy publisher core → IsInstalledBy publisher next
  installed-stays publisher interfaces same is = record {
    wide = wide-stays (forwarding_of publisher) (λ i h. is.wide.reaches i (subst (Has i) interfaces h)) is.wide;
    pairs = pairs-stay (pairs_after (installed publisher)) same is.pairs;
  }

module _ (core next : CoreParts) (publisher : Publisher) where
  pub installed_after_command : (client : ℕ) → IsSomeServer core → {T : Type 0} (answer : Result T StepFault) (stamp : T → ℕ) (sent : T → List SendingParts)
      → IfOk answer (λ s. MakesStep (Does (NextCommand client)) 0 core next (stamp s) (sent s)) → OnOk answer (next.interfaces ≡ core.interfaces) → OnErr answer (next ≡ core)
      → IsInstalledBy publisher core → IsInstalledBy publisher next
  installed_after_command client (net, laws, state, stands) (Ok s) stamp sent step interfaces same is =
      installed-stays core next step.same_net publisher interfaces (kept_by_command net state core next (sent s) stands client (step.step net state stands) step.same_server) is
  installed_after_command client some (Err e) stamp sent step interfaces same is = subst (λ z. IsInstalledBy publisher z) (sym same) is

  pub installed_after_reception : (from : ℕ) (m : Message real) (taken : ℕ) → IsSomeServer core → {T : Type 0} (answer : Result T StepFault) (stamp : T → ℕ) (sent : T → List SendingParts)
      → IfOk answer (λ s. MakesStep (Receives from m) taken core next (stamp s) (sent s)) → OnOk answer (next.interfaces ≡ core.interfaces) → OnErr answer (next ≡ core)
      → IsInstalledBy publisher core → IsInstalledBy publisher next
  installed_after_reception from m taken (net, laws, state, stands) (Ok s) stamp sent step interfaces same is =
      installed-stays core next step.same_net publisher interfaces (kept_by_reception net state core next (sent s) stands from m (step.step net state stands) step.same_server) is
  installed_after_reception from m taken some (Err e) stamp sent step interfaces same is = subst (λ z. IsInstalledBy publisher z) (sym same) is

-- the same publisher, later

pub same-one : (p : Publisher) → IsSamePublisher p p
same-one p = record { book = refl; server = record { width = refl; interfaces = refl } }

pub same-on : (p q r : Publisher) → IsSamePublisher p q → IsSamePublisher q r → IsSamePublisher p r
same-on p q r a b = record { book = b.book ∙ a.book; server = record { width = b.server.width ∙ a.server.width; interfaces = b.server.interfaces ∙ a.server.interfaces } }

pub viewer-later : (p q : Publisher) (v : Viewer) → IsSamePublisher p q → IsViewerOf p v → IsViewerOf q v
viewer-later p q v same is = record { book = is.book ∙ sym same.book; width = is.width ∙ sym same.server.width }

pub wide-later : (p q : Publisher) (core : CoreParts) → IsSamePublisher p q → IsWideFor core (forwarding_of p) → IsWideFor core (forwarding_of q)
wide-later p q core same is = record {
  width = same.server.width ∙ is.width;
  links = λ i le. subst (Has i) (sym same.server.interfaces) (is.links i le);
  reaches = λ i h. subst (Has i) (sym same.server.interfaces) (is.reaches i h);
}

pub installed-still : (p q : Publisher) (core : CoreParts) → IsSamePublisher p q → installed q ≡ installed p → IsInstalledBy p core → IsInstalledBy q core
installed-still p q core same shown is = record {
  wide = wide-later p q core same is.wide;
  pairs = subst (λ l. AreOf core (pairs_after l)) (sym shown) is.pairs;
}

-- a step for which stamps aren't exhausted has a stamp below the end
pub low_reception : (core next : CoreParts) (input : Input Task (Message real)) (taken : ℕ) {T : Type 0} (answer : Result T StepFault) (stamp : T → ℕ) (sent : T → List SendingParts) (clock : ℕ) → clock < 2 ^ 62 → clock ≡ core.clock → taken < 2 ^ 62
    → ((s : ℕ) → IsErrOf answer (StampsExhausted s) ↔ ((max core.clock taken ≡ last_stamp) × (s ≡ last_stamp))) → IfOk answer (λ s. MakesStep input taken core next (stamp s) (sent s)) → IfOk answer (λ s. stamp s < 2 ^ 62)
low_reception core next input taken (Err e) stamp sent clock low is below worn step = tt
low_reception core next input taken {T} (Ok s) stamp sent clock low is below worn step = go (max core.clock taken) refl
  where
    no : max core.clock taken ≡ last_stamp → ⊥
    no e = let q : ◌≡◌ {A = Result T StepFault} (Ok s) (Err (StampsExhausted last_stamp)) = (worn last_stamp).1 (e, refl) in absurd cc

    go : (m : ℕ) → max core.clock taken ≡ m → stamp s < 2 ^ 62
    go m e = let i = step.stamp_is in omega (arith, i, is, low, below, no)

pub low_command : (core next : CoreParts) (client : ℕ) {T : Type 0} (answer : Result T StepFault) (stamp : T → ℕ) (sent : T → List SendingParts) (clock : ℕ) → clock < 2 ^ 62 → clock ≡ core.clock
    → ((s : ℕ) → IsErrOf answer (StampsExhausted s) ↔ ((core.clock ≡ last_stamp) × (s ≡ last_stamp))) → IfOk answer (λ s. MakesStep (Does (NextCommand client)) 0 core next (stamp s) (sent s)) → IfOk answer (λ s. stamp s < 2 ^ 62)
low_command core next client (Err e) stamp sent clock low is worn step = tt
low_command core next client {T} (Ok s) stamp sent clock low is worn step =
    let no : core.clock ≡ last_stamp → ⊥ = λ e. (let q : ◌≡◌ {A = Result T StepFault} (Ok s) (Err (StampsExhausted last_stamp)) = (worn last_stamp).1 (e, refl) in absurd cc) in
    let i = step.stamp_is in
    omega (arith, i, is, low, no)
