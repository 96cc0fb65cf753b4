-- A change to the tree that is in force changes no set.
use Rattle.std.proofs.Common.{◌≡◌, ℕ, zero, suc, ◌+◌, ◌≤◌, ◌==◌, nat_lt, Bool, true, false, cond, not, ◌||◌, List, [], ◌∷◌, ◌⊎◌, inl, inr, filter, map, length, refl, sym, ap, subst, ◌∙◌, arith, ne_eqb}
use Rattle.base.specs.Sets.{Has, roots, union}
use Rattle.base_tree.specs.Hops.{side_size}
use Rattle.law_machine.specs.Runs.{raised, IsQuiet}
use Rattle.law_routing.specs.Theory.{Theory, TheoryLaws}
use Rattle.law_routing.specs.Net.{Net, NetLaws}
use Rattle.law_routing.specs.Clients.{some_pass}
use Rattle.law_routing.specs.Server.{is_among, union_except, interfaces}
use Rattle.law_routing.specs.Routing.{Network}
use Rattle.law_routing.specs.Rest.{IsAtRest}
use Rattle.law_routing.specs.Flow.{flowing, holds, make_ad, make_sub, flow_ad, flow, AgreesOnLinks}
use Rattle.law_routing.specs.Change.{client_sets, on_tree}
use Rattle.law_routing.proofs.Along.{tree}
use Rattle.law_routing.proofs.Listing.{has-one}
use Rattle.law_routing.proofs.Flows.{settled-flow, settled-flow_ad}
use Rattle.law_routing.proofs.Rooted.{held-roots}
use Rattle.law_phases.specs.Trees.{Tree, State, off, tree_at, net_at, machine_at, at_phase, is_one_tree}
use Rattle.law_phases.specs.Moments.{begun}
use Rattle.law_phases.specs.Runs.{PhasedRun}
use Rattle.law_phases.specs.AtMoments.{states, phases}
use Rattle.law_phases.specs.Looking.{HoldsSame, HoldsRoots}
use Rattle.law_phases.proofs.Nets.{net-on, net-laws}
use Rattle.law_phases.proofs.Whole.{rest-at-end, quiet-rests}
use Rattle.base.proofs.Sets.{has-append, has-map}

module _ (th : Theory) (net : Net th) where
  -- gathered over interfaces with equal sets
  gathered : {T : Type 0} (before : T → T → Bool) (f g : ℕ → List T) (but : ℕ) (is : List ℕ) → ((i : ℕ) → Has i is → f i ≡ g i) → union_except before f but is ≡ union_except before g but is
  gathered before f g but [] e = refl
  gathered before f g but (i ∷ is) e = go (i == but) (gathered before f g but is (λ j h. e j (inr h)))
    where
      go : (b : Bool) → union_except before f but is ≡ union_except before g but is → cond b (union_except before f but is) (union before (f i) (union_except before f but is)) ≡ cond b (union_except before g but is) (union before (g i) (union_except before g but is))
      go true ih = ih
      go false ih = ap (λ z. union before z (union_except before f but is)) (e i (inl refl)) ∙ ap (union before (g i)) ih

  -- an interface is a neighbour's or a client's
  held-same : {T : Type 0} (a b : ℕ → ℕ → List T) (u : ℕ) (f g : ℕ → List T) → ((c : ℕ) → Has c (net.clients u) → a u (64 + c) ≡ b u (64 + c)) → ((i : ℕ) → f i ≡ g i) → (i : ℕ) → Has i (interfaces th net u) → holds th net a u f i ≡ holds th net b u g i
  held-same {T} a b u f g homes sets i h = go (is_among i (net.links u)) refl
    where
      client : (is_among i (net.links u) ≡ false) → Has i (net.links u) ⊎ Has i (map (λ c. 64 + c) (net.clients u)) → a u i ≡ b u i
      client q (inl x) = absurd (grind (arith, q, has-one i (net.links u) x))
      client q (inr x) = let y = has-map (λ c. 64 + c) (net.clients u) i x in subst (λ z. a u z ≡ b u z) (sym y.2) (homes y.0 y.1)

      go : (t : Bool) → is_among i (net.links u) ≡ t → cond t (f i) (a u i) ≡ cond t (g i) (b u i)
      go true q = sets i
      go false q = client q (has-append i (net.links u) (map (λ c. 64 + c) (net.clients u)) h)

  -- what flows is made of clients' sets
  flow_ad-same : (a b : ℕ → ℕ → List th.Advert) → ((u c : ℕ) → Has c (net.clients u) → a u (64 + c) ≡ b u (64 + c)) → (n t u : ℕ) → flowing (make_ad th net a) [] n t u ≡ flowing (make_ad th net b) [] n t u
  flow_ad-same a b homes zero t u = refl
  flow_ad-same a b homes (suc n) t u =
      ap (λ z. cond net.adverts (roots th.covers_advert th.before_advert z) [])
      (gathered th.before_advert (holds th net a u (flowing (make_ad th net a) [] n u)) (holds th net b u (flowing (make_ad th net b) [] n u)) t (interfaces th net u)
      (held-same a b u (flowing (make_ad th net a) [] n u) (flowing (make_ad th net b) [] n u) (homes u) (λ i. flow_ad-same a b homes n u i)))

  flow-same : (a b : ℕ → ℕ → List th.Filter) (x y : ℕ → ℕ → List th.Advert) → ((u c : ℕ) → Has c (net.clients u) → a u (64 + c) ≡ b u (64 + c)) → ((t u : ℕ) → x t u ≡ y t u) → (n t u : ℕ) → flowing (make_sub th net a x) [] n t u ≡ flowing (make_sub th net b y) [] n t u
  flow-same a b x y homes ads zero t u = refl
  flow-same a b x y homes ads (suc n) t u =
      ap (λ z. roots th.covers th.before (filter (λ f. not net.adverts || some_pass (th.overlaps f) z) (union_except th.before (holds th net a u (flowing (make_sub th net a x) [] n u)) t (interfaces th net u)))) (ads u t)
      ∙ ap (λ z. roots th.covers th.before (filter (λ f. not net.adverts || some_pass (th.overlaps f) (y u t)) z))
      (gathered th.before (holds th net a u (flowing (make_sub th net a x) [] n u)) (holds th net b u (flowing (make_sub th net b y) [] n u)) t (interfaces th net u)
      (held-same a b u (flowing (make_sub th net a x) [] n u) (flowing (make_sub th net b y) [] n u) (homes u) (λ i. flow-same a b x y homes ads n u i)))

module _ (th : Theory) (laws : TheoryLaws th) (net : Net th) (good : NetLaws th net) (w : Network th net) (rest : IsAtRest th net w) where
  agrees : AgreesOnLinks th net w.state
  agrees = record { subs = λ t u near. rest.subs u t (good.tree.both t u near); advs = λ t u near. rest.advs u t (good.tree.both t u near) }

  no-link : (t c : ℕ) → Has c (net.clients t) → is_among (64 + c) (net.links t) ≡ false
  no-link t c lives = go (net.links t) (λ v h. good.small t v h)
    where
      one : 1 ≤ c
      one = good.counted t c lives

      go : (ls : List ℕ) → ((v : ℕ) → Has v ls → v ≤ 64) → is_among (64 + c) ls ≡ false
      go [] small = refl
      go (l ∷ ls) small = rw (ne_eqb (64 + c) l (λ e. omega (arith, e, one, small l (inl refl)))) (go ls (λ v h. small v (inr h)))

  high : (t c : ℕ) → Has c (net.clients t) → nat_lt 64 (64 + c) ≡ true
  high t c lives = let one : 1 ≤ c = good.counted t c lives in grind (arith, one)

  -- a client's own set
  own : {T : Type 0} (sets : ℕ → List T) (t c : ℕ) → Has c (net.clients t) → client_sets th net net.links net.hop sets (64 + c) ≡ sets (64 + c)
  own {T} sets t c lives = ap (λ z. cond z (sets (64 + c)) []) (high t c lives)

  abbrev homes : ℕ → ℕ → List th.Filter
  homes s = client_sets th net net.links net.hop (w.state s).subs

  abbrev ad-homes : ℕ → ℕ → List th.Advert
  ad-homes s = client_sets th net net.links net.hop (w.state s).advs

  -- at an interface: of a neighbour what flows, of a client its own
  at-interface : {T : Type 0} (sets : ℕ → List T) (flows : ℕ → List T) (t i : ℕ) → ((u : ℕ) → Has u (net.links t) → flows u ≡ sets u) → Has i (interfaces th net t) → cond (is_among i (net.links t)) (flows i) (client_sets th net net.links net.hop sets i) ≡ sets i
  at-interface {T} sets flows t i near h = go (has-append i (net.links t) (map (λ c. 64 + c) (net.clients t)) h)
    where
      go : Has i (net.links t) ⊎ Has i (map (λ c. 64 + c) (net.clients t)) → cond (is_among i (net.links t)) (flows i) (client_sets th net net.links net.hop sets i) ≡ sets i
      go (inl x) = ap (λ z. cond z (flows i) (client_sets th net net.links net.hop sets i)) (has-one i (net.links t) x) ∙ near i x
      go (inr x) =
          let y = has-map (λ c. 64 + c) (net.clients t) i x in
          subst (λ z. cond (is_among z (net.links t)) (flows z) (client_sets th net net.links net.hop sets z) ≡ sets z) (sym y.2)
          (ap (λ z. cond z (flows (64 + y.0)) (client_sets th net net.links net.hop sets (64 + y.0))) (no-link t y.0 y.1) ∙ own sets t y.0 y.1)

  ads-same : (t u : ℕ) → flow_ad th net ad-homes t u ≡ flow_ad th net (λ v. (w.state v).advs) t u
  ads-same t u = flow_ad-same th net ad-homes (λ v. (w.state v).advs) (λ u c lives. own (w.state u).advs u c lives) (length net.servers) t u

  pub again-advs : (t i : ℕ) → Has i (interfaces th net t) → ((on_tree th net net.links net.hop w).state t).advs i ≡ (w.state t).advs i
  again-advs t i h = at-interface (w.state t).advs (flow_ad th net ad-homes t) t i (λ u near. ads-same t u ∙ sym (settled-flow_ad th net (side_size net.hop net.servers) (tree th laws net good) w.state agrees t u near)) h

  pub again-subs : (t i : ℕ) → Has i (interfaces th net t) → ((on_tree th net net.links net.hop w).state t).subs i ≡ (w.state t).subs i
  again-subs t i h = at-interface (w.state t).subs (flow th net homes ad-homes t) t i
      (λ u near. flow-same th net homes (λ v. (w.state v).subs) (flow_ad th net ad-homes) (flow_ad th net (λ v. (w.state v).advs)) (λ u c lives. own (w.state u).subs u c lives) ads-same (length net.servers) t u
      ∙ sym (settled-flow th net (side_size net.hop net.servers) (tree th laws net good) w.state agrees t u near)) h

module _ (th : Theory) (laws : TheoryLaws th) (run : PhasedRun th) (k : ℕ) (quiet : IsQuiet (machine_at th run.net run.last) (at_phase th run.net run.last run.end)) (same : tree_at th run.net k ≡ tree_at th run.net run.last) where
  abbrev z : Net th
  z = net_at th run.net run.last

  rests : IsAtRest th (net_at th run.net run.last) (at_phase th run.net run.last run.end)
  rests = rest-at-end th laws run quiet

  abbrev up : State th
  up = off th (net_at th run.net run.last) (raised (machine_at th run.net run.last) (at_phase th run.net run.last run.end))

  abbrev moved : Tree → State th
  moved t = off th (net-on th run.net t) (on_tree th (net_at th run.net run.last) t.links t.hop (at_phase th run.net run.last run.end))

  pub kept : (t i : ℕ) → Has i (interfaces th (net_at th run.net run.last) t) → HoldsSame th (begun th run.net run.last k run.end) run.end t i
  kept t i h = go (is_one_tree th run.net run.last k)
    where
      there : HoldsSame th (moved (tree_at th run.net run.last)) run.end t i
      there =
          let s = again-subs th laws (net_at th run.net run.last) (net-laws th run.net run.laws run.last) (at_phase th run.net run.last run.end) rests t i h in
          record {
            subs = s;
            advs = again-advs th laws (net_at th run.net run.last) (net-laws th run.net run.laws run.last) (at_phase th run.net run.last run.end) rests t i h;
            installed = s ∙ sym (rests.installed t i);
          }

      go : (b : Bool) → HoldsSame th (cond b up (moved (tree_at th run.net k))) run.end t i
      go true = record { subs = refl; advs = refl; installed = refl }
      go false = subst (λ (y : Tree). HoldsSame th (moved y) run.end t i) (sym same) there

-- at a quiet moment servers hold of their neighbours what flows
module _ (th : Theory) (laws : TheoryLaws th) (run : PhasedRun th) (n : ℕ) (quiet : IsQuiet (machine_at th run.net (phases th run n)) (at_phase th run.net (phases th run n) (states th run n))) where
  pub quiet-flows : (t u : ℕ) → Has u ((net_at th run.net (phases th run n)).links t)
      → (((states th run n).state t).subs u ≡ flow th (net_at th run.net (phases th run n)) (λ v. ((states th run n).state v).subs) (λ v. ((states th run n).state v).advs) t u) × (((states th run n).state t).advs u ≡ flow_ad th (net_at th run.net (phases th run n)) (λ v. ((states th run n).state v).advs) t u)
  quiet-flows t u near =
      let z = net_at th run.net (phases th run n) in
      let good = net-laws th run.net run.laws (phases th run n) in
      let rests = quiet-rests th laws run n quiet in
      let on-links = agrees th laws z good (at_phase th run.net (phases th run n) (states th run n)) rests in (
        settled-flow th z (side_size z.hop z.servers) (tree th laws z good) (states th run n).state on-links t u near,
        settled-flow_ad th z (side_size z.hop z.servers) (tree th laws z good) (states th run n).state on-links t u near,
      )

  -- and, without advertisements, the roots of all that the clients beyond subscribe to
  pub quiet-roots : run.net.adverts ≡ false → (t u : ℕ) → Has u ((net_at th run.net (phases th run n)).links t) → HoldsRoots th run n t u
  quiet-roots plain t u near =
      held-roots th laws (net_at th run.net (phases th run n)) (net-laws th run.net run.laws (phases th run n)) plain
      (at_phase th run.net (phases th run n) (states th run n)) (quiet-rests th laws run n quiet) t u near
