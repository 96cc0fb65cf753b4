-- A change of tree at a quiet end is a start on the new tree.
use Rattle.std.proofs.Common.{◌≡◌, ℕ, suc, ◌+◌, ◌≤◌, ◌<◌, nat_lt, true, false, cond, List, [], ◌∷◌, inl, inr, length, slice_get, refl, sym, ap, subst, ◌∙◌, arith, ne_eqb}
use Rattle.base.specs.Sets.{Has}
use Rattle.base_tree.specs.Hops.{side_size}
use Rattle.law_machine.specs.Runs.{greatest, IsQuiet, IsThrough}
use Rattle.law_machine.proofs.Stamps.{greatest-above}
use Rattle.law_routing.specs.Theory.{Theory, TheoryLaws}
use Rattle.law_routing.specs.Net.{Net, NetLaws}
use Rattle.law_routing.specs.Clients.{commands_below}
use Rattle.law_routing.specs.Server.{Publication, is_among}
use Rattle.law_routing.specs.Routing.{routing_machine, Network}
use Rattle.law_routing.specs.Rest.{IsAtRest}
use Rattle.law_routing.specs.Order.{IsStrictlyRising, ordinals_delivered, IsAccepted}
use Rattle.law_routing.specs.Owed.{IsPublication, IsAllowed}
use Rattle.law_routing.specs.Start.{IsStart}
use Rattle.law_routing.specs.LegalRun.{LegalRun, states, phases, IsDeliveredOnce}
use Rattle.law_routing.specs.Flow.{flow, flow_ad, AgreesOnLinks, relinked}
use Rattle.law_routing.specs.Change.{with_tree, client_sets, on_tree}
use Rattle.law_routing.proofs.Along.{tree}
use Rattle.law_routing.proofs.Flows.{relinked-settled}
use Rattle.law_routing.proofs.Scripts.{through-count, through-one, below-rises}
use Rattle.law_routing.proofs.Begins.{through-client}
use Rattle.law_routing.proofs.Current.{upto}
use Rattle.law_routing.proofs.Started.{history, ends, last-phase, ordered-run, authentic-run, delivered-once, starts, low}
use Rattle.law_routing.proofs.Passing.{given-rises}
use Rattle.law_routing.proofs.Flooded.{quiet-at-rest, allowed-run}

module _ (th : Theory) (laws : TheoryLaws th) (run : LegalRun th) where
  -- an inbox only grows
  pub inbox-grows : (t c : ℕ) (p : Publication th) (a b : ℕ) → a ≤ b → Has p (((states th run a).state t).inbox c) → Has p (((states th run b).state t).inbox c)
  inbox-grows t c p a b l has = given-rises th run.net run.journal (states th run) (phases th run) (history th laws run) t c p a b l has

  -- what an inbox has at the start it has at the end, once
  pub stays-delivered : (p : Publication th) (c : ℕ) → Has p ((run.start.state (run.net.home c)).inbox c) → IsDeliveredOnce th run p c
  stays-delivered p c has =
      let end : Has p ((run.end.state (run.net.home c)).inbox c) = subst (λ (z : Network th run.net). Has p ((z.state (run.net.home c)).inbox c)) (ends th laws run) (inbox-grows (run.net.home c) c p 0 (length run.journal) (omega arith) has) in
      (end, delivered-once th laws run p c (run.net.home c) end)

  module _ (links : ℕ → List ℕ) (hop : ℕ → ℕ → ℕ) (good : NetLaws th (with_tree th run.net links hop)) (quiet : IsQuiet (routing_machine th run.net) run.end) where
    abbrev new : Net th
    new = with_tree th run.net links hop

    resting : IsAtRest th run.net run.end
    resting = subst (IsAtRest th run.net) (ends th laws run) (quiet-at-rest th laws run (length run.journal) (subst (IsQuiet (routing_machine th run.net)) (sym (ends th laws run)) quiet))

    -- a client's interface is no link
    no-link : (t c : ℕ) → Has c (run.net.clients t) → is_among (64 + c) (links t) ≡ false
    no-link t c lives = go (links t) (λ v h. good.small t v h)
      where
        one : 1 ≤ c
        one = good.counted t c lives

        go : (ls : List ℕ) → ((v : ℕ) → Has v ls → v ≤ 64) → is_among (64 + c) ls ≡ false
        go [] small = refl
        go (l ∷ ls) small = rw (ne_eqb (64 + c) l (λ e. omega (arith, e, one, small l (inl refl)))) (go ls (λ v h. small v (inr h)))

    high : (t c : ℕ) → Has c (run.net.clients t) → nat_lt 64 (64 + c) ≡ true
    high t c lives = let one : 1 ≤ c = good.counted t c lives in grind (arith, one)

    own-set : {T : Type 0} (sets : ℕ → List T) (flows : ℕ → List T) (t c : ℕ) → Has c (run.net.clients t) → cond (is_among (64 + c) (links t)) (flows (64 + c)) (client_sets th run.net links hop sets (64 + c)) ≡ sets (64 + c)
    own-set {T} sets flows t c lives = ap (λ z. cond z (flows (64 + c)) (client_sets th run.net links hop sets (64 + c))) (no-link t c lives) ∙ ap (λ z. cond z (sets (64 + c)) []) (high t c lives)

    agrees : AgreesOnLinks th (with_tree th run.net links hop) (relinked th (with_tree th run.net links hop) (λ s. client_sets th run.net links hop (run.end.state s).subs) (λ s. client_sets th run.net links hop (run.end.state s).advs))
    agrees = relinked-settled th new (side_size hop run.net.servers) (tree th laws new good) (λ s. client_sets th run.net links hop (run.end.state s).subs) (λ s. client_sets th run.net links hop (run.end.state s).advs)

    rest-on : IsAtRest th (with_tree th run.net links hop) (on_tree th run.net links hop run.end)
    rest-on = record {
      empty = λ a b. refl;
      none_pending = λ t. refl;
      installed = λ t i. refl;
      filters = λ t c lives. own-set (run.end.state t).subs (flow th new (λ s. client_sets th run.net links hop (run.end.state s).subs) (λ s. client_sets th run.net links hop (run.end.state s).advs) t) t c lives ∙ resting.filters t c lives;
      adverts = λ t c lives o. own-set (run.end.state t).advs (flow_ad th new (λ s. client_sets th run.net links hop (run.end.state s).advs) t) t c lives ∙ resting.adverts t c lives o;
      subs = λ u t near. agrees.subs t u (good.tree.both u t near);
      advs = λ u t near. agrees.advs t u (good.tree.both u t near);
    }

    published-on : (q o k : ℕ) (n : th.Notice) → IsPublication th run.net q o k n → IsPublication th (with_tree th run.net links hop) q o k n
    published-on q o k n p = record { index = p.index; command = p.command; at = p.at; publishes = p.publishes; ordinal = p.ordinal; allowed = p.allowed; phase = p.phase }

    allowed-on : (k : ℕ) (n : th.Notice) (c : ℕ) → IsAllowed th run.net k n c → IsAllowed th (with_tree th run.net links hop) k n c
    allowed-on k n c a = record { index = a.index; moment = record { from = a.moment.from; upto = a.moment.upto }; filter = a.filter; listed = a.listed; matches = a.matches }

    pub changed : (k : ℕ) → run.last < k → IsThrough (routing_machine th run.net) run.end k → IsStart th (with_tree th run.net links hop) (on_tree th run.net links hop run.end) k
    changed k later through = record {
      rest = rest-on;
      fresh = λ a b. refl;
      counts = counts;
      clocks = λ t. greatest-above (routing_machine th run.net) (λ s. greatest (routing_machine th run.net) run.end.clock run.net.servers) run.net.servers (run.net.home 0) (run.laws.housed 0);
      rising = λ q t c. subst (λ (z : Network th run.net). IsStrictlyRising (ordinals_delivered th run.net q ((z.state t).inbox c))) (ends th laws run) ((ordered-run th laws run q (length run.journal)).given_up t c);
      accepted = accepted;
      allowed = allowed;
    }
      where
        counts : (t c : ℕ) → Has c (run.net.clients t) → (run.end.state t).done c ≡ commands_below th k (run.net.script c)
        counts t c lives =
            let here : Has t run.net.servers = subst (λ z. Has z run.net.servers) (run.laws.lives t c lives) (run.laws.housed c) in
            let past = through-client th laws run.net run.laws run.journal (states th run) (phases th run) (history th laws run) run.begins.rest (run.end.state t) k c (run.net.clients t) lives (through t here) in
            let least = through-count th k (run.net.script c) ((run.end.state t).done c) (run.laws.phased c) (λ x e. through-one th run.net k (slice_get (run.net.script c) ((run.end.state t).done c)) x past e) in
            let most = upto th laws run.net run.laws run.journal (states th run) (phases th run) (history th laws run) run.begins.rest (starts th laws run) run.laws.phased (low th laws run) (length run.journal) t c lives in
            let rise = below-rises th (suc (phases th run (length run.journal))) k (run.net.script c) (omega (arith, later, last-phase th laws run)) in
            omega (arith, least, most, rise, ap (λ (z : Network th run.net). (z.state t).done c) (ends th laws run))

        accepted : (t c : ℕ) (x : Publication th) → Has x ((run.end.state t).inbox c) → IsAccepted th (with_tree th run.net links hop) (on_tree th run.net links hop run.end) x.publisher x.ordinal x.notice
        accepted t c x h =
            let a = (authentic-run th laws run (length run.journal)).given t c x (subst (λ (z : Network th run.net). Has x ((z.state t).inbox c)) (sym (ends th laws run)) h) in
            record { index = a.index; taken = omega (arith, a.taken, ap (λ (z : Network th run.net). (z.state (run.net.home x.publisher)).done x.publisher) (ends th laws run)); command = a.command; at = a.at; publishes = a.publishes; ordinal = a.ordinal; allowed = a.allowed }

        allowed : (t c : ℕ) (x : Publication th) → Has c (run.net.clients t) → Has x ((run.end.state t).inbox c) → (earlier : ℕ) × IsPublication th (with_tree th run.net links hop) x.publisher x.ordinal earlier x.notice × IsAllowed th (with_tree th run.net links hop) earlier x.notice c
        allowed t c x lives h =
            let a = allowed-run th laws run (length run.journal) t c x lives (subst (λ (z : Network th run.net). Has x ((z.state t).inbox c)) (sym (ends th laws run)) h) in
            (a.0, published-on x.publisher x.ordinal a.0 x.notice a.1, allowed-on a.0 x.notice c a.2)
