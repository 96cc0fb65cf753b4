-- Proves that a new session is one before its first command.
use Rattle.std.proofs.Common.{◌≡◌, inl, inr, ℕ, suc, ◌+◌, ◌-◌, ◌≤◌, Bool, true, false, cond, List, [], ◌∷◌, length, map, Some, slice_get, refl, ap, subst, arith}
use Rattle.base.specs.Sets.{Has}
use Rattle.base.specs.Numbers.{sum_over, count}
use Rattle.base_bits.specs.Rows.{Numbers}
use Rattle.base_order.specs.Order.{picked}
use Rattle.filter_text.specs.declared.command.Command.{Command}
use Rattle.law_routing.specs.Clients.{is_publish, ordinal}
use Rattle.net_model.specs.Real.{real}
use Rattle.net_model.specs.Parts.{ClientParts, NetParts}
use Rattle.net_model.specs.Meaning.{command_of, phased_command}
use Rattle.net_model.specs.Sound.{IsSound, publishes}
use Rattle.server_spec.specs.Session.{session_parts}
use Rattle.net_tables.specs.Known.{known_filters, known_adverts}
use Rattle.net_tables.specs.declared.numbered.NumberedCommand.{NumberedCommand}
use Rattle.net_tables.specs.Numbered.{catalogued, AreNumbered}
use Rattle.server_session.specs.Session.{IsNumbered}
use Rattle.base.proofs.Sets.{get-has}

publishes-are : (steps : List (ℕ × Command)) → ordinal real (map phased_command steps) ≡ sum_over (λ step. count (is_publish real (command_of step.1))) steps
publishes-are [] = refl
publishes-are (step ∷ steps) = go (is_publish real (command_of step.1)) (publishes-are steps)
  where
    go : (b : Bool) → ordinal real (map phased_command steps) ≡ sum_over (λ step. count (is_publish real (command_of step.1))) steps
        → cond b (suc (ordinal real (map phased_command steps))) (ordinal real (map phased_command steps)) ≡ count b + sum_over (λ step. count (is_publish real (command_of step.1))) steps
    go true e = omega (arith, e)
    go false e = omega (arith, e)

in-sum : {X : Type 0} (f : X → ℕ) (xs : List X) (x : X) → Has x xs → f x ≤ sum_over f xs
in-sum f [] x m = absurd m
in-sum f (y ∷ ys) x (inl e) = omega (arith, ap f e)
in-sum f (y ∷ ys) x (inr m) = omega (arith, in-sum f ys x m)

few-publishes : (net : NetParts) → IsSound net → (client : ClientParts) → Has client net.clients → ordinal real (map phased_command client.script) ≤ 100000
few-publishes net sound client m =
    let one = in-sum publishes net.clients client m in
    let all = sound.publishes in
    let is = publishes-are client.script in
    omega (arith, one, all, is)

-- what it keeps
pub started : (net : NetParts) → IsSound net → (client : ℕ) → 1 ≤ client → (c : ClientParts) → slice_get net.clients (client - 1) ≡ Some c
    → (steps : List (ℕ × NumberedCommand)) → AreNumbered (catalogued net.clients) (1 + (client - 1)) 0 steps c.script
    → (fr ar : Numbers) → fr.width ≡ length (known_filters net.clients) → fr.members ≡ [] → ar.width ≡ length (known_adverts net.clients) → ar.members ≡ []
    → IsNumbered net (session_parts client net.semantics c.script 0 [] 0 false) steps fr ar [] 0
started net sound client low c at steps represents fr ar fw fm aw am =
    let same : 1 + (client - 1) ≡ client = omega (arith, low) in
    record {
      semantics = refl;
      steps_mean = subst (λ (z : ℕ). AreNumbered (catalogued net.clients) z 0 steps c.script) same represents;
      filters_width = fw;
      filters_are = ap (picked (known_filters net.clients)) fm;
      adverts_width = aw;
      adverts_are = ap (picked (known_adverts net.clients)) am;
      kept = record {
        own_filters = refl;
        own_adverts = refl;
        all_refused = refl;
        counted = refl;
        few = few-publishes net sound c (get-has net.clients (client - 1) c at);
        within = omega arith;
        texts = tt;
      };
    }
